use Rattle.intmap.proofs.PutBackLemmas.{NeedsNoMemory-shorter, NeedsNoMemory-removed}
use Rattle.intmap.proofs.laws.put_backs_are_never_refused.Goals as goal

pub returns-clause-shorter : goal.returns-clause-shorter
returns-clause-shorter g c = NeedsNoMemory-shorter g.K.IntKey.number_of g.K.IntKey.is_valid

pub returns-clause-removed : goal.returns-clause-removed
returns-clause-removed g c = NeedsNoMemory-removed g.K.IntKey.number_of g.K.IntKey.is_valid
