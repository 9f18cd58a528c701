use Rattle.std.proofs.Common.{subst}
use Rattle.std.specs.Iterator.{YieldsFirstBy}
use Rattle.intmap_set.proofs.CombinedLemmas.{IsSubset-from_none}
use Rattle.intmap_set.proofs.set.IntSet.is_subset.Goals as goal

pub returns-clause-value : goal.returns-clause-value
returns-clause-value g c =
    IsSubset-from_none g.K.IntKey.number_of c.args.self.now.walk c.args.other.now.walk c.next.new.self c.next.result c.is_none.result c.is_none.ensures
    (subst (λ L. YieldsFirstBy (λ key. key.now) (λ rest. rest) L c.next.result c.next.new.self) c.difference.ensures.walk c.next.ensures.steps)
