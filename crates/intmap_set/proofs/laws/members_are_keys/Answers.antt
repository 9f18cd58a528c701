use Rattle.intmap_set.proofs.MemberLemmas.{holds-paired}
use Rattle.intmap_set.proofs.laws.members_are_keys.Goals as goal

pub returns : goal.returns
returns g c = holds-paired g.K.IntKey.number_of
