use Rattle.std.proofs.Common.{◌∙◌, true}
use Rattle.intmap.specs.Equality.{maps_equal}
use Rattle.intmap_set.proofs.MemberLemmas.{as_map-seen}
use Rattle.intmap_set.proofs.set.traits.IntSetPartialEq.eq.Goals as goal

pub returns : goal.returns
returns g c = c.eq.ensures ∙ (λ i. maps_equal g.K.IntKey.number_of (λ v w. true) (as_map-seen c.self.inside.map _ c.self.view_is c.self.invariant i) (as_map-seen c.other.inside.map _ c.other.view_is c.other.invariant i))
