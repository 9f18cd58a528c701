use Rattle.std.proofs.Common.{◌∙◌, refl, sym, subst}
use Rattle.intmap.specs.Map.{MapState}
use Rattle.intmap_table.specs.Taking.{TakesEach}
use Rattle.intmap_table.specs.Writes.{WritesAt, TakesPairMut}
use Rattle.intmap_table.proofs.WritesLemmas.{keys_of-Writes, is_some-Writes, length-Writes}
use Rattle.intmap.proofs.AnsweringLemmas.{Writes-made, value_of-made}
use Rattle.intmap.proofs.SameKeysLemmas.{IsConsistent-same_keys}
use Rattle.intmap.proofs.map.IntMap.for_each_mut.Goals as goal

pub invariant_of-self : goal.invariant_of-self
invariant_of-self g c =
    let left = c.write_each.ensures in
    rw (left.capacity, left.nodes) (IsConsistent-same_keys g.K.IntKey.number_of g.K.IntKey.is_valid c.self.inside.table.walk c.write_each.new.self.walk _ _ _ _ _ _ (sym (keys_of-Writes (WritesAt g.F.FnMut) _ _ _ _ left.pairs)) c.self.invariant)

pub returns-clause-mapped : goal.returns-clause-mapped
returns-clause-mapped g c made each = rw (← c.self.view_is) (Writes-made (WritesAt g.F.FnMut) c.args.f made each _ _ _ _ refl c.write_each.ensures.pairs)

pub returns-clause-by_pair : goal.returns-clause-by_pair
returns-clause-by_pair g c q v w each is =
    value_of-made g.K.IntKey.number_of (WritesAt g.F.FnMut) c.args.f q v w each _ _ _ c.write_each.ensures.pairs (rw (← c.self.view_is) at is)

pub returns-clause-keys : goal.returns-clause-keys
returns-clause-keys g c = rw (← c.self.view_is) (keys_of-Writes (WritesAt g.F.FnMut) _ _ _ _ c.write_each.ensures.pairs)

pub returns-clause-updates : goal.returns-clause-updates
returns-clause-updates g c q =
    let same = is_some-Writes (WritesAt g.F.FnMut) g.K.IntKey.number_of q _ _ _ _ c.write_each.ensures.pairs in
    rw (← c.self.view_is) (λ bound. sym same ∙ bound, λ bound. same ∙ bound)

pub returns-clause-len : goal.returns-clause-len
returns-clause-len g c = rw (← c.self.view_is) (length-Writes (WritesAt g.F.FnMut) _ _ _ _ c.write_each.ensures.pairs)

pub returns-clause-valid_after : goal.returns-clause-valid_after
returns-clause-valid_after g c = (invariant_of-self g c).map

pub write_each-requires : goal.write_each-requires
write_each-requires g c =
    subst (λ (m : MapState _ _). TakesEach (WritesAt g.F.FnMut) (TakesPairMut g.F.FnMut) c.args.f m.walk) (sym c.self.view_is) c.requires
