use Rattle.std.proofs.Common.{sym, ap, subst, length, lit<, arith}
use Rattle.intmap_table.specs.Classes.{IsCapacity}
use Rattle.intmap.specs.Growth.{IsThreshold}
use Rattle.intmap.proofs.MapLemmas.{IsMapWalk-empty}
use Rattle.intmap.proofs.map.IntMap.of_slots.Goals as goal

pub invariant_of-result : goal.invariant_of-result
invariant_of-result g c = record {
  map = IsMapWalk-empty g.K.IntKey.number_of g.K.IntKey.is_valid _ _ 909 c.in-Ok.ensures.walk (subst IsCapacity (sym c.in-Ok.ensures.capacity) c.requires) (lit< tt);
  count = sym (ap length c.in-Ok.ensures.walk);
  threshold = subst (λ n. IsThreshold n 909 c.threshold_of.result) (sym c.in-Ok.ensures.capacity) c.threshold_of.ensures;
  memory = (let none = c.new-in-Ok-3.ensures in omega (arith, none));
}

pub returns-in-Ok-clause-valid : goal.returns-in-Ok-clause-valid
returns-in-Ok-clause-valid g c = (invariant_of-result g c).map
