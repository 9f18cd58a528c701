use Rattle.std.proofs.Common.{length, sym, ap, arith}
use Rattle.intmap.proofs.MapLemmas.{IsMapWalk-empty}
use Rattle.intmap.proofs.map.IntMap.clear.Goals as goal

pub returns-clause-valid_after : goal.returns-clause-valid_after
returns-clause-valid_after g c =
    let map = c.self.invariant.map in
    IsMapWalk-empty g.K.IntKey.number_of g.K.IntKey.is_valid _ _ _ c.clear.ensures.walk (rw c.clear.ensures.capacity map.capacity) map.factor

pub invariant_of-self : goal.invariant_of-self
invariant_of-self g c = record {
  map = returns-clause-valid_after g c;
  count = sym (ap length c.clear.ensures.walk);
  threshold = rw c.clear.ensures.capacity c.self.invariant.threshold;
  memory = omega (arith, c.self.invariant.memory, c.clear.ensures.nodes);
}
