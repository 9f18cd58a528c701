use Rattle.std.proofs.Common.{◌^◌, ◌<◌}
use Rattle.intmap.specs.Extending.{IsTally}
use Rattle.intmap.specs.Map.{IsMap}
use Rattle.intmap_table.specs.Walk.{slot_of}
use Rattle.intmap.proofs.CollisionLemmas.{collision_sizes_below}
use Rattle.intmap.proofs.map.IntMap.collisions.Given as goal

-- the sizes of the slots before this one are counted
abbrev pub invariant-loop-slot : goal.invariant-loop-slot
invariant-loop-slot g l = record {
  tally : IsTally (collision_sizes_below (slot_of g.K.IntKey.number_of l.fn.self.walk l.fn.self.capacity) l.slot) l.sizes;
  map : IsMap (λ size. size) (λ size. size < 2 ^ 64) l.sizes;
}
