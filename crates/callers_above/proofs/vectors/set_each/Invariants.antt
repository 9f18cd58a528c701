use Rattle.std.proofs.Common.{◌≡◌, ◌-◌, length}
use Rattle.std.specs.List.{AllWithin}
use Rattle.intmap.specs.Room.{HasRoom}
use Rattle.intmap_sparse.specs.Vectors.{as_map, value_at}
use Rattle.callers_above.proofs.vectors.set_each.Given as goal

-- the places so far have the value, and there is room for the others
abbrev pub invariant-loop-at : goal.invariant-loop-at
invariant-loop-at g l = record {
  set : AllWithin (λ place. value_at l.vector.walk place ≡ l.value) l.places 0 l.at;
  room : HasRoom (λ key. key) (as_map l.vector) (length l.places - l.at);
}
