use Rattle.std.proofs.Common.{◌≡◌, ◌-◌, Some, length}
use Rattle.std.specs.List.{AllWithin}
use Rattle.intmap.specs.Bindings.{value_of}
use Rattle.intmap.specs.Room.{HasRoom}
use Rattle.callers.proofs.reserved.set_each.Given as goal

-- the keys so far have the value, and there is room for the others
abbrev pub invariant-loop-at : goal.invariant-loop-at
invariant-loop-at g l = record {
  set : AllWithin (λ key. value_of (λ k. k) l.map.walk key ≡ Some l.value) l.keys 0 l.at;
  room : HasRoom (λ k. k) l.map (length l.keys - l.at);
}
