use Rattle.std.proofs.Common.{◌≡◌, ◌+◌, ◌≤◌, ◌++◌, length, vec_len, vec_capacity}
use Rattle.std.specs.Map.{keys_of}
use Rattle.intmap_run.proofs.runner.lists.all_keys.Given as goal

-- the keys so far and those of the pairs that are left are the keys of the walk, and the list has room for them
abbrev pub invariant-loop-key : goal.invariant-loop-key
invariant-loop-key g l = record {
  keys : l.keys.items ++ l.key-iterator ≡ keys_of l.map.walk;
  room : vec_len l.keys + length l.key-iterator ≤ vec_capacity l.keys;
}
