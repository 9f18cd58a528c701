use Rattle.std.proofs.Common.{◌≡◌, ℕ, take}
use Rattle.intmap_sparse.specs.Vectors.{value_at}
use Rattle.example_dot.specs.Lists.{last_value}
use Rattle.example_dot.proofs.vector_of.Given as goal

-- each place has the value that the pairs so far have last
abbrev pub invariant-loop-place : goal.invariant-loop-place
invariant-loop-place l = (q : ℕ) → value_at l.vector.walk q ≡ last_value (take l.place-index l.list) q
