use Rattle.std.proofs.Common.{◌≡◌}
use Rattle.std.specs.Prelude.{◌↔◌, pos, ◌+ℤ◌}
use Rattle.std.specs.List.{fold}
use Rattle.intmap_sparse.specs.Vectors.{products_along, HasWideSum}
use Rattle.intmap_sparse.proofs.SumLemmas.{IsWideFrom}
use Rattle.intmap_sparse.proofs.vector.SparseVec.dot_along.Given as goal

-- the sum so far and the products that are left give the sum of all, and the sums to come are too wide if and only if one of all is
abbrev pub invariant-loop-place : goal.invariant-loop-place
invariant-loop-place g l = record {
  left : fold ◌+ℤ◌ l.sum (products_along l.place-iterator l.fn.other.walk) ≡ fold ◌+ℤ◌ (pos 0) (products_along l.fn.self.walk l.fn.other.walk);
  wide : IsWideFrom l.sum (products_along l.place-iterator l.fn.other.walk) ↔ HasWideSum (products_along l.fn.self.walk l.fn.other.walk);
}
