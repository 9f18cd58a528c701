use Rattle.std.proofs.Common.{◌≡◌, ◌∙◌, sym, ap, subst, rules, to_z, of_z}
use Rattle.std.specs.Prelude.{◌+ℤ◌, ◌*ℤ◌, FitsSigned, ◌^◌, pos}
use Rattle.std.specs.List.{fold}
use Rattle.std.specs.Int.{w64, w128}
use Rattle.std.proofs.lemmas.Int.{to_z-of_z}
use Rattle.intmap_sparse.specs.Vectors.{value_at, products_along, HasWideSum}
use Rattle.intmap_sparse.proofs.CallLemmas.{widened-product}
use Rattle.intmap_sparse.proofs.ValueLemmas.{fold-products_along, fold-rest, IsWideFrom-rest, wide-next}
use Rattle.intmap_sparse.proofs.vector.SparseVec.dot_along.Goals as goal

pub loop-place-preserved : goal.loop-place-preserved
loop-place-preserved g c =
    let walk = c.args.self.now.walk in let theirs = c.args.other.now.walk in let sum = to_z w128 c.loop-place.sum-bits in
    let first : FitsSigned w64 c.in-Some.value.now = search rules in
    let second : FitsSigned w64 c.get.result = search rules in
    let before : FitsSigned w128 sum = search rules in
    let after : FitsSigned w128 c.in-Some-checked_add.more = search rules in
    let term = widened-product c.in-Some.value.now c.get.result first second ∙ ap (λ z. c.in-Some.value.now *ℤ z) c.get.ensures.value in
    let adds : to_z w128 (of_z w128 c.in-Some-checked_add.more) ≡ (sum +ℤ (c.in-Some.value.now *ℤ value_at theirs c.in-Some.place.now)) =
    to_z-of_z w128 c.in-Some-checked_add.more after ∙ c.in-Some-checked_add.ensures.1 ∙ ap (λ z. sum +ℤ z) term in
    record {
      left = fold-rest c.loop-place.place-iterator c.next.new.self theirs (c.in-Some.place.now, c.in-Some.value.now) sum (to_z w128 (of_z w128 c.in-Some-checked_add.more))
          c.in-Some.ensures.steps adds (fold ◌+ℤ◌ (pos 0) (products_along walk theirs)) c.loop-place.invariant.left;
      wide = IsWideFrom-rest c.loop-place.place-iterator c.next.new.self theirs (c.in-Some.place.now, c.in-Some.value.now) sum (to_z w128 (of_z w128 c.in-Some-checked_add.more))
          c.in-Some.ensures.steps adds (HasWideSum (products_along walk theirs)) before c.loop-place.invariant.wide;
    }

pub returns-in_default-clause-none : goal.returns-in_default-clause-none
returns-in_default-clause-none g c =
    let walk = c.args.self.now.walk in let theirs = c.args.other.now.walk in let sum = to_z w128 c.loop-place.sum-bits in
    let first : FitsSigned w64 c.in-Some.value.now = search rules in
    let second : FitsSigned w64 c.get.result = search rules in
    let before : FitsSigned w128 sum = search rules in
    let term = widened-product c.in-Some.value.now c.get.result first second ∙ ap (λ z. c.in-Some.value.now *ℤ z) c.get.ensures.value in
    let wider : FitsSigned w128 (sum +ℤ (c.in-Some.value.now *ℤ value_at theirs c.in-Some.place.now)) → ⊥ =
    λ fits. c.in_default.ensures (subst (FitsSigned w128) (ap (λ z. sum +ℤ z) (sym term)) fits) in (
      λ none. wide-next c.loop-place.place-iterator c.next.new.self theirs (c.in-Some.place.now, c.in-Some.value.now) sum
          (HasWideSum (products_along walk theirs)) c.in-Some.ensures.steps before wider c.loop-place.invariant.wide,
      λ wide. search rules,
    )

pub returns-clause-product : goal.returns-clause-product
returns-clause-product g c =
    let walk = c.args.self.now.walk in let theirs = c.args.other.now.walk in
    let vector = c.iter-place-items.ensures.valid in
    ap (λ V. fold ◌+ℤ◌ (to_z w128 c.loop-place.sum-bits) (products_along V theirs)) (sym c.in-None.ensures.steps.0)
    ∙ c.loop-place.invariant.left
    ∙ fold-products_along walk theirs (2 ^ 64) vector.distinct vector.places
