use Rattle.std.proofs.Common.{ap, arith, refl, rules}
use Rattle.std.specs.Int.{w64}
use Rattle.std.proofs.Common.{of_z}
use Rattle.std.proofs.lemmas.Grind.{common_steps}
use Rattle.intmap_sparse.specs.Vectors.{Vector}
use Rattle.intmap_sparse.proofs.CallLemmas.{refused-memory, refused-too_large, with_value-inserted, with_value-removed}
use Rattle.intmap_sparse.proofs.RoomLemmas.{IsSparseVec-seen}
use Rattle.intmap_sparse.proofs.ValueLemmas.{is_nonzero-true, is_nonzero-value_at}
use Rattle.intmap_sparse.proofs.vector.SparseVec.set.Goals as goal

pub returns-in_err-old-clause-too_large : goal.returns-in_err-old-clause-too_large
returns-in_err-old-clause-too_large g c =
    refused-too_large c.from_residual.result c.in_err-old.field-0.0.cause c.self.inside.values c.args.self.now c.args.place c.args.value
    c.from_residual.ensures.1 c.in_err-old.ensures.refused.too_large c.self.view_is c.self.invariant.1 (λ zero. c.if-value-eq0.false (ap (of_z w64) zero))

pub returns-then-value-eq0-clause-assigned : goal.returns-then-value-eq0-clause-assigned
returns-then-value-eq0-clause-assigned g c = record {
  capacity = search rules;
  state = with_value-removed c.self.inside.values c.remove.new.self c.args.self.now c.args.place c.args.value
      c.ranges.value c.if-value-eq0.true c.self.view_is c.remove.ensures.state;
  sets = search rules;
  len = grind (arith, common_steps);
  valid = IsSparseVec-seen c.remove.new.self _ refl (search rules) (search rules) c.remove.ensures.valid_after;
}

pub returns-clause-assigned : goal.returns-clause-assigned
returns-clause-assigned g c =
    let here = is_nonzero-true c.args.value (λ zero. c.if-value-eq0.false (ap (of_z w64) zero)) in
    let was = is_nonzero-value_at c.self.inside.values.walk c.args.place c.self.invariant.0 in
    let len = c.in_ok-old.ensures.inserted.len in
    let now = ap (λ (v : Vector). v.walk) c.self.view_is in
    record {
      capacity = search rules;
      state = with_value-inserted c.self.inside.values c.insert.new.self c.args.self.now c.args.place c.args.value
          c.ranges.value here c.self.view_is c.in_ok-old.ensures.state;
      sets = search rules;
      len = grind (arith, common_steps, here, was, len, now);
      valid = IsSparseVec-seen c.insert.new.self _ refl (search rules) (search rules) c.insert.ensures.valid_after;
    }

pub returns-then-value-eq0-clause-valid : goal.returns-then-value-eq0-clause-valid
returns-then-value-eq0-clause-valid g c = IsSparseVec-seen c.self.inside.values _ c.self.view_is c.self.invariant.1 c.self.invariant.0 c.remove.ensures.valid

pub returns-in_err-old-clause-valid : goal.returns-in_err-old-clause-valid
returns-in_err-old-clause-valid g c = IsSparseVec-seen c.self.inside.values _ c.self.view_is c.self.invariant.1 c.self.invariant.0 c.insert.ensures.valid

pub returns-clause-valid : goal.returns-clause-valid
returns-clause-valid g c = IsSparseVec-seen c.self.inside.values _ c.self.view_is c.self.invariant.1 c.self.invariant.0 c.insert.ensures.valid

pub returns-in_err-old-clause-memory : goal.returns-in_err-old-clause-memory
returns-in_err-old-clause-memory g c =
    refused-memory c.from_residual.result c.in_err-old.field-0.0.cause c.self.inside.values c.args.self.now c.args.place
    c.from_residual.ensures.1 c.in_err-old.ensures.refused.memory c.self.view_is c.self.invariant.1
