use Rattle.std.proofs.Common.{◌≡◌, ◌∙◌, sym, ap, arith, ℕ, List, Bool, length, sum_by, count_ones, rules}
use Rattle.std.proofs.lemmas.List.{take_all}
use Rattle.std.proofs.lemmas.Grind.{common_steps}
use Rattle.std.proofs.lemmas.Nat.{ones-le}
use Rattle.intmap_table.specs.Tables.Bits.{marks_of, marked_indices}
use Rattle.intmap_table.proofs.Tables.BitsLemmas.{length-marked_indices-marks_of}
use Rattle.intmap_table.proofs.bits.Bits.count.Goals as goal

pub loop-word-preserved : goal.loop-word-preserved
loop-word-preserved g c = record {
  total = grind (arith, common_steps);
  small = omega (arith, ones-le 64 _ (c.type_inv.word-items c.loop-word.word-index).fits);
}

pub returns : goal.returns
returns g c =
    let words = c.deref-word-items.result.now in
    let total : c.loop-word.marked ≡ sum_by count_ones words = c.loop-word.invariant.total ∙ ap (λ (ws : List ℕ). sum_by count_ones ws) (take_all c.loop-word.word-index words c.loop-word-test.false) in
    let whole : marks_of words ≡ c.args.self.now = ap marks_of c.deref-word-items.ensures.value ∙ c.self.view_is in
    total ∙ sym (length-marked_indices-marks_of words (λ k. search rules)) ∙ ap (λ (marks : List Bool). length (marked_indices marks)) whole
