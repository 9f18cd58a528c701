use Rattle.std.proofs.Common.{◌∙◌, sym, ap, length, replicate, false}
use Rattle.std.proofs.lemmas.List.{with_items_is}
use Rattle.intmap_table.proofs.Tables.BitsLemmas.{length-marks_of, marks_of-zeros}
use Rattle.intmap_table.proofs.bits.Bits.clear_all.Goals as goal

pub returns : goal.returns
returns g c =
    let words = c.self.inside.words in
    let zeros = c.fill.ensures.after (λ y same. same) ∙ ap (λ n. replicate n 0) (ap length c.as_mut_slice.ensures.value) in
    let long = sym (length-marks_of words.items) ∙ ap length c.self.view_is in
    rw (with_items_is words c.fill.new.self (c.fill.ensures.len ∙ c.as_mut_slice.ensures.len), zeros)
    (marks_of-zeros (length words.items) ∙ ap (λ n. replicate n false) long)
