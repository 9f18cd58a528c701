use Rattle.std.proofs.Common.{◌∙◌}
use Rattle.std.proofs.Math.Facts.{to_z-of_z}
use Rattle.intmap_c.proofs.AnswerLemmas.{OnMapOrNew-Some}
use Rattle.intmap_c.proofs.figures.intmap_reserve_insertions.Goals as goal

pub returns-in-Some : goal.returns-in-Some
returns-in-Some c =
    rw (to_z-of_z (record { sfits = c.reserve_insertions-status.type_inv }))
    (OnMapOrNew-Some _ _ _ (c.deref_mut.ensures.value ∙ c.in-Some.ensures.taken) c.put.ensures c.reserve_insertions-status.ensures)
