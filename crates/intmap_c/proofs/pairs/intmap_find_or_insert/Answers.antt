use Rattle.std.proofs.Common.{◌∙◌}
use Rattle.std.proofs.Math.Facts.{to_z-of_z}
use Rattle.intmap_c.proofs.AnswerLemmas.{OnMapOrNew-Some}
use Rattle.intmap_c.proofs.pairs.intmap_find_or_insert.Goals as goal

pub returns-in-Some : goal.returns-in-Some
returns-in-Some c =
    rw (to_z-of_z (record { sfits = c.find_or_insert-status.type_inv })) (OnMapOrNew-Some _ _ _ (c.deref_mut.ensures.value ∙ c.in-Some.ensures.taken) c.put.ensures c.find_or_insert-status.ensures)
