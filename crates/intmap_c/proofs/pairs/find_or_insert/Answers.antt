use Rattle.std.proofs.Common.{inr}
use Rattle.std.proofs.Math.Facts.{to_z-of_z}
use Rattle.intmap_c.proofs.AnswerLemmas.{Fails-refused}
use Rattle.intmap_c.proofs.pairs.find_or_insert.Goals as goal

pub returns-in-Err : goal.returns-in-Err
returns-in-Err c =
    let e = c.in-Err.ensures in
    rw (to_z-of_z (record { sfits = c.status_of.type_inv }))
    (inr (inr (Fails-refused c.args.map.now c.insert_checked.new.self c.args.key _ _ e.err e.refused (λ room. let ok = e.has_room room in cc) c.status_of.ensures)))
