use Rattle.std.proofs.Common.{inr, ap, subst, sym, ◌∙◌}
use Rattle.std.proofs.Math.Facts.{to_z-of_z}
use Rattle.intmap_c.specs.Calls.{FailsToBind}
use Rattle.intmap_c.proofs.AnswerLemmas.{Fails-refused}
use Rattle.intmap_c.proofs.pairs.insert.Goals as goal

pub returns-in-Err : goal.returns-in-Err
returns-in-Err c =
    let e = c.in-Err.ensures in
    let told = rw (to_z-of_z (record { sfits = c.status_of.type_inv })) at c.none.ensures in let status = ap (λ a. a.status) told in
    let fails = Fails-refused c.args.map.now c.insert.new.self c.args.key _ _ e.err e.refused (λ room. let ok = e.has_room room in cc) c.status_of.ensures in
    inr (told ∙ ap (λ s. record { value = 0; status = s }) (sym status), subst (FailsToBind c.args.map.now _ c.args.key) (sym status) fails)
