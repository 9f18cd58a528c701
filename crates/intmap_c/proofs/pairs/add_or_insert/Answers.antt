use Rattle.std.proofs.Common.{◌+◌, ◌%◌, ◌^◌, rules, inl, inr, sym, subst, ap, ◌∙◌}
use Rattle.std.proofs.Math.Facts.{to_z-of_z}
use Rattle.intmap_c.specs.Calls.{Binds, FailsToBind}
use Rattle.intmap_c.proofs.AnswerLemmas.{Binds-new, Fails-due}
use Rattle.intmap_c.proofs.pairs.add_or_insert.Goals as goal

pub returns-in-Occupied : goal.returns-in-Occupied
returns-in-Occupied c =
    let o = c.in-Occupied.ensures in let made = c.into_mut-place.ensures in let v = (c.into_mut-place.result.now + c.args.more) % 2 ^ 64 in
    let updates = made.updates v in let len = made.len v in
    inl (search rules, record { told = search rules; bound = search rules; missing = search rules; updates = λ present. search (rules, updates); len = search (rules, len) })

pub returns-in-Ok : goal.returns-in-Ok
returns-in-Ok c =
    let v = c.in-Vacant.ensures in let made = c.in-Ok.ensures in
    let name = sym v.same_reference ∙ sym made.written.same_reference in let left = c.leave.ensures.state in
    inr (inl (
      c.of-in-Ok.ensures,
      v.occupied,
      subst (λ n. Binds c.args.map.now n c.args.key c.args.more) (sym (c.map-in-Ok-1.given.1 name ∙ left))
          (Binds-new c.args.map.now _ c.args.key _ v.state v.key _ c.args.more _ made.written.map made.inserted),
    ))

pub returns-in-Err : goal.returns-in-Err
returns-in-Err c =
    let v = c.in-Vacant.ensures in let told = rw (to_z-of_z (record { sfits = c.status_of.type_inv })) at c.none.ensures in let status = ap (λ a. a.status) told in
    let due = Fails-due c.args.map.now _ c.args.key _ v.state v.key _ _ _ (search rules) c.in-Err.ensures.refused (λ room. let ok = c.in-Err.ensures.has_room room in cc) c.status_of.ensures in
    inr (inr (told ∙ ap (λ s. record { value = 0; status = s }) (sym status), subst (FailsToBind c.args.map.now _ c.args.key) (sym status) due))
