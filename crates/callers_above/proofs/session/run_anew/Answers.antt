use Rattle.std.proofs.Common.{arith, refl, subst, sym}
use Rattle.intmap.specs.PlainLists.{Stands, empty_list}
use Rattle.callers_above.proofs.session.run_anew.Goals as goal

pub returns-in-Ok-clause-ok : goal.returns-in-Ok-clause-ok
returns-in-Ok-clause-ok g c =
    c.in-Ok.ensures.ok (empty_list 4)
    (subst (λ m. Stands g.K.IntKey.number_of (empty_list 4) m) (sym c.in_ok-map.ensures.state)
    (c.no_pairs_stand_for_a_new_map.ensures 4 (2, (omega arith), (omega arith), refl)))
