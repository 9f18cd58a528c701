use Rattle.std.proofs.Common.{arith, ap, sym, subst, ◌∙◌}
use Rattle.intmap.specs.Bindings.{take_key}
use Rattle.intmap.specs.Walk.{walk_of}
use Rattle.intmap_run.specs.Laws.{StandForOne}
use Rattle.callers_above.proofs.standing.remove.Goals as goal

-- what the map is left with is the walk of its old walk without the key, and so of the list without it
pub returns-clause-list : goal.returns-clause-list
returns-clause-list g c L M one takes =
    let number = g.K.IntKey.number_of in let m = c.args.map.now in let key = c.args.key in
    let both = c.removal_keeps_standing.ensures m.capacity L m.walk key one in
    let is = (c.removals_fill_the_hole.ensures m.capacity L M key).0 takes in
    let again = c.walks_grow_as_lists.ensures m.capacity m.capacity (take_key number m.walk m.capacity key) one.capacity one.capacity (omega arith) in
    subst (λ n. StandForOne number n.capacity M n.walk) (sym c.remove.ensures.state)
    (record {
      capacity = one.capacity;
      walk = ap (λ L. walk_of number L m.capacity) is ∙ both.walk ∙ sym again;
    })
