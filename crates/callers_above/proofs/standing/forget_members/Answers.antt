use Rattle.std.proofs.Common.{rules, ap, sym, subst, ◌≡◌}
use Rattle.intmap.specs.Bindings.{strike_keys}
use Rattle.intmap_run.specs.Laws.{StandForOne}
use Rattle.callers_above.proofs.standing.forget_members.Goals as goal

pub returns : goal.returns
returns g c =
    let number = g.K.IntKey.number_of in let m = c.args.map.now in let n = c.retain.new.self in let gone = c.args.gone.now.walk in
    let walk : n.walk ≡ strike_keys number m.walk gone = search rules in
    let capacity : n.capacity ≡ m.capacity = ap (λ n. n.capacity) c.retain.ensures.state in
    record {
      list = λ L one.
          subst (λ C. StandForOne number C (strike_keys number L gone) n.walk) (sym capacity)
          (subst (λ W. StandForOne number m.capacity (strike_keys number L gone) W) (sym walk) (c.striking_keeps_standing.ensures m.capacity L m.walk gone one));
    }
