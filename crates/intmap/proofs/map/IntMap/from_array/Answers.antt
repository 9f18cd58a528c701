use Rattle.std.proofs.Common.{List, inr, sym, ◌∙◌, subst}
use Rattle.std.specs.Prelude.{reverse}
use Rattle.intmap_table.specs.Bindings.{value_of}
use Rattle.std.proofs.IntoIterSteps.{All-taken}
use Rattle.std.specs.Vec.Iter.{into_iter_items}
use Rattle.intmap.specs.Extending.{IsCollected, IsExtended}
use Rattle.intmap.specs.Map.{MapState}
use Rattle.intmap.proofs.ExtendLemmas.{items-yielded_then, option_or-none}
use Rattle.intmap.proofs.map.IntMap.from_array.Goals as goal
use Rattle.intmap.proofs.map.IntMap.from_array.Goals.{After-into_iter}

-- what extends the empty map was collected
collected : (g : _) (c : After-into_iter g) (ps : List _) (m : MapState g.row.K.Denot g.row.V.Denot) → IsExtended g.K.IntKey.number_of g.K.IntKey.is_valid c.in_ok-map.map ps m → IsCollected g.K.IntKey.number_of g.K.IntKey.is_valid g.row.N ps m
collected g c ps m extended =
    let made = c.in_ok-map.ensures in
    record { slots = c.in_ok-map.map.capacity; power = made.capacity; extended = subst (λ s. IsExtended g.K.IntKey.number_of g.K.IntKey.is_valid s ps m) made.state extended }

pub returns-in-Ok-extend-clause-collects : goal.returns-in-Ok-extend-clause-collects
returns-in-Ok-extend-clause-collects g c =
    let all = c.in-Ok-extend.ensures.extends in
    subst (λ ps. IsCollected g.K.IntKey.number_of g.K.IntKey.is_valid g.row.N ps c.extend.new.self)
    (All-taken c.into_iter.result all.pairs all.came ∙ c.into_iter.ensures.rest ∙ c.in-Ok.ensures.items)
    (collected g (goal.at.returns-in-Ok-extend-clause-collects g c).After-into_iter all.pairs c.extend.new.self all.extended)

pub returns-in-Ok-extend-clause-updates : goal.returns-in-Ok-extend-clause-updates
returns-in-Ok-extend-clause-updates g c q =
    (returns-in-Ok-extend-clause-collects g c).extended.updates q ∙ option_or-none (value_of g.K.IntKey.number_of (reverse c.args.pairs) q)

pub returns-in-Err-clause-too_large : goal.returns-in-Err-clause-too_large
returns-in-Err-clause-too_large g c large =
    let stopped = c.in-Err.ensures.stops in
    inr (record {
      before = stopped.pairs;
      next = (c.in-Err.failed.key, c.in-Err.failed.value);
      rest = into_iter_items stopped.rest;
      are = sym (c.into_iter.ensures.rest ∙ c.in-Ok.ensures.items) ∙ items-yielded_then c.into_iter.result stopped.pairs (c.in-Err.failed.key, c.in-Err.failed.value) stopped.rest stopped.came;
      filled = stopped.before;
      collected = collected g (goal.at.returns-in-Err-clause-too_large g c).After-into_iter stopped.pairs stopped.before stopped.extended;
      out_of_range = stopped.may_refuse.too_large.0 large;
    })
