use Rattle.std.proofs.Common.{List, inr, sym, ◌∙◌, subst}
use Rattle.std.proofs.IntoIterSteps.{All-taken}
use Rattle.std.specs.Vec.Iter.{into_iter_items}
use Rattle.intmap.proofs.ExtendLemmas.{items-yielded_then}
use Rattle.intmap_set.specs.Extending.{IsCollected, IsExtended}
use Rattle.intmap_set.specs.Sets.{SetState}
use Rattle.intmap_set.proofs.set.IntSet.from_array.Goals as goal
use Rattle.intmap_set.proofs.set.IntSet.from_array.Goals.{After-into_iter}

-- what extends the empty set was collected
collected : (g : _) (c : After-into_iter g) (ks : List _) (s : SetState g.row.K.Denot) → IsExtended g.K.IntKey.number_of g.K.IntKey.is_valid c.in_ok-set.set ks s → IsCollected g.K.IntKey.number_of g.K.IntKey.is_valid g.row.N ks s
collected g c ks s extended =
    let made = c.in_ok-set.ensures in
    record { slots = c.in_ok-set.set.capacity; power = made.capacity; extended = subst (λ e. IsExtended g.K.IntKey.number_of g.K.IntKey.is_valid e ks s) made.state extended }

pub returns-in-Ok-extend-clause-collects : goal.returns-in-Ok-extend-clause-collects
returns-in-Ok-extend-clause-collects g c =
    let all = c.in-Ok-extend.ensures.extends in
    subst (λ ks. IsCollected g.K.IntKey.number_of g.K.IntKey.is_valid g.row.N ks c.extend.new.self)
    (All-taken c.into_iter.result all.keys all.came ∙ c.into_iter.ensures.rest ∙ c.in-Ok.ensures.items)
    (collected g (goal.at.returns-in-Ok-extend-clause-collects g c).After-into_iter all.keys c.extend.new.self all.extended)

pub returns-in-Ok-extend-clause-updates : goal.returns-in-Ok-extend-clause-updates
returns-in-Ok-extend-clause-updates g c = (returns-in-Ok-extend-clause-collects g c).extended.updates

pub returns-in-Err-clause-too_large : goal.returns-in-Err-clause-too_large
returns-in-Err-clause-too_large g c large =
    let stopped = c.in-Err.ensures.stops in
    inr (record {
      before = stopped.keys;
      next = c.in-Err.refused.key;
      rest = into_iter_items stopped.rest;
      are = sym (c.into_iter.ensures.rest ∙ c.in-Ok.ensures.items) ∙ items-yielded_then c.into_iter.result stopped.keys c.in-Err.refused.key stopped.rest stopped.came;
      filled = stopped.before;
      collected = collected g (goal.at.returns-in-Err-clause-too_large g c).After-into_iter stopped.keys stopped.before stopped.extended;
      out_of_range = stopped.may_refuse.too_large.0 large;
    })
