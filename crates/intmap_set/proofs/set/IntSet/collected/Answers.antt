-- The search does not see which of the two calls failed.
use Rattle.std.proofs.Common.{inr, refl, subst}
use Rattle.intmap_set.specs.Extending.{ExtendsUpTo}
use Rattle.intmap_set.specs.Sets.{SetState}
use Rattle.intmap_set.proofs.set.IntSet.collected.Goals as goal

pub returns-in-Err-clause-collects : goal.returns-in-Err-clause-collects
returns-in-Err-clause-collects g c =
    let Stops : SetState g.row.K.Denot → Type 0 =
    λ s. ExtendsUpTo g.K.IntKey.number_of g.K.IntKey.is_valid g.I.Iterator.next_gives c.args.iter s c.in-Err.refused c.extend.new.self in
    inr (c.in-Err.refused, c.extend.new.self, subst Stops c.in_ok-set.ensures.state c.in-Err.ensures.stops, c.extend.ensures.valid_after, refl)
