use Rattle.std.proofs.Common.{◌∷◌, [], set, sym, subst, ap, ◌∙◌, length, length-set, arith}
use Rattle.intmap_table.specs.Fronts.{IsRowFront}
use Rattle.intmap_table.specs.Tables.Rows.{IsTable}
use Rattle.intmap_table.proofs.SlotNumberLemmas.{capacity-greatest}
use Rattle.intmap_table.proofs.Tables.FrontLemmas.{rows-joined, joined-front, IsTable-front, IsRowFront-set}
use Rattle.intmap_table.proofs.Tables.TableLemmas.{walk_of-joined}
use Rattle.intmap_table.proofs.table.Table.take_next.Goals as goal
use Rattle.intmap_table.proofs.table.Table.take_next.Goals.{After-take_front-key}

-- the rows are those of a table still
table : (g : _) (c : After-take_front-key g) → IsTable g.K.IntKey.number_of (set c.self.inside.slots.rows c.reach.new.front.at c.take_front-key.ensures.row.0)
table g c =
    let done = c.take_front-key.ensures.row in
    IsTable-front g.K.IntKey.number_of c.self.inside.slots.rows c.self.invariant 0 c.reach.new.front.at c.if-not-reach.ensures.slot (λ j less. absurd (omega (arith, less))) (c.take_front-key.result ∷ []) done.0 done.1

pub reach-requires-clause-slots : goal.reach-requires-clause-slots
reach-requires-clause-slots g c = capacity-greatest _ c.self.invariant.capacity

pub reach-requires-clause-front : goal.reach-requires-clause-front
reach-requires-clause-front g c = subst (λ R. IsRowFront R c.args.front.now) (rows-joined g.K.IntKey.number_of c.self.inside.slots.rows c.self.invariant) (rw (← c.self.view_is) at c.requires)

pub returns-then-not-reach-clause-own : goal.returns-then-not-reach-clause-own
returns-then-not-reach-clause-own g c = rw (← c.self.view_is) (walk_of-joined g.K.IntKey.number_of c.self.inside.slots.rows c.self.invariant)

pub returns-then-not-reach-clause-passed : goal.returns-then-not-reach-clause-passed
returns-then-not-reach-clause-passed g c =
    rw (← c.self.view_is) (subst (λ R. IsRowFront R c.reach.new.front) (sym (rows-joined g.K.IntKey.number_of c.self.inside.slots.rows c.self.invariant)) c.reach.ensures.front)

pub invariant_of-self : goal.invariant_of-self
invariant_of-self g c = rw c.take_front-key.ensures.row.2 (table g (goal.at.invariant_of-self g c).After-take_front-key)

pub returns-clause-first : goal.returns-clause-first
returns-clause-first g c =
    let done = c.take_front-key.ensures.row in
    rw (← c.self.view_is, c.key.ensures.value, done.2)
    (joined-front c.self.inside.slots.rows 0 c.reach.new.front.at c.if-not-reach.ensures.slot (λ j less. absurd (omega (arith, less))) (c.take_front-key.result ∷ []) done.0 done.1)

pub returns-clause-capacity : goal.returns-clause-capacity
returns-clause-capacity g c = rw (← c.self.view_is) (ap length c.take_front-key.ensures.row.2 ∙ length-set _ _ _)

pub returns-clause-own : goal.returns-clause-own
returns-clause-own g c = rw c.take_front-key.ensures.row.2 (walk_of-joined g.K.IntKey.number_of _ (table g (goal.at.returns-clause-own g c).After-take_front-key))

pub returns-clause-passed : goal.returns-clause-passed
returns-clause-passed g c =
    rw c.take_front-key.ensures.row.2
    (subst (λ R. IsRowFront R c.reach.new.front) (sym (rows-joined g.K.IntKey.number_of _ (table g (goal.at.returns-clause-passed g c).After-take_front-key)))
    (IsRowFront-set c.self.inside.slots.rows c.reach.new.front c.reach.ensures.front c.if-not-reach.ensures.slot c.take_front-key.ensures.row.0))
