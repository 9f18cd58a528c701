use Rattle.std.proofs.Common.{◌≡◌, ◌∙◌, length, sym, subst, arith}
use Rattle.std.specs.Prelude.{OnOk}
use Rattle.std.proofs.lemmas.Result.{on_ok_weaker, on_err_weaker}
use Rattle.intmap_table.specs.Tables.Slots.{joined}
use Rattle.intmap_table.specs.Tables.Rows.{HasMoved, IsTable}
use Rattle.intmap_table.proofs.Tables.GrownLemmas.{IsGrown-from}
use Rattle.intmap_table.proofs.Tables.MemoryLemmas.{OnOk-always, OnOk-or, OnOk-both}
use Rattle.intmap_table.proofs.Tables.MovedLemmas.{joined-moved, IsTable-moved}
use Rattle.intmap_table.proofs.Tables.TableLemmas.{walk_of-joined, further-joined}
use Rattle.intmap_table.proofs.table.Table.grow_to.Goals as goal
use Rattle.intmap_table.proofs.table.Table.grow_to.Goals.{After-grow}

-- the rows once all pairs have moved
moved : (g : _) (c : After-grow g) → OnOk c.grow.result (HasMoved g.K.IntKey.number_of (joined c.self.inside.slots.rows) c.args.capacity c.grow.new.self.rows)
moved g c =
    on_ok_weaker c.grow.result (λ both. record { capacity = c.requires.capacity; len = both.0; rows = both.1 }) (OnOk-both c.grow.result _ _ c.grow.ensures.len c.grow.ensures.rows)

pub returns-then-capacity-len-clause-walk : goal.returns-then-capacity-len-clause-walk
returns-then-capacity-len-clause-walk g c =
    let own : c.args.capacity ≡ length c.self.inside.slots.rows = c.if-capacity-len.true ∙ c.len.ensures in
    rw (← c.self.view_is, c.reserve.ensures.rows, own) (OnOk-always c.reserve.result (sym (walk_of-joined g.K.IntKey.number_of c.self.inside.slots.rows c.self.invariant)))

pub grow-requires : goal.grow-requires
grow-requires g c = record { grown = IsGrown-from _ _ c.self.invariant.capacity c.requires.capacity (rw (← c.self.view_is) at c.requires.larger) }

pub invariant_of-self-2 : goal.invariant_of-self-2
invariant_of-self-2 g c =
    OnOk-or c.grow.result (on_ok_weaker c.grow.result (λ m. IsTable-moved _ _ _ _ m) (moved g (goal.at.invariant_of-self-2 g c).After-grow))
    (on_err_weaker c.grow.result (λ same. subst (λ s. IsTable g.K.IntKey.number_of s.rows) (sym same) c.self.invariant) c.grow.ensures.err)

pub returns-clause-walk : goal.returns-clause-walk
returns-clause-walk g c = rw (← c.self.view_is) (on_ok_weaker c.grow.result (λ m. joined-moved _ _ _ _ m) (moved g (goal.at.returns-clause-walk g c).After-grow))

pub returns-then-capacity-len-clause-room : goal.returns-then-capacity-len-clause-room
returns-then-capacity-len-clause-room g c =
    let all = further-joined g.K.IntKey.number_of c.reserve.new.self.rows (subst (IsTable g.K.IntKey.number_of) (sym c.reserve.ensures.rows) c.self.invariant) in
    on_ok_weaker c.reserve.result (λ enough. omega (arith, all, enough)) c.reserve.ensures.room

pub returns-clause-room : goal.returns-clause-room
returns-clause-room g c =
    let all = further-joined g.K.IntKey.number_of c.grow.new.self.rows (invariant_of-self-2 g c) in
    on_ok_weaker c.grow.result (λ enough. omega (arith, all, enough)) c.grow.ensures.room
