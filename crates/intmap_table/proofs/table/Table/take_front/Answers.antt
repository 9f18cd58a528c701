use Rattle.std.proofs.Common.{◌≡◌, ◌<◌, ◌∙◌, [], ◌∷◌, get_or, length, length-set, sym, subst, ap}
use Rattle.std.specs.Prelude.{All}
use Rattle.std.proofs.lemmas.List.Elements.{All-head}
use Rattle.intmap_table.specs.Classes.{slot_number}
use Rattle.intmap_table.proofs.Tables.FilledLemmas.{joined-passed}
use Rattle.intmap_table.proofs.Tables.FrontLemmas.{rows-passed, joined-front, IsTable-front, ArePassed-front}
use Rattle.intmap_table.proofs.Tables.TableLemmas.{walk_of-joined}
use Rattle.intmap_table.proofs.table.Table.take_front.Goals as goal
use Rattle.intmap_table.proofs.table.Table.take_front.Goals.{In_ok-index}

-- no pair is in a slot before the first one that wasn't passed
passed : (g : _) (c : In_ok-index g) → (j : _) → j < c.args.from.now → get_or c.self.inside.slots.rows j [] ≡ []
passed g c = rows-passed g.K.IntKey.number_of _ c.self.invariant _ (rw (← c.self.view_is) at c.requires)

pub returns-in_err-index-clause-first : goal.returns-in_err-index-clause-first
returns-in_err-index-clause-first g c =
    let passed = rows-passed g.K.IntKey.number_of _ c.self.invariant _ (rw (← c.self.view_is) at c.requires) in
    let none = joined-passed _ _ passed c.in_err-index.ensures.none in
    rw (c.from_residual.ensures, ← c.self.view_is) (none, none)

pub returns-in_err-index-clause-own : goal.returns-in_err-index-clause-own
returns-in_err-index-clause-own g c = rw (← c.self.view_is) (walk_of-joined g.K.IntKey.number_of c.self.inside.slots.rows c.self.invariant)

pub take_front-key-requires : goal.take_front-key-requires
take_front-key-requires g c = c.in_ok-index.ensures.some.filled

pub invariant_of-self : goal.invariant_of-self
invariant_of-self g c =
    let done = c.take_front-key.ensures.row in
    rw done.2 (IsTable-front _ _ c.self.invariant _ _ c.in_ok-index.ensures.some (passed g (goal.at.invariant_of-self g c).In_ok-index) (c.take_front-key.result ∷ []) done.0 done.1)

pub returns-clause-first : goal.returns-clause-first
returns-clause-first g c =
    let done = c.take_front-key.ensures.row in
    rw (← c.self.view_is, c.key.ensures.value, done.2)
    (joined-front _ _ _ c.in_ok-index.ensures.some (passed g (goal.at.returns-clause-first g c).In_ok-index) (c.take_front-key.result ∷ []) done.0 done.1)

pub returns-clause-capacity : goal.returns-clause-capacity
returns-clause-capacity g c = rw (← c.self.view_is) (ap length c.take_front-key.ensures.row.2 ∙ length-set _ _ _)

pub returns-clause-own : goal.returns-clause-own
returns-clause-own g c =
    let done = c.take_front-key.ensures.row in
    rw done.2 (walk_of-joined _ _
    (IsTable-front _ _ c.self.invariant _ _ c.in_ok-index.ensures.some (passed g (goal.at.returns-clause-own g c).In_ok-index) (c.take_front-key.result ∷ []) done.0 done.1))

pub returns-clause-passed : goal.returns-clause-passed
returns-clause-passed g c =
    let done = c.take_front-key.ensures.row in
    rw done.2 (ArePassed-front _ _ c.self.invariant _ _ c.in_ok-index.ensures.some (passed g (goal.at.returns-clause-passed g c).In_ok-index) (c.take_front-key.result ∷ []) done.0 done.1)

pub returns-clause-slot : goal.returns-clause-slot
returns-clause-slot g c =
    let done = c.take_front-key.ensures.row in let below = c.in_ok-index.ensures.some.within in
    let Own = All (λ (q : g.row.K.Denot × g.row.X.Denot). slot_number g.K.IntKey.number_of q.0 (length c.self.inside.slots.rows) ≡ c.in_ok-index.index) in
    rw (← c.self.view_is, c.key.ensures.value)
    (sym (All-head (λ q. slot_number g.K.IntKey.number_of q.0 (length c.self.inside.slots.rows) ≡ c.in_ok-index.index) c.take_front-key.result done.0
    (subst Own done.1 (c.self.invariant.in_place c.in_ok-index.index below))))
