use Rattle.std.proofs.Common.{◌∙◌, sym, ap, arith}
use Rattle.std.proofs.lemmas.Bool.{false≢true}
use Rattle.intmap_table.specs.Tables.Slots.{joined}
use Rattle.intmap_table.proofs.Tables.MemoryLemmas.{OnErr-always}
use Rattle.intmap_table.proofs.Tables.TableLemmas.{IsSlot, further-joined, slot_of-joined, class_size-here, value_of-here, walk-put, IsTable-put}
use Rattle.intmap_table.proofs.table.Table.put.Goals as goal

pub put-requires-clause-some : goal.put-requires-clause-some
put-requires-clause-some g c = rw (slot_of-joined g.K.IntKey.number_of c.self.inside.slots.rows c.self.invariant c.args.slot) at (rw (← c.self.view_is) at c.requires.some)

pub put-requires-clause-other : goal.put-requires-clause-other
put-requires-clause-other g c = rw (slot_of-joined g.K.IntKey.number_of c.self.inside.slots.rows c.self.invariant c.args.slot) at (rw (← c.self.view_is) at c.requires.other)

pub returns-in_err-old-clause-missing : goal.returns-in_err-old-clause-missing
returns-in_err-old-clause-missing g c =
    let R = c.self.inside.slots.rows in let i = c.args.slot in let k = c.args.key in let at : IsSlot g.K.IntKey.number_of R i k = record { table = c.self.invariant; slot = rw (← c.self.view_is) at c.requires.slot } in
    OnErr-always c.from_residual.result (rw (← c.self.view_is) (value_of-here g.K.IntKey.number_of R i k at ∙ c.in_err-old.ensures.missing))

pub returns-in_err-old-clause-memory : goal.returns-in_err-old-clause-memory
returns-in_err-old-clause-memory g c =
    let R = c.self.inside.slots.rows in let i = c.args.slot in let k = c.args.key in let at : IsSlot g.K.IntKey.number_of R i k = record { table = c.self.invariant; slot = rw (← c.self.view_is) at c.requires.slot } in
    let some = rw (slot_of-joined g.K.IntKey.number_of R c.self.invariant i) at (rw (← c.self.view_is) at c.requires.some) in
    OnErr-always c.from_residual.result (rw (← c.self.view_is) (rw (class_size-here g.K.IntKey.number_of R i k at) some))

pub returns-in_err-old-clause-succeeds : goal.returns-in_err-old-clause-succeeds
returns-in_err-old-clause-succeeds g c =
    let all = further-joined g.K.IntKey.number_of c.self.inside.slots.rows c.self.invariant in
    rw (← c.self.view_is) (λ adds room. absurd (false≢true (c.in_err-old.ensures.succeeds adds (omega (arith, all, room)))))

pub returns-in_err-old-clause-counted : goal.returns-in_err-old-clause-counted
returns-in_err-old-clause-counted g c = rw (← c.self.view_is) (rw (slot_of-joined g.K.IntKey.number_of c.self.inside.slots.rows c.self.invariant c.args.slot) c.put.ensures.counted)

pub invariant_of-self-2 : goal.invariant_of-self-2
invariant_of-self-2 g c =
    let R = c.self.inside.slots.rows in let i = c.args.slot in let k = c.args.key in let at : IsSlot g.K.IntKey.number_of R i k = record { table = c.self.invariant; slot = rw (← c.self.view_is) at c.requires.slot } in
    rw c.in_ok-old.ensures.rows (IsTable-put g.K.IntKey.number_of R i k at c.args.value)

pub returns-clause-value : goal.returns-clause-value
returns-clause-value g c =
    let R = c.self.inside.slots.rows in let i = c.args.slot in let k = c.args.key in let at : IsSlot g.K.IntKey.number_of R i k = record { table = c.self.invariant; slot = rw (← c.self.view_is) at c.requires.slot } in
    rw (← c.self.view_is) (c.in_ok-old.ensures.value ∙ sym (value_of-here g.K.IntKey.number_of R i k at))

pub returns-clause-walk : goal.returns-clause-walk
returns-clause-walk g c =
    let R = c.self.inside.slots.rows in let i = c.args.slot in let k = c.args.key in let at : IsSlot g.K.IntKey.number_of R i k = record { table = c.self.invariant; slot = rw (← c.self.view_is) at c.requires.slot } in
    rw (← c.self.view_is) (ap joined c.in_ok-old.ensures.rows ∙ walk-put g.K.IntKey.number_of R i k at c.args.value)

pub returns-clause-counted : goal.returns-clause-counted
returns-clause-counted g c = rw (← c.self.view_is) (rw (slot_of-joined g.K.IntKey.number_of c.self.inside.slots.rows c.self.invariant c.args.slot) c.put.ensures.counted)
