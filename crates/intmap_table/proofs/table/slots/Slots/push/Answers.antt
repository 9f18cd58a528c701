use Rattle.std.proofs.Common.{◌≡◌, ◌<◌, ◌++◌, [], ◌∷◌, length, ap, sym, ◌∙◌, length-append, arith}
use Rattle.std.specs.Prelude.{get_or, set}
use Rattle.std.proofs.lemmas.List.{length-map}
use Rattle.intmap_table.specs.Classes.{slot_number}
use Rattle.intmap_table.specs.Tables.Nodes.{rows_in, row_in}
use Rattle.intmap_table.proofs.Tables.MemoryLemmas.{OnErr-always}
use Rattle.intmap_table.proofs.Nodes.LinkedLemmas.{HaveRows, Row-of, Row-kept, home-append}
use Rattle.intmap_table.proofs.Nodes.PutRowLemmas.{Contents-same}
use Rattle.intmap_table.proofs.table.slots.Slots.push.Goals as goal
use Rattle.intmap_table.proofs.table.slots.Slots.push.Goals.{In_ok-place}

done : (g : _) (c : In_ok-place g) → HaveRows g.K.IntKey.number_of (set c.self.inside.slots.items c.args.index c.push_further.new.slot) c.push_further.new.pool c.self.inside.bits c.self.inside.mask
    (set (rows_in c.self.inside.slots.items c.self.inside.pool.nodes) c.args.index (get_or (rows_in c.self.inside.slots.items c.self.inside.pool.nodes) c.args.index [] ++ c.args.pair ∷ []))
done g c =
    let slots = c.self.inside.slots.items in let a = c.self.inside.pool in let i = c.args.index in let s = c.index_mut.result.now in
    let within = rw (← c.self.view_is) at c.requires.within in
    let own = rw (← c.self.view_is) at c.requires.own in
    let some : 0 < length (get_or (rows_in slots a.nodes) i []) = rw (← c.self.view_is) at (rw c.if-is_vacant.false at c.is_vacant.ensures) in
    let row = Row-of g.K.IntKey.number_of slots a c.self.inside.bits c.self.inside.mask i s c.self.invariant within c.index_mut.ensures.value in
    let all : length slots ≡ length (rows_in slots a.nodes) = sym (length-map slots (row_in a.nodes)) in
    let more = length-append (get_or (rows_in slots a.nodes) i []) (c.args.pair ∷ []) in
    Row-kept g.K.IntKey.number_of slots a c.self.inside.bits c.self.inside.mask i s (λ ps. ps ++ c.args.pair ∷ []) c.push_further.new.pool c.push_further.new.slot c.self.invariant row c.in_ok-place.ensures.ok
    (home-append (λ p. slot_number g.K.IntKey.number_of p.0 (length slots)) i (row_in a.nodes s) c.args.pair row.own (ap (slot_number g.K.IntKey.number_of c.args.pair.0) all ∙ own)) some (omega (arith, more))

pub returns-in_err-place-clause-err : goal.returns-in_err-place-clause-err
returns-in_err-place-clause-err g c =
    let told = c.in_err-place.ensures in
    OnErr-always c.from_residual.result
    (Contents-same c.self.inside.slots.items c.self.inside.pool c.args.index c.index_mut.result.now c.push_further.new.slot c.push_further.new.pool c.index_mut.ensures.value told.slot told.err ∙ c.self.view_is)

pub invariant_of-self-2 : goal.invariant_of-self-2
invariant_of-self-2 g c = (done g (goal.at.invariant_of-self-2 g c).In_ok-place).are

pub returns-clause-ok : goal.returns-clause-ok
returns-clause-ok g c = rw (← c.self.view_is) (done g (goal.at.returns-clause-ok g c).In_ok-place).rows
