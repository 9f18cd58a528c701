use Rattle.std.proofs.Common.{◌≡◌, ◌∷◌, ap, sym, ◌∙◌}
use Rattle.intmap_table.specs.Tables.Nodes.{Held, chain_of, row_in}
use Rattle.intmap_table.proofs.Nodes.ChainLemmas.{Set-front}
use Rattle.intmap_table.proofs.Nodes.SlotLemmas.{relinked, first_set, first_was, slot_is, Slot-first}
use Rattle.intmap_table.proofs.linked.row.growth.put_before_first.Goals as goal

pub returns-clause-row : goal.returns-clause-row
returns-clause-row g c =
    let a = c.args.pool.now in let b = c.add.new.self in
    let p = c.in-Some.field-0-1.now in let l = c.in-Some.link in let q = c.replace-first.result in let at = c.in-Ok.at in
    let some = c.in-Some.ensures.some in
    let leads = rw some at c.requires.leads in
    let put = c.replace-first.ensures in
    let same : q ≡ p = first_was c.args.slot.now l p q put.0 some put.1 in
    let now : c.replace-first.new.self ≡ Held l c.args.pair = first_set c.args.slot.now c.replace-first.new.self l p q c.args.pair put.0 some put.1 put.2 in
    slot_is a (Held l p) (Held at c.args.pair) (c.args.pair ∷ q ∷ chain_of a.nodes l) _ b c.args.slot.now c.set_link.new.self
    (Slot-first a l p c.args.pair (q ∷ chain_of a.nodes l) b at (Set-front a l b at q leads c.in-Ok.ensures.ok))
    some (ap (λ s. c.args.pair ∷ row_in a.nodes s) some ∙ ap (λ r. c.args.pair ∷ r ∷ chain_of a.nodes l) (sym same))
    (relinked c.replace-first.new.self c.set_link.new.self l c.args.pair at c.set_link.ensures.0 c.set_link.ensures.1 now c.set_link.ensures.2 c.set_link.ensures.3)
