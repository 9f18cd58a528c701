use Rattle.std.proofs.Common.{◌∷◌, ap}
use Rattle.intmap_table.specs.Tables.Nodes.{Held, chain_of, row_in}
use Rattle.intmap_table.specs.Tables.Rows.{put_second}
use Rattle.intmap_table.proofs.Nodes.ChainLemmas.{Set-front}
use Rattle.intmap_table.proofs.Nodes.SlotLemmas.{relinked, slot_is, Slot-first}
use Rattle.intmap_table.proofs.linked.row.growth.put_behind_first.Goals as goal

pub returns-clause-row : goal.returns-clause-row
returns-clause-row g c =
    let p = c.in-Some.field-0-1.now in let l = c.in-Some.link in
    let leads = rw c.in-Some.ensures.some at c.requires.leads in
    slot_is c.args.pool.now (Held l p) (Held c.in-Ok.at p) (p ∷ c.args.pair ∷ chain_of c.args.pool.now.nodes l) _ c.add.new.self c.args.slot.now c.set_link.new.self
    (Slot-first c.args.pool.now l p p (c.args.pair ∷ chain_of c.args.pool.now.nodes l) c.add.new.self c.in-Ok.at (Set-front c.args.pool.now l c.add.new.self c.in-Ok.at c.args.pair leads c.in-Ok.ensures.ok))
    c.in-Some.ensures.some (ap (λ s. put_second (row_in c.args.pool.now.nodes s) c.args.pair) c.in-Some.ensures.some)
    (relinked c.args.slot.now c.set_link.new.self l p c.in-Ok.at c.set_link.ensures.0 c.set_link.ensures.1 c.in-Some.ensures.some c.set_link.ensures.2 c.set_link.ensures.3)
