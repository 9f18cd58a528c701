use Rattle.std.proofs.Common.{[], ◌∷◌, ap, sym, ◌∙◌}
use Rattle.intmap_table.specs.Tables.Growing.{put_in}
use Rattle.intmap_table.specs.Tables.Nodes.{nowhere, Free, Held, row_in}
use Rattle.intmap_table.proofs.Nodes.GrowingLemmas.{place_in-alone, put_in-alone}
use Rattle.intmap_table.proofs.Nodes.SlotLemmas.{slot_is, Slot-put}
use Rattle.intmap_table.proofs.linked.row.growth.put_in.Goals as goal

pub returns-in_default-clause-row : goal.returns-in_default-clause-row
returns-in_default-clause-row g c =
    let free = c.in_default.ensures.none in
    slot_is c.args.pool.now (Free free.0) (Held nowhere c.args.pair) (c.args.pair ∷ []) _ c.args.pool.now c.args.slot.now c.fill.new.self
    (Slot-put c.args.pool.now free.0 c.args.pair) free.1
    (ap (λ s. put_in c.args.order (row_in c.args.pool.now.nodes s) c.args.pair) free.1 ∙ put_in-alone c.args.order c.args.pair) c.fill.ensures

pub returns-in_default-clause-place : goal.returns-in_default-clause-place
returns-in_default-clause-place g c = sym (place_in-alone c.args.order (row_in c.args.pool.now.nodes c.args.slot.now) (ap (row_in c.args.pool.now.nodes) c.in_default.ensures.none.1))
