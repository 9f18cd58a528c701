use Rattle.std.proofs.Common.{[], ◌∷◌, ◌++◌, ap, ◌∙◌, arith}
use Rattle.intmap_table.specs.Tables.Nodes.{nowhere, chain_of}
use Rattle.intmap_table.proofs.Nodes.BehindLemmas.{Behind-front, Behind-two}
use Rattle.intmap_table.proofs.Nodes.ChainLemmas.{Set-first, Set-append}
use Rattle.intmap_table.proofs.Nodes.PathLemmas.{Chain-none}
use Rattle.intmap_table.proofs.Nodes.SlotLemmas.{relinked, Slot-first}
use Rattle.intmap_table.proofs.linked.row.insertion.push_behind.Goals as goal

pub returns-then-last-ge-NODE_LIMIT-clause-ok : goal.returns-then-last-ge-NODE_LIMIT-clause-ok
returns-then-last-ge-NODE_LIMIT-clause-ok g c =
    let a = c.args.pool.now in let b = c.add.new.self in let at = c.requires in let l = at.0 in let p = at.2 in
    let front = Behind-front a.nodes l at.1 c.args.last nowhere at.4 (omega (arith, c.if-last-ge-NODE_LIMIT.true)) in
    let none = ap (chain_of a.nodes) front.1 ∙ Chain-none a.nodes in
    let now = relinked c.args.slot.now c.set_link.new.self l p c.in_ok-at.at c.set_link.ensures.0 c.set_link.ensures.1 at.3 c.set_link.ensures.2 c.set_link.ensures.3 in
    rw (at.3, now) (Slot-first a l p p (chain_of a.nodes l ++ c.args.pair ∷ []) b c.in_ok-at.at (Set-first a l b c.in_ok-at.at c.args.pair none c.in_ok-at.ensures.ok))

pub set_link-requires-2-clause-held : goal.set_link-requires-2-clause-held
set_link-requires-2-clause-held g c =
    let at = c.requires in
    let two = Behind-two c.args.pool.now.nodes at.0 at.1 c.args.last nowhere at.4 (omega (arith, c.if-last-ge-NODE_LIMIT.false)) in
    (nowhere, two.pair, c.in_ok-at.ensures.ok.others c.args.last nowhere two.pair two.held)

pub returns-clause-ok : goal.returns-clause-ok
returns-clause-ok g c =
    let a = c.args.pool.now in let d = c.set_link-2.new.self in let at = c.requires in let l = at.0 in let p = at.2 in let set = c.set_link-2.ensures in
    let two = Behind-two a.nodes l at.1 c.args.last nowhere at.4 (omega (arith, c.if-last-ge-NODE_LIMIT.false)) in
    rw at.3 (Slot-first a l p p (chain_of a.nodes l ++ c.args.pair ∷ []) d l
    (Set-append a l two.place c.args.last two.pair c.add.new.self c.in_ok-at.at c.args.pair d set.0 set.1 two.reached two.held c.in_ok-at.ensures.ok set.2 set.3))
