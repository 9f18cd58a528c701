use Rattle.std.proofs.Common.{◌≡◌, sym, subst}
use Rattle.intmap_table.specs.Tables.Nodes.{Held, chain_of, IsSlotSet}
use Rattle.intmap_table.proofs.Nodes.BehindLemmas.{Behind-start}
use Rattle.intmap_table.proofs.Nodes.SlotLemmas.{first_set, first_was, Front-rest}
use Rattle.intmap_table.proofs.linked.row.removal.pop_front_of_several.Goals as goal

pub unlink-second-requires : goal.unlink-second-requires
unlink-second-requires g c = (c.args.link, 0, c.requires.filled.0, c.requires.filled.1, c.requires.several, Behind-start c.args.pool.now.nodes c.args.link c.requires.leads)

pub returns-clause-value : goal.returns-clause-value
returns-clause-value g c =
    let p = c.requires.filled in let was = c.replace.ensures in
    let cut = c.unlink-second.ensures.cut c.args.link 0 p.0 p.1 (Behind-start c.args.pool.now.nodes c.args.link c.requires.leads) in
    subst (λ q. c.args.slot.now ≡ Held c.args.link q) (sym (first_was c.unlink-second.new.slot cut.0 p.0 c.replace.result was.0 cut.1 was.1)) p.1

pub returns-clause-row : goal.returns-clause-row
returns-clause-row g c first =
    let p = c.requires.filled in let was = c.replace.ensures in let a = c.args.pool.now in let b = c.unlink-second.new.pool in let second = c.unlink-second.result in
    let cut = c.unlink-second.ensures.cut c.args.link 0 p.0 p.1 (Behind-start a.nodes c.args.link c.requires.leads) in
    subst (IsSlotSet a (Held c.args.link first) (chain_of a.nodes c.args.link) b)
    (sym (first_set c.unlink-second.new.slot c.replace.new.self cut.0 p.0 c.replace.result second was.0 cut.1 was.1 was.2)) (Front-rest a c.args.link first second b cut.0 cut.2)
