use Rattle.std.proofs.Common.{[], ◌∷◌, ◌++◌, length, sym, subst}
use Rattle.std.specs.Prelude.{swap_remove}
use Rattle.intmap_table.specs.Tables.Nodes.{nowhere, Held, chain_of, IsSlotSet}
use Rattle.intmap_table.proofs.Nodes.BehindLemmas.{Behind-some}
use Rattle.intmap_table.proofs.Nodes.ChainLemmas.{NodeAt-value, Set-swap}
use Rattle.intmap_table.proofs.Nodes.SlotLemmas.{first_set, Replace-first}
use Rattle.intmap_table.proofs.linked.row.insertion.replace_first_of_several.Goals as goal

pub replace-pair-requires : goal.replace-pair-requires
replace-pair-requires g c =
    let two = Behind-some c.args.pool.now.nodes c.args.link (length (chain_of c.args.pool.now.nodes c.args.link)) c.last_in-last.result.0 nowhere c.last_in-last.ensures.last c.requires.several in
    (nowhere, two.pair, two.held)

pub returns-clause-row : goal.returns-clause-row
returns-clause-row g c =
    let a = c.args.pool.now in let b = c.replace-pair.new.self in let l = c.args.link in let p = c.replace.result in let r = c.replace-pair.result in let put = c.replace-pair.ensures in
    let last = c.last_in-last.result.0 in
    let two = Behind-some a.nodes l (length (chain_of a.nodes l)) last nowhere c.last_in-last.ensures.last c.requires.several in
    let now = first_set c.args.slot.now c.replace.new.self l c.requires.filled.0 p r c.replace.ensures.0 c.requires.filled.1 c.replace.ensures.1 c.replace.ensures.2 in
    subst (λ t. IsSlotSet a (Held l p) (swap_remove (p ∷ chain_of a.nodes l) 0 p ++ c.args.new ∷ []) b t) (sym now)
    (Replace-first a l two.place p r c.args.new b two.is (NodeAt-value a.nodes l two.place last put.0 r two.reached put.1)
    (Set-swap a l two.place last put.0 r c.args.new b two.reached put.1 put.2))
