use Rattle.std.proofs.Common.{◌+◌, length, ap, ◌∙◌, arith}
use Rattle.intmap_table.proofs.Nodes.PathLemmas.{Chain-next}
use Rattle.intmap_table.proofs.Nodes.CloneLemmas.{Cloned-start, Cloned-next, Cloned-all}
use Rattle.intmap_table.proofs.table.slots.clone.clone_chain.Goals as goal

pub loop-next-init : goal.loop-next-init
loop-next-init g c =
    Cloned-start g.X.Clone.is_clone c.args.pool.now.nodes c.args.from c.args.made.now c.held-first.result c.requires.leads c.requires.some c.held-first.ensures.held c.requires.none

pub loop-next-smaller : goal.loop-next-smaller
loop-next-smaller g c =
    let n = ap length (Chain-next c.args.pool.now.nodes c.loop-next.link c.in-Some.next c.in-Some.pair.now c.loop-next.invariant.leads c.in-Some.ensures.some).pairs in omega (arith, n)

pub loop-next-preserved : goal.loop-next-preserved
loop-next-preserved g c =
    Cloned-next g.X.Clone.is_clone c.args.pool.now.nodes c.args.from c.loop-next.link c.args.made.now c.held-first.result c.loop-next.made c.in-Some.next c.in-Some.pair.now c.in_ok-copy.copy c.in-Ok.field-0 c.link_behind.result
    c.add_new.new.self c.loop-next.invariant c.in-Some.ensures.some c.in_ok-copy.ensures c.in-Ok.ensures.ok c.in-Ok.ensures.at c.in-Ok.ensures.len (λ below. c.link_behind.ensures.on below ∙ ap (λ n. n + 1) c.held.ensures.held)
    c.link_behind.ensures.ends

pub returns-clause-chain : goal.returns-clause-chain
returns-clause-chain g c = Cloned-all g.X.Clone.is_clone c.args.pool.now.nodes c.args.from c.loop-next.link c.args.made.now c.held-first.result c.loop-next.made c.loop-next.invariant c.in_default.ensures.none
