use Rattle.std.proofs.Common.{◌≡◌, ◌-◌, ◌∷◌, drop, sym, ap, ◌∙◌, arith}
use Rattle.std.specs.Prelude.{suc}
use Rattle.intmap_table.specs.Tables.Nodes.{chain_of}
use Rattle.intmap_table.proofs.Nodes.PathLemmas.{Chain-first, Chain-some, Chain-next}
use Rattle.intmap_table.proofs.linked.chain.skip.Goals as goal

pub link-link-requires : goal.link-link-requires
link-link-requires g c =
    let leads = c.loop-left.invariant.chain in
    Chain-first c.args.pool.now.nodes c.loop-left.link leads (Chain-some c.args.pool.now.nodes c.loop-left.link leads (omega (arith, c.if-link-lt-NODE_LIMIT.true)))

pub loop-left-preserved : goal.loop-left-preserved
loop-left-preserved g c =
    let link = c.link-link.ensures.link in
    let next = Chain-next c.args.pool.now.nodes c.loop-left.link c.link-link.result link.0 c.loop-left.invariant.chain link.1 in
    let one : c.loop-left.left ≡ suc (c.loop-left.left - 1) = omega (arith, c.loop-left-test.true) in
    let here = ap (λ n. drop n (link.0 ∷ chain_of c.args.pool.now.nodes c.link-link.result)) one in
    record { chain = next.is; pairs = sym here ∙ ap (drop c.loop-left.left) (sym next.pairs) ∙ c.loop-left.invariant.pairs }
