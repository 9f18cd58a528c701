use Rattle.std.proofs.Common.{arith}
use Rattle.intmap_table.proofs.Nodes.PathLemmas.{NodeAt-start, NodeAt-next, NodeAt-some}
use Rattle.intmap_table.proofs.linked.chain.seek.Goals as goal

pub loop-passed-init : goal.loop-passed-init
loop-passed-init g c = NodeAt-start c.args.pool.now.nodes c.args.from c.requires.leads

pub link-link-requires : goal.link-link-requires
link-link-requires g c = NodeAt-some c.args.pool.now.nodes c.args.from c.loop-passed.passed c.loop-passed.link c.loop-passed.invariant (omega arith)

pub loop-passed-preserved : goal.loop-passed-preserved
loop-passed-preserved g c =
    NodeAt-next c.args.pool.now.nodes c.args.from c.loop-passed.passed c.loop-passed.link c.link-link.result c.link-link.ensures.link.0 c.loop-passed.invariant c.link-link.ensures.link.1
