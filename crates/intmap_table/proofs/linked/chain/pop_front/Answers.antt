use Rattle.intmap_table.proofs.Nodes.PathLemmas.{Chain-first}
use Rattle.intmap_table.proofs.Nodes.ChainLemmas.{Cut-first}
use Rattle.intmap_table.proofs.linked.chain.pop_front.Goals as goal

pub link-requires : goal.link-requires
link-requires g c = Chain-first c.args.pool.now.nodes c.args.link.now c.requires.leads c.requires.some

pub returns-clause-cut : goal.returns-clause-cut
returns-clause-cut g c =
    Cut-first c.args.pool.now c.args.link.now c.link.result c.link.ensures.link.0 c.release.result c.release.new.self c.requires.leads c.link.ensures.link.1 c.release.ensures
