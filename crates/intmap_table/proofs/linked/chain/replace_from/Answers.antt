use Rattle.std.proofs.Common.{length}
use Rattle.intmap_table.specs.Tables.Nodes.{nowhere, chain_of}
use Rattle.intmap_table.proofs.Nodes.BehindLemmas.{Behind-some}
use Rattle.intmap_table.proofs.Nodes.PathLemmas.{NodeAt-start}
use Rattle.intmap_table.proofs.Nodes.PutLemmas.{Same-value, Same-chain, Other-held, Other-value, Other-chain}
use Rattle.intmap_table.proofs.linked.chain.replace_from.Goals as goal

pub replace-pair-requires : goal.replace-pair-requires
replace-pair-requires g c =
    let two = Behind-some c.args.pool.now.nodes c.args.at (length (chain_of c.args.pool.now.nodes c.args.at)) c.last_in-last.result.0 nowhere c.last_in-last.ensures.last c.requires.some in
    (nowhere, two.pair, two.held)

pub returns-then-last-at-clause-value : goal.returns-then-last-at-clause-value
returns-then-last-at-clause-value g c from place reached =
    let put = c.replace-pair.ensures in
    Same-value c.args.pool.now from place c.args.at reached c.last_in-last.result.0 c.last_in-last.ensures.last c.requires.some put.0 c.replace-pair.result c.args.new c.replace-pair.new.self put.1 put.2 c.if-last-at.true

pub returns-then-last-at-clause-chain : goal.returns-then-last-at-clause-chain
returns-then-last-at-clause-chain g c from place reached =
    let put = c.replace-pair.ensures in
    Same-chain c.args.pool.now from place c.args.at reached c.last_in-last.result.0 c.last_in-last.ensures.last c.requires.some put.0 c.replace-pair.result c.args.new c.replace-pair.new.self put.1 put.2 c.if-last-at.true

pub replace-requires : goal.replace-requires
replace-requires g c =
    let put = c.replace-pair.ensures in let reached = NodeAt-start c.args.pool.now.nodes c.args.at c.requires.leads in
    Other-held c.args.pool.now c.args.at 0 c.args.at reached c.last_in-last.result.0 c.last_in-last.ensures.last c.requires.some put.0 c.replace-pair.result c.args.new c.replace-pair.new.self put.1 put.2 c.if-last-at.false

pub returns-clause-value : goal.returns-clause-value
returns-clause-value g c from place reached =
    let put = c.replace-pair.ensures in let moved = c.replace.ensures in
    Other-value c.args.pool.now from place c.args.at reached c.last_in-last.result.0 c.last_in-last.ensures.last c.requires.some put.0 c.replace-pair.result c.args.new c.replace-pair.new.self put.1 put.2 c.if-last-at.false
    moved.0 c.replace.result moved.1

pub returns-clause-chain : goal.returns-clause-chain
returns-clause-chain g c from place reached =
    let put = c.replace-pair.ensures in let moved = c.replace.ensures in
    Other-chain c.args.pool.now from place c.args.at reached c.last_in-last.result.0 c.last_in-last.ensures.last c.requires.some put.0 c.replace-pair.result c.args.new c.replace-pair.new.self put.1 put.2 c.if-last-at.false
    moved.0 c.replace.result moved.1 c.replace.new.self moved.2
