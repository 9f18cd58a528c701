use Rattle.std.proofs.Common.{sym, ◌∙◌}
use Rattle.intmap_table.specs.Classes.{same_key}
use Rattle.intmap_table.specs.Tables.Nodes.{chain_of}
use Rattle.intmap_table.proofs.Nodes.FoundLemmas.{Found-some, Found-number, Found-value}
use Rattle.intmap_table.proofs.PositionLemmas.{first_value-none}
use Rattle.intmap_table.proofs.linked.row.pair_of.Goals as goal

pub returns-in_default-search-clause-value : goal.returns-in_default-search-clause-value
returns-in_default-search-clause-value g c =
    rw (c.in-Some.ensures.some, sym c.matches.ensures.same ∙ c.if-matches.false)
    (sym (first_value-none (same_key g.K.IntKey.number_of c.args.key.now) (chain_of c.args.pool.now.nodes c.in-Some.link) c.in_default-search.ensures.missing))

pub pair-requires : goal.pair-requires
pair-requires g c =
    let found = c.in-Ok.ensures in
    Found-some g.K.IntKey.number_of c.args.pool.now.nodes c.in-Some.link c.in-Ok.spot.place c.in-Ok.spot.at c.args.key.now found.found.reached found.place

pub returns-clause-key : goal.returns-clause-key
returns-clause-key g c =
    let found = c.in-Ok.ensures in
    Found-number g.K.IntKey.number_of c.args.pool.now.nodes c.in-Some.link c.in-Ok.spot.place c.in-Ok.spot.at c.args.key.now found.found.reached found.place c.pair.ensures.0 c.pair.result.now c.pair.ensures.1

pub returns-clause-value : goal.returns-clause-value
returns-clause-value g c =
    let found = c.in-Ok.ensures in
    rw (c.in-Some.ensures.some, sym c.matches.ensures.same ∙ c.if-matches.false)
    (sym (Found-value g.K.IntKey.number_of c.args.pool.now.nodes c.in-Some.link c.in-Ok.spot.place c.in-Ok.spot.at c.args.key.now found.found.reached found.place c.pair.ensures.0 c.pair.result.now c.pair.ensures.1))
