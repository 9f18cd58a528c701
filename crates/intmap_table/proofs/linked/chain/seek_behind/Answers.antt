use Rattle.std.proofs.Common.{◌≡◌, ◌+◌, ◌-◌, sym, subst, arith}
use Rattle.intmap_table.specs.Tables.Behind.{IsBehind}
use Rattle.intmap_table.specs.Tables.Nodes.{nowhere}
use Rattle.intmap_table.proofs.Nodes.BehindLemmas.{Behind-start, Behind-next}
use Rattle.intmap_table.proofs.Nodes.PathLemmas.{NodeAt-some}
use Rattle.intmap_table.proofs.linked.chain.seek_behind.Goals as goal

pub returns-then-place-eq0 : goal.returns-then-place-eq0
returns-then-place-eq0 g c = subst (λ i. IsBehind c.args.pool.now.nodes c.args.from i nowhere c.args.from) (sym c.if-place-eq0.true) (Behind-start c.args.pool.now.nodes c.args.from c.requires.leads)

pub link-requires : goal.link-requires
link-requires g c =
    NodeAt-some c.args.pool.now.nodes c.args.from (c.args.place - 1) c.seek-before.result c.seek-before.ensures (let within = c.requires.within in let some = c.if-place-eq0.false in omega (arith, within, some))

pub returns : goal.returns
returns g c =
    let e : c.args.place - 1 + 1 ≡ c.args.place = omega (arith, c.if-place-eq0.false) in
    subst (λ i. IsBehind c.args.pool.now.nodes c.args.from i c.seek-before.result c.link.result) e
    (Behind-next c.args.pool.now.nodes c.args.from (c.args.place - 1) c.seek-before.result c.link.result c.link.ensures.link.0 c.seek-before.ensures c.link.ensures.link.1)
