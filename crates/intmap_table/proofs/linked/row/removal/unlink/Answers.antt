use Rattle.std.proofs.Common.{◌≡◌, ℕ, subst, arith}
use Rattle.intmap_table.specs.Tables.Behind.{IsBehind}
use Rattle.intmap_table.specs.Tables.Nodes.{Node, Held, node_at}
use Rattle.intmap_table.proofs.Nodes.BehindLemmas.{Behind-held, Behind-cut, Behind-cut_first}
use Rattle.intmap_table.proofs.Nodes.PathLemmas.{NodeAt-some}
use Rattle.intmap_table.proofs.Nodes.SlotLemmas.{relinked}
use Rattle.intmap_table.proofs.linked.row.removal.unlink.Goals as goal

-- a node has one link
same_link : {P : Type 0} (x : Node P) (m n : ℕ) (p q : P) → x ≡ Held m p → x ≡ Held n q → m ≡ n
same_link x m n p q is also = cc

pub link-next-requires : goal.link-next-requires
link-next-requires g c = let at = c.requires in NodeAt-some c.args.pool.now.nodes at.0 at.1 c.args.at at.5.reached at.4

pub returns-then-before-ge-NODE_LIMIT-clause-cut : goal.returns-then-before-ge-NODE_LIMIT-clause-cut
returns-then-before-ge-NODE_LIMIT-clause-cut g c l i p is behind =
    let set = c.set_link.ensures in let held = c.link-next.ensures.link in let next = c.link-next.result in
    let out = Behind-cut_first c.args.pool.now l i c.args.before c.args.at next held.0 c.release-pair.result c.release-pair.new.self behind (omega (arith, c.if-before-ge-NODE_LIMIT.true)) held.1 c.release-pair.ensures in (
      next,
      relinked c.args.slot.now c.set_link.new.self l p next set.0 set.1 is set.2 set.3,
      out.0,
      λ n q at. subst (IsBehind c.release-pair.new.self.nodes next i c.args.before) (same_link (node_at c.args.pool.now.nodes c.args.at) next n held.0 q held.1 at) out.1,
    )

pub set_link-requires-2-clause-held : goal.set_link-requires-2-clause-held
set_link-requires-2-clause-held g c =
    let at = c.requires in let held = c.link-next.ensures.link in
    Behind-held c.args.pool.now at.0 at.1 c.args.before c.args.at c.link-next.result held.0 c.release-pair.result c.release-pair.new.self at.5 (omega (arith, c.if-before-ge-NODE_LIMIT.false)) held.1 c.release-pair.ensures

pub returns-clause-cut : goal.returns-clause-cut
returns-clause-cut g c l i p is behind =
    let set = c.set_link-2.ensures in let held = c.link-next.ensures.link in let next = c.link-next.result in
    let out = Behind-cut c.args.pool.now l i c.args.before c.args.at next held.0 c.release-pair.result c.release-pair.new.self set.0 set.1 c.set_link-2.new.self behind (omega (arith, c.if-before-ge-NODE_LIMIT.false)) held.1 c.release-pair.ensures set.2 set.3 in
    (l, is, out.0, λ n q at. subst (IsBehind c.set_link-2.new.self.nodes l i c.args.before) (same_link (node_at c.args.pool.now.nodes c.args.at) next n held.0 q held.1 at) out.1)
