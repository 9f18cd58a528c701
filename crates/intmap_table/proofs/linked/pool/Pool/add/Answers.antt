use Rattle.std.proofs.Common.{◌≡◌, ◌≢◌, ◌∙◌, sym, ap, arith}
use Rattle.std.proofs.lemmas.List.{length-set}
use Rattle.intmap_table.specs.Tables.Nodes.{Free, Held, node_at}
use Rattle.intmap_table.proofs.Nodes.NodeLemmas.{node_read, node_at-set_same, node_at-set_other, stop_free}
use Rattle.intmap_table.proofs.Nodes.FreeLemmas.{IsFirstFree, Frees-few, Pool-first, Pool-use}
use Rattle.intmap_table.proofs.linked.pool.Pool.add.Goals as goal
use Rattle.intmap_table.proofs.linked.pool.Pool.add.Goals.{In-Some}

module _ (g : _) (c : In-Some g) where
  first : IsFirstFree c.self.inside.nodes.items c.self.inside.free c.self.inside.spare
  first = Pool-first c.self.inside.nodes.items c.self.inside.free c.self.inside.spare c.if-self-eq0.false c.self.invariant

  -- it is the node that was read
  free : node_at c.self.inside.nodes.items c.self.inside.free ≡ Free c.in-Some.next
  free = node_read c.self.inside.nodes.items c.self.inside.free c.index.result.now first.below c.self.invariant.few c.index.ensures ∙ c.in-Some.ensures.some

pub invariant_of-self : goal.invariant_of-self
invariant_of-self g c =
    let at = (goal.at.invariant_of-self g c).In-Some in
    Pool-use c.self.inside.nodes.items c.self.inside.free c.self.inside.spare c.in-Some.next c.fill.new.self c.if-self-eq0.false (free g at) c.self.invariant

pub returns-clause-ok : goal.returns-clause-ok
returns-clause-ok g c =
    let at = (goal.at.returns-clause-ok g c).In-Some in
    let few = Frees-few c.self.inside.nodes.items c.self.inside.free c.self.inside.spare c.self.invariant.few c.self.invariant.frees in
    let e = length-set c.self.inside.nodes.items c.self.inside.free c.fill.new.self in
    let some = c.if-self-eq0.false in
    let limit = c.self.invariant.few in
    let below = (first g at).below in
    rw (← c.self.view_is) (record {
      fresh = stop_free c.self.inside.nodes.items c.self.inside.free c.in-Some.next (free g at);
      is = node_at-set_same c.self.inside.nodes.items c.self.inside.free c.fill.new.self below (omega (arith, below, limit)) ∙ c.fill.ensures;
      others = λ k n q is.
          let apart : k ≢ c.self.inside.free = λ e. (let both : Held n q ≡ Free c.in-Some.next = sym is ∙ ap (node_at c.self.inside.nodes.items) e ∙ free g at in cc) in
          node_at-set_other c.self.inside.nodes.items c.self.inside.free k c.fill.new.self apart ∙ is;
      held = omega (arith, few, e, some);
      total = omega (arith, e);
    })
