use Rattle.std.proofs.Common.{◌≡◌, ◌<◌, ◌∙◌, [], length, get_or, sym, ap, subst}
use Rattle.std.specs.Prelude.{set}
use Rattle.intmap_table.specs.Tables.Nodes.{rows_in, row_in}
use Rattle.intmap_table.specs.Writes.{Writes, WritesAt}
use Rattle.intmap_table.proofs.Tables.FilledLemmas.{row-within}
use Rattle.intmap_table.proofs.Tables.SameKeysLemmas.{length-same_keys}
use Rattle.intmap_table.proofs.WritesLemmas.{keys_of-Writes}
use Rattle.intmap_table.proofs.Nodes.LinkedLemmas.{HaveRows, IsRow, Row-of, Row-kept}
use Rattle.intmap_table.proofs.Nodes.HomeLemmas.{Home-written}
use Rattle.intmap_table.proofs.table.slots.closures.Slots+K+Kept+V+A.write_at.Goals as goal
use Rattle.intmap_table.proofs.table.slots.closures.Slots+K+Kept+V+A.write_at.Goals.{After-index_mut, After-write_each}

module _ (g : _) (c : After-index_mut g) where
  row : IsRow g.K.IntKey.number_of c.self.inside.slots.items c.self.inside.pool (rows_in c.self.inside.slots.items c.self.inside.pool.nodes) c.args.index c.index_mut.result.now
  row =
      let some = rw (← c.self.view_is) at c.requires.filled in
      Row-of g.K.IntKey.number_of c.self.inside.slots.items c.self.inside.pool c.self.inside.bits c.self.inside.mask c.args.index c.index_mut.result.now c.self.invariant (row-within (rows_in c.self.inside.slots.items c.self.inside.pool.nodes) c.args.index some) c.index_mut.ensures.value

pub write_each-requires-clause-leads : goal.write_each-requires-clause-leads
write_each-requires-clause-leads g c = (row g (goal.at.write_each-requires-clause-leads g c).After-index_mut).chain

-- the slots with the values that the closure wrote
done : (g : _) (c : After-write_each g) → IsRow g.K.IntKey.number_of c.self.inside.slots.items c.self.inside.pool (rows_in c.self.inside.slots.items c.self.inside.pool.nodes) c.args.index c.index_mut.result.now
    → HaveRows g.K.IntKey.number_of (set c.self.inside.slots.items c.args.index c.write_each.new.slot) c.write_each.new.pool c.self.inside.bits c.self.inside.mask (set (rows_in c.self.inside.slots.items c.self.inside.pool.nodes) c.args.index c.write_each.ensures.row.0)
done g c r =
    let some = rw (← c.self.view_is) at c.requires.filled in
    let run = c.write_each.ensures.row.2 in let written = c.write_each.ensures.row.0 in
    let len : length (get_or (rows_in c.self.inside.slots.items c.self.inside.pool.nodes) c.args.index []) ≡ length written =
    ap length (sym r.is) ∙ sym (length-same_keys written (row_in c.self.inside.pool.nodes c.index_mut.result.now) (keys_of-Writes (WritesAt g.F.FnMut) _ _ _ _ run)) in
    Row-kept g.K.IntKey.number_of c.self.inside.slots.items c.self.inside.pool c.self.inside.bits c.self.inside.mask c.args.index c.index_mut.result.now (λ ps. written) c.write_each.new.pool c.write_each.new.slot c.self.invariant r c.write_each.ensures.row.1
    (Home-written g.K.IntKey.number_of (length c.self.inside.slots.items) c.args.index (WritesAt g.F.FnMut) c.args.f.now (row_in c.self.inside.pool.nodes c.index_mut.result.now) written c.write_each.new.f run r.own) some (subst (λ n. 0 < n) len some)

pub invariant_of-self : goal.invariant_of-self
invariant_of-self g c = (done g (goal.at.invariant_of-self g c).After-write_each (row g (goal.at.invariant_of-self g c).After-index_mut)).are

pub returns-clause-row : goal.returns-clause-row
returns-clause-row g c =
    let r = row g (goal.at.returns-clause-row g c).After-index_mut in
    let run = subst (λ ps. Writes (WritesAt g.F.FnMut) c.args.f.now ps c.write_each.ensures.row.0 c.write_each.new.f) r.is c.write_each.ensures.row.2 in
    rw (← c.self.view_is) (c.write_each.ensures.row.0, (done g (goal.at.returns-clause-row g c).After-write_each r).rows, run)
