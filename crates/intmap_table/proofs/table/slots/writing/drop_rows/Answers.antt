use Rattle.std.proofs.Common.{◌∷◌, ◌∙◌, length, length-set, refl, sym, subst, arith}
use Rattle.intmap_table.specs.Classes.{slot_number}
use Rattle.intmap_table.specs.Tables.Nodes.{AreLinked}
use Rattle.intmap_table.proofs.Nodes.DroppedLemmas.{AreDropped, AreDropped-start, AreDropped-below, AreDropped-chain, AreDropped-next}
use Rattle.intmap_table.proofs.table.slots.writing.drop_rows.Goals as goal
use Rattle.intmap_table.proofs.table.slots.writing.drop_rows.Goals.{In-Some}

pub loop-index-init : goal.loop-index-init
loop-index-init g c =
    rw (c.into_iter-index-iterator.ensures.into_iter_gives ∙ c.iter-index-items.ensures) (record {
      dropped = AreDropped-start (λ p. slot_number g.K.IntKey.number_of p.0 (length c.args.slots.now.items)) c.args.slots.now.items c.args.pool.now c.args.bits.now c.requires.linked c.requires.marks;
      len = refl;
      total = omega arith;
    })

module _ (g : _) (c : In-Some g) where
  -- the index of the slot that is emptied is the first one that is left
  left : AreDropped (λ p. slot_number g.K.IntKey.number_of p.0 (length c.args.slots.now.items)) c.loop-index.slots.items c.loop-index.pool (c.in-Some.index ∷ c.next.new.self)
  left = rw c.in-Some.ensures.steps at c.loop-index.invariant.dropped

pub index_mut-requires : goal.index_mut-requires
index_mut-requires g c =
    let below = AreDropped-below (λ p. slot_number g.K.IntKey.number_of p.0 (length c.args.slots.now.items)) c.loop-index.slots.items c.loop-index.pool c.in-Some.index c.next.new.self
    (left g (goal.at.index_mut-requires g c).In-Some) in
    omega (arith, below)

pub drop_row-requires : goal.drop_row-requires
drop_row-requires g c =
    AreDropped-chain (λ p. slot_number g.K.IntKey.number_of p.0 (length c.args.slots.now.items)) c.loop-index.slots.items c.loop-index.pool c.in-Some.index c.next.new.self c.index_mut.result.now
    (left g (goal.at.drop_row-requires g c).In-Some) c.index_mut.ensures.value

pub loop-index-preserved : goal.loop-index-preserved
loop-index-preserved g c = record {
  dropped = AreDropped-next (λ p. slot_number g.K.IntKey.number_of p.0 (length c.args.slots.now.items)) c.loop-index.slots.items c.loop-index.pool c.in-Some.index c.next.new.self c.index_mut.result.now
      (left g (goal.at.loop-index-preserved g c).In-Some) c.index_mut.ensures.value c.drop_row.new.pool c.drop_row.new.slot c.drop_row.ensures.row;
  len = length-set c.loop-index.slots.items c.in-Some.index c.drop_row.new.slot ∙ c.loop-index.invariant.len;
  total = omega (arith, c.loop-index.invariant.total, c.drop_row.ensures.total);
}

pub returns-clause-linked : goal.returns-clause-linked
returns-clause-linked g c =
    subst (λ C. AreLinked (λ p. slot_number g.K.IntKey.number_of p.0 C) c.loop-index.slots.items c.loop-index.pool) (sym c.loop-index.invariant.len) c.loop-index.invariant.dropped.linked

pub returns-clause-len : goal.returns-clause-len
returns-clause-len g c = c.loop-index.invariant.len

pub returns-clause-empty : goal.returns-clause-empty
returns-clause-empty g c = let dropped = rw c.in-None.ensures.steps.0 at c.loop-index.invariant.dropped in λ i. dropped.empty i refl

pub returns-clause-total : goal.returns-clause-total
returns-clause-total g c = c.loop-index.invariant.total
