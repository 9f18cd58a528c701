use Rattle.std.proofs.Common.{◌≡◌, false, [], ◌∷◌, ◌++◌, refl, sym, ap, ◌∙◌}
use Rattle.intmap_table.specs.Tables.Keeping.{Says}
use Rattle.intmap_table.specs.Tables.Nodes.{chain_of, row_in, IsSlotSet}
use Rattle.intmap_table.proofs.KeepingLemmas.{Keeps-gone, Keeps-first}
use Rattle.intmap_table.proofs.RetainLemmas.{Retains-append}
use Rattle.intmap_table.proofs.Nodes.RetainedLemmas.{Slot-same, Slot-then, gone_more}
use Rattle.intmap_table.proofs.linked.keep.drop_front.Goals as goal
use Rattle.intmap_table.proofs.linked.keep.drop_front.Goals.{In-Some}

-- the pairs that are left
left : (g : _) (c : In-Some g) → row_in c.loop-bits.pool.nodes c.loop-bits.slot ≡ c.in-Some.field-0-1.now ∷ chain_of c.loop-bits.pool.nodes c.in-Some.link
left g c = ap (row_in c.loop-bits.pool.nodes) c.in-Some.ensures.some

pub loop-bits-init : goal.loop-bits-init
loop-bits-init g c = record {
  gone = ([], refl, (refl, refl));
  slot = Slot-same c.args.pool.now c.args.slot.now c.requires;
  total = refl;
}

pub returns-in_default-clause-front : goal.returns-in_default-clause-front
returns-in_default-clause-front g c = let gone = c.loop-bits.invariant.gone in (gone.0, gone.1)

pub returns-in_default-clause-slot : goal.returns-in_default-clause-slot
returns-in_default-clause-slot g c = c.loop-bits.invariant.slot

pub returns-in_default-clause-pairs : goal.returns-in_default-clause-pairs
returns-in_default-clause-pairs g c = let gone = c.loop-bits.invariant.gone in Keeps-gone _ _ _ gone.0 _ gone.1 gone.2

pub returns-then-next-clause-front : goal.returns-then-next-clause-front
returns-then-next-clause-front g c = let gone = c.loop-bits.invariant.gone in (gone.0, gone.1)

pub returns-then-next-clause-slot : goal.returns-then-next-clause-slot
returns-then-next-clause-slot g c = c.loop-bits.invariant.slot

pub returns-then-next-clause-pairs : goal.returns-then-next-clause-pairs
returns-then-next-clause-pairs g c =
    let gone = c.loop-bits.invariant.gone in let here = left g (goal.at.returns-then-next-clause-pairs g c).In-Some in
    rw here (Keeps-first _ c.loop-bits.bits _ _ gone.0 c.in-Some.field-0-1.now (chain_of c.loop-bits.pool.nodes c.in-Some.link) (rw here at gone.1) gone.2 (rw c.if-next.true at c.next.ensures))

pub loop-bits-preserved : goal.loop-bits-preserved
loop-bits-preserved g c =
    let at = (goal.at.loop-bits-preserved g c).In-Some in
    let loop = c.loop-bits.invariant in let pool = c.loop-bits.pool in let first = c.in-Some.field-0-1.now in
    let out = c.pop_front.ensures.row first in
    let set : IsSlotSet pool c.loop-bits.slot (row_in c.pop_front.new.pool.nodes c.pop_front.new.slot) c.pop_front.new.pool c.pop_front.new.slot = rw (c.in-Some.ensures.some, out.pairs) out in
    let split = loop.gone.1 ∙ ap (λ L. loop.gone.0 ++ L) (left g at ∙ ap (λ L. first ∷ L) (sym out.pairs)) in
    record {
      gone = (
        loop.gone.0 ++ first ∷ [],
        gone_more _ loop.gone.0 first _ split,
        Retains-append Says _ c.loop-bits.bits _ loop.gone.0 (first ∷ []) [] [] loop.gone.2 (false, _, [], rw c.if-next.false at c.next.ensures, (refl, refl), refl),
      );
      slot = Slot-then c.args.pool.now c.args.slot.now loop.gone.0 (row_in pool.nodes c.loop-bits.slot) (row_in c.pop_front.new.pool.nodes c.pop_front.new.slot) pool c.loop-bits.slot c.pop_front.new.pool c.pop_front.new.slot
          loop.gone.1 loop.slot set;
      total = c.pop_front.ensures.total ∙ loop.total;
    }

pub returns-clause-front : goal.returns-clause-front
returns-clause-front g c = let gone = c.loop-bits.invariant.gone in (gone.0, gone.1)

pub returns-clause-slot : goal.returns-clause-slot
returns-clause-slot g c = c.loop-bits.invariant.slot

pub returns-clause-pairs : goal.returns-clause-pairs
returns-clause-pairs g c = let gone = c.loop-bits.invariant.gone in Keeps-gone _ _ _ gone.0 _ gone.1 gone.2
