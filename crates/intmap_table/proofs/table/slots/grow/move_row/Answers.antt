use Rattle.std.proofs.Common.{◌⊎◌, ℕ, ◌≡◌, ◌+◌, ◌<◌, ◌≤◌, [], ◌∷◌, length, ap, sym, ◌∙◌, subst, arith}
use Rattle.std.specs.Prelude.{get_or, reverse, set}
use Rattle.std.proofs.lemmas.List.{get_or_default}
use Rattle.intmap_table.specs.Classes.{slot_number}
use Rattle.intmap_table.specs.declared.linked.row.growth.Order.TheVariants as orders
use Rattle.intmap_table.specs.Tables.Growing.{blank, put_in}
use Rattle.intmap_table.specs.Tables.Nodes.{Held, empty, freed, chain_of, row_in, rows_in, AreHome}
use Rattle.intmap_table.proofs.Nodes.ChainLemmas.{Cut-chain}
use Rattle.intmap_table.proofs.Nodes.GrowingLemmas.{part-outside, home-reverse, Chain-head, Taken-start, Taken-next, Moving-start, Moving-next, Moving-end, IsReached, HasPut, HasTaken, Growing-reached, Growing-put, Growing-taken, length-put_in}
use Rattle.intmap_table.proofs.Nodes.PathLemmas.{Chain-next, Chain-first, Chain-some, Chain-beyond}
use Rattle.std.proofs.lemmas.List.{length-reverse, reverse-reverse}
use Rattle.intmap_table.proofs.Nodes.SlotLemmas.{first_was}
use Rattle.intmap_table.proofs.table.slots.grow.move_row.Goals as goal
use Rattle.intmap_table.proofs.table.slots.grow.move_row.Goals.{In-Some, After-index_mut, After-take-first, After-moved_index_of-target}

-- the slot has a link and a first pair
slot_is : (g : _) (c : In-Some g) → get_or c.args.slots.now.items c.args.index empty ≡ Held c.in-Some.link c.in-Some.first.now
slot_is g c = sym (c.index.ensures ∙ get_or_default c.args.slots.now.items c.args.index c.index.result.now empty c.requires.within) ∙ c.in-Some.ensures.some

-- also when it is read again
again_is : (g : _) (c : After-index_mut g) → get_or c.args.slots.now.items c.args.index empty ≡ Held c.in-Some.link c.in-Some.first.now → c.index_mut.result.now ≡ Held c.in-Some.link c.in-Some.first.now
again_is g c is = c.index_mut.ensures.value ∙ get_or_default c.args.slots.now.items c.args.index c.index_mut.result.now empty c.requires.within ∙ is

module _ (g : _) (c : After-take-first g) (is : get_or c.args.slots.now.items c.args.index empty ≡ Held c.in-Some.link c.in-Some.first.now) where
  -- the slot is empty then
  taken : HasTaken g.K.IntKey.number_of c.args.index (c.args.old_mask + 1) c.args.mask c.args.slots.now.items c.args.pool.now c.args.bits.now (set c.args.slots.now.items c.args.index c.take-first.new.self)
  taken =
      let old = c.requires.old in
      Growing-taken g.K.IntKey.number_of c.args.index (c.args.old_mask + 1) c.args.mask c.args.slots.now.items c.args.pool.now c.args.bits.now c.take-first.new.self c.requires.are (omega (arith, old)) c.requires.within (ap freed is) c.take-first.ensures.node

  out : (c.moved_index_of-first_target.result < c.args.index + 1) ⊎ (c.args.old_mask + 1 ≤ c.moved_index_of-first_target.result)
  out = part-outside (c.args.old_mask + 1) c.args.index c.moved_index_of-first_target.result c.moved_index_of-first_target.ensures.part

  reached : IsReached g.K.IntKey.number_of (set c.args.slots.now.items c.args.index c.take-first.new.self) c.args.pool.now c.args.bits.now (rows_in (blank (c.args.index + 1) (c.args.old_mask + 1) (set c.args.slots.now.items c.args.index c.take-first.new.self)) c.args.pool.now.nodes) c.moved_index_of-first_target.result
  reached =
      Growing-reached g.K.IntKey.number_of (c.args.index + 1) (c.args.old_mask + 1) (set c.args.slots.now.items c.args.index c.take-first.new.self) c.args.pool.now c.args.bits.now c.args.mask c.moved_index_of-first_target.result taken.are out c.moved_index_of-first_target.ensures.within

  -- the first pair goes to a slot without one
  none : row_in c.args.pool.now.nodes (get_or (set c.args.slots.now.items c.args.index c.take-first.new.self) c.moved_index_of-first_target.result empty) ≡ []
  none = reached.row ∙ ap (λ R. get_or R c.moved_index_of-first_target.result []) taken.rows ∙ c.requires.free c.moved_index_of-first_target.result c.moved_index_of-first_target.ensures.part

  first_is : c.index_mut.result.now ≡ Held c.in-Some.link c.in-Some.first.now → c.take-first.result.1 ≡ c.in-Some.first.now
  first_is again = first_was c.index_mut.result.now c.in-Some.link c.in-Some.first.now c.take-first.result.1 c.take-first.result.0 again c.take-first.ensures.value

  own : c.take-first.result.1 ≡ c.in-Some.first.now → slot_number g.K.IntKey.number_of c.take-first.result.1.0 (c.args.mask + 1) ≡ c.moved_index_of-first_target.result
  own first = ap (λ k. slot_number g.K.IntKey.number_of k (c.args.mask + 1)) (ap (λ p. p.0) first) ∙ c.moved_index_of-first_target.ensures.slot

pub take-first-requires : goal.take-first-requires
take-first-requires g c =
    let at = goal.at.take-first-requires g c in
    (c.in-Some.link, c.in-Some.first.now, again_is g at.After-index_mut (slot_is g at.In-Some))

pub put_at-requires-clause-within : goal.put_at-requires-clause-within
put_at-requires-clause-within g c = let at = goal.at.put_at-requires-clause-within g c in (reached g at.After-take-first (slot_is g at.In-Some)).within

pub put_at-requires-clause-leads : goal.put_at-requires-clause-leads
put_at-requires-clause-leads g c = let at = goal.at.put_at-requires-clause-leads g c in (reached g at.After-take-first (slot_is g at.In-Some)).leads

pub put_at-requires-clause-ready : goal.put_at-requires-clause-ready
put_at-requires-clause-ready g c =
    let at = goal.at.put_at-requires-clause-ready g c in
    let e = ap length (none g at.After-take-first (slot_is g at.In-Some)) in
    λ some. absurd (omega (arith, e, some))

pub loop-rest-init : goal.loop-rest-init
loop-rest-init g c =
    let at = goal.at.loop-rest-init g c in
    let number = g.K.IntKey.number_of in
    let a = c.args.old_pool.now in let pool = c.args.pool.now in
    let S = c.args.slots.now.items in let C = c.args.old_mask + 1 in let D = c.args.mask + 1 in
    let i = c.args.index in let j = c.moved_index_of-first_target.result in
    let p = c.take-first.result.1 in let left = chain_of a.nodes c.in-Some.link in
    let T = set S i c.take-first.new.self in
    let is = slot_is g at.In-Some in
    let first = first_is g at.After-take-first is (again_is g at.After-index_mut is) in
    let t = taken g at.After-take-first is in
    let mine = own g at.After-take-first is first in
    let row : row_in a.nodes (get_or S i empty) ≡ p ∷ left = ap (row_in a.nodes) is ∙ ap (λ q. q ∷ left) (sym first) in
    let put : HasPut number (i + 1) C c.args.mask T pool j orders.First p c.put_at.new.slots.items c.put_at.new.pool c.put_at.new.bits =
    Growing-put number (i + 1) C T pool c.args.bits.now c.args.mask j t.are (out g at.After-take-first is) c.moved_index_of-first_target.ensures.within orders.First p c.put_at.new.slots.items c.put_at.new.pool c.put_at.new.bits mine
    c.put_at.ensures.row c.put_at.ensures.bits in
    let b = c.turn.new.pool in let m = c.turn.result in
    let home : g.row.K.Denot × g.row.X.Denot → ℕ = λ q. slot_number number q.0 C in
    let turned : chain_of b.nodes m ≡ reverse left = c.turn.ensures.chain.pairs in
    let few = ap length turned ∙ length-reverse left in
    let n = ap length row in
    let alone = ap length (none g at.After-take-first is) in
    let used = c.put_at.ensures.row.2.held in
    let long = length-put_in orders.First (row_in pool.nodes (get_or T j empty)) p in
    let more = c.put_at.ensures.total in
    let room = c.requires.room in
    let counted = c.put_at.ensures.counted in
    record {
      taken = Taken-start a (row_in a.nodes (get_or S i empty)) c.in-Some.link p b m row c.turn.ensures.chain;
      own = subst (λ ps. AreHome home i ps) (sym turned) (home-reverse home i left (let all : AreHome home i (p ∷ left) = subst (λ ps. AreHome home i ps) row c.requires.own in all.1));
      are = put.are;
      moving = Moving-start number D (row_in a.nodes (get_or S i empty)) j (chain_of b.nodes m) (rows_in (blank i C S) pool.nodes) (rows_in (blank (i + 1) C c.put_at.new.slots.items) c.put_at.new.pool.nodes) p
          (row ∙ ap (λ ps. p ∷ ps) (sym (ap reverse turned ∙ reverse-reverse left))) mine (c.requires.free j c.moved_index_of-first_target.ensures.part)
          (put.rows ∙ ap (λ R. set R j (put_in orders.First (get_or R j []) p)) t.rows);
      len = put.len ∙ t.len;
      left = λ k up lt. put.left k up lt ∙ t.left k up lt;
      ready = omega (arith, n, few, alone, used, long, more, room);
      held = omega (arith, n, few, alone, used, long);
      total = more;
      counted = omega (arith, n, few, counted);
    }

pub pair-next-requires : goal.pair-next-requires
pair-next-requires g c =
    let cs = c.loop-rest.old_pool.nodes in let l = c.loop-rest.rest in
    let is = c.loop-rest.invariant.taken.is in
    Chain-first cs l is (Chain-some cs l is (omega (arith, c.loop-rest-test.true)))

pub moved_index_of-target-requires-clause-own : goal.moved_index_of-target-requires-clause-own
moved_index_of-target-requires-clause-own g c =
    let number = g.K.IntKey.number_of in
    let C = c.args.old_mask + 1 in
    let cs = c.loop-rest.old_pool.nodes in let l = c.loop-rest.rest in
    let home : g.row.K.Denot × g.row.X.Denot → ℕ = λ p. slot_number number p.0 C in
    let next = Chain-next cs l c.pair-next.ensures.0 c.pair-next.result.now c.loop-rest.invariant.taken.is c.pair-next.ensures.1 in
    let here : AreHome home c.args.index (c.pair-next.result.now ∷ chain_of cs c.pair-next.ensures.0) = subst (λ ps. AreHome home c.args.index ps) next.pairs c.loop-rest.invariant.own in
    here.0

module _ (g : _) (c : After-moved_index_of-target g) where
  out_next : (c.moved_index_of-target.result < c.args.index + 1) ⊎ (c.args.old_mask + 1 ≤ c.moved_index_of-target.result)
  out_next = part-outside (c.args.old_mask + 1) c.args.index c.moved_index_of-target.result c.moved_index_of-target.ensures.part

  reached_next : IsReached g.K.IntKey.number_of c.loop-rest.slots.items c.loop-rest.pool c.loop-rest.bits (rows_in (blank (c.args.index + 1) (c.args.old_mask + 1) c.loop-rest.slots.items) c.loop-rest.pool.nodes) c.moved_index_of-target.result
  reached_next =
      Growing-reached g.K.IntKey.number_of (c.args.index + 1) (c.args.old_mask + 1) c.loop-rest.slots.items c.loop-rest.pool c.loop-rest.bits c.args.mask c.moved_index_of-target.result c.loop-rest.invariant.are out_next
      c.moved_index_of-target.ensures.within

pub put_at-requires-in-loop-rest-clause-within : goal.put_at-requires-in-loop-rest-clause-within
put_at-requires-in-loop-rest-clause-within g c = (reached_next g (goal.at.put_at-requires-in-loop-rest-clause-within g c).After-moved_index_of-target).within

pub put_at-requires-in-loop-rest-clause-leads : goal.put_at-requires-in-loop-rest-clause-leads
put_at-requires-in-loop-rest-clause-leads g c = (reached_next g (goal.at.put_at-requires-in-loop-rest-clause-leads g c).After-moved_index_of-target).leads

pub loop-rest-preserved : goal.loop-rest-preserved
loop-rest-preserved g c =
    let at = (goal.at.loop-rest-preserved g c).After-moved_index_of-target in
    let number = g.K.IntKey.number_of in
    let a = c.args.old_pool.now in let C = c.args.old_mask + 1 in let D = c.args.mask + 1 in
    let S = c.args.slots.now.items in let i = c.args.index in
    let j = c.moved_index_of-target.result in let j0 = c.moved_index_of-first_target.result in
    let loop = c.loop-rest.invariant in
    let p = c.pop_front-pair.result in
    let cut = c.pop_front-pair.ensures.cut in
    let b = c.loop-rest.old_pool in let l = c.loop-rest.rest in
    let d = c.pop_front-pair.new.pool in let m = c.pop_front-pair.new.link in
    let chain : chain_of b.nodes l ≡ p ∷ chain_of d.nodes m = Cut-chain b l p d m cut in
    let pair : c.pair-next.result.now ≡ p = Chain-head b.nodes l c.pair-next.ensures.0 c.pair-next.result.now p (chain_of d.nodes m) loop.taken.is c.pair-next.ensures.1 chain in
    let mine : slot_number number p.0 D ≡ j = ap (λ k. slot_number number k D) (ap (λ q. q.0) (sym pair)) ∙ c.moved_index_of-target.ensures.slot in
    let T = c.put_at-in-loop-rest.new.slots.items in let pool = c.put_at-in-loop-rest.new.pool in
    let put : HasPut number (i + 1) C c.args.mask c.loop-rest.slots.items c.loop-rest.pool j c.further_order-order.result p T pool c.put_at-in-loop-rest.new.bits =
    Growing-put number (i + 1) C c.loop-rest.slots.items c.loop-rest.pool c.loop-rest.bits c.args.mask j loop.are (out_next g at) c.moved_index_of-target.ensures.within c.further_order-order.result p T pool c.put_at-in-loop-rest.new.bits mine
    c.put_at-in-loop-rest.ensures.row c.put_at-in-loop-rest.ensures.bits in
    let n = ap length chain in
    let used = c.put_at-in-loop-rest.ensures.row.2.held in
    let long = length-put_in c.further_order-order.result (row_in c.loop-rest.pool.nodes (get_or c.loop-rest.slots.items j empty)) p in
    let more = c.put_at-in-loop-rest.ensures.total in
    let ready = loop.ready in let held = loop.held in let total = loop.total in let before = loop.counted in
    let counted = c.put_at-in-loop-rest.ensures.counted in
    record {
      taken = Taken-next a (row_in a.nodes (get_or S i empty)) b l p d m loop.taken cut;
      own = (let all : AreHome (λ q. slot_number number q.0 C) i (p ∷ chain_of d.nodes m) = subst (λ ps. AreHome (λ q. slot_number number q.0 C) i ps) chain loop.own in all.1);
      are = put.are;
      moving = Moving-next number D (row_in a.nodes (get_or S i empty)) j0 (chain_of b.nodes l) (rows_in (blank i C S) c.args.pool.now.nodes) (rows_in (blank (i + 1) C c.loop-rest.slots.items) c.loop-rest.pool.nodes) p (chain_of d.nodes m) j c.further_order-order.result
          (rows_in (blank (i + 1) C T) pool.nodes) loop.moving chain mine c.further_order-order.ensures (c.requires.free j c.moved_index_of-target.ensures.part) put.rows;
      len = put.len ∙ loop.len;
      left = λ k up lt. put.left k up lt ∙ loop.left k up lt;
      ready = omega (arith, n, used, long, more, ready);
      held = omega (arith, n, used, long, held);
      total = omega (arith, total, more);
      counted = omega (arith, n, counted, before);
    }

pub returns-clause-placed : goal.returns-clause-placed
returns-clause-placed g c =
    let loop = c.loop-rest in
    let none = Chain-beyond loop.old_pool.nodes loop.rest loop.invariant.taken.is (omega (arith, c.loop-rest-test.false)) in
    Moving-end g.K.IntKey.number_of (c.args.mask + 1) (row_in c.args.old_pool.now.nodes (get_or c.args.slots.now.items c.args.index empty)) c.moved_index_of-first_target.result (chain_of loop.old_pool.nodes loop.rest)
    (rows_in (blank c.args.index (c.args.old_mask + 1) c.args.slots.now.items) c.args.pool.now.nodes) (rows_in (blank (c.args.index + 1) (c.args.old_mask + 1) loop.slots.items) loop.pool.nodes) loop.invariant.moving none

pub returns-clause-spares : goal.returns-clause-spares
returns-clause-spares g c = c.loop-rest.invariant.taken.spares

pub returns-clause-counted : goal.returns-clause-counted
returns-clause-counted g c =
    let loop = c.loop-rest in
    let none = ap length (Chain-beyond loop.old_pool.nodes loop.rest loop.invariant.taken.is (omega (arith, c.loop-rest-test.false))) in
    let counted = loop.invariant.counted in
    omega (arith, none, counted)
