use Rattle.std.proofs.Common.{Some, length, get_or, refl, sym, ap, ◌∙◌, subst, arith}
use mathlib.Core.Logic.{inl, inr}
use mathlib.Core.Path.{fun_ext}
use Rattle.intmap_table.specs.Tables.Nodes.{Held, rows_in}
use Rattle.intmap_table.proofs.Nodes.FoundLemmas.{Found-some}
use Rattle.intmap_table.proofs.Nodes.LentLemmas.{same_contents, Lent-first, Lent-first_value}
use Rattle.intmap_table.proofs.Nodes.LinkedLemmas.{IsRow, Row-of}
use Rattle.intmap_table.proofs.Nodes.SoughtLemmas.{Sought-reached, Sought-first, Sought-in_slot, Sought-behind, Sought-absent, Sought-value, Sought-in_node}
use Rattle.intmap_table.proofs.table.slots.writing.Slots+K+Kept+V+A.value_mut_of.Goals as goal
use Rattle.intmap_table.proofs.table.slots.writing.Slots+K+Kept+V+A.value_mut_of.Goals.{In-Some}

-- the slot has the first pair that was read
row : (g : _) (c : In-Some g) → IsRow g.K.IntKey.number_of c.self.inside.slots.items c.self.inside.pool (rows_in c.self.inside.slots.items c.self.inside.pool.nodes) c.args.index (Held c.in-Some.link c.in-Some.first.now)
row g c =
    let slots = c.self.inside.slots.items in
    let pool = c.self.inside.pool in
    subst (λ s. IsRow g.K.IntKey.number_of slots pool (rows_in slots pool.nodes) c.args.index s) c.in-Some.ensures.some
    (Row-of g.K.IntKey.number_of slots pool c.self.inside.bits c.self.inside.mask c.args.index c.index.result.now c.self.invariant (rw (← c.self.view_is) at c.requires) c.index.ensures)

pub value_mut-requires : goal.value_mut-requires
value_mut-requires g c =
    let len = ap length (row g (goal.at.value_mut-requires g c).In-Some).is in
    Lent-first g.K.IntKey.number_of c.self.inside.slots.items c.self.inside.pool c.self.inside.bits c.self.inside.mask c.args.index 0 c.index_mut.result.now c.self.invariant c.index_mut.ensures.value (omega (arith, len))

pub invariant_of-self-lent : goal.invariant_of-self-lent
invariant_of-self-lent g c w =
    (Sought-in_slot g.K.IntKey.number_of c.self.inside.slots.items c.self.inside.pool c.self.inside.bits c.self.inside.mask c.args.index c.in-Some.link c.in-Some.first.now c.args.key.now c.self.invariant
    (row g (goal.at.invariant_of-self-lent g c).In-Some) (sym c.matches.ensures.same ∙ c.if-matches.true) c.index_mut.result.now c.index_mut.ensures.value w).are

pub returns-then-matches : goal.returns-then-matches
returns-then-matches g c =
    let number = g.K.IntKey.number_of in let slots = c.self.inside.slots.items in let pool = c.self.inside.pool in let bits = c.self.inside.bits in let mask = c.self.inside.mask in
    let i = c.args.index in let l = c.in-Some.link in let first = c.in-Some.first.now in let k = c.args.key.now in let are = c.self.invariant in
    let row = row g (goal.at.returns-then-matches g c).In-Some in
    let same = sym c.matches.ensures.same ∙ c.if-matches.true in
    let reached = Sought-reached number slots pool bits mask i l first k are row same in
    let read = Lent-first_value number slots pool bits mask i 0 c.index_mut.result.now are c.index_mut.ensures.value (let len = ap length row.is in omega (arith, len)) c.value_mut.result.now refl c.value_mut.ensures.value first in (
      ap (λ f. inl (c.get_mut.result.ghost_name, f)) (fun_ext (λ w. rw (← c.self.view_is) (same_contents _ _ pool.total (Sought-in_slot number slots pool bits mask i l first k are row same c.index_mut.result.now c.index_mut.ensures.value w).rows))),
      record {
        writes_back = tt;
        value = rw (← c.self.view_is) (ap Some (c.get_mut.ensures.value ∙ read ∙ ap (λ ps. (get_or ps 0 first).1) (sym row.is)) ∙ sym (Sought-first number slots pool bits mask i l first k are row same));
        counted = rw (← c.self.view_is) (omega (arith, c.matches.ensures.counted, reached));
      },
    )

pub search-requires : goal.search-requires
search-requires g c = (row g (goal.at.search-requires g c).In-Some).chain

pub returns-in_default-search : goal.returns-in_default-search
returns-in_default-search g c =
    let number = g.K.IntKey.number_of in let slots = c.self.inside.slots.items in let pool = c.self.inside.pool in let bits = c.self.inside.bits in let mask = c.self.inside.mask in
    let i = c.args.index in let l = c.in-Some.link in let first = c.in-Some.first.now in let k = c.args.key.now in let are = c.self.invariant in
    let row = row g (goal.at.returns-in_default-search g c).In-Some in
    let differs = sym c.matches.ensures.same ∙ c.if-matches.false in
    let behind = Sought-behind number slots pool bits mask i l first k are row differs in (
      ap (λ m. inr m) c.self.view_is,
      record {
        writes_back = tt;
        value = rw (← c.self.view_is) (sym (Sought-absent number slots pool bits mask i l first k are row differs c.in_default-search.ensures.missing));
        counted = rw (← c.self.view_is) (omega (arith, c.matches.ensures.counted, c.search.ensures.counted, behind));
      },
    )

pub value_mut-requires-2 : goal.value_mut-requires-2
value_mut-requires-2 g c =
    let found = c.in-Ok.ensures in
    Found-some g.K.IntKey.number_of c.self.inside.pool.nodes c.in-Some.link c.in-Ok.spot.place c.in-Ok.spot.at c.args.key.now found.found.reached found.place

pub invariant_of-self-lent-2 : goal.invariant_of-self-lent-2
invariant_of-self-lent-2 g c w =
    let found = c.in-Ok.ensures in
    (Sought-in_node g.K.IntKey.number_of c.self.inside.slots.items c.self.inside.pool c.self.inside.bits c.self.inside.mask c.args.index c.in-Some.link c.in-Some.first.now c.args.key.now c.self.invariant
    (row g (goal.at.invariant_of-self-lent-2 g c).In-Some) (sym c.matches.ensures.same ∙ c.if-matches.false) c.in-Ok.spot.place c.in-Ok.spot.at found.found.reached found.place w).are

pub returns : goal.returns
returns g c =
    let number = g.K.IntKey.number_of in let slots = c.self.inside.slots.items in let pool = c.self.inside.pool in let bits = c.self.inside.bits in let mask = c.self.inside.mask in
    let i = c.args.index in let l = c.in-Some.link in let first = c.in-Some.first.now in let k = c.args.key.now in let are = c.self.invariant in
    let row = row g (goal.at.returns g c).In-Some in
    let differs = sym c.matches.ensures.same ∙ c.if-matches.false in
    let behind = Sought-behind number slots pool bits mask i l first k are row differs in
    let found = c.in-Ok.ensures in
    let held = c.value_mut-2.ensures.value in (
      ap (λ f. inl (c.get_mut-2.result.ghost_name, f)) (fun_ext (λ w. rw (← c.self.view_is) (same_contents _ _ pool.total (Sought-in_node number slots pool bits mask i l first k are row differs c.in-Ok.spot.place c.in-Ok.spot.at found.found.reached found.place w).rows))),
      record {
        writes_back = tt;
        value = rw (← c.self.view_is) (ap Some (c.get_mut-2.ensures.value ∙ held.3) ∙ sym (Sought-value number slots pool bits mask i l first k are row differs c.in-Ok.spot.place c.in-Ok.spot.at found.found.reached found.place held.0 held.1 held.2));
        counted = rw (← c.self.view_is) (omega (arith, c.matches.ensures.counted, c.search.ensures.counted, behind));
      },
    )
