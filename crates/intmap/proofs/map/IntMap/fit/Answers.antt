use Rattle.std.proofs.Common.{◌≡◌, ◌≤◌, ◌+◌, length, cond, ap, sym, ◌∙◌, arith, refl}
use Rattle.std.specs.Prelude.{◌==◌}
use Rattle.std.proofs.Math.Nat.{le-max_left, le-max_right, max-le}
use Rattle.intmap.proofs.ReservedLemmas.{still-below}
use Rattle.intmap_table.specs.Walk.{walk_of}
use Rattle.intmap.specs.Growth.{IsWanted, NeedsTooMuch}
use Rattle.intmap.proofs.GrowthLemmas.{IsWanted-unique}
use Rattle.intmap.proofs.LoadFactorLemmas.{not_needed, IsLoaded-from, IsWanted-same, MeetsLoad-fewer}
use Rattle.intmap_table.proofs.SlotNumberLemmas.{capacity-greatest, capacity-positive}
use Rattle.intmap.proofs.AfterLemmas.{value_of-in_slots, length-in_slots}
use Rattle.intmap.proofs.MapLemmas.{IsConsistent-grown, IsOk-at_err}
use Rattle.intmap_table.proofs.Tables.MemoryLemmas.{OnOk-at, OnErr-at}
use Rattle.intmap.proofs.map.IntMap.fit.Goals as goal
use Rattle.intmap.proofs.map.IntMap.fit.Goals.{After-is_err, After-threshold_of-self-inside}

module _ (g : _) (c : After-is_err g) where
  wanted : IsWanted c.self.inside.table.capacity c.args.pairs c.args.thousandths c.in-Some.capacity
  wanted = rw c.capacity-before.ensures.value at c.in-Some.ensures.wanted

  -- a capacity up to 2^63 is enough
  fits : NeedsTooMuch (IsWanted c.self.inside.table.capacity c.args.pairs c.args.thousandths) → ⊥
  fits much = not_needed _ (IsWanted-unique _ _ _) c.in-Some.capacity wanted (capacity-greatest c.in-Some.capacity c.in-Some.ensures.capacity) much

pub returns-in_default : goal.returns-in_default
returns-in_default g c =
    let much : NeedsTooMuch (IsWanted c.self.inside.table.capacity c.args.pairs c.args.thousandths) = rw c.capacity-before.ensures.value at c.in_default.ensures.none in
    rw (← c.self.view_is) record {
      meets = tt;
      state = tt;
      reserved = tt;
      memory = tt;
      err = refl;
      too_large = (λ _. much, λ _. refl);
      updates = λ q. refl;
      len = refl;
      free = λ none meets. absurd (not_needed _ (IsWanted-unique _ _ _) c.self.inside.table.capacity (IsWanted-same _ _ _ c.self.invariant.map.capacity meets)
          (capacity-greatest _ c.self.invariant.map.capacity) much);
      valid = c.self.invariant.map;
      valid_after = c.self.invariant.map;
    }

pub returns-then-is_err : goal.returns-then-is_err
returns-then-is_err g c =
    let at = (goal.at.returns-then-is_err g c).After-is_err in
    let refused = sym c.is_err.ensures.value ∙ c.if-is_err.true in
    rw (← c.self.view_is, OnErr-at c.grow_to.result _ refused c.grow_to.ensures.err) record {
      meets = tt;
      state = tt;
      reserved = tt;
      memory = tt;
      err = refl;
      too_large = (λ e. cc, λ much. absurd (fits g at much));
      updates = λ q. refl;
      len = refl;
      free = λ none meets. absurd (IsOk-at_err c.grow_to.result refused (c.grow_to.ensures.free
          (IsWanted-unique _ _ _ _ _ (IsWanted-same _ _ _ c.self.invariant.map.capacity meets) (wanted g at)) none));
      valid = c.self.invariant.map;
      valid_after = c.self.invariant.map;
    }

-- what stays reserved
still : (g : _) (c : After-threshold_of-self-inside g) → c.keep_if_same.new.reserved ≡ cond (c.in-Some.capacity == c.self.inside.table.capacity) c.self.inside.reserved 0
still g c = rw c.capacity-before.ensures.value at c.keep_if_same.ensures

-- the table has memory for what is reserved
memory : (g : _) (c : After-threshold_of-self-inside g) → c.count_further.new.count ≤ c.grow_to.new.self.nodes
memory g c =
    let accepted = sym c.is_err.ensures.value ∙ c.if-is_err.false in
    let room = OnOk-at c.grow_to.result _ accepted c.grow_to.ensures.room in
    let counted = c.count_further.ensures.1 in
    let kept : c.keep_if_same.new.reserved ≤ c.grow_to.new.self.nodes =
    rw (still g c) (still-below c.in-Some.capacity c.self.inside.table.capacity c.self.inside.reserved c.self.inside.table.nodes c.grow_to.new.self.nodes c.self.invariant.memory c.grow_to.ensures.kept) in
    rw c.count_further.ensures.2 (max-le kept (omega (arith, room, counted)))

-- the table has as many slots as were asked for, and its pairs are in them
grown : (g : _) (c : After-threshold_of-self-inside g)
    → (c.grow_to.new.self.capacity ≡ c.in-Some.capacity) × (c.grow_to.new.self.walk ≡ walk_of g.K.IntKey.number_of c.self.inside.table.walk c.grow_to.new.self.capacity)
grown g c =
    let accepted = sym c.is_err.ensures.value ∙ c.if-is_err.false in let capacity = OnOk-at c.grow_to.result _ accepted c.grow_to.ensures.capacity in
    (capacity, rw capacity (OnOk-at c.grow_to.result _ accepted c.grow_to.ensures.walk))

pub invariant_of-self-2 : goal.invariant_of-self-2
invariant_of-self-2 g c =
    let at = (goal.at.invariant_of-self-2 g c).After-is_err in let told = grown g (goal.at.invariant_of-self-2 g c).After-threshold_of-self-inside in
    let cap = c.in-Some.ensures.capacity in
    let some = capacity-positive c.in-Some.capacity cap in
    IsConsistent-grown _ _ _ _ _ _ _ _ _ _ c.self.invariant _ _ (memory g (goal.at.invariant_of-self-2 g c).After-threshold_of-self-inside) c.grow_to.new.self.capacity c.args.thousandths _ (rw told.0 cap) (omega arith)
    (rw told.0 (IsLoaded-from c.in-Some.capacity (length c.self.inside.table.walk) c.args.thousandths some
    (MeetsLoad-fewer c.in-Some.capacity c.args.pairs (length c.self.inside.table.walk) c.args.thousandths some (wanted g at).meets (rw (← c.self.view_is) at c.requires))))
    (rw told.0 c.threshold_of-self-inside.ensures) told.1

pub returns : goal.returns
returns g c =
    let at = (goal.at.returns g c).After-is_err in let told = grown g (goal.at.returns g c).After-threshold_of-self-inside in
    let after = (invariant_of-self-2 g c).map in
    rw (← c.self.view_is) record {
      meets = rw told.0 (record { in_range = capacity-greatest c.in-Some.capacity c.in-Some.ensures.capacity; wanted = wanted g at });
      state = rw (← told.1) refl;
      reserved =
          let kept = ap (λ d. cond (d == c.self.inside.table.capacity) c.self.inside.reserved 0) told.0 in let same = still g (goal.at.returns g c).After-threshold_of-self-inside in
          let up = le-max_left c.keep_if_same.new.reserved (c.count_further.ensures.0 + c.args.sharing) in omega (arith, kept, same, up, c.count_further.ensures.2);
      memory = let counted = c.count_further.ensures.1 in let up = le-max_right c.keep_if_same.new.reserved (c.count_further.ensures.0 + c.args.sharing) in omega (arith, counted, up, c.count_further.ensures.2);
      err = tt;
      too_large = (λ e. cc, λ much. absurd (fits g at much));
      updates = λ q. value_of-in_slots g.K.IntKey.number_of g.K.IntKey.is_valid _ _ _ q after.capacity told.1;
      len = length-in_slots g.K.IntKey.number_of g.K.IntKey.is_valid _ _ _ after.capacity told.1;
      free = λ none meets. refl;
      valid = c.self.invariant.map;
      valid_after = after;
    }
