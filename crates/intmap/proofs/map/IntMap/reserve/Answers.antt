use Rattle.std.proofs.Common.{◌≡◌, ◌+◌, ◌≤◌, cond, max, inl, inr, length, sym, ap, ◌∙◌, arith, refl}
use Rattle.std.specs.Prelude.{◌==◌}
use Rattle.intmap.proofs.ReservedLemmas.{still-below}
use Rattle.std.proofs.lemmas.Grind.{common_steps}
use Rattle.std.proofs.lemmas.Bool.{cases_lt}
use Rattle.intmap_table.specs.Classes.{IsCapacity}
use Rattle.intmap_table.specs.Walk.{walk_of}
use Rattle.intmap.specs.Growth.{IsLeastPower}
use Rattle.intmap.proofs.GrowthLemmas.{IsLeastPower-up, IsLeastPower-fits, IsCapacity-max}
use Rattle.intmap.proofs.LoadFactorLemmas.{IsLoaded-larger}
use Rattle.intmap_table.proofs.SlotNumberLemmas.{capacity-positive}
use Rattle.intmap.proofs.AfterLemmas.{value_of-in_slots, length-in_slots}
use Rattle.intmap.proofs.MapLemmas.{IsConsistent-grown, IsOk-at_err}
use Rattle.intmap_table.proofs.Tables.MemoryLemmas.{OnOk-at, OnErr-at}
use Rattle.intmap.proofs.map.IntMap.reserve.Goals as goal
use Rattle.intmap.proofs.map.IntMap.reserve.Goals.{After-max-capacity, After-threshold_of-self-inside}

module _ (g : _) (c : After-max-capacity g) where
  least : IsLeastPower (length c.self.inside.table.walk + c.args.additional) c.next_power_of_two-slots.result
  least =
      let p = c.next_power_of_two-slots.ensures in
      rw (← c.self.invariant.count) (IsLeastPower-up (c.self.inside.len + c.args.additional) c.next_power_of_two-slots.result p.power (omega (arith, p.lower_bound)) (omega (arith, p.upper_bound)))

  most : c.max-capacity.result ≡ max c.next_power_of_two-slots.result c.self.inside.table.capacity
  most = c.max-capacity.ensures ∙ ap (λ n. max c.next_power_of_two-slots.result n) c.capacity-before.ensures.value

  cap : IsCapacity c.max-capacity.result
  cap =
      let p = c.next_power_of_two-slots.ensures in
      let small = c.if-additional-self.false in
      rw most (IsCapacity-max c.next_power_of_two-slots.result c.self.inside.table.capacity p.power (omega (arith, p.upper_bound, small)) c.self.invariant.map.capacity)

pub grow_to-requires-clause-capacity : goal.grow_to-requires-clause-capacity
grow_to-requires-clause-capacity g c = cap g (goal.at.grow_to-requires-clause-capacity g c).After-max-capacity

pub threshold_of-self-inside-requires : goal.threshold_of-self-inside-requires
threshold_of-self-inside-requires g c = cap g (goal.at.threshold_of-self-inside-requires g c).After-max-capacity

pub returns-then-self-gt-GREATEST_CAPACITY : goal.returns-then-self-gt-GREATEST_CAPACITY
returns-then-self-gt-GREATEST_CAPACITY g c = record {
  reserved = tt;
  err = refl;
  refused = record { too_large = grind (arith, common_steps); memory = λ e. cc };
  updates = λ q. refl;
  len = refl;
  valid = rw (← c.self.view_is) c.self.invariant.map;
  valid_after = rw (← c.self.view_is) c.self.invariant.map;
}

pub returns-then-is_err : goal.returns-then-is_err
returns-then-is_err g c =
    let at = (goal.at.returns-then-is_err g c).After-max-capacity in
    let refused = sym c.is_err.ensures.value ∙ c.if-is_err.true in
    let kept = OnErr-at c.grow_to.result _ refused c.grow_to.ensures.err in
    let long = c.self.invariant.count in
    rw (← c.self.view_is, kept) record {
      reserved = tt;
      err = refl;
      refused = record {
        too_large = (λ e. cc, λ much. absurd (let small = c.if-additional-self.false in omega (arith, much, long, small)));
        memory = λ _. elim (cases_lt c.self.inside.table.capacity (length c.self.inside.table.walk + c.args.additional)) [
          | inl more ↦ more
          | inr fits ↦ (let low = IsLeastPower-fits _ _ c.self.inside.table.capacity (least g at) c.self.invariant.map.capacity fits in
              absurd (IsOk-at_err c.grow_to.result refused (c.grow_to.ensures.free (omega (arith, low, most g at)) refl)))
        ];
      };
      updates = λ q. refl;
      len = refl;
      valid = c.self.invariant.map;
      valid_after = c.self.invariant.map;
    }

-- what stays reserved
still : (g : _) (c : After-threshold_of-self-inside g) → c.keep_if_same.new.reserved ≡ cond (c.max-capacity.result == c.self.inside.table.capacity) c.self.inside.reserved 0
still g c = rw c.capacity-before.ensures.value at c.keep_if_same.ensures

-- the table has as many slots as were asked for, and its pairs are in them
grown : (g : _) (c : After-threshold_of-self-inside g)
    → (c.grow_to.new.self.capacity ≡ c.max-capacity.result) × (c.grow_to.new.self.walk ≡ walk_of g.K.IntKey.number_of c.self.inside.table.walk c.grow_to.new.self.capacity)
grown g c =
    let accepted = sym c.is_err.ensures.value ∙ c.if-is_err.false in let capacity = OnOk-at c.grow_to.result _ accepted c.grow_to.ensures.capacity in
    (capacity, rw capacity (OnOk-at c.grow_to.result _ accepted c.grow_to.ensures.walk))

pub invariant_of-self-2 : goal.invariant_of-self-2
invariant_of-self-2 g c =
    let at = (goal.at.invariant_of-self-2 g c).After-max-capacity in let told = grown g (goal.at.invariant_of-self-2 g c).After-threshold_of-self-inside in
    let more : c.self.inside.table.capacity ≤ c.grow_to.new.self.capacity = omega (arith, most g at, told.0) in
    IsConsistent-grown _ _ _ _ _ _ _ _ _ _ c.self.invariant _ _
    (let w = (goal.at.invariant_of-self-2 g c).After-threshold_of-self-inside in
    rw (still g w) (still-below c.max-capacity.result c.self.inside.table.capacity c.self.inside.reserved c.self.inside.table.nodes c.grow_to.new.self.nodes c.self.invariant.memory c.grow_to.ensures.kept)) c.grow_to.new.self.capacity c.self.inside.factor _ (rw told.0 (cap g at)) c.self.invariant.map.factor
    (IsLoaded-larger c.self.inside.table.capacity c.grow_to.new.self.capacity (length c.self.inside.table.walk) c.self.inside.factor (capacity-positive c.self.inside.table.capacity c.self.invariant.map.capacity) more c.self.invariant.map.load)
    (rw told.0 c.threshold_of-self-inside.ensures) told.1

pub returns : goal.returns
returns g c =
    let at = (goal.at.returns g c).After-max-capacity in let told = grown g (goal.at.returns g c).After-threshold_of-self-inside in
    let after = (invariant_of-self-2 g c).map in
    rw (← c.self.view_is) record {
      reserved = record {
        enough = record {
          in_range = (let long = c.self.invariant.count in let small = c.if-additional-self.false in omega (arith, long, small));
          power = c.next_power_of_two-slots.result;
          least = least g at;
          capacity = omega (arith, told.0, most g at);
        };
        state = rw (← told.1) refl;
        reserved =
            let kept = ap (λ d. cond (d == c.self.inside.table.capacity) c.self.inside.reserved 0) told.0 in let same = still g (goal.at.returns g c).After-threshold_of-self-inside in
            omega (arith, kept, same);
      };
      err = tt;
      refused = tt;
      updates = λ q. value_of-in_slots g.K.IntKey.number_of g.K.IntKey.is_valid _ _ _ q after.capacity told.1;
      len = length-in_slots g.K.IntKey.number_of g.K.IntKey.is_valid _ _ _ after.capacity told.1;
      valid = c.self.invariant.map;
      valid_after = after;
    }
