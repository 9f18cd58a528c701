use Rattle.std.proofs.Common.{◌≡◌, ◌^◌, ◌<◌, length, refl, ◌∙◌, subst, arith}
use Rattle.std.proofs.lemmas.Bool.{lt-ltb, le-ltb}
use Rattle.intmap.specs.Extending.{IsTally}
use Rattle.intmap_table.specs.Walk.{slot_of, walk_of}
use Rattle.intmap.specs.declared.refusal.Cause.{Cause}
use Rattle.intmap.specs.declared.refusal.Cause.TheVariants.{Memory, TooLarge}
use Rattle.intmap.proofs.CollisionLemmas.{collision_sizes_below, collision_sizes_below-crowded, collision_sizes_below-alone, count-below, size-in_range}
use Rattle.intmap.proofs.ExtendLemmas.{MatchResult-refused}
use Rattle.intmap_table.proofs.SlotNumberLemmas.{capacity-greatest}
use Rattle.intmap.proofs.map.IntMap.collisions.Goals as goal
use Rattle.intmap.proofs.map.IntMap.collisions.Goals.{After-loop-slot, After-slot_len-size, then-size-gt1+in_ok-count_once_more, else-size-gt1}

-- a cause that isn't this one is the other
memory-otherwise : (cause : Cause) → (cause ≡ TooLarge → ⊥) → cause ≡ Memory
memory-otherwise Memory not = refl
memory-otherwise TooLarge not = absurd (not refl)

module _ (g : _) (c : After-slot_len-size g) where
  -- the size of the slot, as the map shows it
  size : c.slot_len-size.result ≡ length (slot_of g.K.IntKey.number_of c.args.self.now.walk c.args.self.now.capacity c.loop-slot.slot)
  size = rw (← c.self.view_is) c.slot_len-size.ensures

  -- the slot is one of the map
  within : c.loop-slot.slot < c.args.self.now.capacity
  within = rw (← c.self.view_is) (let test = c.loop-slot-test.true in let end = c.capacity-slot-end.ensures.value in omega (arith, test, end))

  -- all pairs are fewer than 2^64
  fits : length (walk_of g.K.IntKey.number_of c.args.self.now.walk c.args.self.now.capacity) < 2 ^ 64
  fits = rw (← c.self.view_is) (rw c.self.invariant.map.own c.self.invariant.map.count)

pub count_once_more-requires : goal.count_once_more-requires
count_once_more-requires g c =
    let at = (goal.at.count_once_more-requires g c).After-slot_len-size in
    record {
      below = λ count. count-below (slot_of g.K.IntKey.number_of c.args.self.now.walk c.args.self.now.capacity) c.args.self.now.capacity c.loop-slot.slot (within g at)
          c.loop-slot.sizes c.loop-slot.invariant.tally (rw (← c.self.view_is) (capacity-greatest _ c.self.invariant.map.capacity)) c.slot_len-size.result count;
    }

pub returns-in_err-count_once_more-clause-memory : goal.returns-in_err-count_once_more-clause-memory
returns-in_err-count_once_more-clause-memory g c =
    let at = (goal.at.returns-in_err-count_once_more-clause-memory g c).After-slot_len-size in
    let several = rw (size g at) at (lt-ltb 1 c.slot_len-size.result c.if-size-gt1.true) in
    let in_range = size-in_range (slot_of g.K.IntKey.number_of c.args.self.now.walk c.args.self.now.capacity) c.args.self.now.capacity c.loop-slot.slot (within g at)
    c.loop-slot.sizes c.loop-slot.invariant.tally (fits g at) c.loop-slot.invariant.map several in
    MatchResult-refused c.from_residual-in_err-count_once_more.result _ _ _ c.from_residual-in_err-count_once_more.ensures.1
    (λ to is. is ∙ memory-otherwise c.in_err-count_once_more.field-0.0 (λ large. in_range (rw (size g at) at (c.in_err-count_once_more.ensures.too_large large))))

pub loop-slot-preserved : goal.loop-slot-preserved
loop-slot-preserved g c =
    let at = (goal.at.loop-slot-preserved g c).After-slot_len-size in
    let slot = slot_of g.K.IntKey.number_of c.args.self.now.walk c.args.self.now.capacity in
    elim c.if-size-gt1.branch [
      | then-size-gt1+in_ok-count_once_more w ↦
          (let several = rw (size g at) at (lt-ltb 1 c.slot_len-size.result w.if-size-gt1.true) in
          let counted = w.in_ok-count_once_more.ensures.counted (collision_sizes_below slot c.loop-slot.slot) c.loop-slot.invariant.tally in
          record {
            tally = rw (w.sizes-is, collision_sizes_below-crowded slot c.loop-slot.slot several, ← size g at) counted;
            map = rw w.sizes-is w.in_ok-count_once_more.ensures.valid_after;
          })
      | else-size-gt1 w ↦
          (let alone = rw (size g at) at (le-ltb 1 c.slot_len-size.result (let not = w.if-size-gt1.false in omega (arith, not))) in
          record {
            tally = rw (w.sizes-is, collision_sizes_below-alone slot c.loop-slot.slot alone) c.loop-slot.invariant.tally;
            map = rw w.sizes-is c.loop-slot.invariant.map;
          })
    ]

-- all slots were gone through
whole : (g : _) (c : After-loop-slot g) → c.loop-slot.slot ≡ c.args.self.now.capacity
whole g c = rw (← c.self.view_is) (let test = c.loop-slot-test.false in let last = c.loop-slot.auto.slot-end in let cap = c.capacity-slot-end.ensures.value in omega (arith, test, last, cap))

pub returns : goal.returns
returns g c =
    let slot = slot_of g.K.IntKey.number_of c.args.self.now.walk c.args.self.now.capacity in
    let tally = subst (λ n. IsTally (collision_sizes_below slot n) c.loop-slot.sizes) (whole g c) c.loop-slot.invariant.tally in
    record {
      sizes = tally.made;
      bindings = tally.counts;
      len = tally.len;
      memory = tt;
      valid = rw (← c.self.view_is) c.self.invariant.map;
      valid_after = c.loop-slot.invariant.map;
    }
