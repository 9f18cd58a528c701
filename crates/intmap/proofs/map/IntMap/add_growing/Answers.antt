use Rattle.std.proofs.Common.{◌≡◌, ◌≢◌, ◌+◌, ◌*◌, ◌≤◌, ◌<◌, ◌^◌, None, length, cond, refl, sym, ap, ◌∙◌, arith}
use Rattle.std.proofs.Math.Nat.{mul-le-mul_left}
use Rattle.std.proofs.Math.Pow.{pow_pos}
use Rattle.std.proofs.lemmas.Bool.{ne_eqb}
use Rattle.intmap_table.specs.Bindings.{value_of}
use Rattle.intmap.specs.Growth.{IsNext, IsWanted}
use Rattle.intmap.proofs.InsertionLemmas.{IsInsertion-added}
use Rattle.intmap.proofs.RefusalLemmas.{RefusalIsDue-memory}
use Rattle.intmap.proofs.LoadFactorLemmas.{IsNext-changes, IsNext-unique}
use Rattle.intmap.proofs.MapLemmas.{MapState-same, IsConsistent-grown_with}
use Rattle.intmap.proofs.SpotLemmas.{Exceeds, Exceeds-from}
use Rattle.intmap.proofs.map.IntMap.add_growing.Goals as goal
use Rattle.intmap.proofs.map.IntMap.add_growing.Goals.{After-grow_and_add}

module _ (g : _) (c : After-grow_and_add g) where
  few : length c.self.inside.table.walk + 1 < 2 ^ 64
  few = let apart = c.if-self.false in let counted = c.self.invariant.count in omega (arith, apart, counted)

  missing : value_of g.K.IntKey.number_of c.self.inside.table.walk c.args.key ≡ None
  missing = rw (← c.self.view_is) at c.requires.missing

  exceeds : Exceeds c.self.inside.table.capacity c.self.inside.factor (length c.self.inside.table.walk + 1)
  exceeds = Exceeds-from c.self.inside.table.walk c.self.inside.table.capacity c.self.inside.factor c.self.invariant.map.capacity few (rw (← c.self.view_is) at c.requires.full)

  wanted : IsWanted c.self.inside.table.capacity (length c.self.inside.table.walk + 1) c.self.inside.factor c.in-Some.capacity
  wanted = rw (c.capacity.ensures.value, c.self.invariant.count) at c.in-Some.ensures.wanted

  -- the capacity that is wanted is the next
  next : IsNext c.self.inside.table.capacity (length c.self.inside.table.walk + 1) c.self.inside.factor c.in-Some.capacity
  next = rw exceeds.due wanted

  -- which is another than now
  grows : c.in-Some.capacity ≢ c.self.inside.table.capacity
  grows = IsNext-changes c.self.inside.table.capacity (length c.self.inside.table.walk + 1) c.self.inside.factor c.in-Some.capacity exceeds.over wanted.meets

pub grow_and_add-requires-clause-larger : goal.grow_and_add-requires-clause-larger
grow_and_add-requires-clause-larger g c =
    let doubled = c.in-Some.ensures.wanted.doubled in
    let C = c.self.inside.table.capacity in
    let m : C * 1 ≤ C * 2 ^ doubled.0 = mul-le-mul_left C (pow_pos doubled.0) in
    let e : c.in-Some.capacity ≡ C * 2 ^ doubled.0 = rw c.capacity.ensures.value at doubled.1 in
    omega (arith, m, e)

pub returns-in-Err-clause-refused : goal.returns-in-Err-clause-refused
returns-in-Err-clause-refused g c =
    let w = (goal.at.returns-in-Err-clause-refused g c).After-grow_and_add in
    rw (← c.self.view_is) (RefusalIsDue-memory g.K.IntKey.number_of _ c.args.key (missing g w) c.in-Some.capacity (few g w) c.in-Some.ensures.capacity (next g w)
    (λ stays. absurd (grows g w (IsNext-unique _ _ _ _ _ (next g w) stays))))

pub invariant_of-self : goal.invariant_of-self
invariant_of-self g c =
    let w = (goal.at.invariant_of-self g c).After-grow_and_add in let told = c.in-Ok.ensures in
    let fits = few g w in
    IsConsistent-grown_with _ _ _ _ _ _ _ _ _ _ c.self.invariant _ _ (let none = c.new-self-inside.ensures in omega (arith, none)) c.in-Some.capacity c.grow_and_add.new.self.capacity c.threshold_of-threshold.result c.args.key c.new.result
    told.capacity c.in-Some.ensures.capacity told.known (missing g w) (omega (arith, fits, c.self.invariant.count)) c.in-Some.ensures.wanted.meets c.threshold_of-threshold.ensures told.walk

pub returns-in-Ok-clause-inserted : goal.returns-in-Ok-clause-inserted
returns-in-Ok-clause-inserted g c =
    let w = (goal.at.returns-in-Ok-clause-inserted g c).After-grow_and_add in let told = c.in-Ok.ensures in
    rw (← c.self.view_is) (IsInsertion-added g.K.IntKey.number_of g.K.IntKey.is_valid _ _ c.args.key c.args.value (missing g w) c.self.invariant.map (invariant_of-self g c).map (rw told.capacity (rw c.new.ensures at told.walk)) (few g w)
    (rw told.capacity (next g w)))

pub returns-in-Ok-clause-state : goal.returns-in-Ok-clause-state
returns-in-Ok-clause-state g c =
    let w = (goal.at.returns-in-Ok-clause-state g c).After-grow_and_add in let told = c.in-Ok.ensures in
    rw (← c.self.view_is, told.capacity) (MapState-same (rw c.new.ensures at told.walk) refl
    (told.placed ∙ ap (λ m. c.self.inside.placed + m) (ap (λ b. cond b 0 (length c.self.inside.table.walk + 1)) (sym (ne_eqb c.in-Some.capacity c.self.inside.table.capacity (grows g w)))))
    (c.new-self-inside.ensures ∙ ap (λ b. cond b c.self.inside.reserved 0) (sym (ne_eqb c.in-Some.capacity c.self.inside.table.capacity (grows g w)))))

pub returns-in-Ok-clause-valid_after : goal.returns-in-Ok-clause-valid_after
returns-in-Ok-clause-valid_after g c = (invariant_of-self g c).map
