use Rattle.std.proofs.Common.{rules, arith, ◌≡◌, ℕ, ◌*◌, ◌/◌, ◌≤◌, Option, Some, None, is_some, false, refl}
use Rattle.std.specs.Prelude.{MatchOption}
use Rattle.std.proofs.Math.Nat.{div-le_of_le-mul}
use Rattle.std.proofs.lemmas.Grind.{common_steps}
use Rattle.std.proofs.lemmas.Bool.Decides.{nat_tests}
use Rattle.intmap.specs.Classes.{IsCapacity}
use Rattle.intmap.specs.Growth.{IsNext, MeetsLoad}
use Rattle.intmap.specs.Bindings.{value_of}
use Rattle.example_cookbook.proofs.fixed.FixedMap.insert.Goals.{else-is_full-via-then-is_full+else-not-contains_key, else-is_full-via-else-is_full}
use Rattle.example_cookbook.proofs.fixed.FixedMap.insert.Goals as goal

-- what the law says of lengths that meet the load
abbrev Stays : Type 0
Stays = (C n F D : ℕ) → IsCapacity C → MeetsLoad C n F → IsNext C n F D → D ≡ C

-- 7 pairs for each 8 slots meet the load, so the capacity stays; so it does if the key is present
stays : {V : Type 0} → Stays → (o : Option V) (C n F D : ℕ) → IsCapacity C → F ≡ 909 → (is_some o ≡ false → n ≤ C / 8 * 7) → MatchOption o (IsNext C n F D) (λ _. D ≡ C) → D ≡ C
stays same None C n F D is_capacity factor few next =
    let here = few refl in
    let product : n * 1000 ≤ C * 909 = omega (arith, here) in
    let load : n * 1000 / C ≤ 909 = div-le_of_le-mul C product in
    same C n F D is_capacity (omega (arith, load, factor)) next
stays same (Some _) C n F D is_capacity factor few next = next

pub returns-in-Ok-clause-capacity : goal.returns-in-Ok-clause-capacity
returns-in-Ok-clause-capacity c =
    let map = c.args.self.now.map in
    stays c.met_loads_keep_capacity.ensures.same (value_of (λ key. key) map.walk c.args.key) map.capacity _ map.factor c.insert.new.self.capacity c.insert.ensures.valid.capacity c.args.self.now.load_factor
    (elim c.else-is_full.branch [
      | else-is_full-via-then-is_full+else-not-contains_key w ↦ λ absent. search (rules, absent, w.if-not-contains_key.false, w.contains_key.ensures.value)
      | else-is_full-via-else-is_full w ↦ λ absent. (let below = w.if-is_full.false in let len = c.len.ensures.value in let slots = c.capacity.ensures.value in grind (arith, common_steps, nat_tests, below, len, slots))
    ])
    c.in-Ok.ensures.inserted.fits.capacity
