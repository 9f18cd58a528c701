use Rattle.std.proofs.Common.{inl, inr, ℕ, ◌*◌, ◌/◌, ◌^◌, ◌<◌, ◌≤◌, refl, arith}
use Rattle.std.proofs.lemmas.Bool.{cases_lt}
use Rattle.std.proofs.lemmas.Nat.{div_below, le-div, pow_pos}
use Rattle.intmap.specs.Classes.{IsCapacity}
use Rattle.intmap.specs.Growth.{IsWanted, NeedsTooMuch, wanted_capacity}
use Rattle.intmap.specs.Growing.{NeedsTooMuchRoom}
use Rattle.intmap.proofs.GrowthLemmas.{IsWanted-wanted_capacity}
use Rattle.intmap_c.proofs.figures.none_made_with_room.Goals as goal

-- the slots of a new map
four : IsCapacity 4
four = (2, omega arith, omega arith, refl)

-- more pairs need more than 2^63 slots
too_many : (n : ℕ) → n < 2 ^ 64 → 8393268553537845985 < n → NeedsTooMuch (IsWanted 4 n 909)
too_many n fits many =
    let wanted = IsWanted-wanted_capacity 4 n 909 four fits in (
      wanted_capacity 4 n 909,
      wanted,
      elim (cases_lt (2 ^ 63) (wanted_capacity 4 n 909)) [
        | inl more ↦ more
        | inr few ↦
            (let some = pow_pos wanted.doubled.0 in
            let is = wanted.doubled.1 in
            let over : 910 ≤ n * 1000 / wanted_capacity 4 n 909 = le-div 910 (n * 1000) (wanted_capacity 4 n 909) (omega (arith, some, is)) (omega (arith, many, few)) in
            let meets = wanted.meets in
            absurd (omega (arith, over, meets)))
      ],
    )

-- so many don't
enough : (n : ℕ) → n ≤ 8393268553537845985 → NeedsTooMuchRoom 4 n 909 → ⊥
enough n few (inl long) = omega (arith, few, long)
enough n few (inr much) =
    let over : 909 < n * 1000 / 2 ^ 63 = much.1.least 61 much.2 in
    let under : n * 1000 / 2 ^ 63 < 910 = div_below (n * 1000) (2 ^ 63) 910 (omega arith) (omega (arith, few)) in omega (arith, over, under)

pub returns-then-more-gt-MOST_FIRST_PAIRS : goal.returns-then-more-gt-MOST_FIRST_PAIRS
returns-then-more-gt-MOST_FIRST_PAIRS c = inl (refl, inr (too_many c.args.more (omega arith) c.if-more-gt-MOST_FIRST_PAIRS.true))

pub returns : goal.returns
returns c = inr (refl, enough c.args.more c.if-more-gt-MOST_FIRST_PAIRS.false)
