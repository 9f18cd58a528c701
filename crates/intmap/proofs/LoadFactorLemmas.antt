-- Which numbers of pairs meet a load factor, by products alone.
use Rattle.std.proofs.Common.{◌≡◌, ◌≢◌, inl, inr, ℕ, ◌+◌, ◌*◌, ◌/◌, ◌%◌, ◌^◌, ◌<◌, ◌≤◌, true, false, List, length, refl, sym, ap, ◌∙◌, subst, arith, bit_and}
use Rattle.std.specs.Prelude.{◌⊎◌, nat_lt, ◌==◌, ◌&&◌}
use Rattle.std.proofs.Math.Pow.{pow_pos, pow_mono}
use Rattle.std.proofs.Math.Nat.{mul-le-mul_left, mul_comm, div-mul-le_self, lt-mul-div-succ}
use Rattle.std.proofs.lemmas.Nat.{le-div, div_below, pow-add}
use Rattle.std.proofs.lemmas.Nat.Bits.{and_pow}
use Rattle.std.proofs.lemmas.Bool.{cases_lt, cases_order, cases_Bool, ltb-false, eqb-true, eqb-false}
use Rattle.std.proofs.lemmas.Bool.Decides.{nat_tests}
use Rattle.intmap_table.specs.Classes.{IsCapacity}
use Rattle.intmap_table.proofs.SlotNumberLemmas.{capacity-positive, capacity-greatest}
use Rattle.intmap.specs.Growth.{IsWanted, IsNext, IsThreshold, MeetsLoad, is_due, last_due, wanted_capacity, NeedsTooMuch}
use Rattle.intmap.proofs.GrowthLemmas.{IsWanted-unique, IsWanted-wanted_capacity}

-- no new key is in range: one more pair would be more than 2^64 - 1, or need more than 2^63 slots
abbrev pub InsertIsTooLarge : {K V : Type 0} → List (K × V) → ℕ → ℕ → Type 0
InsertIsTooLarge L C F = (2 ^ 64 ≤ length L + 1) ⊎ NeedsTooMuch (IsNext C (length L + 1) F)

-- a product below the factor's meets the load
pub MeetsLoad-from : (n C F : ℕ) → 0 < C → n * 1000 < (F + 1) * C → MeetsLoad C n F
MeetsLoad-from n C F some below = let q = div_below (n * 1000) C (F + 1) some below in omega (arith, q)

-- fewer pairs meet the load too
pub MeetsLoad-fewer : (C n m F : ℕ) → 0 < C → MeetsLoad C n F → m ≤ n → MeetsLoad C m F
MeetsLoad-fewer C n m F some meets fewer =
    let low : m * 1000 / C * C ≤ m * 1000 = div-mul-le_self (m * 1000) C in
    let less : m * 1000 / C ≤ n * 1000 / C = le-div (m * 1000 / C) (n * 1000) C some (omega (arith, low, fewer)) in omega (arith, meets, less)

-- c is a doubling of C, and no smaller one meets the load
pub record IsNear (C n F c : ℕ) : Type 0 where
  pub doubled : (j : ℕ) × (c ≡ C * 2 ^ j)
  pub capacity : IsCapacity c
  pub least : (i : ℕ) → C * 2 ^ i < c → F < n * 1000 / (C * 2 ^ i)

-- no doubling is less than C
doubling-more : (C i : ℕ) → C ≤ C * 2 ^ i
doubling-more C i = let m : C * 1 ≤ C * 2 ^ i = mul-le-mul_left C (pow_pos i) in omega (arith, m)

-- a later doubling is twice an earlier one at least
doubled-less : (C i j : ℕ) → i < j → C * 2 ^ i * 2 ≤ C * 2 ^ j
doubled-less C i j less =
    let m : C * 2 ^ (i + 1) ≤ C * 2 ^ j = mul-le-mul_left C (pow_mono (let z : i + 1 ≤ j = omega (arith, less) in z)) in
    let p : 2 ^ (i + 1) ≡ 2 ^ i * 2 = pow-add 2 i 1 in omega (arith, m, ap (λ x. C * x) p)

-- of the doublings of C none lies between c and 2 c
same_doubling : (C c i j : ℕ) → 0 < C → c ≡ C * 2 ^ j → c ≤ C * 2 ^ i → C * 2 ^ i < c * 2 → C * 2 ^ i ≡ c
same_doubling C c i j some is low high = elim (cases_order i j) [
  | inl q ↦ ap (λ x. C * 2 ^ x) q ∙ sym is
  | inr (inl w) ↦ (let m = doubled-less C i j w in let v = doubling-more C i in absurd (omega (arith, m, is, low, some, v)))
  | inr (inr w) ↦ (let m = doubled-less C j i w in absurd (omega (arith, m, is, high)))
]

-- if c exceeds the load, each doubling below 2 c does
least-more : (C n F c : ℕ) → IsCapacity C → IsNear C n F c → (F + 1) * c ≤ n * 1000 → (i : ℕ) → C * 2 ^ i < c * 2 → F < n * 1000 / (C * 2 ^ i)
least-more C n F c cap near over i less = elim (cases_lt (C * 2 ^ i) c) [
  | inl w ↦ near.least i w
  | inr ge ↦
      (let exceeds = le-div (F + 1) (n * 1000) c (capacity-positive c near.capacity) over in
      rw (same_doubling C c i near.doubled.0 (capacity-positive C cap) near.doubled.1 ge less) (omega (arith, exceeds)))
]

pub IsNear-more : (C n F c : ℕ) → IsCapacity C → IsNear C n F c → (F + 1) * c ≤ n * 1000 → c ≢ 2 ^ 63 → IsNear C n F (c * 2)
IsNear-more C n F c cap near over apart =
    let j : ℕ = near.doubled.0 in
    let e : ℕ = near.capacity.0 in
    let below : e < 63 = elim (cases_lt e 63) [
      | inl less ↦ less
      | inr more ↦ (let top : e ≡ 63 = (let w = near.capacity.2 in omega (arith, w, more)) in absurd (apart (near.capacity.3 ∙ ap (λ x. 2 ^ x) top)))
    ] in
    let one = near.capacity.1 in
    record {
      doubled = (j + 1, rw (pow-add 2 j 1) (ap (λ x. x * 2) near.doubled.1 ∙ omega arith));
      capacity = (e + 1, omega (arith, one), omega (arith, below), rw (pow-add 2 e 1) (ap (λ x. x * 2) near.capacity.3));
      least = least-more C n F c cap near over;
    }

-- if 2^63 isn't enough, more is needed
pub IsNear-none : (C n F c : ℕ) → IsCapacity C → n < 2 ^ 64 → IsNear C n F c → (F + 1) * c ≤ n * 1000 → c ≡ 2 ^ 63 → NeedsTooMuch (IsWanted C n F)
IsNear-none C n F c cap fits near over top =
    let w = IsWanted-wanted_capacity C n F cap fits in let is = w.doubled.1 in (
      wanted_capacity C n F,
      w,
      elim (cases_lt (2 ^ 63) (wanted_capacity C n F)) [
        | inl more ↦ more
        | inr le ↦
            (let over_i = least-more C n F c cap near over w.doubled.0 (omega (arith, le, top, is)) in
            let meets = subst (λ x. n * 1000 / x ≤ F) is w.meets in absurd (omega (arith, over_i, meets)))
      ],
    )

-- of capacities of which one is needed, one up to 2^63 leaves none above it to be needed
pub not_needed : (needs : ℕ → Type 0) → ((D E : ℕ) → needs D → needs E → D ≡ E) → (D : ℕ) → needs D → D ≤ 2 ^ 63 → NeedsTooMuch needs → ⊥
not_needed needs unique D need le much = let same = unique D much.0 need much.1 in let above = much.2 in omega (arith, same, le, above)

-- the bit of value four says whether the load is checked
pub bit_and-four : (n : ℕ) → (bit_and n 4 == 4) ≡ is_due n
bit_and-four n = let a : bit_and n 4 ≡ n / 4 % 2 * 4 = and_pow n 2 in grind (arith, nat_tests, a)

-- if C meets the load, it is what is wanted
pub IsWanted-same : (C n F : ℕ) → IsCapacity C → MeetsLoad C n F → IsWanted C n F C
IsWanted-same C n F cap meets = record {
  doubled = (0, omega arith);
  meets = meets;
  least = λ i below. absurd (let m = doubling-more C i in omega (arith, below, m));
}

-- nothing smaller is wanted
pub IsWanted-more : (C n F D : ℕ) → IsWanted C n F D → C ≤ D
IsWanted-more C n F D wanted = let m = doubling-more C wanted.doubled.0 in omega (arith, m, wanted.doubled.1)

-- a capacity is what follows one way only
pub IsNext-unique : (C n F D E : ℕ) → IsNext C n F D → IsNext C n F E → D ≡ E
IsNext-unique C n F D E a b = elim (cases_Bool (is_due n)) [
  | inl due ↦ IsWanted-unique C n F D E (rw due at a) (rw due at b)
  | inr not ↦ (let x = rw not at a in let y = rw not at b in x ∙ sym y)
]

-- what meets the load where it is checked leaves the capacity
pub IsNext-if_met : (C n F : ℕ) → IsCapacity C → (is_due n ≡ true → MeetsLoad C n F) → IsNext C n F C
IsNext-if_met C n F cap meets = elim (cases_Bool (is_due n)) [ inl due ↦ rw due (IsWanted-same C n F cap (meets due)) | inr not ↦ rw not refl ]

pub IsNext-met : (C n F : ℕ) → IsCapacity C → MeetsLoad C n F → IsNext C n F C
IsNext-met C n F cap meets = IsNext-if_met C n F cap (λ _. meets)

-- a number at which the load is checked is at most the last such number
pub last_due-most : (m n : ℕ) → m ≤ n → is_due m ≡ true → m ≤ last_due n
last_due-most m n le due = grind (arith, nat_tests, due, le)

pub last_due-le : (n : ℕ) → last_due n ≤ n
last_due-le n = grind arith

-- the field `load` of `IsMapWalk`: the last length up to n at which the load was checked meets it
abbrev pub IsLoaded : ℕ → ℕ → ℕ → Type 0
IsLoaded C n F = 4 ≤ n → MeetsLoad C (last_due n) F

-- all lengths up to n meet the load if n does
pub IsLoaded-from : (C n F : ℕ) → 0 < C → MeetsLoad C n F → IsLoaded C n F
IsLoaded-from C n F some meets four = MeetsLoad-fewer C n (last_due n) F some meets (last_due-le n)

-- fewer pairs
pub IsLoaded-fewer : (C n m F : ℕ) → 0 < C → IsLoaded C n F → m ≤ n → IsLoaded C m F
IsLoaded-fewer C n m F some loaded le four =
    let less : last_due m ≤ last_due n = grind (arith, nat_tests, le, four) in
    MeetsLoad-fewer C (last_due n) (last_due m) F some (loaded (omega (arith, le, four))) less

-- one pair more, if the load isn't checked or the threshold isn't exceeded
pub IsLoaded-more : (C n F most : ℕ) → 0 < C → n + 1 < 2 ^ 64 → IsThreshold C F most → IsLoaded C n F → (is_due (n + 1) && nat_lt most (n + 1)) ≡ false → IsLoaded C (n + 1) F
IsLoaded-more C n F most some fits lim loaded test four = elim (cases_Bool (is_due (n + 1))) [
  | inl due ↦ IsLoaded-from C (n + 1) F some ((lim (n + 1) fits).0 (ltb-false most (n + 1) (rw due at test))) four
  | inr not ↦
      (let apart = eqb-false ((n + 1) / 4 % 2) 1 not in
      let same : last_due (n + 1) ≡ last_due n = grind (arith, nat_tests, four, apart) in
      rw same (loaded (omega (arith, four, apart))))
]

-- each length up to n leaves the capacity
pub IsNext-loaded : (C m n F : ℕ) → IsCapacity C → IsLoaded C n F → m ≤ n → IsNext C m F C
IsNext-loaded C m n F cap loaded few =
    IsNext-if_met C m F cap (λ due.
    let odd = eqb-true (m / 4 % 2) 1 due in
    MeetsLoad-fewer C (last_due n) m F (capacity-positive C cap) (loaded (omega (arith, odd, few))) (last_due-most m n few due))

-- more slots
pub IsLoaded-larger : (C D n F : ℕ) → 0 < C → C ≤ D → IsLoaded C n F → IsLoaded D n F
IsLoaded-larger C D n F some le loaded four =
    let m : ℕ = last_due n in
    let meets = loaded four in
    let up : m * 1000 < (m * 1000 / C + 1) * C = rw (mul_comm (m * 1000 / C + 1) C) (lt-mul-div-succ (m * 1000) some) in
    let wide : (m * 1000 / C + 1) * C ≤ (m * 1000 / C + 1) * D = mul-le-mul_left (m * 1000 / C + 1) le in
    let q : m * 1000 / D < m * 1000 / C + 1 = div_below (m * 1000) D (m * 1000 / C + 1) (omega (arith, some, le)) (omega (arith, up, wide)) in
    omega (arith, q, meets)

-- what exceeds the load changes the capacity
pub IsNext-changes : (C n F D : ℕ) → F < n * 1000 / C → MeetsLoad D n F → D ≢ C
IsNext-changes C n F D over meets same = let m : MeetsLoad C n F = subst (λ c. MeetsLoad c n F) same meets in omega (arith, over, m)

-- if the next capacity is one that a table may have, no more than 2^63 slots are needed
pub NeedsTooMuch-none : (C n F D : ℕ) → IsCapacity D → IsNext C n F D → NeedsTooMuch (IsNext C n F) → ⊥
NeedsTooMuch-none C n F D cap next much = not_needed (IsNext C n F) (IsNext-unique C n F) D next (capacity-greatest D cap) much

-- with a length below 2^64 and a next capacity, no insertion is too large
pub in_range-next : {K V : Type 0} (L : List (K × V)) (C F D : ℕ) → length L + 1 < 2 ^ 64 → IsCapacity D → IsNext C (length L + 1) F D → InsertIsTooLarge L C F → ⊥
in_range-next L C F D few cap next (inl long) = omega arith
in_range-next L C F D few cap next (inr much) = NeedsTooMuch-none C (length L + 1) F D cap next much
