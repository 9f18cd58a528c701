-- When a map grows, and how far.
use Rattle.std.specs.Prelude.{◌≡◌, ℕ, ◌+◌, ◌-◌, ◌*◌, ◌/◌, ◌%◌, ◌^◌, ◌<◌, ◌≤◌, Bool, cond, ◌==◌, nat_le, List, map, find, unwrap_or, MatchBool}
use Rattle.std.specs.List.{range_with_len}

-- whether the load is checked at n pairs: the whole part of n / 4 is odd
abbrev pub is_due : ℕ → Bool
is_due n = n / 4 % 2 == 1

-- the greatest number up to n at which the load is checked, for n of at least 4
abbrev pub last_due : ℕ → ℕ
last_due n = cond (is_due n) n (n - (n % 4 + 1))

-- n pairs in C slots meet the load F, in thousandths: n * 1000 / C, rounded down, is at most F
abbrev pub MeetsLoad : ℕ → ℕ → ℕ → Type 0
MeetsLoad C n F = n * 1000 / C ≤ F

-- D is the least of C, 2C, 4C, .. in which n pairs meet the load F
pub record IsWanted (C n F D : ℕ) : Type 0 where
  pub doubled : (j : ℕ) × (D ≡ C * 2 ^ j)
  pub meets : MeetsLoad D n F
  pub least : (i : ℕ) → C * 2 ^ i < D → F < n * 1000 / (C * 2 ^ i)

-- more than 2^63 slots are needed: a D with `needs D` is above 2^63
abbrev pub NeedsTooMuch : (ℕ → Type 0) → Type 0
NeedsTooMuch needs = (D : ℕ) × needs D × (2 ^ 63 < D)

-- of the numbers of pairs below 2^64, those up to the threshold meet the load F in C slots, and no greater one does
abbrev pub IsThreshold : ℕ → ℕ → ℕ → Type 0
IsThreshold C F threshold = (n : ℕ) → n < 2 ^ 64 → (n ≤ threshold → MeetsLoad C n F) × (threshold < n → F < n * 1000 / C)

-- D is the capacity after a new key made the length n: the wanted one if the load is checked at n, and otherwise C
abbrev pub IsNext : ℕ → ℕ → ℕ → ℕ → Type 0
IsNext C n F D = MatchBool (is_due n) (IsWanted C n F D) (D ≡ C)

-- C, 2C, 4C, .., far enough for each length below 2^64
abbrev pub doublings : ℕ → List ℕ
doublings C = map (λ j. C * 2 ^ j) (range_with_len 0 76)

-- the first of the doublings of C in which n pairs meet the load F
abbrev pub wanted_capacity : ℕ → ℕ → ℕ → ℕ
wanted_capacity C n F = unwrap_or (find (λ D. nat_le (n * 1000 / D) F) (doublings C)) 0

-- the capacity after a new key made the length n, as a number
abbrev pub next_capacity : ℕ → ℕ → ℕ → ℕ
next_capacity C n F = cond (is_due n) (wanted_capacity C n F) C

-- p is the least power of two that is at least n
pub record IsLeastPower (n p : ℕ) : Type 0 where
  pub power : (e : ℕ) × (p ≡ 2 ^ e)
  pub enough : n ≤ p
  pub least : (e : ℕ) → n ≤ 2 ^ e → p ≤ 2 ^ e

-- the least power of two that is at least n, for n up to 2^64
abbrev pub least_power : ℕ → ℕ
least_power n = unwrap_or (find (nat_le n) (map (λ e. 2 ^ e) (range_with_len 0 65))) 0
