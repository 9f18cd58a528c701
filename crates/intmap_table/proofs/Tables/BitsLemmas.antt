-- What the bits of words say of the indices that they mark.
use Rattle.std.proofs.Common.{◌≡◌, ◌≢◌, inl, inr, ℕ, zero, suc, ◌+◌, ◌-◌, ◌*◌, ◌/◌, ◌%◌, ◌^◌, ◌<◌, ◌≤◌, Bool, true, false, List, [], ◌∷◌, ◌++◌, length, map, get_or, set, replicate, sum_by, refl, sym, ap, subst, ◌∙◌, arith, zero-add, bit_and, w64, length-set, get_or-set_same, get_or-set_other, length-append}
use Rattle.std.specs.Prelude.{◌==◌, cond, filter, min, nat_eq}
use Rattle.std.specs.Int.RustNames.{count_ones}
use Rattle.std.specs.Int.{bit_at, bit_not, trailing_zeros}
use Rattle.std.specs.Int.Bits.{bit_xor}
use Rattle.std.specs.List.{range_with_len}
use Rattle.std.proofs.lemmas.Bool.{cases_eq, cases_lt, eq-eqb, ne_eqb}
use Rattle.std.proofs.lemmas.Bool.Decides.{nat_tests}
use Rattle.std.proofs.lemmas.List.{ext_get_or, get_or-replicate, get_or_past, length-replicate, length-map}
use Rattle.std.proofs.lemmas.List.Elements.{filter-append}
use Rattle.std.proofs.lemmas.List.FromFn.{length-map-range_with_len, get_or-map-range_with_len}
use Rattle.std.proofs.lemmas.List.Sums.{sum_by-cons}
use Rattle.std.proofs.lemmas.Nat.{and_le_l, ones_cat, xor_lt}
use Rattle.std.proofs.lemmas.Nat.Bits.{bit_at-lt, bit_at-zero, bit_at-suc, bit_at_lowest, bit_at_and, bit_at_not, bit_at_xor, bit_at-trailing_zeros}
use Rattle.std.proofs.Math.Nat.{pow-suc}
use Rattle.intmap_table.specs.Tables.Bits.{marked, marked_indices, has_bit, marks_of, indices_from, IsWordOf}
use Rattle.intmap_table.proofs.Tables.MarkedLemmas.{range_with_len-add, filter-same, filter-none, filter-shift, filter-both}

-- the indices of the bits of a word that are set, of its first n
unfoldable pub bits_of : ℕ → ℕ → List ℕ
bits_of n word = filter (has_bit word) (range_with_len 0 n)

-- numbers whose halves have the same bits from t on have the same bits behind t
bit_at-above : (m n t : ℕ) → ((j : ℕ) → t ≤ j → bit_at (m / 2) j ≡ bit_at (n / 2) j) → (j : ℕ) → t < j → bit_at m j ≡ bit_at n j
bit_at-above m n t half zero up = absurd (omega arith)
bit_at-above m n t half (suc j) up = bit_at-suc m j ∙ half j (omega arith) ∙ sym (bit_at-suc n j)

-- one less than a word: the lowest bit that is set is not, and those above it stay
bit_at-pred : (t word : ℕ) → bit_at word t ≡ 1 → ((i : ℕ) → i < t → bit_at word i ≡ 0) → (bit_at (word - 1) t ≡ 0) × ((j : ℕ) → t < j → bit_at (word - 1) j ≡ bit_at word j)
bit_at-pred zero word one below =
    let odd : word % 2 ≡ 1 = sym (bit_at_lowest word) ∙ one in
    let half : (word - 1) / 2 ≡ word / 2 = omega (arith, odd) in
    let even : (word - 1) % 2 ≡ 0 = omega (arith, odd) in
    (bit_at_lowest (word - 1) ∙ even, bit_at-above (word - 1) word 0 (λ j _. ap (λ h. bit_at h j) half))
bit_at-pred (suc t) word one below =
    let even : word % 2 ≡ 0 = sym (bit_at_lowest word) ∙ below 0 (omega arith) in
    let one_half : bit_at (word / 2) t ≡ 1 = sym (bit_at-suc word t) ∙ one in
    let some : 0 < word / 2 = (let z = bit_at-zero t in grind (arith, one_half, z)) in
    let half : (word - 1) / 2 ≡ word / 2 - 1 = omega (arith, even, some) in
    let h = bit_at-pred t (word / 2) one_half (λ i lt. sym (bit_at-suc word i) ∙ below (suc i) (omega arith)) in
    (bit_at-suc (word - 1) t ∙ ap (λ n. bit_at n t) half ∙ h.0, bit_at-above (word - 1) word (suc t) (λ j le. ap (λ n. bit_at n j) half ∙ h.1 j (omega (arith, le))))

-- t is the lowest bit of the word that is set
pub record IsLowest (word t : ℕ) : Type 0 where
  pub one : bit_at word t ≡ 1
  pub below : (i : ℕ) → i < t → bit_at word i ≡ 0

-- a word without its lowest bit that is set
abbrev pub without_lowest : ℕ → ℕ
without_lowest word = bit_and word (word - 1)

pub bit_at-without_lowest : (word t : ℕ) → IsLowest word t → bit_at (without_lowest word) t ≡ 0
bit_at-without_lowest word t lowest = let a = bit_at_and word (word - 1) t in let p = (bit_at-pred t word lowest.one lowest.below).0 in omega (arith, a, p)

pub bit_at-without_lowest_other : (word t : ℕ) → IsLowest word t → (i : ℕ) → i ≢ t → bit_at (without_lowest word) i ≡ bit_at word i
bit_at-without_lowest_other word t lowest i apart =
    let a = bit_at_and word (word - 1) i in
    elim (cases_lt i t) [
      | inl down ↦ (let z = lowest.below i down in omega (arith, a, z))
      | inr up ↦ (let p = (bit_at-pred t word lowest.one lowest.below).1 i (omega (arith, up, apart)) in omega (arith, a, p))
    ]

pub has_bit-without_lowest : (word t : ℕ) → IsLowest word t → has_bit (without_lowest word) t ≡ false
has_bit-without_lowest word t lowest = ne_eqb (bit_at (without_lowest word) t) 1 (λ e. let z = bit_at-without_lowest word t lowest in omega (arith, z, e))

pub has_bit-without_lowest_other : (word t : ℕ) → IsLowest word t → (i : ℕ) → i ≢ t → has_bit (without_lowest word) i ≡ has_bit word i
has_bit-without_lowest_other word t lowest i apart = ap (λ (b : ℕ). nat_eq b 1) (bit_at-without_lowest_other word t lowest i apart)

-- a word without the lowest bit of another one
abbrev pub without_lowest_of : ℕ → ℕ → ℕ
without_lowest_of left word = bit_and word (bit_not w64 (bit_xor left (without_lowest left)))

module _ (word left t : ℕ) (lowest : IsLowest left t) (fits : left < 2 ^ 64) where
  bit_at-cleared : (i : ℕ) → i < 64 → bit_at (without_lowest_of left word) i ≡ min (bit_at word i) (1 - (bit_at left i + bit_at (without_lowest left) i) % 2)
  bit_at-cleared i small =
      let le = and_le_l left (left - 1) in
      let below : bit_xor left (without_lowest left) < 2 ^ 64 = xor_lt 64 left (without_lowest left) fits (omega (arith, le, fits)) in
      bit_at_and word (bit_not w64 (bit_xor left (without_lowest left))) i
      ∙ ap (λ b. min (bit_at word i) b) (bit_at_not w64 (bit_xor left (without_lowest left)) i below small ∙ ap (λ b. 1 - b) (bit_at_xor left (without_lowest left) i))

  pub has_bit-cleared : t < 64 → has_bit (without_lowest_of left word) t ≡ false
  has_bit-cleared small = ne_eqb _ 1 (λ e. omega (arith, lowest.one, bit_at-without_lowest left t lowest, bit_at-cleared t small, e))

  pub has_bit-cleared_other : (i : ℕ) → i < 64 → i ≢ t → has_bit (without_lowest_of left word) i ≡ has_bit word i
  has_bit-cleared_other i small apart =
      let same = bit_at-without_lowest_other left t lowest i apart in
      let both : bit_at (without_lowest_of left word) i ≡ bit_at word i = omega (arith, same, bit_at-cleared i small, bit_at-lt word i, bit_at-lt left i) in
      ap (λ (b : ℕ). nat_eq b 1) both

-- the lowest bit that is set is the first index of a word
bits_of-add : (t r word : ℕ) → IsLowest word t → bits_of (t + suc r) word ≡ t ∷ bits_of (t + suc r) (without_lowest word)
unfolding bits_of
bits_of-add t r word lowest =
    let split = range_with_len-add 0 t (suc r) in
    let here : has_bit word t ≡ true = eq-eqb (bit_at word t) 1 lowest.one in
    let gone : has_bit (without_lowest word) t ≡ false = has_bit-without_lowest word t lowest in
    let before : filter (has_bit word) (range_with_len 0 t) ≡ [] =
    filter-none (has_bit word) 0 t (λ i lt. let z = lowest.below i lt in rw zero-add (ne_eqb (bit_at word i) 1 (λ e. omega (arith, z, e)))) in
    let before_too : filter (has_bit (without_lowest word)) (range_with_len 0 t) ≡ [] =
    filter-same (has_bit (without_lowest word)) (has_bit word) 0 t (λ i lt. rw zero-add (has_bit-without_lowest_other word t lowest i (omega arith))) ∙ before in
    let behind : filter (has_bit (without_lowest word)) (range_with_len (t + 1) r) ≡ filter (has_bit word) (range_with_len (t + 1) r) =
    filter-same (has_bit (without_lowest word)) (has_bit word) (t + 1) r (λ i lt. has_bit-without_lowest_other word t lowest (t + 1 + i) (omega arith)) in
    rw (split, filter-append, filter-append, zero-add) (simp (before, before_too, here, gone, behind) refl)

bits_of-lowest : (n word t : ℕ) → t < n → IsLowest word t → bits_of n word ≡ t ∷ bits_of n (without_lowest word)
bits_of-lowest n word t below lowest =
    let e : n ≡ t + suc (n - t - 1) = omega arith in
    rw e (bits_of-add t (n - t - 1) word lowest)

bits_of-zero : (n : ℕ) → bits_of n 0 ≡ []
unfolding bits_of
bits_of-zero n = filter-none (has_bit 0) 0 n (λ i lt. let z = bit_at-zero (0 + i) in ne_eqb (bit_at 0 (0 + i)) 1 (λ e. omega (arith, z, e)))

small_ones : (r : ℕ) → r < 2 → count_ones r ≡ r
unfolding count_ones
small_ones zero h = refl
small_ones (suc zero) h = refl
small_ones (suc (suc r)) h = absurd (omega arith)

-- the number of indices of a word that are marked is the number of its set bits
length-bits_of : (n word : ℕ) → word < 2 ^ n → length (bits_of n word) ≡ count_ones word
unfolding bits_of
length-bits_of zero word fits = let z : word ≡ 0 = omega arith in rw z (sym (small_ones 0 (omega arith)))
length-bits_of (suc n) word fits =
    let e : word ≡ word / 2 * 2 ^ 1 + word % 2 = omega arith in
    let double = rw pow-suc at fits in
    let half : word / 2 < 2 ^ n = omega (arith, double) in
    let high = length-bits_of n (word / 2) half in
    let low = small_ones (word % 2) (omega arith) in
    let both = ones_cat 1 (word / 2) (word % 2) (omega arith) in
    let whole : count_ones word ≡ count_ones (word / 2 * 2 ^ 1 + word % 2) = ap count_ones e in
    let shift = filter-shift (has_bit word) 1 0 n in
    let same = filter-same (λ i. has_bit word (1 + i)) (has_bit (word / 2)) 0 n (λ i lt.
    let q : 1 + (0 + i) ≡ suc (0 + i) = omega arith in rw q (ap (λ (b : ℕ). nat_eq b 1) (bit_at-suc word (0 + i)))) in
    let rest : length (filter (has_bit word) (range_with_len (0 + 1) n)) ≡ count_ones (word / 2) =
    ap length shift ∙ length-map (filter (λ i. has_bit word (1 + i)) (range_with_len 0 n)) (λ i. 1 + i) ∙ ap length same ∙ high in
    let b = bit_at_lowest word in grind (arith, nat_tests, b, rest, low, both, whole)

-- words have 64 indices each
pub length-marks_of : (words : List ℕ) → length (marks_of words) ≡ 64 * length words
unfolding marks_of
length-marks_of words = length-map-range_with_len (λ i. has_bit (get_or words (i / 64) 0) (i % 64)) 0 (64 * length words)

-- an index has a word
pub below-marks_of : (words : List ℕ) (marks : List Bool) (i : ℕ) → marks_of words ≡ marks → i < length marks → i < 64 * length words
below-marks_of words marks i view within = let m = ap (λ (marks : List Bool). length marks) view in omega (arith, within, length-marks_of words, m)

-- an index is marked by its bit
pub marked-marks_of : (words : List ℕ) (i : ℕ) → i < 64 * length words → marked (marks_of words) i ≡ has_bit (get_or words (i / 64) 0) (i % 64)
unfolding marks_of
marked-marks_of words i below =
    get_or-map-range_with_len (λ i. has_bit (get_or words (i / 64) 0) (i % 64)) 0 (64 * length words) i i false below (zero-add i)

-- the marks, with the bits of a word in place of the marks of the 64 indices around index i
abbrev pub with_word : List Bool → ℕ → ℕ → List Bool
with_word marks i word = map (λ j. cond (j / 64 == i / 64) (has_bit word (j % 64)) (marked marks j)) (range_with_len 0 (length marks))

-- a word has the marks of the indices around each of its own
pub IsWordOf-marks_of : (words : List ℕ) (i : ℕ) → i < 64 * length words → IsWordOf (marks_of words) i (get_or words (i / 64) 0)
IsWordOf-marks_of words i below j lt =
    let under : 64 * (i / 64) + j < 64 * length words = omega (arith, below, lt) in
    let d : (64 * (i / 64) + j) / 64 ≡ i / 64 = omega (arith, lt) in
    let r : (64 * (i / 64) + j) % 64 ≡ j = omega (arith, lt) in
    sym (marked-marks_of words (64 * (i / 64) + j) under ∙ ap (λ q. has_bit (get_or words q 0) ((64 * (i / 64) + j) % 64)) d ∙ ap (λ q. has_bit (get_or words (i / 64) 0) q) r)

-- marks that are those of a word around index i, and some others elsewhere
pub with_word-is : (marks ns : List Bool) (i word : ℕ) → length ns ≡ length marks → IsWordOf ns i word → ((j : ℕ) → j < length marks → j / 64 ≢ i / 64 → marked ns j ≡ marked marks j)
    → with_word marks i word ≡ ns
with_word-is marks ns i word same is others =
    let f : ℕ → Bool = λ j. cond (j / 64 == i / 64) (has_bit word (j % 64)) (marked marks j) in
    let l = length-map-range_with_len f 0 (length marks) in
    ext_get_or false (with_word marks i word) ns (l ∙ sym same) (λ j lt.
    let below : j < length marks = omega (arith, lt, l) in
    get_or-map-range_with_len f 0 (length marks) j j false below (zero-add j) ∙ (elim (cases_eq (j / 64) (i / 64)) [
      | inl e ↦ (let yes : (j / 64 == i / 64) ≡ true = eq-eqb (j / 64) (i / 64) e in
          let at : 64 * (i / 64) + j % 64 ≡ j = omega (arith, e) in
          ap (λ b. cond b (has_bit word (j % 64)) (marked marks j)) yes ∙ is (j % 64) (omega arith) ∙ ap (marked ns) at)
      | inr apart ↦ (let no : (j / 64 == i / 64) ≡ false = ne_eqb (j / 64) (i / 64) apart in
          ap (λ b. cond b (has_bit word (j % 64)) (marked marks j)) no ∙ sym (others j below apart))
    ]))

-- a word that has the marks with one index marked or not marks it so
pub with_word-set : (marks : List Bool) (i word : ℕ) (b : Bool) → IsWordOf (set marks i b) i word → with_word marks i word ≡ set marks i b
with_word-set marks i word b is =
    with_word-is marks (set marks i b) i word (length-set marks i b) is (λ j below apart. get_or-set_other marks i j b false (λ q. apart (ap (λ n. n / 64) q)))

-- a word with the bit of an index changed has the marks with that index changed
pub IsWordOf-set : (marks : List Bool) (i word new : ℕ) (b : Bool) → i < length marks → IsWordOf marks i word → has_bit new (i % 64) ≡ b → ((j : ℕ) → j < 64 → j ≢ i % 64 → bit_at new j ≡ bit_at word j)
    → IsWordOf (set marks i b) i new
IsWordOf-set marks i word new b below is here others j lt = elim (cases_eq j (i % 64)) [
  | inl e ↦ (let at : 64 * (i / 64) + j ≡ i = omega (arith, e) in ap (has_bit new) e ∙ here ∙ sym (ap (marked (set marks i b)) at ∙ get_or-set_same marks i b false below))
  | inr apart ↦ (let other : 64 * (i / 64) + j ≢ i = λ q. apart (omega (arith, q, lt)) in
      ap (λ (b : ℕ). nat_eq b 1) (others j lt apart) ∙ is j lt ∙ sym (get_or-set_other marks i (64 * (i / 64) + j) b false other))
]

-- another word among words
module _ (words : List ℕ) (i word : ℕ) (below : i < 64 * length words) where
  n : length (set words (i / 64) word) ≡ length words
  n = length-set words (i / 64) word

  pub length-marks_of_set : length (marks_of (set words (i / 64) word)) ≡ length (marks_of words)
  length-marks_of_set = omega (arith, length-marks_of words, length-marks_of (set words (i / 64) word), n)

  -- it has the marks of the indices around index i
  pub IsWordOf-marks_of_set : IsWordOf (marks_of (set words (i / 64) word)) i word
  IsWordOf-marks_of_set =
      subst (IsWordOf (marks_of (set words (i / 64) word)) i) (get_or-set_same words (i / 64) word 0 (omega (arith, below)))
      (IsWordOf-marks_of (set words (i / 64) word) i (omega (arith, below, n)))

  -- the others have theirs
  pub marked-marks_of_set : (j : ℕ) → j / 64 ≢ i / 64 → marked (marks_of (set words (i / 64) word)) j ≡ marked (marks_of words) j
  marked-marks_of_set j apart = elim (cases_lt j (64 * length words)) [
    | inl here ↦
        marked-marks_of (set words (i / 64) word) j (omega (arith, here, n))
        ∙ ap (λ w. has_bit w (j % 64)) (get_or-set_other words (i / 64) (j / 64) word 0 apart) ∙ sym (marked-marks_of words j here)
    | inr past ↦
        get_or_past (marks_of (set words (i / 64) word)) j false (omega (arith, past, length-marks_of words, length-marks_of_set))
        ∙ sym (get_or_past (marks_of words) j false (omega (arith, past, length-marks_of words)))
  ]

  pub marks_of-with_word : marks_of (set words (i / 64) word) ≡ with_word (marks_of words) i word
  marks_of-with_word =
      sym (with_word-is (marks_of words) (marks_of (set words (i / 64) word)) i word length-marks_of_set IsWordOf-marks_of_set (λ j _ apart. marked-marks_of_set j apart))

-- words that are zero mark no index
pub marks_of-zeros : (n : ℕ) → marks_of (replicate n 0) ≡ replicate (64 * n) false
marks_of-zeros n =
    let l = length-marks_of (replicate n 0) in
    let m = length-replicate {A = ℕ} n 0 in
    let k = length-replicate {A = Bool} (64 * n) false in
    ext_get_or false (marks_of (replicate n 0)) (replicate (64 * n) false) (omega (arith, l, m, k)) (λ i lt.
    let within : i / 64 < n = omega (arith, lt, l, m) in
    let below : i < 64 * length (replicate {A = ℕ} n 0) = omega (arith, lt, l) in
    let under : i < 64 * n = omega (arith, lt, l, m) in
    let z = bit_at-zero (i % 64) in
    marked-marks_of (replicate n 0) i below
    ∙ ap (λ w. has_bit w (i % 64)) (get_or-replicate {A = ℕ} n (i / 64) 0 0 within)
    ∙ ne_eqb (bit_at 0 (i % 64)) 1 (λ e. omega (arith, z, e))
    ∙ sym (get_or-replicate {A = Bool} (64 * n) i false false under))

-- a word that differs in one bit changes one index
pub marks_of-set : (words : List ℕ) (marks : List Bool) (i old word : ℕ) (b : Bool) → marks_of words ≡ marks → i < length marks → IsWordOf marks i old → has_bit word (i % 64) ≡ b
    → ((j : ℕ) → j < 64 → j ≢ i % 64 → bit_at word j ≡ bit_at old j) → marks_of (set words (i / 64) word) ≡ set marks i b
marks_of-set words marks i old word b view within was is others =
    marks_of-with_word words i word (below-marks_of words marks i view within) ∙ ap (λ (marks : List Bool). with_word marks i word) view ∙ with_word-set marks i word b (IsWordOf-set marks i old word b within was is others)

-- the marked indices of the first word, of m bits, and those of the words behind it
marked_indices-word : (m : ℕ) → m ≡ 64 → (w : ℕ) (ws : List ℕ) → marked_indices (marks_of (w ∷ ws)) ≡ bits_of m w ++ map (λ i. m + i) (marked_indices (marks_of ws))
unfolding bits_of
marked_indices-word m bits w ws =
    let l = length-marks_of ws in
    let n : length (marks_of (w ∷ ws)) ≡ m + length (marks_of ws) = let a = length-marks_of (w ∷ ws) in omega (arith, a, l, bits) in
    let f : ℕ → Bool = marked (marks_of (w ∷ ws)) in
    let first : filter f (range_with_len 0 m) ≡ filter (has_bit w) (range_with_len 0 m) =
    filter-same f (has_bit w) 0 m (λ i lt.
    let below : 0 + i < 64 * length (w ∷ ws) = omega (arith, lt, bits) in
    let d : (0 + i) / 64 ≡ 0 = omega (arith, lt, bits) in
    let r : (0 + i) % 64 ≡ 0 + i = omega (arith, lt, bits) in
    marked-marks_of (w ∷ ws) (0 + i) below ∙ ap (λ q. has_bit (get_or (w ∷ ws) q 0) ((0 + i) % 64)) d ∙ ap (λ q. has_bit w q) r) in
    let rest : filter f (range_with_len (m + 0) (length (marks_of ws))) ≡ map (λ i. m + i) (marked_indices (marks_of ws)) =
    filter-shift f m 0 (length (marks_of ws)) ∙ ap (λ xs. map (λ i. m + i) xs)
    (filter-same (λ i. f (m + i)) (marked (marks_of ws)) 0 (length (marks_of ws)) (λ i lt.
    let below : m + (0 + i) < 64 * length (w ∷ ws) = omega (arith, lt, l, bits) in
    let under : 0 + i < 64 * length ws = omega (arith, lt, l) in
    let d : (m + (0 + i)) / 64 ≡ suc ((0 + i) / 64) = omega (arith, bits) in
    let r : (m + (0 + i)) % 64 ≡ (0 + i) % 64 = omega (arith, bits) in
    marked-marks_of (w ∷ ws) (m + (0 + i)) below ∙ ap (λ q. has_bit (get_or (w ∷ ws) q 0) ((m + (0 + i)) % 64)) d ∙ ap (λ q. has_bit (get_or ws ((0 + i) / 64) 0) q) r
    ∙ sym (marked-marks_of ws (0 + i) under))) in
    ap (λ k. filter f (range_with_len 0 k)) n ∙ filter-both f m (length (marks_of ws)) (filter (has_bit w) (range_with_len 0 m)) (map (λ i. m + i) (marked_indices (marks_of ws))) first rest

pub marked_indices-cons : (w : ℕ) (ws : List ℕ) → marked_indices (marks_of (w ∷ ws)) ≡ bits_of 64 w ++ map (λ i. 64 + i) (marked_indices (marks_of ws))
marked_indices-cons w ws = marked_indices-word 64 refl w ws

-- no words mark no index
pub marked_indices-none : (words : List ℕ) → length words ≡ 0 → marked_indices (marks_of words) ≡ []
unfolding marks_of
marked_indices-none [] none = refl
marked_indices-none (w ∷ ws) none = absurd (omega arith)

-- the number of indices of these words that are marked is the number of their set bits
pub length-marked_indices-marks_of : (words : List ℕ) → ((k : ℕ) → get_or words k 0 < 2 ^ 64) → length (marked_indices (marks_of words)) ≡ sum_by count_ones words
length-marked_indices-marks_of [] fits = ap length (marked_indices-none [] refl)
length-marked_indices-marks_of (w ∷ ws) fits =
    let first = length-bits_of 64 w (fits 0) in
    let rest = length-marked_indices-marks_of ws (λ k. fits (suc k)) in
    let both = length-append (bits_of 64 w) (map (λ i. 64 + i) (marked_indices (marks_of ws))) in
    let moved = length-map (marked_indices (marks_of ws)) (λ i. 64 + i) in
    let sum = sum_by-cons count_ones w ws in
    ap length (marked_indices-cons w ws) ∙ omega (arith, first, rest, both, moved, sum)

pub map-add : (base k : ℕ) (ns : List ℕ) → map (λ i. base + i) (map (λ i. k + i) ns) ≡ map (λ i. base + k + i) ns
map-add base k [] = refl
map-add base k (n ∷ ns) = let e : base + (k + n) ≡ base + k + n = omega arith in simp (e, map-add base k ns) refl

pub map-zero : (ns : List ℕ) → map (λ i. 0 + i) ns ≡ ns
map-zero [] = refl
map-zero (n ∷ ns) = let e : 0 + n ≡ n = omega arith in simp (e, map-zero ns) refl

-- the words behind a word that is zero
pub indices_from-zero : (base : ℕ) (words : List ℕ) → indices_from base (0 ∷ words) ≡ indices_from (base + 64) words
indices_from-zero base words =
    ap (λ xs. map (λ i. base + i) xs) (marked_indices-cons 0 words ∙ ap (λ xs. xs ++ map (λ i. 64 + i) (marked_indices (marks_of words))) (bits_of-zero 64))
    ∙ map-add base 64 (marked_indices (marks_of words))

-- behind a word that is zero there is nothing
pub indices_from-none : (base : ℕ) (words : List ℕ) → length words ≡ 0 → indices_from base (0 ∷ words) ≡ []
indices_from-none base words none = indices_from-zero base words ∙ ap (λ xs. map (λ i. base + 64 + i) xs) (marked_indices-none words none)

-- the words from index 0 on
pub indices_from-start : (words : List ℕ) → indices_from 0 words ≡ marked_indices (marks_of words)
indices_from-start words = map-zero (marked_indices (marks_of words))

-- the first index of a word that is not zero, and the others
pub indices_from-word : (base word : ℕ) (words : List ℕ) → 0 < word → word < 2 ^ 64
    → indices_from base (word ∷ words) ≡ (base + trailing_zeros w64 word) ∷ indices_from base (bit_and word (word - 1) ∷ words)
indices_from-word base word words some fits =
    let t = bit_at-trailing_zeros w64 word some fits in
    let first = bits_of-lowest 64 word (trailing_zeros w64 word) t.0 (record { one = t.1; below = t.2 }) in
    ap (λ xs. map (λ i. base + i) xs) (marked_indices-cons word words ∙ ap (λ xs. xs ++ map (λ i. 64 + i) (marked_indices (marks_of words))) first)
    ∙ ap (λ xs. (base + trailing_zeros w64 word) ∷ map (λ i. base + i) xs) (sym (marked_indices-cons (without_lowest word) words))
