-- What a walk that keeps or removes pairs, each as its bit says, leaves of the rows of a table.
use Rattle.std.proofs.Common.{◌≡◌, inl, inr, ℕ, ◌+◌, ◌-◌, ◌<◌, ◌≤◌, List, [], ◌++◌, ◌^◌, min, length, get_or, set, take, drop, refl, sym, ap, ◌∙◌, subst, arith, append_assoc, length-append, length-set}
use Rattle.std.specs.Prelude.{All}
use Rattle.std.proofs.Math.Seq.{take-append_seam}
use Rattle.std.proofs.lemmas.Bool.{cases_lt}
use Rattle.std.proofs.lemmas.List.{get_or-append_right, get_or_past}
use Rattle.std.proofs.lemmas.List.Elements.{All-drop, All-get_or, All-take}
use Rattle.intmap_table.specs.Classes.{slot_number}
use Rattle.intmap_table.specs.Tables.Keeping.{Keeps, KeepsRows}
use Rattle.intmap_table.specs.Tables.Rows.{IsTable}
use Rattle.intmap_table.specs.Tables.Slots.{joined, count_before}
use Rattle.intmap_table.specs.declared.linked.keep.KeepBits.{KeepBits}
use Rattle.intmap_table.specs.declared.table.walk.Cursor.{Cursor}
use Rattle.intmap_table.proofs.KeepingLemmas.{Keeps-then, left-Says, lengths-Keeps}
use Rattle.intmap_table.proofs.Tables.AroundLemmas.{joined-around, joined-before, left-same, length-around, taken-same}
use Rattle.intmap_table.proofs.Tables.CursorLemmas.{before-past, drop-before, take-before}
use Rattle.intmap_table.proofs.Tables.FilledLemmas.{row-within}

-- no more elements are before a place than there are
pub before-few : {P : Type 0} (R : List (List P)) (i j : ℕ) → count_before R i j ≤ length (joined R)
before-few R i j = let all = length-around i R in omega (arith, all)

-- if no row holds one any more, all are before it
pub before-all : {P : Type 0} (R : List (List P)) (i : ℕ) → ((k : ℕ) → i ≤ k → get_or R k [] ≡ []) → length (joined R) ≤ count_before R i 0
before-all R i empty = let long = ap length (joined-before i R empty) in omega (arith, long)

-- behind a row that is at its end nothing lies before the next one, even if there is no greater number
pub before-behind : {P : Type 0} (R : List (List P)) (i j from : ℕ) → length (get_or R i []) ≤ j → length R ≤ 2 ^ 63 → from ≡ min (i + 1) (2 ^ 64 - 1) → count_before R from 0 ≡ count_before R i j
before-behind R i j from past few is = elim (cases_lt i (length R)) as (λ _. count_before R from 0 ≡ count_before R i j) [
  | inl below ↦
      let one : from ≡ i + 1 = omega (arith, is, below, few) in
      ap (λ n. count_before R n 0) one ∙ before-past R i j past
  | inr beyond ↦
      let none = ap length (get_or_past R i [] beyond) in
      let all = before-all R i (λ k le. get_or_past R k [] (omega (arith, le, beyond))) in let both = before-all R from (λ k le. get_or_past R k [] (omega (arith, le, is, beyond, few))) in
      let most = before-few R i 0 in let most_both = before-few R from 0 in
      omega (arith, none, all, both, most, most_both)
]

-- row i was gone over from place j on, and the others are as they were
module _ {P : Type 0} (f g : KeepBits) (R S : List (List P)) (i j k : ℕ) (left : S ≡ set R i (get_or S i [])) (row : Keeps f (get_or R i []) j g (get_or S i []) k) where
  abbrev front : List P
  front = joined (take i R)

  abbrev behind : List P
  behind = joined (drop (i + 1) R)

  front-left : joined (take i S) ≡ front
  front-left = ap (λ Z. joined (take i Z)) left ∙ taken-same R i (get_or S i [])

  behind-left : joined (drop (i + 1) S) ≡ behind
  behind-left = ap (λ Z. joined (drop (i + 1) Z)) left ∙ left-same R i (get_or S i [])

  pub whole : joined S ≡ take (count_before R i j) (joined R) ++ (row.kept ++ (row.rest ++ behind))
  whole =
      joined-around i S ∙ (λ h. front-left h ++ (row.new h ++ behind-left h))
      ∙ ap (λ Z. front ++ Z) (append_assoc (take j (get_or R i [])) (row.kept ++ row.rest) behind ∙ ap (λ Z. take j (get_or R i []) ++ Z) (append_assoc row.kept row.rest behind))
      ∙ sym (append_assoc front (take j (get_or R i [])) (row.kept ++ (row.rest ++ behind))) ∙ ap (λ Z. Z ++ (row.kept ++ (row.rest ++ behind))) (sym (take-before R i j))

  pub reached : count_before S i k ≡ count_before R i j + length row.kept
  reached = let before = ap length front-left in let parts = lengths-Keeps f g (get_or R i []) (get_or S i []) j k row in omega (arith, before, parts, row.on)

  -- as a part of all
  abbrev pub Keeps-row : Keeps f (joined R) (count_before R i j) g (joined S) (count_before S i k)
  Keeps-row = record {
    asked = row.asked;
    kept = row.kept;
    rest = row.rest ++ joined (drop (i + 1) R);
    old = drop-before R i j ∙ ap (λ Z. Z ++ joined (drop (i + 1) R)) row.old ∙ append_assoc row.asked row.rest (joined (drop (i + 1) R));
    told = row.told;
    new = whole;
    on = reached;
  }

module _ {P : Type 0} (f g : KeepBits) (L M : List P) (i j : ℕ) (k : Keeps f L i g M j) where
  -- if an element was gone over, the place is within the list, or at its end
  pub within-Keeps : 0 < length k.asked → j ≤ length M
  within-Keeps some = let parts = lengths-Keeps f g L M i j k in omega (arith, some, parts, k.on)

  -- otherwise the place stays
  pub stays-Keeps : k.asked ≡ [] → j ≡ i
  stays-Keeps none = let parts = lengths-Keeps f g L M i j k in let e = ap length none in omega (arith, parts, e, k.on)

  -- with a bit and an element one was gone over
  some-Keeps : (0 < g.left → length M ≤ j) → 0 < f.left → i < length L → 0 < length k.asked
  some-Keeps ends some below = elim (cases_lt 0 (length k.asked)) as (λ _. 0 < length k.asked) [
    | inl more ↦ more
    | inr none ↦
        let count = left-Says f g k.asked k.kept k.told in let end = ends (omega (arith, some, none, count)) in let parts = lengths-Keeps f g L M i j k in
        omega (arith, none, end, parts, k.on, below)
  ]

module _ {K X : Type 0} (number : K → ℕ) where
  -- the same, with the cursor
  abbrev pub KeepsRows-row : (f g : KeepBits) (R S : List (List (K × X))) (at : Cursor) (k : ℕ) → IsTable number R → IsTable number S → S ≡ set R at.slot (get_or S at.slot [])
      → Keeps f (get_or R at.slot []) at.place g (get_or S at.slot []) k → KeepsRows number f R at g S (record { slot = at.slot; place = k })
  KeepsRows-row f g R S at k table left_table left row = record {
    pairs = Keeps-row f g R S at.slot at.place k left row;
    slot = λ p some.
        let parts = lengths-Keeps f g (get_or R at.slot []) (get_or S at.slot []) at.place k row in
        let below = row-within R at.slot (omega (arith, some, parts)) in
        let Own = λ (q : K × X). slot_number number q.0 (length R) ≡ at.slot in
        let all : All Own (row.asked ++ row.rest) = subst (All Own) row.old (All-drop Own at.place (get_or R at.slot []) (table.in_place at.slot below)) in
        let own : All Own row.asked = subst (All Own) (take-append_seam row.asked row.rest) (All-take Own (length row.asked) (row.asked ++ row.rest) all) in
        sym (All-get_or Own row.asked (length row.asked - 1) p (omega (arith, some)) own);
    within = within-Keeps f g (get_or R at.slot []) (get_or S at.slot []) at.place k row;
    stays = λ none h. record { slot = at.slot; place = stays-Keeps f g (get_or R at.slot []) (get_or S at.slot []) at.place k row none h };
    table = left_table;
    len = ap length left ∙ length-set R at.slot (get_or S at.slot []);
  }

  -- first up to a cursor, then from the slot of the next pair on
  pub KeepsRows-then : (f g h : KeepBits) (R S T : List (List (K × X))) (at to : Cursor) (i k : ℕ) → KeepsRows number f R at g S to → count_before S i 0 ≡ count_before S to.slot to.place
      → T ≡ set S i (get_or T i []) → IsTable number T → Keeps g (get_or S i []) 0 h (get_or T i []) k → (0 < h.left → length (get_or T i []) ≤ k) → 0 < g.left → 0 < length (get_or S i [])
      → KeepsRows number f R at h T (record { slot = i; place = k })
  KeepsRows-then f g h R S T at to i k one same left table row ends bit filled =
      let two = KeepsRows-row g h S T (record { slot = i; place = 0 }) k one.table table left row in
      let some = some-Keeps g h (get_or S i []) (get_or T i []) 0 k row ends bit filled in
      let sum = length-append one.pairs.asked row.asked in
      record {
        pairs = Keeps-then (before-few R at.slot at.place) one.pairs h (joined T) (count_before S i 0) (count_before T i k) same two.pairs;
        slot = λ p _.
            let last : length (one.pairs.asked ++ row.asked) - 1 - length one.pairs.asked ≡ length row.asked - 1 = omega (arith, sum, some) in
            two.slot p some
            ∙ ap (λ q. slot_number number q.0 (length S)) (ap (λ n. get_or row.asked n p) (sym last) ∙ sym (get_or-append_right one.pairs.asked row.asked (length one.pairs.asked) (length (one.pairs.asked ++ row.asked) - 1) p refl (omega (arith, sum, some))))
            ∙ ap (λ n. slot_number number (get_or (one.pairs.asked ++ row.asked) (length (one.pairs.asked ++ row.asked) - 1) p).0 n) one.len;
        within = λ _. two.within some;
        stays = λ none. absurd (let e = ap length none in omega (arith, e, sum, some));
        table = table;
        len = two.len ∙ one.len;
      }
