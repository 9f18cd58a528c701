-- What bits of a word that are read in turn leave of lists.
use Rattle.std.proofs.Common.{◌≡◌, ℕ, zero, suc, inl, inr, ◌+◌, ◌-◌, ◌/◌, ◌%◌, ◌<◌, ◌≤◌, ◌==◌, Bool, true, cond, count_ones, List, [], ◌∷◌, ◌++◌, length, take, drop, min, refl, sym, ap, ◌∙◌, arith, append-nil, append_assoc, length-append}
use Rattle.std.specs.Int.Count.{ones}
use Rattle.std.proofs.lemmas.Bool.{cases_lt}
use Rattle.std.proofs.lemmas.List.{take_at, drop_at, take_all, drop_all, drop-drop, length-drop, length-take, length-take-le, nil_from_length}
use Rattle.std.proofs.lemmas.Nat.{div-add-mod', ones_cat}
use Rattle.intmap_table.specs.Keeping.{kept_by}
use Rattle.intmap_table.specs.Retaining.{Retains}
use Rattle.intmap_table.specs.Tables.Keeping.{IsNextBit, Says, Keeps}
use Rattle.intmap_table.specs.declared.linked.keep.KeepBits.{KeepBits}
use Rattle.intmap_table.proofs.RetainLemmas.{Retains-append, Retains-kept_from, length-Retains}

-- a digit is its own number of set bits
ones-digit : (n : ℕ) → n < 2 → count_ones n ≡ cond (n == 1) 1 0
unfolding ones
ones-digit zero below = refl
ones-digit (suc zero) below = refl
ones-digit (suc (suc n)) below = absurd (omega (arith, below))

-- a set bit counts as one
ones-bit : (b : Bool) (word : ℕ) → b ≡ (word % 2 == 1) → count_ones word ≡ cond b 1 0 + count_ones (word / 2)
ones-bit b word is =
    ap count_ones (sym (div-add-mod' word 2)) ∙ ones_cat 1 (word / 2) (word % 2) (omega arith) ∙ ap (λ n. count_ones (word / 2) + n) (ones-digit (word % 2) (omega arith) ∙ ap (λ (b : Bool). cond b 1 0) (sym is))
    ∙ omega arith

module _ {P : Type 0} where
  -- each element took one bit
  pub left-Says : (f g : KeepBits) (L M : List P) → Retains Says f L M g → f.left ≡ length L + g.left
  left-Says f g [] M r = let same = ap (λ (h : KeepBits). h.left) r.1 in omega (arith, same)
  left-Says f g (x ∷ L) M r = let rest = left-Says r.1 g L r.2 r.4 in omega (arith, rest, r.3.left)

  -- those that stay had the set bits among these
  pub ones-Says : (f g : KeepBits) (L M : List P) → Retains Says f L M g → count_ones f.word ≡ length M + count_ones g.word
  ones-Says f g [] M r = let e = ap length r.0 in let same = ap (λ (h : KeepBits). count_ones h.word) r.1 in omega (arith, e, same)
  ones-Says f g (x ∷ L) M r =
      let rest = ap count_ones (sym r.3.word) ∙ ones-Says r.1 g L r.2 r.4 in let one = ones-bit r.0 f.word r.3.is in let e = ap length r.5 in
      grind (arith, rest, one, e)

  -- and they are those whose bit was set
  pub kept_by-Says : (f g : KeepBits) (L M : List P) → Retains Says f L M g → M ≡ kept_by f.word L
  kept_by-Says f g L M r =
      (Retains-kept_from Says (λ (f : KeepBits) (word : ℕ). f.word ≡ word) (λ word _. word % 2 == 1) (λ word _. word / 2)
      (λ f x b g word own said. (said.is ∙ ap (λ n. n % 2 == 1) own, said.word ∙ ap (λ n. n / 2) own)) f.word f g L M refl r).0

  -- how long the parts are
  pub lengths-Keeps : (f g : KeepBits) (L M : List P) (i j : ℕ) (k : Keeps f L i g M j)
      → (length k.asked + length k.rest ≡ length L - i) × (length M ≡ min i (length L) + (length k.kept + length k.rest)) × (length k.kept ≤ length k.asked)
  lengths-Keeps f g L M i j k = (
    sym (length-append k.asked k.rest) ∙ ap length (sym k.old) ∙ length-drop i L,
    ap length k.new ∙ length-append (take i L) (k.kept ++ k.rest) ∙ (λ h. length-take i L h + length-append k.kept k.rest h),
    length-Retains Says f g k.asked k.kept k.told,
  )

  -- elements at the front were removed
  pub Keeps-gone : (f g : KeepBits) (L gone left : List P) → L ≡ gone ++ left → Retains Says f gone [] g → Keeps f L 0 g left 0
  Keeps-gone f g L gone left split told = record { asked = gone; kept = []; rest = left; old = split; told = told; new = refl; on = refl }

  -- and the next one stays
  pub Keeps-first : (f g h : KeepBits) (L gone : List P) (p : P) (left : List P) → L ≡ gone ++ p ∷ left → Retains Says f gone [] g → IsNextBit g true h → Keeps f L 0 h (p ∷ left) 1
  Keeps-first f g h L gone p left split told said = record {
    asked = gone ++ p ∷ [];
    kept = p ∷ [];
    rest = left;
    old = split ∙ sym (append_assoc gone (p ∷ []) left);
    told = Retains-append Says f g h gone (p ∷ []) [] (p ∷ []) told (true, h, [], said, (refl, refl), refl);
    new = refl;
    on = refl;
  }

  module _ {f g : KeepBits} {L M : List P} {i j : ℕ} (within : i ≤ length L) (one : Keeps f L i g M j) where
    front : length (take i L ++ one.kept) ≡ j
    front = let sum = length-append (take i L) one.kept in let fits = length-take-le i L within in omega (arith, sum, fits, one.on)

    whole : M ≡ (take i L ++ one.kept) ++ one.rest
    whole = one.new ∙ sym (append_assoc (take i L) one.kept one.rest)

    -- what is before the place that was reached, and what is behind it
    pub take-Keeps : take j M ≡ take i L ++ one.kept
    take-Keeps = ap (take j) whole ∙ take_at (take i L ++ one.kept) one.rest j front

    pub drop-Keeps : drop j M ≡ one.rest
    drop-Keeps = ap (drop j) whole ∙ drop_at (take i L ++ one.kept) one.rest j front

    reached-Keeps : length M ≡ j + length one.rest
    reached-Keeps = let sum = length-append (take i L ++ one.kept) one.rest in let all = ap length whole in omega (arith, sum, all, front)

    -- one walk goes on where another stopped
    abbrev pub Keeps-then : (h : KeepBits) (N : List P) (m k : ℕ) → m ≡ j → Keeps g M m h N k → Keeps f L i h N k
    Keeps-then h N m k same two = record {
      asked = one.asked ++ two.asked;
      kept = one.kept ++ two.kept;
      rest = two.rest;
      old = one.old ∙ ap (λ Z. one.asked ++ Z) (sym drop-Keeps ∙ ap (λ n. drop n M) (sym same) ∙ two.old) ∙ sym (append_assoc one.asked two.asked two.rest);
      told = Retains-append Says f g h one.asked two.asked one.kept two.kept one.told two.told;
      new = two.new ∙ ap (λ Z. Z ++ (two.kept ++ two.rest)) (ap (λ n. take n M) same ∙ take-Keeps) ∙ append_assoc (take i L) one.kept (two.kept ++ two.rest)
          ∙ ap (λ Z. take i L ++ Z) (sym (append_assoc one.kept two.kept two.rest));
      on = (let sum = length-append one.kept two.kept in omega (arith, sum, same, one.on, two.on));
    }

    -- if it stopped for want of bits or elements, it went over as many elements as there were bits, and left the others
    pub Keeps-all : (0 < g.left → length M ≤ j) → (one.asked ≡ take f.left (drop i L)) × (one.rest ≡ drop (i + f.left) L)
    Keeps-all ends =
        let count = left-Says f g one.asked one.kept one.told in
        elim (cases_lt 0 g.left) as (λ _. (one.asked ≡ take f.left (drop i L)) × (one.rest ≡ drop (i + f.left) L)) [
          | inl more ↦
              let end = ends more in
              let none : one.rest ≡ [] = nil_from_length one.rest (omega (arith, end, reached-Keeps)) in
              let all : drop i L ≡ one.asked = one.old ∙ ap (λ Z. one.asked ++ Z) none ∙ append-nil one.asked in
              let long = ap length all in (
                sym all ∙ sym (take_all f.left (drop i L) (omega (arith, long, count))),
                none ∙ sym (drop_all f.left (drop i L) (omega (arith, long, count))) ∙ drop-drop f.left i L,
              )
          | inr last ↦
              let len : length one.asked ≡ f.left = omega (arith, last, count) in (
                sym (ap (take f.left) one.old ∙ take_at one.asked one.rest f.left len),
                sym (ap (drop f.left) one.old ∙ drop_at one.asked one.rest f.left len) ∙ drop-drop f.left i L,
              )
        ]
