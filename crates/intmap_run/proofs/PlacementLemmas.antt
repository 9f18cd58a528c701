-- What a run places in larger tables is little for the lengths that it goes through, and so is the capacity that growth leaves.
use Rattle.std.proofs.Common.{◌≡◌, ◌≢◌, inl, inr, ℕ, ◌+◌, ◌-◌, ◌*◌, ◌/◌, ◌^◌, ◌<◌, ◌≤◌, max, Bool, cond, List, [], ◌∷◌, length, is_some, refl, sym, ap, subst, ◌∙◌, add-zero, add_assoc, arith}
use Rattle.std.specs.Prelude.{◌==◌, ◌⊎◌}
use Rattle.std.proofs.Math.Nat.{mul-le-mul_left, mul-le-mul_right, div-mul-le_self, lt-div-mul-add, le-max_right}
use Rattle.std.proofs.Math.Pow.{pow_pos}
use Rattle.std.proofs.lemmas.Nat.{pow-add}
use Rattle.std.proofs.lemmas.Bool.{cases_eq, cases_lt, cases_Bool, eq-eqb, ne_eqb}
use Rattle.std.specs.Map.{keys_of}
use Rattle.intmap.specs.Bindings.{value_of, take_key, write_value, keep_pairs, strike_keys}
use Rattle.intmap.specs.Growth.{IsWanted, IsNext, is_due}
use Rattle.intmap.specs.PlainLists.{PlainList, looked_up, ListInserts, ListInsertsAll}
use Rattle.intmap.proofs.DistinctLemmas.{length-put_pair}
use Rattle.intmap_run.specs.declared.command.Command.{Command}
use Rattle.intmap_run.specs.declared.command.Command.TheVariants as command
use Rattle.intmap_run.specs.declared.answer.Answer.{Answer}
use Rattle.intmap_run.specs.Runs.{Answers, Runs}
use Rattle.intmap_run.specs.Bounds.{factors_set_by, factors_set, SetsCapacity, greatest_length, WasSet, RunPlacesFew, RunLeavesFewSlots}
use Rattle.intmap_run.proofs.CapacityLemmas.{IsCapacityAfter-changed}

-- a growth from C to D slots at n pairs, by products with f, which is the load factor and one: half of D was too small, and D isn't
record IsGrowth (C n f D : ℕ) : Type 0 where
  half : ℕ
  doubled : D ≡ half * 2
  more : C ≤ half
  before : f * half ≤ n * 1000
  after : n * 1000 < f * D

-- another capacity that is wanted is a growth
IsGrowth-from_wanted : (C n F D : ℕ) → IsWanted C n F D → D ≢ C → IsGrowth C n (F + 1) D
IsGrowth-from_wanted C n F D wanted apart =
    let j : ℕ = wanted.doubled.0 in
    let is : D ≡ C * 2 ^ j = wanted.doubled.1 in
    let some : 0 < C = elim (cases_lt 0 C) [
      | inl lt ↦ lt
      | inr none ↦ (let z : C ≡ 0 = omega (arith, none) in absurd (apart (is ∙ ap (λ c. c * 2 ^ j) z ∙ (let q : 0 * 2 ^ j ≡ 0 = omega arith in q) ∙ sym z)))
    ] in
    let one : 0 < j = elim (cases_lt 0 j) [
      | inl lt ↦ lt
      | inr none ↦ (let z : j ≡ 0 = omega (arith, none) in absurd (apart (is ∙ ap (λ e. C * 2 ^ e) z ∙ (let q : C * 2 ^ 0 ≡ C = omega arith in q))))
    ] in
    let half : ℕ = C * 2 ^ (j - 1) in
    let twice : 2 ^ j ≡ 2 ^ (j - 1) * 2 = ap (λ e. 2 ^ e) (let e : j ≡ j - 1 + 1 = omega (arith, one) in e) ∙ pow-add 2 (j - 1) 1 in
    let doubled : D ≡ half * 2 = is ∙ ap (λ p. C * p) twice ∙ (let q : C * (2 ^ (j - 1) * 2) ≡ C * 2 ^ (j - 1) * 2 = omega arith in q) in
    let power : 0 < 2 ^ (j - 1) = pow_pos (j - 1) in
    let more : C * 1 ≤ half = mul-le-mul_left C power in
    let less : half < D = omega (arith, doubled, more, some) in
    let over : F + 1 ≤ n * 1000 / half = (let h = wanted.least (j - 1) less in omega (arith, h)) in
    let low : (F + 1) * half ≤ n * 1000 / half * half = mul-le-mul_right half over in
    let whole : n * 1000 / half * half ≤ n * 1000 = div-mul-le_self (n * 1000) half in
    let positive : 0 < D = omega (arith, less) in
    let up : n * 1000 < n * 1000 / D * D + D = lt-div-mul-add positive in
    let met : n * 1000 / D ≤ F = wanted.meets in
    let high : n * 1000 / D * D ≤ F * D = mul-le-mul_right D met in
    record {
      half = half;
      doubled = doubled;
      more = omega (arith, more);
      before = omega (arith, low, whole);
      after = omega (arith, up, high);
    }

-- another capacity that follows is a growth
IsGrowth-from_next : (C n F D : ℕ) → IsNext C n F D → D ≢ C → IsGrowth C n (F + 1) D
IsGrowth-from_next C n F D next apart = elim (cases_Bool (is_due n)) [
  | inl due ↦ IsGrowth-from_wanted C n F D (rw due at next) apart
  | inr not ↦ absurd (apart (rw not at next))
]

-- if P pairs were placed before a growth, it keeps P and the pairs few for the capacity, and at most three times the pairs
growth_few : (C n f D P : ℕ) → IsGrowth C n f D → 1000 * P ≤ 2 * (f * C) → (1000 * (P + n) ≤ 2 * (f * D)) × (P + n ≤ 3 * n)
growth_few C n f D P growth few =
    let half : ℕ = growth.half in
    let wide : f * C ≤ f * half = mul-le-mul_left f growth.more in
    let before : f * half ≤ n * 1000 = growth.before in
    let after : n * 1000 < f * D = growth.after in
    let whole : f * D ≡ f * half * 2 = ap (λ d. f * d) growth.doubled ∙ (let q : f * (half * 2) ≡ f * half * 2 = omega arith in q) in
    (omega (arith, few, wide, after, whole), omega (arith, few, wide, before))

module _ {K V : Type 0} where
  -- these placements are few for the capacity and the load factor
  abbrev AreFew : PlainList K V → ℕ → Type 0
  AreFew s P = 1000 * P ≤ 2 * ((s.factor + 1) * s.capacity)

  -- insertions led from s to t and placed pairs: if there were few placements before them, there are few after them,
  -- and no more than three times the pairs if they placed any; the capacity stayed, or it is small for the pairs
  record Grows (s t : PlainList K V) : Type 0 where
    placements : ℕ
    placed : t.placed ≡ s.placed + placements
    factor : t.factor ≡ s.factor
    longer : length s.pairs ≤ length t.pairs
    few : (P : ℕ) → AreFew s P → AreFew t (P + placements)
    most : (placements ≡ 0) ⊎ ((P : ℕ) → AreFew s P → P + placements ≤ 3 * length t.pairs)
    capacity : (t.capacity ≡ s.capacity) ⊎ ((t.factor + 1) * t.capacity ≤ 2000 * length t.pairs)

  -- an insertion that kept the capacity places nothing
  pub placements-kept : (s t : PlainList K V) → t.capacity ≡ s.capacity → cond (t.capacity == s.capacity) 0 (length t.pairs) ≡ 0
  placements-kept s t same = ap (λ b. cond b 0 (length t.pairs)) (eq-eqb t.capacity s.capacity same)

  -- an insertion that changed it places all pairs
  placements-changed : (s t : PlainList K V) → t.capacity ≢ s.capacity → cond (t.capacity == s.capacity) 0 (length t.pairs) ≡ length t.pairs
  placements-changed s t apart = ap (λ b. cond b 0 (length t.pairs)) (ne_eqb t.capacity s.capacity apart)

module _ {K V S A : Type 0} where
  -- a step at which a load factor was set
  record Resets (s : PlainList K V) (c : Command K V A) (a : Answer K V S A) (t : PlainList K V) : Type 0 where
    placed : t.placed ≡ s.placed
    counted : factors_set_by c a ≡ 1
    set : SetsCapacity c a

  -- any other step
  record Keeps (s : PlainList K V) (c : Command K V A) (a : Answer K V S A) (t : PlainList K V) : Type 0 where
    placed : t.placed ≡ s.placed
    factor : t.factor ≡ s.factor
    more : s.capacity ≤ t.capacity
    capacity : (t.capacity ≡ s.capacity) ⊎ SetsCapacity c a

  -- a step that changed neither capacity nor load factor
  Keeps-same : (s : PlainList K V) (c : Command K V A) (a : Answer K V S A) (t : PlainList K V) → t.placed ≡ s.placed → t.capacity ≡ s.capacity → t.factor ≡ s.factor → Keeps s c a t
  Keeps-same s c a t placed capacity factor = record { placed = placed; factor = factor; more = omega (arith, capacity); capacity = inl capacity }

  -- of which the list after is known
  Keeps-list : (s : PlainList K V) (c : Command K V A) (a : Answer K V S A) (t u : PlainList K V) → t ≡ u → u.placed ≡ s.placed → u.capacity ≡ s.capacity → u.factor ≡ s.factor → Keeps s c a t
  Keeps-list s c a t u same placed capacity factor =
      Keeps-same s c a t (ap (λ x. x.placed) same ∙ placed) (ap (λ x. x.capacity) same ∙ capacity) (ap (λ x. x.factor) same ∙ factor)

module _ {K V : Type 0} (number : K → ℕ) where
  -- a successful insertion
  Grows-inserts : (s : PlainList K V) (k : K) (v : V) (t : PlainList K V) → ListInserts number s k v t → Grows s t
  Grows-inserts s k v t inserts =
      let factor : t.factor ≡ s.factor = ap (λ x. x.factor) inserts.after in
      let len : length t.pairs ≡ length s.pairs + cond (is_some (value_of number s.pairs k)) 0 1 =
      ap (λ x. length x.pairs) inserts.after ∙ length-put_pair number s.pairs s.capacity k v in
      let longer : length s.pairs ≤ length t.pairs = omega (arith, len) in
      elim (cases_eq t.capacity s.capacity) [
        | inl same ↦
            (let none = placements-kept s t same in
            record {
              placements = cond (t.capacity == s.capacity) 0 (length t.pairs);
              placed = inserts.placed;
              factor = factor;
              longer = longer;
              few = λ P few. rw (none, factor, same, add-zero P) few;
              most = inl none;
              capacity = inl same;
            })
        | inr apart ↦
            (let next = IsCapacityAfter-changed (value_of number s.pairs k) s.capacity (length s.pairs + 1) s.factor t.capacity inserts.fits.capacity apart in
            let one : length t.pairs ≡ length s.pairs + 1 = len ∙ ap (λ o. length s.pairs + cond (is_some o) 0 1) next.0 in
            let all = placements-changed s t apart in
            let growth : IsGrowth s.capacity (length t.pairs) (s.factor + 1) t.capacity =
            rw one (IsGrowth-from_next s.capacity (length s.pairs + 1) s.factor t.capacity next.1 apart) in
            let whole : (s.factor + 1) * t.capacity ≡ (s.factor + 1) * growth.half * 2 = ap (λ d. (s.factor + 1) * d) growth.doubled ∙ (let q : (s.factor + 1) * (growth.half * 2) ≡ (s.factor + 1) * growth.half * 2 = omega arith in q) in
            let before = growth.before in
            record {
              placements = cond (t.capacity == s.capacity) 0 (length t.pairs);
              placed = inserts.placed;
              factor = factor;
              longer = longer;
              few = λ P few. rw (all, factor) (growth_few s.capacity (length t.pairs) (s.factor + 1) t.capacity P growth few).0;
              most = inr (λ P few. rw all (growth_few s.capacity (length t.pairs) (s.factor + 1) t.capacity P growth few).1);
              capacity = inr (rw factor (omega (arith, whole, before)));
            })
      ]

  -- no insertion
  Grows-none : (s : PlainList K V) → Grows s s
  Grows-none s = record { placements = 0; placed = sym (add-zero s.placed); factor = refl; longer = omega arith; few = λ P few. rw (add-zero P) few; most = inl refl; capacity = inl refl }

  -- insertions after others
  Grows-then : (s m t : PlainList K V) → Grows s m → Grows m t → Grows s t
  Grows-then s m t one other =
      let p : ℕ = one.placements in
      let q : ℕ = other.placements in
      let longer = one.longer in
      let more = other.longer in
      record {
        placements = p + q;
        placed = other.placed ∙ ap (λ n. n + q) one.placed ∙ add_assoc s.placed p q;
        factor = other.factor ∙ one.factor;
        longer = omega (arith, longer, more);
        few = λ P few. rw (← add_assoc P p q) (other.few (P + p) (one.few P few));
        most = elim other.most [
          | inr three ↦ inr (λ P few. rw (← add_assoc P p q) (three (P + p) (one.few P few)))
          | inl none ↦ elim one.most [
            | inl before ↦ inl (omega (arith, none, before))
            | inr three ↦ inr (λ P few. let h = three P few in omega (arith, h, none, more))
          ]
        ];
        capacity = elim other.capacity [
          | inr small ↦ inr small
          | inl same ↦ elim one.capacity [
            | inl before ↦ inl (same ∙ before)
            | inr small ↦ inr (rw (same, other.factor) (omega (arith, small, more)))
          ]
        ];
      }

  -- insertions after a look-up
  Grows-searched : (s : PlainList K V) (k : K) (t : PlainList K V) → Grows (looked_up number s k) t → Grows s t
  Grows-searched s k t grows = record {
    placements = grows.placements;
    placed = grows.placed;
    factor = grows.factor;
    longer = grows.longer;
    few = grows.few;
    most = grows.most;
    capacity = grows.capacity;
  }

  -- a look-up after insertions
  Grows-then_search : (s m : PlainList K V) (k : K) → Grows s m → Grows s (looked_up number m k)
  Grows-then_search s m k grows = record {
    placements = grows.placements;
    placed = grows.placed;
    factor = grows.factor;
    longer = grows.longer;
    few = grows.few;
    most = grows.most;
    capacity = grows.capacity;
  }

  -- successful insertions in turn
  Grows-all : (s : PlainList K V) (ps : List (K × V)) (t : PlainList K V) (all : ListInsertsAll number s ps t) → Grows s t
  Grows-all s [] t all = rw all (Grows-none s)
  Grows-all s (p ∷ ps) t all =
      Grows-then s all.0 t (Grows-searched s p.0 all.0 (Grows-inserts (looked_up number s p.0) p.0 p.1 all.0 all.1)) (Grows-all all.0 ps t all.2)

module _ {K V S A : Type 0} (number : K → ℕ) (sees : V → S → Type 0) (keeps : K → V → Bool) where
  -- each step is of one of the three kinds
  kind : (s : PlainList K V) (c : Command K V A) (a : Answer K V S A) (t : PlainList K V) → Answers number sees keeps s c a t → Grows s t ⊎ (Resets s c a t ⊎ Keeps s c a t)
  kind s (command.Insert k v) a t (inl h) = inl (Grows-searched number s k t (Grows-inserts number (looked_up number s k) k v t h.1))
  kind s (command.Insert k v) a t (inr h) = inr (inr (Keeps-list s (command.Insert k v) a t (looked_up number s k) h.3 refl refl refl))
  kind s (command.InsertChecked k v) a t (inl h) = inr (inr (Keeps-list s (command.InsertChecked k v) a t (looked_up number s k) h.2 refl refl refl))
  kind s (command.InsertChecked k v) a t (inr (inl h)) = inl (Grows-searched number s k t (Grows-inserts number (looked_up number s k) k v t h.2))
  kind s (command.InsertChecked k v) a t (inr (inr h)) = inr (inr (Keeps-list s (command.InsertChecked k v) a t (looked_up number s k) h.3 refl refl refl))
  kind s (command.Get k) a t h = inr (inr (Keeps-list s (command.Get k) a t (s) h.1 refl refl refl))
  kind s (command.GetMut k v) a t (inl h) = inr (inr (Keeps-list s (command.GetMut k v) a t (record (looked_up number s k) { pairs = write_value number s.pairs k v }) h.2 refl refl refl))
  kind s (command.GetMut k v) a t (inr h) = inr (inr (Keeps-list s (command.GetMut k v) a t (looked_up number s k) h.2 refl refl refl))
  kind s (command.ContainsKey k) a t h = inr (inr (Keeps-list s (command.ContainsKey k) a t (s) h.1 refl refl refl))
  kind s (command.Remove k) a t h = inr (inr (Keeps-list s (command.Remove k) a t (record (looked_up number s k) { pairs = take_key number s.pairs s.capacity k }) h.1 refl refl refl))
  kind s command.Clear a t h = inr (inr (Keeps-list s command.Clear a t (record s { pairs = [] }) h.1 refl refl refl))
  kind s command.Retain a t h = inr (inr (Keeps-list s command.Retain a t (record s { pairs = keep_pairs keeps s.pairs }) h.1 refl refl refl))
  kind s (command.Reserve n) a t (inl h) = inr (inr (record {
    placed = ap (λ x. x.placed) h.1.after;
    factor = ap (λ x. x.factor) h.1.after;
    more = let m = h.1.enough.capacity in omega (arith, m);
    capacity = inr (rw h.0 tt);
  }))
  kind s (command.Reserve n) a t (inr h) = inr (inr (Keeps-list s (command.Reserve n) a t (s) h.3 refl refl refl))
  kind s (command.SetLoadFactor f) a t (inl h) = inr (inl (record { placed = ap (λ x. x.placed) h.1.after; counted = rw h.0 refl; set = rw h.0 tt }))
  kind s (command.SetLoadFactor f) a t (inr h) = inr (inr (Keeps-list s (command.SetLoadFactor f) a t (s) h.3 refl refl refl))
  kind s command.GetLoadFactor a t h = inr (inr (Keeps-list s command.GetLoadFactor a t (s) h.1 refl refl refl))
  kind s (command.EntryInsert k v) a t (inl h) = inr (inr (Keeps-list s (command.EntryInsert k v) a t (record (looked_up number s k) { pairs = write_value number s.pairs k v }) h.2 refl refl refl))
  kind s (command.EntryInsert k v) a t (inr (inl h)) = inl (Grows-searched number s k t (Grows-inserts number (looked_up number s k) k v t h.2))
  kind s (command.EntryInsert k v) a t (inr (inr h)) = inr (inr (Keeps-list s (command.EntryInsert k v) a t (looked_up number s k) h.3 refl refl refl))
  kind s (command.EntryRemove k) a t h = inr (inr (Keeps-list s (command.EntryRemove k) a t (record (looked_up number s k) { pairs = take_key number s.pairs s.capacity k }) h.1 refl refl refl))
  kind s (command.Extend pairs) a t (inl h) = inl (Grows-all number s pairs.items t h.1.1)
  kind s (command.Extend pairs) a t (inr h) =
      inl (subst (Grows s) (sym h.2.7) (Grows-then_search number s h.2.2 (h.0).key (Grows-all number s h.2.0 h.2.2 h.2.5)))
  kind s (command.Drain m) a t (inl h) = inr (inr (Keeps-list s (command.Drain m) a t (record s { pairs = strike_keys number s.pairs (keys_of (h.0).items) }) h.3 refl refl refl))
  kind s (command.Drain m) a t (inr h) = inr (inr (Keeps-list s (command.Drain m) a t (s) h.1 refl refl refl))
  kind s command.Len a t h = inr (inr (Keeps-list s command.Len a t (s) h.1 refl refl refl))
  kind s command.IsEmpty a t h = inr (inr (Keeps-list s command.IsEmpty a t (s) h.1 refl refl refl))
  kind s command.Capacity a t h = inr (inr (Keeps-list s command.Capacity a t (s) h.1 refl refl refl))
  kind s command.Load a t h = inr (inr (Keeps-list s command.Load a t (s) h.1 refl refl refl))
  kind s command.LoadRate a t h = inr (inr (Keeps-list s command.LoadRate a t (s) h.1 refl refl refl))
  kind s command.AssertCount a t h = inr (inr (Keeps-list s command.AssertCount a t (s) h.1 refl refl refl))
  kind s command.Walk a t (inl h) = inr (inr (Keeps-list s command.Walk a t (s) h.3 refl refl refl))
  kind s command.Walk a t (inr h) = inr (inr (Keeps-list s command.Walk a t (s) h.1 refl refl refl))
  kind s command.Keys a t (inl h) = inr (inr (Keeps-list s command.Keys a t (s) h.3 refl refl refl))
  kind s command.Keys a t (inr h) = inr (inr (Keeps-list s command.Keys a t (s) h.1 refl refl refl))
  kind s command.Values a t (inl h) = inr (inr (Keeps-list s command.Values a t (s) h.3 refl refl refl))
  kind s command.Values a t (inr h) = inr (inr (Keeps-list s command.Values a t (s) h.1 refl refl refl))
  kind s command.Collisions a t (inl h) = inr (inr (Keeps-list s command.Collisions a t (s) h.3 refl refl refl))
  kind s command.Collisions a t (inr h) = inr (inr (Keeps-list s command.Collisions a t (s) h.1 refl refl refl))

  -- the greatest length of a run is at least the length at its start
  greatest_length-start : (s : PlainList K V) (cs : List (Command K V A)) (as' : List (Answer K V S A)) (t : PlainList K V) (run : Runs number sees keeps s cs as' t)
      → length s.pairs ≤ greatest_length number sees keeps s cs as' t run
  greatest_length-start s [] as' t run = omega arith
  greatest_length-start s (c ∷ cs) [] t run = omega arith
  greatest_length-start s (c ∷ cs) (a ∷ as') t run = omega arith

  -- if P pairs were placed since the load factor was set, few for the capacity, the run keeps them few, H for each load factor
  few-from : (H P : ℕ) (s : PlainList K V) (cs : List (Command K V A)) (as' : List (Answer K V S A)) (t : PlainList K V) (run : Runs number sees keeps s cs as' t)
      → 1000 * P ≤ 2 * ((s.factor + 1) * s.capacity) → P ≤ H → 3 * greatest_length number sees keeps s cs as' t run ≤ H
      → t.placed + P ≤ s.placed + (factors_set cs as' + 1) * H
  few-from H P s [] [] t run few low high = let same : t.placed ≡ s.placed = ap (λ x. x.placed) run in omega (arith, low, same)
  few-from H P s [] (a ∷ as') t run few low high = absurd run
  few-from H P s (c ∷ cs) [] t run few low high = absurd run
  few-from H P s (c ∷ cs) (a ∷ as') t run few low high =
      let m : PlainList K V = run.0 in
      let greatest : ℕ = greatest_length number sees keeps m cs as' t run.2 in
      let start : length m.pairs ≤ greatest = greatest_length-start m cs as' t run.2 in
      let rest : 3 * greatest ≤ H = (let most : greatest ≤ max (length s.pairs) greatest = le-max_right (length s.pairs) greatest in omega (arith, high, most)) in
      elim (kind s c a m run.1) as (λ _. t.placed + P ≤ s.placed + (factors_set_by c a + factors_set cs as' + 1) * H) [
        | inl grows ↦
            (let p : ℕ = grows.placements in
            let rise : m.placed ≡ s.placed + p = grows.placed in
            let low' : P + p ≤ H = elim grows.most [
              | inl none ↦ omega (arith, none, low)
              | inr three ↦ (let h = three P few in omega (arith, h, start, rest))
            ] in
            let h = few-from H (P + p) m cs as' t run.2 (grows.few P few) low' rest in
            let wide : (factors_set cs as' + 1) * H ≤ (factors_set_by c a + factors_set cs as' + 1) * H =
            mul-le-mul_right H (let le : factors_set cs as' + 1 ≤ factors_set_by c a + factors_set cs as' + 1 = omega arith in le) in
            omega (arith, h, wide, rise))
        | inr other ↦ elim other [
          | inl resets ↦
              (let h = few-from H 0 m cs as' t run.2 (omega arith) (omega arith) rest in
              let more : (factors_set_by c a + factors_set cs as' + 1) * H ≡ H + (factors_set cs as' + 1) * H = rw resets.counted (omega arith) in
              let rise = resets.placed in omega (arith, h, more, low, rise))
          | inr kept ↦
              (let f : m.factor ≡ s.factor = kept.factor in
              let wide : (s.factor + 1) * s.capacity ≤ (s.factor + 1) * m.capacity = mul-le-mul_left (s.factor + 1) kept.more in
              let few' : 1000 * P ≤ 2 * ((m.factor + 1) * m.capacity) = rw f (omega (arith, few, wide)) in
              let h = few-from H P m cs as' t run.2 few' low rest in
              let wide' : (factors_set cs as' + 1) * H ≤ (factors_set_by c a + factors_set cs as' + 1) * H =
              mul-le-mul_right H (let le : factors_set cs as' + 1 ≤ factors_set_by c a + factors_set cs as' + 1 = omega arith in le) in
              let rise = kept.placed in omega (arith, h, wide', rise))
        ]
      ]

  -- a run places at most three times its greatest length for each load factor that it had
  pub RunPlacesFew-run : (s : PlainList K V) (cs : List (Command K V A)) (as' : List (Answer K V S A)) (t : PlainList K V) (run : Runs number sees keeps s cs as' t)
      → RunPlacesFew number sees keeps s cs as' t run
  RunPlacesFew-run s cs as' t run =
      let greatest : ℕ = greatest_length number sees keeps s cs as' t run in
      let h = few-from (3 * greatest) 0 s cs as' t run (omega arith) (omega arith) (omega arith) in
      omega (arith, h)

  -- the capacity and the load factor stayed, or the caller set the capacity, or it is small for the lengths of the run
  capacity-from : (s : PlainList K V) (cs : List (Command K V A)) (as' : List (Answer K V S A)) (t : PlainList K V) (run : Runs number sees keeps s cs as' t)
      → ((t.capacity ≡ s.capacity) × (t.factor ≡ s.factor))
      ⊎ (WasSet number sees keeps t.capacity s cs as' t run ⊎ ((t.factor + 1) * t.capacity ≤ 2000 * greatest_length number sees keeps s cs as' t run))
  capacity-from s [] [] t run = inl (ap (λ x. x.capacity) run, ap (λ x. x.factor) run)
  capacity-from s [] (a ∷ as') t run = absurd run
  capacity-from s (c ∷ cs) [] t run = absurd run
  capacity-from s (c ∷ cs) (a ∷ as') t run =
      let m : PlainList K V = run.0 in
      let greatest : ℕ = greatest_length number sees keeps m cs as' t run.2 in
      let start : length m.pairs ≤ greatest = greatest_length-start m cs as' t run.2 in
      let most : greatest ≤ max (length s.pairs) greatest = le-max_right (length s.pairs) greatest in
      elim (capacity-from m cs as' t run.2) [
        | inr later ↦ elim later [
          | inl set ↦ inr (inl (inr set))
          | inr small ↦ inr (inr (omega (arith, small, most)))
        ]
        | inl stayed ↦ elim (kind s c a m run.1) [
          | inl grows ↦ elim grows.capacity [
            | inl same ↦ inl (stayed.0 ∙ same, stayed.1 ∙ grows.factor)
            | inr small ↦
                (let product : (t.factor + 1) * t.capacity ≡ (m.factor + 1) * m.capacity = λ i. (stayed.1 i + 1) * stayed.0 i in
                inr (inr (omega (arith, product, small, start, most))))
          ]
          | inr other ↦ elim other [
            | inl resets ↦ inr (inl (inl (resets.set, sym stayed.0)))
            | inr kept ↦ elim kept.capacity [
              | inl same ↦ inl (stayed.0 ∙ same, stayed.1 ∙ kept.factor)
              | inr set ↦ inr (inl (inl (set, sym stayed.0)))
            ]
          ]
        ]
      ]

  -- the capacity at the end of a run is the start's, or one that the caller set, or small for the lengths of the run
  pub RunLeavesFewSlots-run : (s : PlainList K V) (cs : List (Command K V A)) (as' : List (Answer K V S A)) (t : PlainList K V) (run : Runs number sees keeps s cs as' t)
      → RunLeavesFewSlots number sees keeps s cs as' t run
  RunLeavesFewSlots-run s cs as' t run = elim (capacity-from s cs as' t run) [ inl stayed ↦ inl stayed.0 | inr later ↦ inr later ]
