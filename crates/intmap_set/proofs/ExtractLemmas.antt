-- What a closure picks that is asked about one member after the other.
use Rattle.std.proofs.Common.{◌≡◌, ◌∙◌, ℕ, ◌+◌, ◌<◌, Bool, true, false, List, [], ◌∷◌, ◌++◌, Option, Some, None, length, take, drop, get_or, refl, sym, ap, subst, arith, append-nil, append_assoc}
use Rattle.std.specs.Bool.{MatchBool}
use Rattle.std.specs.Iterator.{MakesProgress, at_most}
use Rattle.std.specs.List.Retain.{ExtractsNext}
use Rattle.std.specs.Prelude.{◌||◌, MatchOption}
use Rattle.std.proofs.lemmas.List.{drop-map, take-append-drop, take-map}
use Rattle.std.proofs.lemmas.List.Folds.{list_any-append}
use Rattle.std.proofs.Math.Seq.{take-add}
use Rattle.std.specs.Map.{keys_of}
use Rattle.intmap.specs.Classes.{same_key}
use Rattle.intmap.specs.Map.{MapState, passed}
use Rattle.intmap.specs.Picking.{ExtractsBehind}
use Rattle.intmap.specs.Taking.{TakesEach}
use Rattle.intmap_set.specs.Sets.{SetState, as_map, holds, load_factor, paired, set_of}
use Rattle.intmap_set.proofs.MemberLemmas.{as_map-seen, keys_of-paired, same_key-itself}

module _ {X : Type 0} (L M : List X) (i : ℕ) (x : X) (next : drop i L ≡ x ∷ M) where
  -- the element behind the first i comes behind these
  pub take-next : take (i + 1) L ≡ take i L ++ x ∷ []
  take-next = take-add i 1 L ∙ ap (λ Z. take i L ++ take 1 Z) next

-- the same, where the places are given by other numbers
pub drop-next : {X : Type 0} (L : List X) (i j n : ℕ) (x : X) → n ≡ i → j ≡ i + 1 → drop i L ≡ x ∷ drop j L → drop n L ≡ x ∷ drop (n + 1) L
drop-next L i j n x same on next = ap (λ z. drop z L) same ∙ next ∙ ap (λ z. x ∷ drop z L) (on ∙ ap (λ z. z + 1) (sym same))

module _ {F X : Type 0} (R : F → X → Bool → F → X → Type 0) where
  -- a step behind the first j elements is one behind the first i
  abbrev pub StepsFrom : F → List X → ℕ → F → ℕ → Type 0
  StepsFrom f L i g j = (r : Option X) (h : F) (N : List X) (k : ℕ) → ExtractsBehind R g L j r h N k → ExtractsBehind R f L i r h N k

  -- no element is left
  pub ExtractsBehind-end : (f : F) (L : List X) (i : ℕ) → drop i L ≡ [] → ExtractsBehind R f L i None f L i
  ExtractsBehind-end f L i none = ([], rw none (refl, refl, refl, refl), sym (append-nil (take i L)))

  module _ (f g : F) (L : List X) (i : ℕ) (x : X) where
    -- the next element isn't picked
    pub StepsFrom-kept : drop i L ≡ x ∷ drop (i + 1) L → R f x false g x → StepsFrom f L i g (i + 1)
    StepsFrom-kept next call r h N k step = (
      x ∷ step.0,
      rw next (false, g, x, call, (step.0, step.1, refl)),
      step.2 ∙ ap (λ Z. Z ++ step.0) (take-next L (drop (i + 1) L) i x next) ∙ append_assoc (take i L) (x ∷ []) step.0,
    )

    -- it is picked, and removed
    pub ExtractsBehind-cut : (rest M : List X) (j : ℕ) (r : Option X) → drop i L ≡ x ∷ rest → R f x true g x → MatchOption r (drop i L ≡ []) (λ y. drop i L ≡ y ∷ drop j M)
        → take j M ≡ take i L → (r ≡ Some x) × ExtractsBehind R f L i r g M j
    ExtractsBehind-cut rest M j None next call first front = let no = sym first ∙ next in cc
    ExtractsBehind-cut rest M j (Some y) next call first front =
        let same : y ≡ x = ap (λ Z. get_or Z 0 x) (sym first ∙ next) in
        (ap (λ z. Some z) same, ([], rw first (true, g, y, subst (λ z. R f z true g z) (sym same) call, (refl, refl, refl, refl)), front ∙ sym (append-nil (take i L))))

module _ {F K : Type 0} (S : F → K → Bool → F → Type 0) (Q : F → K → Type 0) where
  -- a step that leaves the key as it is
  abbrev Picks : F → K → Bool → F → K → Type 0
  Picks f k b g j = (j ≡ k) × S f k b g

  -- behind the call at the first key the closure takes the others
  TakesEach-behind : (f g : F) (k : K) (b : Bool) (L : List K) → TakesEach S Q f (k ∷ L) → S f k b g → TakesEach S Q g L
  TakesEach-behind f g k b L takes call = record { at = λ before after z h is passed. takes.at (k ∷ before) after z h (ap (λ Z. k ∷ Z) is) (g, (b, call), passed) }

  -- and behind a step those that are left
  TakesEach-rest : (f g : F) (L kept rest : List K) (r : Option K) → TakesEach S Q f L → ExtractsNext Picks f L r g kept rest → TakesEach S Q g rest
  TakesEach-rest f g [] kept rest r takes e = rw (e.1, e.3) takes
  TakesEach-rest f g (k ∷ L) kept rest r takes e = at e.0 e.4 (TakesEach-behind f e.1 k e.0 L takes e.3.1) (λ ks. TakesEach-rest e.1 g L ks rest r)
    where
      at : (b : Bool) → MatchBool b ((r ≡ Some e.2) × (g ≡ e.1) × (kept ≡ []) × (rest ≡ L)) ((ks : List K) × ExtractsNext Picks e.1 L r g ks rest × (kept ≡ e.2 ∷ ks))
          → TakesEach S Q e.1 L → ((ks : List K) → TakesEach S Q e.1 L → ExtractsNext Picks e.1 L r g ks rest → TakesEach S Q g rest) → TakesEach S Q g rest
      at true m next on = rw (m.1, m.3) next
      at false m next on = on m.0 next m.1

  -- which are fewer, if a key was picked
  fewer : (f g : F) (L kept rest : List K) (j : K) → ExtractsNext Picks f L (Some j) g kept rest → length rest < length L
  fewer f g [] kept rest j e = let no = e.0 in cc
  fewer f g (k ∷ L) kept rest j e = at e.0 e.4 (λ ks. fewer e.1 g L ks rest j)
    where
      at : (b : Bool) → MatchBool b ((Some j ≡ Some e.2) × (g ≡ e.1) × (kept ≡ []) × (rest ≡ L)) ((ks : List K) × ExtractsNext Picks e.1 L (Some j) g ks rest × (kept ≡ e.2 ∷ ks))
          → ((ks : List K) → ExtractsNext Picks e.1 L (Some j) g ks rest → length rest < length L) → length rest < length (k ∷ L)
      at true m on = rw m.3 (omega arith)
      at false m on = let less = on m.0 m.1 in omega (arith, less)

  module _ {I : Type 0} (test : I → F) (left : I → List K) where
    -- so an iterator of such steps makes progress
    pub MakesProgress-keys : (s t : I) (r : Option K) (kept : List K) → TakesEach S Q (test s) (left s) → ExtractsNext Picks (test s) (left s) r (test t) kept (left t)
        → MakesProgress (λ i. TakesEach S Q (test i) (left i)) (λ i. at_most (length (left i))) s r t
    MakesProgress-keys s t None kept takes step = record { on = λ _. tt; keeps = tt; rests = λ _. tt }
    MakesProgress-keys s t (Some j) kept takes step =
        let next = TakesEach-rest (test s) (test t) (left s) kept (left t) (Some j) takes step in
        let less = fewer (test s) (test t) (left s) kept (left t) j step in
        record { on = λ _. (next, tt, omega (arith, less)); keeps = next; rests = λ _. tt }

-- what is said of something, with what is said of it besides
pub match-some : {X : Type 0} (A B : Type 0) (P U : X → Type 0) (r : Option X) (x : X) → r ≡ Some x → MatchOption r A U → P x → MatchOption r B (λ y. P y × U y)
match-some A B P U r x is told here = subst (λ o. MatchOption o A U → MatchOption o B (λ y. P y × U y)) (sym is) (λ u. (here, u)) told

-- of a map's pairs with () behind a place, the keys
keys_of-drop : {K : Type 0} (i : ℕ) (W : List K) → keys_of (drop i (paired W)) ≡ drop i W
keys_of-drop i W = sym (drop-map (λ p. p.0) i (paired W)) ∙ ap (drop i) (keys_of-paired W)

-- and before it
keys_of-take : {K : Type 0} (i : ℕ) (W : List K) → keys_of (take i (paired W)) ≡ take i W
keys_of-take i W = sym (take-map (λ p. p.0) i (paired W)) ∙ ap (take i) (keys_of-paired W)

module _ {K : Type 0} (number : K → ℕ) (m : MapState K (Unit {0})) (s : SetState K) (seen : set_of m ≡ s) (kept : m.factor ≡ load_factor) where
  -- as many members are before a cursor as pairs
  pub passed-seen : (at : _) → passed number m at ≡ passed number (as_map s) at
  passed-seen at = ap (λ x. passed number x at) (as_map-seen m s seen kept)

  -- no member is left if no pair is
  pub none-seen : (at : _) → drop (passed number m at) m.walk ≡ [] → drop (passed number (as_map s) at) s.walk ≡ []
  none-seen at none =
      let same = subst (λ x. drop (passed number x at) x.walk ≡ []) (as_map-seen m s seen kept) none in
      sym (keys_of-drop (passed number (as_map s) at) s.walk) ∙ ap keys_of same

  module _ (n : MapState K (Unit {0})) (t : SetState K) (seen-n : set_of n ≡ t) (kept-n : n.factor ≡ load_factor) (at : _) (to : _) where
    -- the next member is the next pair's key
    pub next-seen : (p : K × Unit {0}) → drop (passed number m at) m.walk ≡ p ∷ drop (passed number n to) n.walk
        → drop (passed number (as_map s) at) s.walk ≡ p.0 ∷ drop (passed number (as_map t) to) t.walk
    next-seen p next =
        let same = subst (λ x. drop (passed number x at) x.walk ≡ p ∷ drop (passed number (as_map t) to) (as_map t).walk) (as_map-seen m s seen kept)
        (subst (λ y. drop (passed number m at) m.walk ≡ p ∷ drop (passed number y to) y.walk) (as_map-seen n t seen-n kept-n) next) in
        sym (keys_of-drop (passed number (as_map s) at) s.walk) ∙ ap keys_of same ∙ ap (λ Z. p.0 ∷ Z) (keys_of-drop (passed number (as_map t) to) t.walk)

    -- those before are as they were
    pub before-seen : take (passed number n to) n.walk ≡ take (passed number m at) m.walk
        → take (passed number (as_map t) to) t.walk ≡ take (passed number (as_map s) at) s.walk
    before-seen before =
        let same = subst (λ x. take (passed number (as_map t) to) (as_map t).walk ≡ take (passed number x at) x.walk) (as_map-seen m s seen kept)
        (subst (λ y. take (passed number y to) y.walk ≡ take (passed number m at) m.walk) (as_map-seen n t seen-n kept-n) before) in
        sym (keys_of-take (passed number (as_map t) to) t.walk) ∙ ap keys_of same ∙ keys_of-take (passed number (as_map s) at) s.walk

-- something holds if the second of two does
or-true : (a b : Bool) → (a || (true || b)) ≡ true
or-true true b = refl
or-true false b = refl

-- a key of the walk is a member
pub holds-next : {K : Type 0} (number : K → ℕ) (W M : List K) (i : ℕ) (k : K) → drop i W ≡ k ∷ M → holds number W k ≡ true
holds-next number W M i k next =
    ap (λ Z. holds number Z k) (sym (take-append-drop i W) ∙ ap (λ Z. take i W ++ Z) next) ∙ list_any-append (same_key number k) (take i W) (k ∷ M)
    ∙ (λ n. holds number (take i W) k || (same_key-itself number k n || holds number M k)) ∙ or-true (holds number (take i W) k) (holds number M k)
