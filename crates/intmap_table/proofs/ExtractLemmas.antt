-- What a closure that picks one element at a step leaves of lists.
use Rattle.std.proofs.Common.{◌≡◌, ℕ, ◌+◌, ◌<◌, ◌≤◌, Bool, true, false, List, [], ◌∷◌, ◌++◌, Option, Some, None, length, set, take, drop, refl, sym, ap, ◌∙◌, subst, arith, append-nil, append_assoc, length-append}
use Rattle.std.specs.Prelude.{All, not, filter, MatchOption}
use Rattle.std.specs.Bool.{MatchBool}
use Rattle.std.specs.List.{sum_by}
use Rattle.std.specs.Option.{option_len, option_to_list}
use Rattle.std.specs.List.Retain.{ExtractsNext}
use Rattle.std.proofs.lemmas.List.{drop-append-le, drop-set-lt, take-append-drop, take-append-le}
use Rattle.std.proofs.Math.Seq.{drop-append-add, take-append-add}
use Rattle.std.proofs.lemmas.List.Elements.{All-append, All-cons, All-drop, All-head, All-tail, All-take}
use Rattle.std.proofs.lemmas.List.Sums.{sum_by-append, sum_by-cons, sum_by-take-drop}
use Rattle.intmap_table.specs.Picking.{ExtractsBehind}
use Rattle.intmap_table.specs.Taking.{TakesEach}
use Rattle.intmap_table.proofs.TakingLemmas.{TakesEach-next}

module _ {F X : Type 0} (R : F → X → Bool → F → X → Type 0) (P : F → List X → Option X → F → List X → List X → Type 0)
    (none : (f : F) → P f [] None f [] []) (picks : (f g : F) (x y : X) (L : List X) → R f x true g y → P f (x ∷ L) (Some y) g [] L)
    (keeps : (f h g : F) (x y : X) (L kept rest : List X) (r : Option X) → R f x false h y → P h L r g kept rest → P f (x ∷ L) r g (y ∷ kept) rest) where
  -- what holds at the end, of a step that picks the first element, and of one behind an element that isn't picked holds of each step
  pub ExtractsNext-induct : (f g : F) (L kept rest : List X) (r : Option X) → ExtractsNext R f L r g kept rest → P f L r g kept rest
  ExtractsNext-induct f g [] kept rest r e = rw (e.0, e.1, e.2, e.3) (none f)
  ExtractsNext-induct f g (x ∷ L) kept rest r e = either e.0 e.3 e.4 (λ k step. ExtractsNext-induct e.1 g L k rest r step)
    where
      either : (b : Bool) → R f x b e.1 e.2 → MatchBool b ((r ≡ Some e.2) × (g ≡ e.1) × (kept ≡ []) × (rest ≡ L)) ((k : List X) × ExtractsNext R e.1 L r g k rest × (kept ≡ e.2 ∷ k))
          → ((k : List X) → ExtractsNext R e.1 L r g k rest → P e.1 L r g k rest) → P f (x ∷ L) r g kept rest
      either true call m on = rw (m.0, m.1, m.2, m.3) (picks f e.1 x e.2 L call)
      either false call m on = rw m.2 (keeps f e.1 g x e.2 L m.0 rest r call (on m.0 m.1))

module _ {F X : Type 0} (R : F → X → Bool → F → X → Type 0) where
  -- a step through M behind its first j elements is one through L behind its first i
  abbrev pub StepsFrom : F → List X → ℕ → F → List X → ℕ → Type 0
  StepsFrom f L i g M j = (r : Option X) (h : F) (N : List X) (k : ℕ) → ExtractsBehind R g M j r h N k → ExtractsBehind R f L i r h N k

  -- no element is left
  pub ExtractsBehind-end : (f : F) (L : List X) (i : ℕ) → drop i L ≡ [] → ExtractsBehind R f L i None f L i
  ExtractsBehind-end f L i none = ([], rw none (refl, refl, refl, refl), sym (append-nil (take i L)))

  -- the element at place i, which R left as q
  module _ (f h : F) (ps qs : List X) (i : ℕ) (q : X) (below : i < length ps) (left : qs ≡ set ps i q) where
    behind : drop (i + 1) qs ≡ drop (i + 1) ps
    behind = ap (drop (i + 1)) left ∙ drop-set-lt (i + 1) ps i q (omega arith)

  -- a step that removes none goes to the end
  pub ExtractsNext-end : (f g : F) (L kept rest : List X) → ExtractsNext R f L None g kept rest → rest ≡ []
  ExtractsNext-end f g L kept rest e =
      ExtractsNext-induct R (λ f L r g kept rest. r ≡ None → rest ≡ []) (λ f _. refl) (λ f g x y L call no. cc)
      (λ f h g x y L kept rest r call more. more) f g L kept rest None e refl

  -- what follows a step through a front, which left zs of it: one through what is behind it, or the end if an element was picked
  abbrev Follows : List X → F → List X → Option X → Option X → F → List X → List X → Type 0
  Follows ys g zs o r h kept rest = MatchOption o (ExtractsNext R g ys r h kept rest) (λ z. (r ≡ Some z) × (h ≡ g) × (kept ≡ []) × (rest ≡ zs ++ ys))

  -- both are one step
  pub ExtractsNext-front : (ys : List X) (r : Option X) (h : F) (kept rest : List X) (f g : F) (xs ks zs : List X) (o : Option X)
      → ExtractsNext R f xs o g ks zs → Follows ys g zs o r h kept rest → ExtractsNext R f (xs ++ ys) r h (ks ++ kept) rest
  ExtractsNext-front ys r h kept rest =
      ExtractsNext-induct R (λ f xs o g ks zs. Follows ys g zs o r h kept rest → ExtractsNext R f (xs ++ ys) r h (ks ++ kept) rest)
      (λ f more. more) (λ f g x y L call ends. (true, g, y, call, ends)) (λ f u g x y L ks zs o call on more. (false, u, y, call, (ks ++ kept, on more, refl)))

  -- R went over a part of a list from its place j on, and left `new` with place k reached
  module _ (f g : F) (before part new behind : List X) (j k : ℕ) (within : j ≤ length part) (reached : k ≤ length new) where
    abbrev whole : List X → List X
    whole xs = before ++ (xs ++ behind)

    cut : (xs : List X) (i : ℕ) → i ≤ length xs
        → (take (length before + i) (whole xs) ≡ before ++ take i xs) × (drop (length before + i) (whole xs) ≡ drop i xs ++ behind)
    cut xs i few = (
      take-append-add before (xs ++ behind) i ∙ ap (λ Z. before ++ Z) (take-append-le i xs behind few),
      drop-append-add before (xs ++ behind) i ∙ drop-append-le i xs behind few,
    )

    passed : (kept : List X) → take k new ≡ take j part ++ kept → take (length before + k) (whole new) ≡ take (length before + j) (whole part) ++ kept
    passed kept is =
        (cut new k reached).0 ∙ ap (λ Z. before ++ Z) is ∙ sym (append_assoc before (take j part) kept)
        ∙ ap (λ Z. Z ++ kept) (sym (cut part j within).0)

    -- one of its elements was picked
    pub ExtractsBehind-part : (z : X) → ExtractsBehind R f part j (Some z) g new k
        → ExtractsBehind R f (whole part) (length before + j) (Some z) g (whole new) (length before + k)
    ExtractsBehind-part z step = (
      step.0,
      rw ((cut part j within).1, (cut new k reached).1)
          (rw append-nil at (ExtractsNext-front behind (Some z) g [] _ f g (drop j part) step.0 (drop k new) (Some z) step.1 (refl, refl, refl, refl))),
      passed step.0 step.2,
    )

    -- none of them was
    pub StepsFrom-part : ExtractsBehind R f part j None g new k → StepsFrom f (whole part) (length before + j) g (whole new) (length before + k)
    StepsFrom-part step r h N m next =
        let none = ExtractsNext-end f g (drop j part) step.0 (drop k new) step.1 in
        let on = rw ((cut new k reached).1, none) at next.1 in (
          step.0 ++ next.0,
          rw (cut part j within).1 (ExtractsNext-front behind r h next.0 (drop m N) f g (drop j part) step.0 (drop k new) None step.1 on),
          next.2 ∙ ap (λ Z. Z ++ next.0) (passed step.0 step.2) ∙ append_assoc (take (length before + j) (whole part)) step.0 next.0,
        )

  -- Q gives what each call takes
  abbrev pub Takes : (F → X → Type 0) → F → List X → Type 0
  Takes Q = TakesEach (λ f x (a : Bool × X) g. R f x a.0 g a.1) Q

  next : (Q : F → X → Type 0) (f g : F) (x : X) (a : Bool × X) (L : List X) → Takes Q f (x ∷ L) → R f x a.0 g a.1 → Takes Q g L
  next Q f g x a L takes call = TakesEach-next (λ f x (a : Bool × X) g. R f x a.0 g a.1) Q f g x a L takes call

  -- what the closure takes of the elements before a step it takes of those that are left, and of others behind them
  pub TakesEach-step : (Q : F → X → Type 0) (ys : List X) (f g : F) (L kept rest : List X) (r : Option X) → ExtractsNext R f L r g kept rest
      → Takes Q f (L ++ ys) → Takes Q g (rest ++ ys)
  TakesEach-step Q ys =
      ExtractsNext-induct R (λ f L r g kept rest. Takes Q f (L ++ ys) → Takes Q g (rest ++ ys)) (λ f takes. takes)
      (λ f g x y L call takes. next Q f g x (true, y) (L ++ ys) takes call)
      (λ f h g x y L kept rest r call more takes. more (next Q f h x (false, y) (L ++ ys) takes call))

  pub TakesEach-rest : (Q : F → X → Type 0) (f g : F) (L kept rest : List X) (r : Option X) → Takes Q f L → ExtractsNext R f L r g kept rest → Takes Q g rest
  TakesEach-rest Q f g L kept rest r takes step = rw append-nil at (TakesEach-step Q [] f g L kept rest r step (rw append-nil takes))

  -- a weight that R leaves alone is the weight of what stays and of what is removed
  module _ (w : X → ℕ) (same : (f : F) (x : X) (b : Bool) (g : F) (y : X) → R f x b g y → w y ≡ w x) where
    pub sum_by-ExtractsNext : (f g : F) (L kept rest : List X) (r : Option X) → ExtractsNext R f L r g kept rest → sum_by w L ≡ sum_by w kept + sum_by w (option_to_list r) + sum_by w rest
    sum_by-ExtractsNext =
        ExtractsNext-induct R (λ f L r g kept rest. sum_by w L ≡ sum_by w kept + sum_by w (option_to_list r) + sum_by w rest) (λ f. refl)
        (λ f g x y L call. let is = same f x true g y call in let cons = sum_by-cons w x L in let one = sum_by-cons w y [] in grind (arith, is, cons, one))
        (λ f h g x y L kept rest r call more.
        let is = same f x false h y call in let cons = sum_by-cons w x L in let stay = sum_by-cons w y kept in omega (arith, is, cons, stay, more))

    pub sum_by-ExtractsBehind : (f g : F) (L M : List X) (i j : ℕ) (r : Option X) → ExtractsBehind R f L i r g M j → sum_by w L ≡ sum_by w M + sum_by w (option_to_list r)
    sum_by-ExtractsBehind f g L M i j r e =
        let old = sum_by-take-drop w L i in let new = sum_by-take-drop w M j in
        let step = sum_by-ExtractsNext f g (drop i L) e.0 (drop j M) r e.1 in
        let front = ap (sum_by w) e.2 ∙ sum_by-append w (take i L) e.0 in
        omega (arith, old, new, step, front)

  -- no element is added, and only the removed one is lost
  pub length-ExtractsNext : (f g : F) (L kept rest : List X) (r : Option X) → ExtractsNext R f L r g kept rest → length L ≡ length kept + option_len r + length rest
  length-ExtractsNext =
      ExtractsNext-induct R (λ f L r g kept rest. length L ≡ length kept + option_len r + length rest) (λ f. refl) (λ f g x y L call. omega arith)
      (λ f h g x y L kept rest r call more. omega (arith, more))

  pub length-ExtractsBehind : (f g : F) (L M : List X) (i j : ℕ) (r : Option X) → ExtractsBehind R f L i r g M j → length L ≡ length M + option_len r
  length-ExtractsBehind f g L M i j r e =
      let old = ap length (take-append-drop i L) in let old_parts = length-append (take i L) (drop i L) in
      let new = ap length (take-append-drop j M) in let new_parts = length-append (take j M) (drop j M) in
      let step = length-ExtractsNext f g (drop i L) e.0 (drop j M) r e.1 in
      let front = ap length e.2 in let front_parts = length-append (take i L) e.0 in
      omega (arith, old, old_parts, new, new_parts, step, front, front_parts)

  -- what holds of all elements, and R leaves, holds of those that stay
  module _ (P : X → Type 0) (same : (f : F) (x : X) (b : Bool) (g : F) (y : X) → R f x b g y → P x → P y) where
    All-ExtractsNext : (f g : F) (L kept rest : List X) (r : Option X) → ExtractsNext R f L r g kept rest → All P L → All P (kept ++ rest)
    All-ExtractsNext =
        ExtractsNext-induct R (λ f L r g kept rest. All P L → All P (kept ++ rest)) (λ f all. all) (λ f g x y L call all. All-tail P x L all)
        (λ f h g x y L kept rest r call more all. All-cons P y (kept ++ rest) (same f x false h y call (All-head P x L all)) (more (All-tail P x L all)))

    pub All-ExtractsBehind : (f g : F) (L M : List X) (i j : ℕ) (r : Option X) → ExtractsBehind R f L i r g M j → All P L → All P M
    All-ExtractsBehind f g L M i j r e all =
        let left = All-ExtractsNext f g (drop i L) e.0 (drop j M) r e.1 (All-drop P i L all) in
        let stay = All-append P (take i L) (e.0 ++ drop j M) (All-take P i L all) left in
        subst (All P) (sym (append_assoc (take i L) e.0 (drop j M)) ∙ ap (λ Z. Z ++ drop j M) (sym e.2) ∙ take-append-drop j M) stay

module _ {F X : Type 0} (R : F → X → Bool → F → X → Type 0) where
  -- a step if each answer is a test of the element alone, no element is changed, and `Own` holds of the closure throughout: of the elements
  -- that pass, the first is removed; the others stay as they are; and `Own` holds behind it
  pub ExtractsNext-filter : (Own : F → Type 0) (test : X → Bool) → ((f : F) (x : X) (b : Bool) (g : F) (y : X) → Own f → R f x b g y → (b ≡ test x) × (y ≡ x) × Own g)
      → (f g : F) (L kept rest : List X) (r : Option X) → Own f → ExtractsNext R f L r g kept rest
      → (filter test L ≡ option_to_list r ++ filter test rest) × (filter (λ x. not (test x)) L ≡ kept ++ filter (λ x. not (test x)) rest) × Own g
  ExtractsNext-filter Own test each f g L kept rest r own e =
      ExtractsNext-induct R
      (λ f L r g kept rest. Own f → (filter test L ≡ option_to_list r ++ filter test rest) × (filter (λ x. not (test x)) L ≡ kept ++ filter (λ x. not (test x)) rest) × Own g)
      (λ f own. (refl, refl, own))
      (λ f g x y L call own. let here = each f x true g y own call in rw (← here.0, here.1) (refl, refl, here.2))
      (λ f h g x y L kept rest r call more own. let here = each f x false h y own call in let on = more here.2 in rw (← here.0, here.1) (on.0, ap (λ xs. x ∷ xs) on.1, on.2))
      f g L kept rest r e own
