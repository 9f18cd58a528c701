-- The list of free nodes.
use Rattle.std.proofs.Common.{◌≡◌, ◌≢◌, ℕ, zero, suc, ◌+◌, ◌-◌, ◌<◌, ◌≤◌, List, [], ◌∷◌, length, get_or, set, refl, sym, ap, ◌∙◌, subst, arith}
use Rattle.std.specs.Prelude.{sum_by}
use Rattle.std.proofs.lemmas.List.{get_or-set_other, length-set}
use Rattle.std.proofs.lemmas.List.Sums.{sum_by-set, sum_by-cons}
use Rattle.intmap_table.specs.Tables.Nodes.{Node, Free, Held, node_limit, node_at, Frees, IsPool}
use Rattle.intmap_table.proofs.Nodes.NodeLemmas.{node_at-set_held, node_at-set_other, held_below}

-- as many ones
abbrev ones : ℕ → List ℕ
ones zero = []
ones (suc n) = 1 ∷ ones n

ones-length : (n : ℕ) → length (ones n) ≡ n
ones-length zero = refl
ones-length (suc n) = ap suc (ones-length n)

ones-sum : (n : ℕ) → sum_by (λ x. x) (ones n) ≡ n
ones-sum zero = refl
ones-sum (suc n) = let e = sum_by-cons (λ x. x) 1 (ones n) in let s = ones-sum n in omega (arith, e, s)

ones-at : (n j : ℕ) → j < n → get_or (ones n) j 0 ≡ 1
ones-at zero j below = absurd (omega arith)
ones-at (suc n) zero below = refl
ones-at (suc n) (suc j) below = ones-at n j (omega arith)

module _ {P : Type 0} where
  -- their number is determined
  Frees-one : (cs : List (Node P)) (f n m : ℕ) → length cs ≤ node_limit → Frees cs f n → Frees cs f m → n ≡ m
  Frees-one cs f zero zero few a b = refl
  Frees-one cs f zero (suc m) few a b = absurd (let below = b.1 in omega (arith, below, a, few))
  Frees-one cs f (suc n) zero few a b = absurd (let below = a.1 in omega (arith, below, b, few))
  Frees-one cs f (suc n) (suc m) few a b =
      let same = sym a.2 ∙ b.2 in
      let link : a.0 ≡ b.0 = cc in
      ap suc (Frees-one cs b.0 n m few (subst (λ g. Frees cs g n) link a.3) b.3)

  -- they stay where free nodes do, but for node c, at which a longer list begins
  Frees-but : (cs ds : List (Node P)) (c k : ℕ) (f n : ℕ) → length cs ≤ node_limit → length cs ≤ length ds → Frees cs c k → n < k
      → ((j g : ℕ) → j ≢ c → j < length cs → node_at cs j ≡ Free g → node_at ds j ≡ Free g) → Frees cs f n → Frees ds f n
  Frees-but cs ds c k f zero few grows whole less same a = a
  Frees-but cs ds c k f (suc n) few grows whole less same a =
      let apart : f ≢ c = λ e. let equal : suc n ≡ k = Frees-one cs c (suc n) k few (subst (λ g. Frees cs g (suc n)) e a) whole in omega (arith, equal, less) in
      let below = a.1 in
      (a.0, omega (arith, below, grows), same f a.0 apart a.1 a.2, Frees-but cs ds c k a.0 n few grows whole (omega arith) same a.3)

  -- the first of them is used
  pub Frees-use : (cs : List (Node P)) (f n : ℕ) (x : Node P) → length cs ≤ node_limit → (a : Frees cs f (suc n)) → Frees (set cs f x) a.0 n
  Frees-use cs f n x few a =
      let e = length-set cs f x in
      Frees-but cs (set cs f x) f (suc n) a.0 n few (omega (arith, e)) a (omega arith) (λ j g apart below is. node_at-set_other cs f j x apart ∙ is) a.3

  -- they stay where nodes that held pairs are changed
  Frees-stay : (cs ds : List (Node P)) (f n : ℕ) → length cs ≤ length ds → ((j g : ℕ) → j < length cs → node_at cs j ≡ Free g → node_at ds j ≡ Free g) → Frees cs f n → Frees ds f n
  Frees-stay cs ds f zero grows same a = a
  Frees-stay cs ds f (suc n) grows same a = let below = a.1 in (a.0, omega (arith, below, grows), same f a.0 a.1 a.2, Frees-stay cs ds a.0 n grows same a.3)

  pub Frees-set : (cs : List (Node P)) (c m : ℕ) (p : P) (x : Node P) (f n : ℕ) → node_at cs c ≡ Held m p → Frees cs f n → Frees (set cs c x) f n
  Frees-set cs c m p x f n held a =
      let e = length-set cs c x in
      Frees-stay cs (set cs c x) f n (omega (arith, e))
      (λ j g below is. let apart : j ≢ c = λ e'. (let both : Free g ≡ Held m p = sym is ∙ ap (node_at cs) e' ∙ held in cc) in node_at-set_other cs c j x apart ∙ is) a

  -- a node that held a pair becomes the first of them
  pub Frees-release : (cs : List (Node P)) (c m : ℕ) (p : P) (f n : ℕ) → node_at cs c ≡ Held m p → Frees cs f n → Frees (set cs c (Free f)) c (suc n)
  Frees-release cs c m p f n held a =
      let e = length-set cs c (Free f) in
      let below = held_below cs c m p held in
      (f, omega (arith, e, below), node_at-set_held cs c m p (Free f) held, Frees-set cs c m p (Free f) f n held a)

  -- what holds of each of their numbers
  abbrev AllFrees : (ℕ → Type 0) → (cs : List (Node P)) (f n : ℕ) → Frees cs f n → Type 0
  AllFrees Q cs f zero a = Unit {0}
  AllFrees Q cs f (suc n) a = Q f × AllFrees Q cs a.0 n a.3

  all_frees : (Q : ℕ → Type 0) (cs : List (Node P)) (f n : ℕ) (a : Frees cs f n) → ((j g : ℕ) → j < length cs → node_at cs j ≡ Free g → Q j) → AllFrees Q cs f n a
  all_frees Q cs f zero a each = tt
  all_frees Q cs f (suc n) a each = (each f a.0 a.1 a.2, all_frees Q cs a.0 n a.3 each)

  -- those behind a node don't come back to it
  none_again : (cs : List (Node P)) (c k : ℕ) (f n : ℕ) → length cs ≤ node_limit → Frees cs c k → n < k → (a : Frees cs f n) → AllFrees (λ j. j ≢ c) cs f n a
  none_again cs c k f zero few whole less a = tt
  none_again cs c k f (suc n) few whole less a =
      let apart : f ≢ c = λ e. let equal : suc n ≡ k = Frees-one cs c (suc n) k few (subst (λ g. Frees cs g (suc n)) e a) whole in omega (arith, equal, less) in
      (apart, none_again cs c k a.0 n few whole (omega arith) a.3)

  weigh_on : (w : List ℕ) (c : ℕ) (cs : List (Node P)) (f n : ℕ) (a : Frees cs f n) → AllFrees (λ j. j ≢ c) cs f n a → AllFrees (λ j. get_or w j 0 ≡ 1) cs f n a → AllFrees (λ j. get_or (set w c 0) j 0 ≡ 1) cs f n a
  weigh_on w c cs f zero a apart one = tt
  weigh_on w c cs f (suc n) a apart one = (get_or-set_other w c f 0 0 apart.0 ∙ one.0, weigh_on w c cs a.0 n a.3 apart.1 one.1)

  -- if each of them weighs one, they are no more than the weight of all nodes
  weight : (w : List ℕ) (cs : List (Node P)) (f n : ℕ) → length cs ≤ node_limit → (a : Frees cs f n) → AllFrees (λ j. get_or w j 0 ≡ 1) cs f n a → length w ≡ length cs → n ≤ sum_by (λ x. x) w
  weight w cs f zero few a one len = omega arith
  weight w cs f (suc n) few a one len =
      let below : f < length w = (let b = a.1 in omega (arith, b, len)) in
      let rest = weigh_on w f cs a.0 n a.3 (none_again cs f (suc n) a.0 n few a (omega arith) a.3) one.1 in
      let less = weight (set w f 0) cs a.0 n few a.3 rest (length-set w f 0 ∙ len) in
      let sum = sum_by-set (λ x. x) w f 0 0 below in
      let is = one.0 in
      omega (arith, less, sum, is)

  -- there are no more than nodes
  pub Frees-few : (cs : List (Node P)) (f n : ℕ) → length cs ≤ node_limit → Frees cs f n → n ≤ length cs
  Frees-few cs f n few a =
      let w = weight (ones (length cs)) cs f n few a (all_frees (λ j. get_or (ones (length cs)) j 0 ≡ 1) cs f n a (λ j g below is. ones-at (length cs) j below)) (ones-length (length cs)) in
      let s = ones-sum (length cs) in
      omega (arith, w, s)

  -- and fewer if one holds a pair
  pub Frees-fewer : (cs : List (Node P)) (f n c m : ℕ) (p : P) → length cs ≤ node_limit → Frees cs f n → node_at cs c ≡ Held m p → n < length cs
  Frees-fewer cs f n c m p few a held =
      let below = held_below cs c m p held in
      let w = set (ones (length cs)) c 0 in
      let len : length w ≡ length cs = length-set (ones (length cs)) c 0 ∙ ones-length (length cs) in
      let one = all_frees (λ j. get_or w j 0 ≡ 1) cs f n a
      (λ j g there is. let apart : j ≢ c = λ e. (let both : Free g ≡ Held m p = sym is ∙ ap (node_at cs) e ∙ held in cc) in get_or-set_other (ones (length cs)) c j 0 0 apart ∙ ones-at (length cs) j there) in
      let less = weight w cs f n few a one len in
      let sum = sum_by-set (λ x. x) (ones (length cs)) c 0 0 (let l = ones-length (length cs) in omega (arith, below, l)) in
      let is = ones-at (length cs) c below in
      let s = ones-sum (length cs) in
      omega (arith, less, sum, is, s)

  -- a node that holds a pair is changed
  pub Pool-set : (cs : List (Node P)) (c m : ℕ) (p : P) (x : Node P) (f n : ℕ) → node_at cs c ≡ Held m p → IsPool cs f n → IsPool (set cs c x) f n
  Pool-set cs c m p x f n held pool = record {
    few = (let e = length-set cs c x in let few = pool.few in omega (arith, e, few));
    frees = Frees-set cs c m p x f n held pool.frees;
  }

  -- it becomes free
  pub Pool-release : (cs : List (Node P)) (c m : ℕ) (p : P) (f n : ℕ) → node_at cs c ≡ Held m p → IsPool cs f n → IsPool (set cs c (Free f)) c (n + 1)
  Pool-release cs c m p f n held pool = record {
    few = (let e = length-set cs c (Free f) in let few = pool.few in omega (arith, e, few));
    frees = (let e : suc n ≡ n + 1 = omega arith in subst (λ k. Frees (set cs c (Free f)) c k) e (Frees-release cs c m p f n held pool.frees));
  }

  -- the first free node
  pub record IsFirstFree (cs : List (Node P)) (f n : ℕ) : Type 0 where
    pub next : ℕ
    pub below : f < length cs
    pub is : node_at cs f ≡ Free next
    pub rest : Frees cs next (n - 1)

  first_of : (cs : List (Node P)) (f n : ℕ) → 0 < n → Frees cs f n → IsFirstFree cs f n
  first_of cs f zero some a = absurd (omega arith)
  first_of cs f (suc n) some a =
      let e : n ≡ suc n - 1 = omega arith in
      record { next = a.0; below = a.1; is = a.2; rest = subst (λ k. Frees cs a.0 k) e a.3 }

  pub Pool-first : (cs : List (Node P)) (f n : ℕ) → n ≢ 0 → IsPool cs f n → IsFirstFree cs f n
  Pool-first cs f n some pool = first_of cs f n (omega (arith, some)) pool.frees

  used : (cs : List (Node P)) (f n g : ℕ) (x : Node P) → length cs ≤ node_limit → 0 < n → node_at cs f ≡ Free g → Frees cs f n → Frees (set cs f x) g (n - 1)
  used cs f zero g x few some is a = absurd (omega arith)
  used cs f (suc n) g x few some is a =
      let same = sym a.2 ∙ is in
      let link : a.0 ≡ g = cc in
      let e : n ≡ suc n - 1 = omega arith in
      subst (λ k. Frees (set cs f x) g k) e (subst (λ h. Frees (set cs f x) h n) link (Frees-use cs f n x few a))

  -- and it is used
  pub Pool-use : (cs : List (Node P)) (f n g : ℕ) (x : Node P) → n ≢ 0 → node_at cs f ≡ Free g → IsPool cs f n → IsPool (set cs f x) g (n - 1)
  Pool-use cs f n g x some is pool = record {
    few = (let e = length-set cs f x in let few = pool.few in omega (arith, e, few));
    frees = used cs f n g x pool.few (omega (arith, some)) is pool.frees;
  }
