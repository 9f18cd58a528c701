-- Lists of pairs, and what calls make of them.
use Rattle.std.specs.Prelude.{◌≡◌, false, ℕ, ◌≤◌, Bool, cond, not, List, [], ◌∷◌, ◌++◌, map, filter, Option, Some, None, IsSome, IsTrue, count_by}
use Rattle.std.specs.List.{list_any}
use Rattle.std.specs.Option.{option_eq}
use Rattle.intmap_table.specs.Classes.{same_key, agrees}

module _ {X : Type 0} where
  -- the last element that passes the test, or d if none does
  abbrev pub last_passing : (X → Bool) → X → List X → X
  last_passing test d [] = d
  last_passing test d (x ∷ xs) = last_passing test (cond (test x) x d) xs

  -- the list without its last element that passes the test
  abbrev pub without_last : (X → Bool) → List X → List X
  without_last test [] = []
  without_last test (x ∷ xs) = cond (list_any test xs) (x ∷ without_last test xs) (cond (test x) xs (x ∷ xs))

  -- the list without its first element that is the one; the last element of its class behind it, if there is one, fills the hole
  abbrev pub swap_out : (X → Bool) → (X → Bool) → List X → List X
  swap_out is_it in_class [] = []
  swap_out is_it in_class (x ∷ xs) =
      cond (is_it x)
      (cond (list_any in_class xs) (last_passing in_class x xs ∷ without_last in_class xs) xs)
      (x ∷ swap_out is_it in_class xs)

module _ {K V : Type 0} where
  -- the value of the first pair whose key passes the test
  abbrev pub first_value : (K → Bool) → List (K × V) → Option V
  first_value test [] = None
  first_value test (p ∷ L) = cond (test p.0) (Some p.1) (first_value test L)

  -- the pairs that a test keeps, in their order
  abbrev pub keep_pairs : (K → V → Bool) → List (K × V) → List (K × V)
  keep_pairs keeps L = filter (λ p. keeps p.0 p.1) L

module _ {K V : Type 0} (number : K → ℕ) where
  -- the value of the first pair with this key, if the key is present
  abbrev pub value_of : List (K × V) → K → Option V
  value_of L k = first_value (same_key number k) L

  -- a key is present
  abbrev pub IsPresent : List (K × V) → K → Type 0
  IsPresent L k = IsSome (value_of L k)

  -- no key is present twice
  abbrev pub HasDistinctKeys : List (K × V) → Type 0
  HasDistinctKeys L = (k : K) → count_by (λ p. same_key number k p.0) L ≤ 1

  -- the same keys are present, each with equal values
  abbrev pub BindSame : (V → V → Bool) → List (K × V) → List (K × V) → Type 0
  BindSame equal L M = (k : K) → IsTrue (option_eq equal (value_of L k) (value_of M k))

  -- without the pair of k; the last pair of a key that agrees with k takes its place
  abbrev pub take_key : List (K × V) → ℕ → K → List (K × V)
  take_key L C k = swap_out (λ p. same_key number k p.0) (λ p. agrees number C k p.0) L

  -- without the old pair of k, if there is one, and with the pair of k and v at the end
  abbrev pub put_pair : List (K × V) → ℕ → K → V → List (K × V)
  put_pair L C k v = take_key L C k ++ (k, v) ∷ []

  -- with v as the value of k, in its place
  abbrev pub write_value : List (K × V) → K → V → List (K × V)
  write_value L k v = map (λ p. cond (same_key number k p.0) (p.0, v) p) L

  -- without the pairs of these keys, the others in their order
  abbrev pub strike_keys : List (K × V) → List K → List (K × V)
  strike_keys L ks = filter (λ p. not (list_any (same_key number p.0) ks)) L

  -- in M the key k has the value w, and each other key has the value that it has in L: said of every key, of k itself, and of any other
  abbrev pub Updates : List (K × V) → List (K × V) → K → Option V → Type 0
  Updates L M k w =
      ((q : K) → value_of M q ≡ cond (same_key number k q) w (value_of L q))
      × (value_of M k ≡ w)
      × ((q : K) → same_key number k q ≡ false → value_of M q ≡ value_of L q)
