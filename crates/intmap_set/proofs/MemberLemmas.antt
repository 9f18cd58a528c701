-- Members of a set are the keys of its map.
use Rattle.std.proofs.Common.{◌≡◌, ◌∙◌, ℕ, Bool, true, false, cond, List, [], ◌∷◌, refl, sym, ap, subst, length}
use Rattle.std.proofs.lemmas.Bool.{eq-eqb}
use Rattle.std.proofs.lemmas.Map.Entries.{length-keys_of}
use Rattle.std.specs.Prelude.{◌==◌, ◌||◌, not, Option, Some, None, is_some, is_none}
use Rattle.std.specs.Map.{keys_of}
use Rattle.intmap.specs.Classes.{same_key}
use Rattle.intmap.specs.Bindings.{value_of}
use Rattle.intmap.specs.Map.{MapState, IsMap}
use Rattle.intmap_set.specs.Sets.{SetState, as_map, load_factor, paired, holds, set_of, Updates, IsSet}
use Rattle.intmap.specs.Bindings as of_map

module _ {K : Type 0} where
  -- the keys of pairs without values, paired, are these
  pub paired-keys_of : (L : List (K × Unit {0})) → paired (keys_of L) ≡ L
  paired-keys_of [] = refl
  paired-keys_of (p ∷ L) = ap (λ M. p ∷ M) (paired-keys_of L)

  -- the keys of paired members are these
  pub keys_of-paired : (W : List K) → keys_of (paired W) ≡ W
  keys_of-paired [] = refl
  keys_of-paired (k ∷ W) = ap (λ V. k ∷ V) (keys_of-paired W)

  -- there is one pair for each member
  pub length-paired : (W : List K) → length (paired W) ≡ length W
  length-paired W = sym (length-keys_of (paired W)) ∙ ap length (keys_of-paired W)

  -- the map of the set that a map shows is this map
  pub as_map-seen : (m : MapState K (Unit {0})) (s : SetState K) → set_of m ≡ s → m.factor ≡ load_factor → m ≡ as_map s
  as_map-seen m s seen kept i = record { walk = pairs i; capacity = (seen i).capacity; factor = kept i; placed = (seen i).placed; compared = (seen i).compared; reserved = (seen i).reserved }
    where
      pairs : m.walk ≡ paired s.walk
      pairs = sym (paired-keys_of m.walk) ∙ ap (λ t. paired t.walk) seen

  -- the set of the map of a set is this set
  pub set_of-as_map : (s : SetState K) → set_of (as_map s) ≡ s
  set_of-as_map s i = record s { walk = keys_of-paired s.walk i }

  -- there is one member for each pair
  pub length-seen : (m : MapState K (Unit {0})) (s : SetState K) → set_of m ≡ s → length m.walk ≡ length s.walk
  length-seen m s seen = sym (length-keys_of m.walk) ∙ ap (λ t. length t.walk) seen

-- an option is nothing or something
pub not-is_some : {V : Type 0} (o : Option V) → is_none o ≡ not (is_some o)
not-is_some None = refl
not-is_some (Some v) = refl

-- and the other way round
pub not-is_none : {V : Type 0} (o : Option V) → not (is_none o) ≡ is_some o
not-is_none None = refl
not-is_none (Some v) = refl

-- whether one of two options is something
is_some-cond : {V : Type 0} (b : Bool) (o p : Option V) → is_some (cond b o p) ≡ cond b (is_some o) (is_some p)
is_some-cond true o p = refl
is_some-cond false o p = refl

module _ {K : Type 0} (number : K → ℕ) where
  -- a key is itself
  pub same_key-itself : (k : K) → same_key number k k ≡ true
  same_key-itself k = eq-eqb (number k) (number k) refl

  -- keys with one number are members alike
  pub holds-same_number : (W : List K) (j k : K) → number j ≡ number k → holds number W j ≡ holds number W k
  holds-same_number [] j k same = refl
  holds-same_number (q ∷ W) j k same = λ i. (number q == same i) || holds-same_number W j k same i

  -- a key is a member if and only if its pair with () is there
  pub holds-paired : (W : List K) (k : K) → holds number W k ≡ is_some (value_of number (paired W) k)
  holds-paired [] k = refl
  holds-paired (q ∷ W) k = ap (λ b. same_key number k q || b) (holds-paired W k) ∙ at (same_key number k q)
    where
      at : (b : Bool) → (b || is_some (value_of number (paired W) k)) ≡ is_some (cond b (Some tt) (value_of number (paired W) k))
      at true = refl
      at false = refl

  -- a key of pairs without values is a member if and only if it is present
  pub holds-keys_of : (L : List (K × Unit {0})) (k : K) → holds number (keys_of L) k ≡ is_some (value_of number L k)
  holds-keys_of L k = holds-paired (keys_of L) k ∙ ap (λ M. is_some (value_of number M k)) (paired-keys_of L)

  -- and so in the set of a map
  pub holds-seen : (m : MapState K (Unit {0})) (s : SetState K) (k : K) → set_of m ≡ s → holds number s.walk k ≡ is_some (value_of number m.walk k)
  holds-seen m s k seen = ap (λ t. holds number t.walk k) (sym seen) ∙ holds-keys_of m.walk k

  -- a set is updated as its map is
  pub Updates-seen : (m n : MapState K (Unit {0})) (s : SetState K) (k : K) (o : Option (Unit {0})) → set_of m ≡ s
      → of_map.Updates number m.walk n.walk k o → Updates number s.walk (keys_of n.walk) k (is_some o)
  Updates-seen m n s k o seen updates =
      let at = holds-keys_of n.walk in let was : (q : K) → is_some (value_of number m.walk q) ≡ holds number s.walk q = λ q. sym (holds-seen m s q seen) in (
        λ q. at q ∙ ap is_some (updates.0 q) ∙ is_some-cond (same_key number k q) o (value_of number m.walk q) ∙ ap (λ b. cond (same_key number k q) (is_some o) b) (was q),
        at k ∙ ap is_some updates.1,
        λ q other. at q ∙ ap is_some (updates.2 q other) ∙ was q,
      )

  -- a set stays as its map does
  pub same-seen : (m n : MapState K (Unit {0})) (s : SetState K) → set_of m ≡ s → ((q : K) → value_of number n.walk q ≡ value_of number m.walk q)
      → (q : K) → holds number (keys_of n.walk) q ≡ holds number s.walk q
  same-seen m n s seen same q = holds-keys_of n.walk q ∙ ap is_some (same q) ∙ sym (holds-seen m s q seen)

  -- the keys of a map are a set
  pub IsSet-seen : (is_valid : K → Type 0) (m : MapState K (Unit {0})) (s : SetState K) → set_of m ≡ s → m.factor ≡ load_factor
      → IsMap number is_valid m → IsSet number is_valid s
  IsSet-seen is_valid m s seen kept is = subst (IsMap number is_valid) (as_map-seen m s seen kept) is
