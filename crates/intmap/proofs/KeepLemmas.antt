-- What a test of key and value keeps of a list, seen through the walk of the list.
use Rattle.std.proofs.Common.{◌≡◌, ℕ, ◌+◌, Bool, List, [], ◌∷◌, ◌++◌, refl, sym, ap, ◌∙◌, arith}
use Rattle.std.specs.Prelude.{◌==◌, filter}
use Rattle.std.specs.List.{flat_map, range_with_len}
use Rattle.std.proofs.lemmas.List.Elements.{filter-append}
use Rattle.intmap_table.specs.Bindings.{keep_pairs}
use Rattle.intmap_table.specs.Classes.{slot_number}
use Rattle.intmap_table.specs.Retaining.{Retains}
use Rattle.intmap_table.proofs.RetainLemmas.{Retains-filter}
use Rattle.intmap_table.specs.Walk.{slot_of, walk_of, StandsFor}
use Rattle.intmap_table.proofs.ClassLemmas.{flat_map-same}

-- two filters, in either order
filter-filter : {X : Type 0} (keep test : X → Bool) (xs : List X) → filter test (filter keep xs) ≡ filter keep (filter test xs)
filter-filter keep test [] = refl
filter-filter keep test (x ∷ xs) = let rest = filter-filter keep test xs in grind (arith, rest)

-- what a test keeps of parts that are joined
filter-flat_map : {X : Type 0} (test : X → Bool) (g : ℕ → List X) (ns : List ℕ) → filter test (flat_map g ns) ≡ flat_map (λ n. filter test (g n)) ns
filter-flat_map test g [] = refl
filter-flat_map test g (n ∷ ns) = filter-append test (g n) (flat_map g ns) ∙ ap (λ xs. filter test (g n) ++ xs) (filter-flat_map test g ns)

module _ {K V : Type 0} (number : K → ℕ) (keeps : K → V → Bool) where
  -- a slot of what is kept is what is kept of the slot
  slot_of-keep_pairs : (L : List (K × V)) (C i : ℕ) → slot_of number (keep_pairs keeps L) C i ≡ keep_pairs keeps (slot_of number L C i)
  slot_of-keep_pairs L C i = filter-filter (λ p. keeps p.0 p.1) (λ p. slot_number number p.0 C == i) L

  -- the walk of what is kept is what is kept of the walk
  pub walk_of-keep_pairs : (L : List (K × V)) (C : ℕ) → walk_of number (keep_pairs keeps L) C ≡ keep_pairs keeps (walk_of number L C)
  walk_of-keep_pairs L C =
      flat_map-same (slot_of number (keep_pairs keeps L) C) (λ i. keep_pairs keeps (slot_of number L C i)) 0 C (λ i _. slot_of-keep_pairs L C (0 + i))
      ∙ sym (filter-flat_map (λ p. keeps p.0 p.1) (slot_of number L C) (range_with_len 0 C))

  -- a list that stands for a map stands for what is kept of it once the same is kept of the list
  pub StandsFor-keep_pairs : (L W : List (K × V)) (C : ℕ) → StandsFor number L W C → StandsFor number (keep_pairs keeps L) (keep_pairs keeps W) C
  StandsFor-keep_pairs L W C stands = walk_of-keep_pairs L C ∙ ap (keep_pairs keeps) stands

module _ {F K V : Type 0} (R : F → K × V → Bool → F → Type 0) (Own : F → Type 0) (keeps : K → V → Bool) (each : (f : F) (p : K × V) (b : Bool) (g : F) → Own f → R f p b g → (b ≡ keeps p.0 p.1) × Own g) where
  -- what stays if each answer is a test of key and value, and `Own` holds of the closure throughout
  pub Retains-keep_pairs : (f g : F) (L M : List (K × V)) → Own f → Retains R f L M g → M ≡ keep_pairs keeps L
  Retains-keep_pairs f g L M own r = Retains-filter R Own (λ p. keeps p.0 p.1) each f g L M own r
