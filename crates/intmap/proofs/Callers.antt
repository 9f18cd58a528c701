-- Lemmas for the proofs of callers: what a clause can't say, since it speaks of any fact about pairs, or of any closure.
pub use Rattle.intmap_table.proofs.RetainLemmas.{Retains-filter, Retains-kept_from}
pub use Rattle.intmap_table.proofs.WritesLemmas.{Writes-map, Writes-written_from}
use Rattle.std.proofs.Common.{◌≡◌, ℕ, Bool, List, [], ◌∷◌, ◌++◌, Option, None, sym, ap, ◌∙◌, subst, append-nil, append_assoc}
use Rattle.std.specs.Prelude.{All, not, filter}
use Rattle.std.specs.Option.{option_to_list}
use Rattle.std.proofs.lemmas.List.{take-append-drop}
use Rattle.std.specs.declared.cmp.PartialEq as eq
use Rattle.intmap_table.specs.declared.key.IntKey as key
use Rattle.intmap.specs.declared.map.iter.extract.ExtractIf.{ExtractIf}
use Rattle.intmap.specs.Extracting.{extracted_map, extract_kept, extract_rest, extract_test, Extracts}
use Rattle.std.specs.Borrow.{Bor, MutBor}
use Rattle.std.specs.Fn.{Mut, always_mut}
use Rattle.intmap.specs.Map.{MapState, after_insert, after_remove}
use Rattle.intmap_table.specs.Bindings.{take_key, put_pair}
use Rattle.intmap_table.specs.Picking.{AsksAt, PicksAt}
use Rattle.intmap_table.specs.Retaining.{KeepsAt, TakesPair}
use Rattle.intmap_table.specs.Taking.{TakesEach, TakesEach-from}
use Rattle.intmap_table.specs.Walk.{walk_of}
use Rattle.intmap_table.specs.Writes.{WritesAt, TakesPairMut}
use Rattle.intmap_table.proofs.ExtractLemmas.{ExtractsNext-end, ExtractsNext-filter}
use Rattle.intmap_table.proofs.DistinctLemmas.{All-walk_of, All-take_key, All-put_pair}

module _ {K V : Type 0} (number : K → ℕ) (P : K × V → Type 0) where
  -- what holds of all pairs and of a new one holds of all once it was inserted
  pub all_after_insert : (m n : MapState K V) (k : K) (v : V) → n ≡ after_insert number m k v n.capacity → All P m.walk → P (k, v) → All P n.walk
  all_after_insert m n k v state all here =
      subst (λ s. All P s.walk) (sym state) (All-walk_of number P (put_pair number m.walk m.capacity k v) n.capacity (All-put_pair number P m.walk m.capacity k v all here))

  -- what holds of all pairs holds of all that a removal leaves
  pub all_after_remove : (m n : MapState K V) (k : K) → n ≡ after_remove number m k → All P m.walk → All P n.walk
  all_after_remove m n k state all =
      subst (λ s. All P s.walk) (sym state) (All-walk_of number P (take_key number m.walk m.capacity k) m.capacity (All-take_key number P m.walk m.capacity k all))

  -- what holds of all pairs of a list holds of all of its walk
  pub all_in_walk : (L : List (K × V)) (C : ℕ) → All P L → All P (walk_of number L C)
  all_in_walk L C all = All-walk_of number P L C all

module _ {F K V : Type 0} where
  -- a closure that is always callable can be asked about each pair in turn
  pub keeps_each_callable : (m : Mut F (K × (Bor V × Unit {0})) Bool) (f : F) (L : List (K × V)) → always_mut m f → TakesEach (KeepsAt m) (TakesPair m) f L
  keeps_each_callable m f L callable =
      TakesEach-from (KeepsAt m) (TakesPair m) (λ g rest. always_mut m g)
      (λ g p rest own. (
        λ value is. (own.at ((p.0, (value, tt)) ∷ [])).0,
        λ b h call. record { at = λ xs. (own.at ((call.key, (call.value, tt)) ∷ xs)).1 b h call.called },
      ))
      f L callable

  -- and can be called at each, with its value to be written
  pub writes_each_callable : (m : Mut F (K × (MutBor V × Unit {0})) (Unit {0} × (MutBor V × Unit {0}))) (f : F) (L : List (K × V)) → always_mut m f → TakesEach (WritesAt m) (TakesPairMut m) f L
  writes_each_callable m f L callable =
      TakesEach-from (WritesAt m) (TakesPairMut m) (λ g rest. always_mut m g)
      (λ g p rest own. (
        λ value is. (own.at ((p.0, (value, tt)) ∷ [])).0,
        λ w h call. record { at = λ xs. (own.at ((call.key, (call.value, tt)) ∷ xs)).1 (tt, (call.left, tt)) h call.called },
      ))
      f L callable

  -- and can be asked about each, with its value to be written
  pub extracts_each_callable : (m : Mut F (K × (MutBor V × Unit {0})) (Bool × (MutBor V × Unit {0}))) (f : F) (L : List (K × V)) → always_mut m f → TakesEach (AsksAt m) (TakesPairMut m) f L
  extracts_each_callable m f L callable =
      TakesEach-from (AsksAt m) (TakesPairMut m) (λ g rest. always_mut m g)
      (λ g p rest own. (
        λ value is. (own.at ((p.0, (value, tt)) ∷ [])).0,
        λ a h call. record { at = λ xs. (own.at ((call.1.key, (call.1.value, tt)) ∷ xs)).1 (a.0, (call.1.left, tt)) h call.1.called },
      ))
      f L callable

module _ {K V F A : Type 0} {g : key.Ghosts K} {e : eq.Ghosts K} (m : Mut F (K × (MutBor V × Unit {0})) (Bool × (MutBor V × Unit {0}))) where
  -- a step that removes none goes to the end of the walk, so all pairs that the map has were kept
  pub Extracts-end : (d rest : ExtractIf K V F A g e) → Extracts m d None rest → (extract_rest rest ≡ []) × (extract_kept rest ≡ (extracted_map rest).walk)
  Extracts-end d rest step =
      let none = ExtractsNext-end (PicksAt m) (extract_test d) (extract_test rest) (extract_rest d) step.0.0 (extract_rest rest) step.0.1 in
      (none, sym (append-nil (extract_kept rest)) ∙ ap (λ Z. extract_kept rest ++ Z) (sym none) ∙ take-append-drop rest.at.passed (extracted_map rest).walk)

  -- a step if each answer is a test of the pair alone, no value is written, and `Own` holds of the closure throughout: the removed pair is the first
  -- of those left that pass, those that don't are the same before and behind it, and `Own` holds behind it
  pub Extracts-filter : (Own : F → Type 0) (test : K × V → Bool) → ((f : F) (p : K × V) (b : Bool) (h : F) (q : K × V) → Own f → PicksAt m f p b h q → (b ≡ test p) × (q ≡ p) × Own h)
      → (d rest : ExtractIf K V F A g e) (r : Option (K × V)) → Own (extract_test d) → Extracts m d r rest
      → (filter test (extract_rest d) ≡ option_to_list r ++ filter test (extract_rest rest))
      × (extract_kept d ++ filter (λ p. not (test p)) (extract_rest d) ≡ extract_kept rest ++ filter (λ p. not (test p)) (extract_rest rest))
      × Own (extract_test rest)
  Extracts-filter Own test each d rest r own step =
      let told = ExtractsNext-filter (PicksAt m) Own test each (extract_test d) (extract_test rest) (extract_rest d) step.0.0 (extract_rest rest) r own step.0.1 in (
        told.0,
        ap (λ Z. extract_kept d ++ Z) told.1 ∙ sym (append_assoc (extract_kept d) step.0.0 (filter (λ p. not (test p)) (extract_rest rest)))
            ∙ ap (λ Z. Z ++ filter (λ p. not (test p)) (extract_rest rest)) (sym step.0.2),
        told.2,
      )
