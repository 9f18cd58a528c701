-- What a map is once a closure was asked about some of its pairs, of which it picked at most one.
use Rattle.std.proofs.Common.{◌≡◌, ℕ, ◌+◌, ◌≤◌, Bool, cond, List, [], Option, Some, None, length, sym, ap, subst, arith}
use Rattle.std.specs.Prelude.{IfSome}
use Rattle.std.proofs.lemmas.Bool.Decides.{nat_tests}
use Rattle.intmap.proofs.CostLemmas.{same-absent}
use Rattle.intmap.proofs.CountLemmas.{count_by-cons}
use Rattle.std.specs.Iterator.{MakesProgress, at_most}
use Rattle.std.specs.List.Retain.{ExtractsNext}
use Rattle.std.specs.Option.{option_len}
use Rattle.intmap_table.specs.Bindings.{IsPresent}
use Rattle.intmap_table.specs.Classes.{same_key}
use Rattle.intmap_table.specs.Picking.{ExtractsBehind}
use Rattle.intmap_table.specs.Taking.{TakesEach}
use Rattle.intmap_table.specs.Walk.{walk_of}
use Rattle.intmap.specs.Consistency.{IsConsistent}
use Rattle.intmap.proofs.MapLemmas.{IsConsistent-fewer}
use Rattle.intmap_table.proofs.ExtractLemmas.{sum_by-ExtractsBehind, length-ExtractsNext, length-ExtractsBehind, All-ExtractsBehind, TakesEach-rest}

module _ {F K V : Type 0} (number : K → ℕ) (is_valid : K → Type 0) (R : F → K × V → Bool → F → K × V → Type 0) (same : (f : F) (p : K × V) (b : Bool) (g : F) (q : K × V) → R f p b g q → q.0 ≡ p.0) where
  -- what a map keeps agrees
  pub IsConsistent-Extracts : (f g : F) (W M : List (K × V)) (i j : ℕ) (r : Option (K × V)) (C D E n n' most B N N' : ℕ) → ExtractsBehind R f W i r g M j → D ≡ C → walk_of number M D ≡ M
      → n ≡ n' + option_len r → B ≤ N' → IsConsistent number is_valid W C E n most B N → IsConsistent number is_valid M D E n' most B N'
  IsConsistent-Extracts f g W M i j r C D E n n' most B N N' step same_size own count memory old =
      let len = length-ExtractsBehind R f g W M i j r step in
      IsConsistent-fewer number is_valid W M C E n most B N old B N' memory D n' same_size own (omega (arith, count, old.count, len)) (omega (arith, len))
      (λ k.
      let once = old.map.distinct k in
      let counted = sum_by-ExtractsBehind R (λ (p : K × V). cond (same_key number k p.0) 1 0) (λ f p b g q call. ap (λ h. cond (same_key number k h) 1 0) (same f p b g q call)) f g W M i j r step in
      omega (arith, counted, once))
      (All-ExtractsBehind R (λ p. is_valid p.0) (λ f p b g q call is. subst is_valid (sym (same f p b g q call)) is) f g W M i j r step old.map.keys)

module _ {F X S : Type 0} (R : F → X → Bool → F → X → Type 0) (Q : F → X → Type 0) (test : S → F) (rest : S → List X) where
  -- the closure may be called at each element that is left
  abbrev Can : S → Type 0
  Can s = TakesEach (λ f x (a : Bool × X) g. R f x a.0 g a.1) Q (test s) (rest s)

  -- a step that removes an element leaves fewer, and the closure takes each of them
  pub MakesProgress-ExtractsNext : (s t : S) (r : Option X) (kept : List X) → Can s → ExtractsNext R (test s) (rest s) r (test t) kept (rest t) → MakesProgress Can (λ s. at_most (length (rest s))) s r t
  MakesProgress-ExtractsNext s t None kept takes step = record { on = λ _. tt; keeps = tt; rests = λ _. tt }
  MakesProgress-ExtractsNext s t (Some x) kept takes step =
      let next = TakesEach-rest R Q (test s) (test t) (rest s) kept (rest t) (Some x) takes step in
      let len = length-ExtractsNext R (test s) (test t) (rest s) kept (rest t) (Some x) step in
      record { on = λ _. (next, tt, omega (arith, len)); keeps = next; rests = λ _. tt }

module _ {F K V : Type 0} (number : K → ℕ) (R : F → K × V → Bool → F → K × V → Type 0) (same : (f : F) (p : K × V) (b : Bool) (g : F) (q : K × V) → R f p b g q → q.0 ≡ p.0) where
  -- the key of a removed pair was present
  pub IsPresent-ExtractsBehind : (f g : F) (L M : List (K × V)) (i j : ℕ) (r : Option (K × V)) → ExtractsBehind R f L i r g M j → IfSome r (λ p. IsPresent number L p.0)
  IsPresent-ExtractsBehind f g L M i j None step = tt
  IsPresent-ExtractsBehind f g L M i j (Some r) step =
      let counted = sum_by-ExtractsBehind R (λ (p : K × V). cond (same_key number r.0 p.0) 1 0) (λ f p b g q call. ap (λ h. cond (same_key number r.0 h) 1 0) (same f p b g q call)) f g L M i j (Some r) step in
      let own = count_by-cons (λ (p : K × V). same_key number r.0 p.0) r [] in let absent = same-absent number L r.0 in
      grind (arith, nat_tests, counted, own, absent)
