use Rattle.std.proofs.Common.{◌≡◌, ◌+◌, ◌-◌, ◌<◌, ℕ, ℤ, Bool, true, false, cond, List, [], ◌∷◌, ◌++◌, length, take, get_or, slice_set, Option, Some, None, vec_len, refl, sym, ap, ◌∙◌, rules, arith, w64, to_z, of_z}
use Rattle.std.specs.Prelude.{◌==◌}
use Rattle.std.specs.Option.{option_or}
use Rattle.std.proofs.Math.ListN.{length-set}
use Rattle.std.proofs.Math.Seq.{take-length}
use Rattle.std.proofs.lemmas.Int.{to_z-of_z}
use Rattle.std.proofs.lemmas.List.{take_more, take_more_set}
use Rattle.std.proofs.lemmas.List.Sums.{fold-append}
use Rattle.intmap.specs.Bindings.{value_of, Updates}
use Rattle.intmap.specs.Map.{MapState}
use Rattle.example_scopes.specs.Scopes.{value_in}
use Rattle.example_scopes.proofs.define.Goals as goal

-- the innermost scope goes first
value_in-append : (outer : List (MapState ℕ ℤ)) (scope : MapState ℕ ℤ) (q : ℕ) → value_in (outer ++ scope ∷ []) q ≡ option_or (value_of (λ key. key) scope.walk q) (value_in outer q)
value_in-append outer scope q = fold-append _ None outer (scope ∷ [])

-- the innermost scope may be replaced by one that defines one symbol anew
value_in-set : (scopes : List (MapState ℕ ℤ)) (n : ℕ) (old new : MapState ℕ ℤ) (symbol : ℕ) (value : ℤ) → length scopes ≡ n + 1 → old ≡ get_or scopes n old
    → ((q : ℕ) → value_of (λ key. key) new.walk q ≡ cond (q == symbol) (Some value) (value_of (λ key. key) old.walk q))
    → (q : ℕ) → value_in (slice_set scopes n new) q ≡ cond (q == symbol) (Some value) (value_in scopes q)
value_in-set scopes n old new symbol value count at_end set q =
    let within : n < length scopes = omega arith in
    let after : slice_set scopes n new ≡ take n scopes ++ new ∷ [] =
    sym (take-length (slice_set scopes n new)) ∙ ap (λ m. take m (slice_set scopes n new)) (length-set scopes n new ∙ count) ∙ take_more_set scopes n new within in
    let before : scopes ≡ take n scopes ++ old ∷ [] =
    sym (take-length scopes) ∙ ap (λ m. take m scopes) count ∙ take_more scopes n old within ∙ ap (λ s. take n scopes ++ s ∷ []) (sym at_end) in
    ap (λ s. value_in s q) after ∙ value_in-append (take n scopes) new q ∙ ap (λ o. option_or o (value_in (take n scopes) q)) (set q)
    ∙ first (q == symbol) _ _ ∙ ap (cond (q == symbol) (Some value)) (sym (ap (λ s. value_in s q) before ∙ value_in-append (take n scopes) old q))
  where
    first : (b : Bool) (inner outer : Option ℤ) → option_or (cond b (Some value) inner) outer ≡ cond b (Some value) (option_or inner outer)
    first true inner outer = refl
    first false inner outer = refl

pub returns-clause-values : goal.returns-clause-values
returns-clause-values c =
    let updates : Updates (λ key. key) c.in-Some.scope.now.walk c.insert.new.self.walk c.args.symbol (Some (to_z w64 (of_z w64 c.args.value))) = search rules in
    let same : to_z w64 (of_z w64 c.args.value) ≡ c.args.value = to_z-of_z w64 c.args.value c.ranges.value in
    value_in-set c.args.scopes.now.items (vec_len c.args.scopes.now - 1) c.in-Some.scope.now c.insert.new.self c.args.symbol c.args.value
    (search rules) (search rules)
    (λ q. updates.0 q ∙ ap (λ z. cond (q == c.args.symbol) (Some z) (value_of (λ key. key) c.in-Some.scope.now.walk q)) same)
