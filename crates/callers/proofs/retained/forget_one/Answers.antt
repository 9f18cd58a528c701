use Rattle.std.proofs.Common.{rules, refl, true, false, ◌≡◌, ◌∙◌, ◌++◌, Bool, All, List, [], ◌∷◌, Option, Some, None, append-nil, sym, ap}
use Rattle.std.specs.Prelude.{◌==◌, drop, filter, not}
use Rattle.std.specs.List.{slice_get}
use Rattle.std.specs.Option.{option_to_list}
use Rattle.std.proofs.lemmas.List.{take-append-drop}
use Rattle.std.proofs.lemmas.List.Elements.{All-head, All-tail, filter-append, filter_passes}
use Rattle.intmap.proofs.Callers.{Extracts-end, Extracts-filter}
use Rattle.intmap.specs.Extracting.{extract_kept, extract_rest, extracted_map}
use Rattle.callers.proofs.retained.forget_one.Goals as goal

module _ {X : Type 0} where
  -- all elements pass
  filter_all : (p : X → Bool) (xs : List X) → All (λ x. p x ≡ true) xs → filter p xs ≡ xs
  filter_all p [] all = refl
  filter_all p (x ∷ xs) all =
      let here : p x ≡ true = All-head (λ x. p x ≡ true) x xs all in
      let more = filter_all p xs (All-tail (λ x. p x ≡ true) x xs all) in simp (here, more)

  -- what passes a test passes it again
  filter-again : (p : X → Bool) (xs : List X) → filter p (filter p xs) ≡ filter p xs
  filter-again p xs = filter_all p (filter p xs) (filter_passes p xs)

  -- what fails a test doesn't pass it
  fails_all : (p : X → Bool) (xs : List X) → All (λ x. not (p x) ≡ true) xs → filter p xs ≡ []
  fails_all p [] all = refl
  fails_all p (x ∷ xs) all =
      let here : p x ≡ false = fails (p x) (All-head (λ x. not (p x) ≡ true) x xs all) in
      let more = fails_all p xs (All-tail (λ x. not (p x) ≡ true) x xs all) in simp (here, more)
    where
      fails : (b : Bool) → not b ≡ true → b ≡ false
      fails false is = refl
      fails true is = sym is

  module _ (p : X → Bool) (L rest : List X) where
    -- of those that are kept in front of the rest none passes
    filter-kept : (kept : List X) → filter (λ x. not (p x)) L ≡ kept ++ filter (λ x. not (p x)) rest → filter p kept ≡ []
    filter-kept kept left =
        sym (append-nil (filter p kept)) ∙ ap (λ Z. filter p kept ++ Z) (sym (none rest)) ∙ sym (filter-append p kept (filter (λ x. not (p x)) rest))
        ∙ ap (λ Z. filter p Z) (sym left) ∙ none L
      where
        none : (xs : List X) → filter p (filter (λ x. not (p x)) xs) ≡ []
        none xs = fails_all p (filter (λ x. not (p x)) xs) (filter_passes (λ x. not (p x)) xs)

    -- those that fail are the same as before
    filter-failing : (kept : List X) → filter (λ x. not (p x)) L ≡ kept ++ filter (λ x. not (p x)) rest → filter (λ x. not (p x)) (kept ++ rest) ≡ filter (λ x. not (p x)) L
    filter-failing kept left =
        let n : X → Bool = λ x. not (p x) in
        filter-append n kept rest ∙ ap (λ Z. filter n kept ++ Z) (sym (filter-again n rest)) ∙ sym (filter-append n kept (filter n rest))
        ∙ ap (λ Z. filter n Z) (sym left) ∙ filter-again n L

    -- the first that passes was removed
    first_passing : (r : Option X) → filter p L ≡ option_to_list r ++ filter p rest → (r ≡ None → rest ≡ []) → r ≡ slice_get (filter p L) 0
    first_passing None all end = sym (ap (λ Z. slice_get Z 0) (all ∙ ap (λ Z. filter p Z) (end refl)))
    first_passing (Some x) all end = sym (ap (λ Z. slice_get Z 0) all)

    -- and those behind it are left
    drop_passing : (r : Option X) → filter p L ≡ option_to_list r ++ filter p rest → (r ≡ None → rest ≡ []) → filter p rest ≡ drop 1 (filter p L)
    drop_passing None all end = ap (λ Z. filter p Z) (end refl) ∙ sym (ap (λ Z. drop 1 Z) (all ∙ ap (λ Z. filter p Z) (end refl)))
    drop_passing (Some x) all end = sym (ap (λ Z. drop 1 Z) all)

pub returns-clause-first : goal.returns-clause-first
returns-clause-first c =
    let d = c.extract_if-left.result in let rest = c.next.new.self in
    let step = c.next.ensures.steps in let left = c.extract_if-left.ensures.left in
    let told = Extracts-filter _ (λ f. f.0 ≡ c.args.depth) (λ name. name.1.depth == c.args.depth)
    (λ f p b h q own asked. let same = asked.0 in let shows = asked.1.shows in let leaves = asked.1.leaves in let met = asked.1.called.met in (search rules, search rules, search rules))
    d rest _ (ap (λ f. f.0) c.extract_if-left.ensures.test) step in
    first_passing (λ name. name.1.depth == c.args.depth) c.args.names.now.walk (extract_rest rest) c.next.result
    (sym (ap (λ Z. filter (λ name. name.1.depth == c.args.depth) Z) left) ∙ told.0)
    (λ none. (Extracts-end _ d rest (rw none at step)).0)

pub returns-clause-same_depth : goal.returns-clause-same_depth
returns-clause-same_depth c =
    let d = c.extract_if-left.result in let rest = c.next.new.self in
    let step = c.next.ensures.steps in let left = c.extract_if-left.ensures.left in
    let told = Extracts-filter _ (λ f. f.0 ≡ c.args.depth) (λ name. name.1.depth == c.args.depth)
    (λ f p b h q own asked. let same = asked.0 in let shows = asked.1.shows in let leaves = asked.1.leaves in let met = asked.1.called.met in (search rules, search rules, search rules))
    d rest _ (ap (λ f. f.0) c.extract_if-left.ensures.test) step in
    let all : filter (λ name. name.1.depth == c.args.depth) (extracted_map rest).walk ≡ drop 1 (filter (λ name. name.1.depth == c.args.depth) c.args.names.now.walk) =
    ap (λ Z. filter (λ name. name.1.depth == c.args.depth) Z) (sym (take-append-drop rest.at.passed (extracted_map rest).walk))
    ∙ filter-append (λ name. name.1.depth == c.args.depth) (extract_kept rest) (extract_rest rest)
    ∙ ap (λ Z. Z ++ filter (λ name. name.1.depth == c.args.depth) (extract_rest rest)) (filter-kept (λ name. name.1.depth == c.args.depth) c.args.names.now.walk (extract_rest rest) (extract_kept rest)
    (sym (ap (λ Z. Z ++ filter (λ name. not (name.1.depth == c.args.depth)) (extract_rest d)) c.extract_if-left.ensures.kept ∙ ap (λ Z. filter (λ name. not (name.1.depth == c.args.depth)) Z) left) ∙ told.1))
    ∙ drop_passing (λ name. name.1.depth == c.args.depth) c.args.names.now.walk (extract_rest rest) c.next.result
    (sym (ap (λ Z. filter (λ name. name.1.depth == c.args.depth) Z) left) ∙ told.0)
    (λ none. (Extracts-end _ d rest (rw none at step)).0) in
    search (all, rules)

pub returns-clause-others : goal.returns-clause-others
returns-clause-others c =
    let d = c.extract_if-left.result in let rest = c.next.new.self in
    let step = c.next.ensures.steps in let left = c.extract_if-left.ensures.left in
    let told = Extracts-filter _ (λ f. f.0 ≡ c.args.depth) (λ name. name.1.depth == c.args.depth)
    (λ f p b h q own asked. let same = asked.0 in let shows = asked.1.shows in let leaves = asked.1.leaves in let met = asked.1.called.met in (search rules, search rules, search rules))
    d rest _ (ap (λ f. f.0) c.extract_if-left.ensures.test) step in
    let all : filter (λ name. not (name.1.depth == c.args.depth)) (extracted_map rest).walk ≡ filter (λ name. not (name.1.depth == c.args.depth)) c.args.names.now.walk =
    ap (λ Z. filter (λ name. not (name.1.depth == c.args.depth)) Z) (sym (take-append-drop rest.at.passed (extracted_map rest).walk))
    ∙ filter-failing (λ name. name.1.depth == c.args.depth) c.args.names.now.walk (extract_rest rest) (extract_kept rest)
    (sym (ap (λ Z. Z ++ filter (λ name. not (name.1.depth == c.args.depth)) (extract_rest d)) c.extract_if-left.ensures.kept ∙ ap (λ Z. filter (λ name. not (name.1.depth == c.args.depth)) Z) left) ∙ told.1) in
    search (all, rules)
