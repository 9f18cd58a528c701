use Rattle.std.proofs.Common.{◌≡◌, inl, inr, ℕ, true, false, List, [], ◌∷◌, length, Option, Some, None, refl, ap, ◌∙◌, arith}
use Rattle.intmap.specs.Bindings.{value_of, take_key, put_pair}
use Rattle.intmap.specs.PlainLists.{PlainList, empty_list, looked_up, ListInserts, RefusalIsDue}
use Rattle.intmap.specs.declared.refusal.Cause.{Cause}
use Rattle.intmap_run.specs.declared.command.Command.TheVariants as command
use Rattle.intmap_run.specs.declared.answer.Answer.{Answer}
use Rattle.intmap_run.specs.declared.answer.Answer.TheVariants as answer
use Rattle.intmap_run.specs.Runs.{AnswersInsert, SeesOption, Runs}
use Rattle.callers_above.proofs.session.five_answers.Goals as goal

-- each answer follows from the list that the commands before it left, and an insertion may be refused: a proof by cases,
-- one a command

-- a 2 that is seen as itself
seen_two : (o : Option ℕ) → SeesOption (λ v s. s ≡ v) (Some 2) o → o ≡ Some 2
seen_two None sees = absurd sees
seen_two (Some s) sees = ap (λ x. Some x) sees

-- an empty table refuses no pair
abbrev NeverRefused : Type 0
NeverRefused = (cause : Cause) → RefusalIsDue {K = ℕ} {V = ℕ} (λ k. k) (empty_list 4) 7 cause → ⊥

module _ {A : Type 0} (never_refused : NeverRefused) where
  -- so the first insertion answers that nothing was there
  first : (a : Answer ℕ ℕ ℕ A) (t : PlainList ℕ ℕ) → AnswersInsert (λ k. k) (λ v s. s ≡ v) (λ k v. true) (empty_list 4) 7 1 a t → (a ≡ answer.Old None) × ListInserts (λ k. k) (empty_list 4) 7 1 t
  first a t (inl done) = done
  first a t (inr refused) = absurd (never_refused refused.0 refused.2)

  -- an insertion over 1 answers 1
  second : (s : PlainList ℕ ℕ) (a : Answer ℕ ℕ ℕ A) (t : PlainList ℕ ℕ) → value_of (λ k. k) s.pairs 7 ≡ Some 1 → AnswersInsert (λ k. k) (λ v s. s ≡ v) (λ k v. true) s 7 2 a t → (a ≡ answer.Old (Some 1)) × ListInserts (λ k. k) s 7 2 t
  second s a t bound (inl done) = (rw bound at done.0, done.1)
  second s a t bound (inr refused) = let no : true ≡ false = rw bound at refused.2.new_key in cc

  -- the five answers, one by one
  five : (as' : List (Answer ℕ ℕ ℕ A)) (t : PlainList ℕ ℕ)
      → Runs (λ k. k) (λ v s. s ≡ v) (λ k v. true) (empty_list 4) (command.Insert 7 1 ∷ command.Insert 7 2 ∷ command.Get 7 ∷ command.Remove 7 ∷ command.Len ∷ []) as' t
      → as' ≡ answer.Old None ∷ answer.Old (Some 1) ∷ answer.Seen (Some 2) ∷ answer.Old (Some 2) ∷ answer.Number 0 ∷ []
  five [] t run = absurd run
  five (a ∷ []) t run = absurd run.2
  five (a ∷ b ∷ []) t run = absurd run.2.2
  five (a ∷ b ∷ d ∷ []) t run = absurd run.2.2.2
  five (a ∷ b ∷ d ∷ e ∷ []) t run = absurd run.2.2.2.2
  five (a ∷ b ∷ d ∷ e ∷ f ∷ g ∷ as') t run = absurd run.2.2.2.2.2
  five (a ∷ b ∷ d ∷ e ∷ f ∷ []) t run =
      let one = first a run.0 run.1 in
      let one_left : run.0.pairs ≡ (7, 1) ∷ [] = ap (λ s. s.pairs) one.1.after in
      let two = second (looked_up (λ k. k) run.0 7) b run.2.0 (ap (λ L. value_of (λ k. k) L 7) one_left) run.2.1 in
      let two_left : run.2.0.pairs ≡ (7, 2) ∷ [] = ap (λ s. s.pairs) two.1.after ∙ ap (λ L. put_pair (λ k. k) L run.0.capacity 7 2) one_left in
      let bound : value_of (λ k. k) run.2.0.pairs 7 ≡ Some 2 = ap (λ L. value_of (λ k. k) L 7) two_left in
      let three = seen_two run.2.2.1.0.0 (rw bound at run.2.2.1.0.2) in
      let left : run.2.2.0.pairs ≡ (7, 2) ∷ [] = ap (λ s. s.pairs) run.2.2.1.1 ∙ two_left in
      let four : e ≡ answer.Old (Some 2) = run.2.2.2.1.0 ∙ ap (λ L. answer.Old (value_of (λ k. k) L 7)) left in
      let last : f ≡ answer.Number 0 = run.2.2.2.2.1.0 ∙ ap (λ s. answer.Number (length s.pairs)) run.2.2.2.1.1 ∙ ap (λ L. answer.Number (length (take_key (λ k. k) L run.2.2.0.capacity 7))) left in
      cc (one.0, two.0, run.2.2.1.0.1, three, four, last)

pub returns-in-Ok-run-clause-ok : goal.returns-in-Ok-run-clause-ok
returns-in-Ok-run-clause-ok c =
    let run = c.in-Ok-run.ensures.ok (empty_list 4) (rw c.in_ok-map.ensures.state (record { walk = refl; capacity = refl; factor = refl; placed = refl; compared = refl })) in
    let never_refused : NeverRefused = λ cause. c.pairs_that_need_no_memory_are_never_refused.ensures (empty_list 4) 7 cause (2, (omega arith), (omega arith), refl) (omega arith) refl refl in
    five never_refused _ run.0 (rw c.in-Ok.ensures.items at run.1)
