-- What a filter sees of a list out of which an element was swapped.
use Rattle.std.proofs.Common.{◌≡◌, Bool, true, false, List, [], ◌∷◌, refl, arith}
use Rattle.std.specs.Prelude.{filter}
use Rattle.std.specs.List.{list_any}
use Rattle.intmap_table.specs.Bindings.{last_passing, without_last, swap_out}

-- the test that each element passes
abbrev pub any : {X : Type 0} → X → Bool
any x = true

module _ {X : Type 0} (keep : X → Bool) where
  -- the last that passes is the last of those that are kept
  last_passing-filter : (d : X) (xs : List X) → last_passing any d (filter keep xs) ≡ last_passing keep d xs
  last_passing-filter d [] = refl
  last_passing-filter d (x ∷ xs) = let h = last_passing-filter x xs in let k = last_passing-filter d xs in grind (arith, h, k)

  list_any-filter : (xs : List X) → list_any any (filter keep xs) ≡ list_any keep xs
  list_any-filter [] = refl
  list_any-filter (x ∷ xs) = let h = list_any-filter xs in grind (arith, h)

  -- if none passes, none is left out
  without_last-none : (xs : List X) → list_any keep xs ≡ false → without_last keep xs ≡ xs
  without_last-none [] none = refl
  without_last-none (x ∷ xs) none = let h = without_last-none xs in grind (arith, none, h)

  filter-without_last : (xs : List X) → filter keep (without_last keep xs) ≡ without_last any (filter keep xs)
  filter-without_last [] = refl
  filter-without_last (x ∷ xs) = let l = list_any-filter xs in let h = filter-without_last xs in let none = without_last-none xs in grind (arith, l, h, none)

  -- what is left out by a test that no kept element passes wasn't kept
  filter-without_last-other : (other : X → Bool) → ((x : X) → other x ≡ true → keep x ≡ false) → (xs : List X) → filter keep (without_last other xs) ≡ filter keep xs
  filter-without_last-other other apart [] = refl
  filter-without_last-other other apart (x ∷ xs) =
      let h = filter-without_last-other other apart xs in let o = apart x in grind (arith, h, o)

  -- the last that passes does pass, if the default does
  pub last_passing-passes : (d : X) (xs : List X) → keep d ≡ true → keep (last_passing keep d xs) ≡ true
  last_passing-passes d [] h = h
  last_passing-passes d (x ∷ xs) h =
      let a = last_passing-passes d xs h in let b = last_passing-passes x xs in grind (arith, a, b)

  -- if the filter keeps the class, it sees a swap in a list of that class alone
  pub filter-swap_out : (is_it : X → Bool) → ((x : X) → is_it x ≡ true → keep x ≡ true) → (xs : List X) → filter keep (swap_out is_it keep xs) ≡ swap_out is_it any (filter keep xs)
  filter-swap_out is_it own [] = refl
  filter-swap_out is_it own (x ∷ xs) =
      let passes = last_passing-passes x xs in let some = list_any-filter xs in let last = last_passing-filter x xs in let left = filter-without_last xs in
      let o = own x in let h = filter-swap_out is_it own xs in grind (arith, passes, some, last, left, o, h)

  last_passing-other : (other : X → Bool) (d : X) (xs : List X) → other d ≡ true → ((x : X) → other x ≡ true → keep x ≡ false) → keep (last_passing other d xs) ≡ false
  last_passing-other other d [] h apart = apart d h
  last_passing-other other d (x ∷ xs) h apart =
      let a = last_passing-other other d xs h apart in let b = λ (o : other x ≡ true). last_passing-other other x xs o apart in grind (arith, a, b)

  -- a filter that keeps none of the class doesn't see the swap
  pub filter-swap_out-other : (is_it other : X → Bool) → ((x : X) → is_it x ≡ true → other x ≡ true) → ((x : X) → other x ≡ true → keep x ≡ false) → (xs : List X) → filter keep (swap_out is_it other xs) ≡ filter keep xs
  filter-swap_out-other is_it other own apart [] = refl
  filter-swap_out-other is_it other own apart (x ∷ xs) =
      let o = own x in let a = apart x in let last = λ (is : other x ≡ true). last_passing-other other x xs is apart in
      let left = filter-without_last-other other apart xs in
      let h = filter-swap_out-other is_it other own apart xs in grind (arith, o, a, last, left, h)
