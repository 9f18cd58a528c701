-- A list in two parts: the first is as long as requested, or is the whole list if that is shorter.
use Rattle.std.proofs.Common.{◌≡◌, ℕ, min, List, ◌++◌, length, take, drop, sym, ap, ◌∙◌, take_at, drop_at}
use Rattle.std.proofs.lemmas.List.{take_min, drop_min}

module _ {X : Type 0} (front rest whole : List X) (n : ℕ) (joined : front ++ rest ≡ whole) (long : length front ≡ min n (length whole)) where
  -- the first n elements are the first part
  pub take-joined : take n whole ≡ front
  take-joined = sym (take_min n whole) ∙ ap (take (min n (length whole))) (sym joined) ∙ take_at front rest (min n (length whole)) long

  -- those behind them are the second
  pub drop-joined : drop n whole ≡ rest
  drop-joined = sym (drop_min n whole) ∙ ap (drop (min n (length whole))) (sym joined) ∙ drop_at front rest (min n (length whole)) long
