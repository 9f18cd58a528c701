-- Elements that are copied to the front of another list.
use Rattle.std.specs.Prelude.{◌≡◌, ℕ, min, List, length, take, drop}
use Rattle.std.specs.List.{AllZip}

-- the first n elements of L were copied, as R says, to the front of A, which became B: all of them, or as many as A has elements. The others of A stay
pub record AreCopied {X Y : Type 0} (R : X → Y → Type 0) (L : List X) (A B : List Y) (n : ℕ) : Type 0 where
  pub count : n ≡ min (length L) (length A)
  pub len : length B ≡ length A
  pub copied : AllZip R (take n L) (take n B)
  pub others : drop n B ≡ drop n A
