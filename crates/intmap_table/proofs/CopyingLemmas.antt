-- Elements that are copied to the front of another list, one by one.
use Rattle.std.proofs.Common.{◌≡◌, ℕ, suc, ◌+◌, ◌<◌, ◌≤◌, List, [], ◌∷◌, ◌++◌, length, get_or, set, take, drop, sym, ap, ◌∙◌, subst, arith, length-set}
use Rattle.std.specs.List.{AllZip}
use Rattle.std.proofs.lemmas.List.{drop-set-lt, length-drop, take_more, take_more_set}
use Rattle.std.proofs.lemmas.Grind.{drop_more_same}
use Rattle.std.proofs.Math.Seq.{drop-cons}
use Rattle.intmap_table.proofs.Nodes.AlongLemmas.{same_first}
use Rattle.intmap_table.proofs.Tables.CloneLemmas.{AllZip-append}

module _ {X Y : Type 0} (R : X → Y → Type 0) (L : List X) (A : List Y) where
  -- n elements were copied so far
  pub record AreCopying (B : List Y) (n : ℕ) : Type 0 where
    pub few : n ≤ length L
    pub within : n ≤ length B
    pub len : length B ≡ length A
    pub copied : AllZip R (take n L) (take n B)
    pub others : drop n B ≡ drop n A

  -- the next one is copied
  pub Copying-one : (B : List Y) (n : ℕ) (x : X) (xs : List X) (y : Y) → AreCopying B n → drop n L ≡ x ∷ xs → n < length B → R x y → AreCopying (set B n y) (n + 1)
  Copying-one B n x xs y c next room r =
      let long = ap length next in
      let left = length-drop n L in
      let below : n < length L = omega (arith, left, long) in
      let here : get_or L n x ≡ x = same_first (get_or L n x) x (drop (suc n) L) xs (sym (drop-cons L n x below) ∙ next) in
      let one : take (n + 1) L ≡ take n L ++ x ∷ [] = take_more L n x below ∙ ap (λ p. take n L ++ p ∷ []) here in
      let len = length-set B n y in
      record {
        few = omega (arith, below);
        within = omega (arith, room, len);
        len = len ∙ c.len;
        copied = subst (λ xs. AllZip R xs (take (n + 1) (set B n y))) (sym one) (subst (λ ys. AllZip R (take n L ++ x ∷ []) ys) (sym (take_more_set B n y room))
            (AllZip-append R (take n L) (x ∷ []) (take n B) (y ∷ []) c.copied (r, tt)));
        others = drop-set-lt (n + 1) B n y (omega arith) ∙ drop_more_same B A n c.others;
      }
