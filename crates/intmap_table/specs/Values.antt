-- Pairs with other values, and pairs whose values are lent.
use Rattle.std.specs.Prelude.{List, [], ◌∷◌, map, take, drop, length}
use denote.RawPtr.{Ptr}

-- the pairs with these values in the places of their own, in order and as far as they go
unfoldable pub with_values : {K V : Type 0} → List (K × V) → List V → List (K × V)
with_values [] vs = []
with_values (p ∷ L) [] = p ∷ L
with_values (p ∷ L) (v ∷ vs) = (p.0, v) ∷ with_values L vs

-- the rows with these values in the places of their own, row after row
abbrev pub rows_with : {K V : Type 0} → List (List (K × V)) → List V → List (List (K × V))
rows_with [] vs = []
rows_with (row ∷ R) vs = with_values row (take (length row) vs) ∷ rows_with R (drop (length row) vs)

-- the pairs as they were before their values were lent. No public clause cites this.
abbrev pub lent_pairs : {K V : Type 0} → List (K × (Ptr × V)) → List (K × V)
lent_pairs L = map (λ p. (p.0, p.1.1)) L
