-- How full a table is, and how its pairs lie in its slots.
use Rattle.std.specs.Prelude.{ℕ, ◌*◌, ◌/◌, ◌==◌, nat_lt, not, List, [], ◌∷◌, length, map, filter, count_by}
use Rattle.std.specs.List.{range_with_len}
use Rattle.intmap_table.specs.Classes.{residue}
use Rattle.intmap_table.specs.Walk.{slot_of}

-- each number once, at its first place
abbrev pub each_once : List ℕ → List ℕ
each_once [] = []
each_once (n ∷ ns) = n ∷ filter (λ m. not (m == n)) (each_once ns)

-- each number at its first place, with how often it occurs in the list
abbrev pub tally_of : List ℕ → List (ℕ × ℕ)
tally_of ns = map (λ m. (m, count_by (λ n. n == m) ns)) (each_once ns)

module _ {K V : Type 0} where
  -- the number of pairs for each of C slots, in thousandths, rounded down
  abbrev pub rate_of : List (K × V) → ℕ → ℕ
  rate_of L C = length L * 1000 / C

module _ {K V : Type 0} (number : K → ℕ) where
  -- how many different residues the keys have modulo C
  abbrev pub load_of : List (K × V) → ℕ → ℕ
  load_of L C = length (each_once (map (λ p. residue number p.0 C) L))

  -- the sizes above 1 of slots 0, 1, .., C - 1
  abbrev pub collision_sizes : List (K × V) → ℕ → List ℕ
  collision_sizes L C = filter (nat_lt 1) (map (λ i. length (slot_of number L C i)) (range_with_len 0 C))

  -- each size above 1, in the order of first appearance, with the number of slots that have it
  abbrev pub collisions_of : List (K × V) → ℕ → List (ℕ × ℕ)
  collisions_of L C = tally_of (collision_sizes L C)
