-- Which pairs are at home in a row, and that what closures leave of it is.
use Rattle.std.proofs.Common.{◌≡◌, ℕ, ◌<◌, Bool, true, false, cond, List, [], ◌∷◌, ◌++◌, length, get_or, Option, take, drop, sym, ap, ◌∙◌, subst, arith}
use Rattle.std.specs.Prelude.{All}
use Rattle.std.specs.Fn.{Mut}
use Rattle.std.specs.Borrow.{MutBor}
use Rattle.std.specs.List.Retain.{ExtractsNext}
use Rattle.std.proofs.Math.Seq.{drop-append_seam, take-append_seam}
use Rattle.std.proofs.lemmas.List.{take-append-drop, get_or-map, length-map}
use Rattle.std.proofs.lemmas.List.Elements.{All-nil, All-cons}
use Rattle.intmap_table.specs.Classes.{slot_number, IsCapacity}
use Rattle.intmap_table.specs.Picking.{ExtractsBehind, PicksAt}
use Rattle.intmap_table.specs.Retaining.{Retains}
use Rattle.intmap_table.specs.Writes.{Writes}
use Rattle.intmap_table.specs.Tables.Keeping.{Keeps, Says}
use Rattle.intmap_table.specs.Tables.Nodes.{Node, empty, Pool, AreHome, AreLinked, row_in, rows_in}
use Rattle.intmap_table.specs.Tables.Rows.{AreRows, IsTable}
use Rattle.intmap_table.specs.declared.linked.keep.KeepBits.{KeepBits}
use Rattle.intmap_table.proofs.ExtractLemmas.{ExtractsNext-induct}
use Rattle.intmap_table.proofs.Nodes.LinkedLemmas.{home_take, home_drop, home-join}

module _ {P : Type 0} (home : P → ℕ) where
  All-home : (i : ℕ) (ps : List P) → AreHome home i ps → All (λ p. home p ≡ i) ps
  All-home i [] own = All-nil (λ p. home p ≡ i)
  All-home i (p ∷ ps) own = All-cons (λ p. home p ≡ i) p ps own.0 (All-home i ps own.1)

  -- each row has pairs that are at home there
  pub Linked-own : (slots : List (Node P)) (a : Pool P) → AreLinked home slots a → (i : ℕ) → i < length slots → All (λ p. home p ≡ i) (get_or (rows_in slots a.nodes) i [])
  Linked-own slots a linked i below =
      subst (λ row. All (λ p. home p ≡ i) row) (sym (get_or-map (row_in a.nodes) slots i empty [] below)) (All-home i (row_in a.nodes (get_or slots i empty)) (linked.own i below))

-- as contracts see the rows
pub Rows-own : {K X : Type 0} (number : K → ℕ) (slots : List (Node (K × X))) (a : Pool (K × X)) (marks : List Bool) (mask : ℕ) → AreRows number slots a marks mask
    → (i : ℕ) → i < length (rows_in slots a.nodes) → All (λ p. slot_number number p.0 (length (rows_in slots a.nodes)) ≡ i) (get_or (rows_in slots a.nodes) i [])
Rows-own number slots a marks mask are i below =
    let long = length-map slots (row_in a.nodes) in
    subst (λ n. All (λ p. slot_number number p.0 n ≡ i) (get_or (rows_in slots a.nodes) i [])) (sym long)
    (Linked-own (λ p. slot_number number p.0 (length slots)) slots a are.linked i (omega (arith, long, below)))

-- they are a table
pub Rows-table : {K X : Type 0} (number : K → ℕ) (slots : List (Node (K × X))) (a : Pool (K × X)) (marks : List Bool) (mask : ℕ) → AreRows number slots a marks mask → IsTable number (rows_in slots a.nodes)
Rows-table number slots a marks mask are = record {
  capacity = subst IsCapacity (sym (length-map slots (row_in a.nodes))) are.capacity;
  in_place = Rows-own number slots a marks mask are;
}

module _ {F P : Type 0} (home : P → ℕ) (i : ℕ) (R : F → P → Bool → F → Type 0) where
  one_kept : (b : Bool) (p : P) (ps : List P) → home p ≡ i → AreHome home i ps → AreHome home i (cond b (p ∷ ps) ps)
  one_kept true p ps here own = (here, own)
  one_kept false p ps here own = own

  pub Home-retained : (f : F) (ps row : List P) (g : F) → Retains R f ps row g → AreHome home i ps → AreHome home i row
  Home-retained f [] row g run own = subst (λ r. AreHome home i r) (sym run.0) tt
  Home-retained f (p ∷ ps) row g run own =
      subst (λ r. AreHome home i r) (sym run.5) (one_kept run.0 p run.2 own.0 (Home-retained run.1 ps run.2 g run.4 own.1))

module _ {P : Type 0} (home : P → ℕ) (i : ℕ) where
  -- what is left of a row if bits say which pairs stay
  pub Home-kept : (f : KeepBits) (ps : List P) (from : ℕ) (g : KeepBits) (row : List P) (place : ℕ) → Keeps f ps from g row place → AreHome home i ps → AreHome home i row
  Home-kept f ps from g row place k own =
      let left = subst (AreHome home i) k.old (home_drop home i from ps own) in
      let asked = subst (AreHome home i) (take-append_seam k.asked k.rest) (home_take home i (length k.asked) (k.asked ++ k.rest) left) in
      let rest = subst (AreHome home i) (drop-append_seam k.asked k.rest) (home_drop home i (length k.asked) (k.asked ++ k.rest) left) in
      subst (AreHome home i) (sym k.new)
      (home-join home i (take from ps) (k.kept ++ k.rest) (home_take home i from ps own)
      (home-join home i k.kept k.rest (Home-retained home i Says f k.asked k.kept g k.told asked) rest))

module _ {K V : Type 0} (number : K → ℕ) (C i : ℕ) where
  abbrev is_home : List (K × V) → Type 0
  is_home ps = AreHome (λ p. slot_number number p.0 C) i ps

  pub Home-written : {F : Type 0} (R : F → K × V → V → F → Type 0) (f : F) (ps row : List (K × V)) (g : F) → Writes R f ps row g → is_home ps → is_home row
  Home-written R f [] row g run own = subst is_home (sym run.0) tt
  Home-written R f (p ∷ ps) row g run own =
      subst is_home (sym run.5) (own.0, Home-written R run.1 ps run.2 g run.4 own.1)

  module _ {F : Type 0} (m : Mut F (K × (MutBor V × Unit {0})) (Bool × (MutBor V × Unit {0}))) where
    -- what is left behind the pairs that were passed
    next_home : (f g : F) (ps kept rest : List (K × V)) (r : Option (K × V)) → ExtractsNext (PicksAt m) f ps r g kept rest → is_home ps → is_home kept × is_home rest
    next_home f g ps kept rest r step =
        ExtractsNext-induct (PicksAt m) (λ f ps r g kept rest. is_home ps → is_home kept × is_home rest)
        (λ f own. (tt, tt)) (λ f g p q ps call own. (tt, own.1))
        (λ f h g p q ps kept rest r call on own. let left = on own.1 in ((ap (λ k. slot_number number k C) call.0 ∙ own.0, left.0), left.1)) f g ps kept rest r step

    pub Home-extracted : (f : F) (ps : List (K × V)) (at : ℕ) (r : Option (K × V)) (g : F) (row : List (K × V)) (on : ℕ) → ExtractsBehind (PicksAt m) f ps at r g row on → is_home ps → is_home row
    Home-extracted f ps at r g row on step own =
        let front = home_take (λ p. slot_number number p.0 C) i at ps own in
        let left = next_home f g (drop at ps) step.0 (drop on row) r step.1 (home_drop (λ p. slot_number number p.0 C) i at ps own) in
        subst is_home (take-append-drop on row)
        (home-join (λ p. slot_number number p.0 C) i (take on row) (drop on row) (subst is_home (sym step.2) (home-join (λ p. slot_number number p.0 C) i (take at ps) step.0 front left.0)) left.1)
