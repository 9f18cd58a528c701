-- What a contract sees of pairs that a closure picks to be removed, one at a step, and of an `ExtractIf`.
use Rattle.std.specs.Prelude.{◌≡◌, ◌+◌, Bool, cond, List, ◌++◌, length, take, drop, Option, IfSome, is_some}
use Rattle.std.specs.Borrow.{GName, MutBor}
use Rattle.std.specs.Fn.{Mut}
use Rattle.std.specs.List.Retain.{ExtractsNext}
use Rattle.std.specs.declared.cmp.PartialEq as eq
use Rattle.intmap_table.specs.declared.key.IntKey as key
use Rattle.intmap_table.specs.Bindings.{IsPresent}
use Rattle.intmap_table.specs.Picking.{AsksAt, PicksAt}
use Rattle.intmap_table.specs.Taking.{TakesEach}
use Rattle.intmap_table.specs.Writes.{TakesPairMut}
use Rattle.intmap.specs.declared.map.iter.extract.ExtractIf.{ExtractIf}
use Rattle.intmap.specs.Map.{MapState, with_walk}

module _ {K V F A : Type 0} {g : key.Ghosts K} {e : eq.Ghosts K} where
  -- the map behind the extraction, as it is at this moment
  abbrev pub extracted_map : ExtractIf K V F A g e → MapState K V
  extracted_map d = d.map.now

  -- the pairs about which the closure was asked and which stay, as it left them: the front of the map's walk
  abbrev pub extract_kept : ExtractIf K V F A g e → List (K × V)
  extract_kept d = take d.at.passed (extracted_map d).walk

  -- the pairs about which it wasn't asked yet: the rest of the walk
  abbrev pub extract_rest : ExtractIf K V F A g e → List (K × V)
  extract_rest d = drop d.at.passed (extracted_map d).walk

  -- the closure
  abbrev pub extract_test : ExtractIf K V F A g e → F
  extract_test d = d.test

  -- the name of the reference to the map
  abbrev pub extract_lender : ExtractIf K V F A g e → GName
  extract_lender d = d.map.ghost_name

  module _ (m : Mut F (K × (MutBor V × Unit {0})) (Bool × (MutBor V × Unit {0}))) where
    -- the closure may be called at each pair that is left
    abbrev pub CanExtract : ExtractIf K V F A g e → Type 0
    CanExtract d = TakesEach (AsksAt m) (TakesPairMut m) (extract_test d) (extract_rest d)

    -- `next` asked about the pairs that were left, up to the first that the closure picked, and removed that one; only the walk of the map changed.
    -- So the key was present, and the map is one pair shorter
    abbrev pub Extracts : ExtractIf K V F A g e → Option (K × V) → ExtractIf K V F A g e → Type 0
    Extracts d r rest = ((kept : List (K × V)) × ExtractsNext (PicksAt m) (extract_test d) (extract_rest d) r (extract_test rest) kept (extract_rest rest)
        × (extract_kept rest ≡ extract_kept d ++ kept))
        × (extract_lender rest ≡ extract_lender d)
        × (extracted_map rest ≡ with_walk (extracted_map d) (extracted_map rest).walk)
        × IfSome r (λ pair. IsPresent g.number_of (extracted_map d).walk pair.0)
        × (length (extracted_map rest).walk + cond (is_some r) 1 0 ≡ length (extracted_map d).walk)
