-- What a contract sees of members that a closure picks to be removed, one at a step, and of an `ExtractIf`.
use Rattle.std.specs.Prelude.{◌≡◌, ℕ, ◌+◌, Bool, cond, List, ◌++◌, length, take, drop, Option, MatchOption, false, is_some, IsTrue}
use Rattle.std.specs.Borrow.{GName}
use Rattle.std.specs.Fn.{Mut}
use Rattle.std.specs.List.Retain.{ExtractsNext}
use Rattle.intmap.specs.Taking.{TakesEach}
use Rattle.intmap_set.specs.declared.set.iter.extract.ExtractIf.{ExtractIf}
use Rattle.intmap_set.specs.Retaining.{KeepsKey, PicksKey, TakesKey}
use Rattle.intmap_set.specs.Sets.{SetState, Updates, holds}

module _ {K F A : Type 0} {g : _} {e : _} where
  -- the set behind the extraction, as it is at this moment
  abbrev pub extracted_set : ExtractIf K F A g e → SetState K
  extracted_set d = d.set.now

  -- the members about which the closure was asked and which stay: the front of the set's walk
  abbrev pub extract_kept : ExtractIf K F A g e → List K
  extract_kept d = take d.before (extracted_set d).walk

  -- the members about which it wasn't asked yet: the rest of the walk
  abbrev pub extract_rest : ExtractIf K F A g e → List K
  extract_rest d = drop d.before (extracted_set d).walk

  -- the closure
  abbrev pub extract_test : ExtractIf K F A g e → F
  extract_test d = d.test

  -- the name of the reference to the set
  abbrev pub extract_lender : ExtractIf K F A g e → GName
  extract_lender d = d.set.ghost_name

  module _ (m : Mut F (K × Unit {0}) Bool) where
    -- the closure may be called at each member that is left
    abbrev pub CanExtract : ExtractIf K F A g e → Type 0
    CanExtract d = TakesEach (KeepsKey m) (TakesKey m) (extract_test d) (extract_rest d)

  module _ (number : K → ℕ) (m : Mut F (K × Unit {0}) Bool) where
    -- `next` asked about the members that were left, up to the first that the closure picked, and removed that one; only the walk of the
    -- set changed. So it was a member and is none any more, each other key is one as it was, and the set has one member less
    abbrev pub Extracts : ExtractIf K F A g e → Option K → ExtractIf K F A g e → Type 0
    Extracts d r rest = ((kept : List K) × ExtractsNext (PicksKey m) (extract_test d) (extract_rest d) r (extract_test rest) kept (extract_rest rest)
        × (extract_kept rest ≡ extract_kept d ++ kept))
        × (extract_lender rest ≡ extract_lender d)
        × (extracted_set rest ≡ record (extracted_set d) { walk = (extracted_set rest).walk })
        × MatchOption r ((extracted_set rest).walk ≡ (extracted_set d).walk)
        (λ k. IsTrue (holds number (extracted_set d).walk k) × Updates number (extracted_set d).walk (extracted_set rest).walk k false)
        × (length (extracted_set rest).walk + cond (is_some r) 1 0 ≡ length (extracted_set d).walk)
