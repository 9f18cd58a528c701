-- What insertions do to a map.
use Rattle.std.proofs.Common.{◌≡◌, ℕ, ◌+◌, ◌^◌, ◌<◌, length, true, false, None, Some, refl, sym, ap, arith}
use Rattle.intmap_table.specs.Bindings.{value_of, put_pair, Updates}
use Rattle.intmap_table.specs.Walk.{walk_of}
use Rattle.intmap.specs.Growth.{IsNext}
use Rattle.intmap.specs.Insertions.{IsInsertion}
use Rattle.intmap.specs.Map.{MapState, IsMap, Fits, after_search, written}
use Rattle.intmap_table.proofs.BindingLemmas.{Updates-same}
use Rattle.intmap.proofs.AfterLemmas.{Updates-put, length-put}
use Rattle.intmap.proofs.LoadFactorLemmas.{in_range-next}
use Rattle.intmap.proofs.WriteLemmas.{Updates-written, length-write_value, IsMapWalk-written}

module _ {K V : Type 0} (number : K → ℕ) (is_valid : K → Type 0) where
  -- an insertion of a present key isn't too large, and the capacity stays
  present-fits : (m n : MapState K V) (k : K) (x : V) → value_of number m.walk k ≡ Some x → n.capacity ≡ m.capacity → Fits number m.walk m.capacity m.factor k n.capacity
  present-fits m n k x had same = record { in_range = λ out. (let w : true ≡ false = rw had at out.0 in cc); capacity = rw had same }

  -- a pair was put into the map
  pub IsInsertion-put : (m n : MapState K V) (k : K) (v : V) → IsMap number is_valid m → IsMap number is_valid n
      → n.walk ≡ walk_of number (put_pair number m.walk m.capacity k v) n.capacity → Fits number m.walk m.capacity m.factor k n.capacity
      → IsInsertion number is_valid m k v n
  IsInsertion-put m n k v old new put fits = record {
    fits = fits;
    updates = Updates-put number is_valid m n.walk n.capacity k v old new.capacity put;
    len = length-put number is_valid m n.walk n.capacity k v new.capacity put;
    valid = new;
  }

  -- the pair of a new key was added, with the next capacity
  pub IsInsertion-added : (m n : MapState K V) (k : K) (v : V) → value_of number m.walk k ≡ None → IsMap number is_valid m → IsMap number is_valid n
      → n.walk ≡ walk_of number (put_pair number m.walk m.capacity k v) n.capacity → length m.walk + 1 < 2 ^ 64 → IsNext m.capacity (length m.walk + 1) m.factor n.capacity → IsInsertion number is_valid m k v n
  IsInsertion-added m n k v missing old new put few next =
      IsInsertion-put m n k v old new put (record {
        in_range = λ out. in_range-next m.walk m.capacity m.factor n.capacity few new.capacity next out.1;
        capacity = rw missing next;
      })

  -- the pair of a present key was replaced
  pub IsInsertion-replaced : (m n : MapState K V) (k : K) (v x : V) → value_of number m.walk k ≡ Some x → IsMap number is_valid m → IsMap number is_valid n
      → n.walk ≡ walk_of number (put_pair number m.walk m.capacity k v) n.capacity → n.capacity ≡ m.capacity → IsInsertion number is_valid m k v n
  IsInsertion-replaced m n k v x had old new put same = IsInsertion-put m n k v old new put (present-fits m n k x had same)

  -- a present key got the value v, and the pairs stayed in their slots
  pub IsInsertion-present : (m n : MapState K V) (k : K) (v x : V) → value_of number m.walk k ≡ Some x → n.capacity ≡ m.capacity → Updates number m.walk n.walk k (Some v)
      → length n.walk ≡ length m.walk → IsMap number is_valid n → IsInsertion number is_valid m k v n
  IsInsertion-present m n k v x had same updates len new = record {
    fits = present-fits m n k x had same;
    updates = updates;
    len = rw had (omega (arith, len));
    valid = new;
  }

  -- its value was written in its place
  pub IsInsertion-written : (m : MapState K V) (k : K) (v x : V) → value_of number m.walk k ≡ Some x → IsMap number is_valid m → IsInsertion number is_valid m k v (written number m k v)
  IsInsertion-written m k v x had old =
      IsInsertion-present m (written number m k v) k v x had refl (Updates-written number m.walk k v x had) (length-write_value number m.walk k v) (IsMapWalk-written number is_valid m.walk m.capacity m.factor k v old)

  -- it kept its value
  pub IsInsertion-kept : (m n : MapState K V) (k : K) (x : V) → value_of number m.walk k ≡ Some x → n.walk ≡ m.walk → n.capacity ≡ m.capacity → IsMap number is_valid n → IsInsertion number is_valid m k x n
  IsInsertion-kept m n k x had walk same new = IsInsertion-present m n k x x had same (Updates-same number m.walk n.walk k (Some x) walk (sym had)) (ap length walk) new

  -- the key was looked up before
  pub IsInsertion-searched : (m n : MapState K V) (q k : K) (v : V) → IsInsertion number is_valid (after_search number m q) k v n → IsInsertion number is_valid m k v n
  IsInsertion-searched m n q k v did = record { fits = did.fits; updates = did.updates; len = did.len; valid = did.valid }
