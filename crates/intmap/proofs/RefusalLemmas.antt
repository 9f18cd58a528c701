-- Why insertions fail, and which can't.
use Rattle.std.proofs.Common.{◌≡◌, ℕ, ◌+◌, ◌<◌, ◌^◌, None, length, refl, arith}
use Rattle.intmap_table.specs.Bindings.{value_of}
use Rattle.intmap_table.specs.Classes.{IsCapacity}
use Rattle.intmap_table.specs.Reach.{class_size}
use Rattle.intmap.specs.Growth.{IsNext}
use Rattle.intmap.specs.Map.{MapState, NeedsNoMemory, after_search}
use Rattle.intmap.specs.PlainLists.{PlainList, RefusalIsDue, list_of}
use Rattle.intmap.specs.declared.refusal.Cause.{Cause}
use Rattle.intmap.specs.declared.refusal.Cause.TheVariants.{Memory, TooLarge}
use Rattle.intmap.proofs.LoadFactorLemmas.{in_range-next}

module _ {K V : Type 0} (number : K → ℕ) (s : PlainList K V) (k : K) where
  module _ (missing : value_of number s.pairs k ≡ None) where
    -- there was too little memory for the next capacity
    pub RefusalIsDue-memory : (D : ℕ) → length s.pairs + 1 < 2 ^ 64 → IsCapacity D → IsNext s.capacity (length s.pairs + 1) s.factor D
        → (IsNext s.capacity (length s.pairs + 1) s.factor s.capacity → 0 < class_size number s.pairs s.capacity k) → RefusalIsDue number s k Memory
    RefusalIsDue-memory D few cap next shared = record {
      new_key = rw missing refl;
      too_large = (λ e. cc, λ out. absurd (in_range-next s.pairs s.capacity s.factor D few cap next out.1));
      memory = λ _. shared;
    }

  pub NeedsNoMemory-never_refused : IsCapacity s.capacity → NeedsNoMemory number s.pairs s.capacity s.factor k → (cause : Cause) → RefusalIsDue number s k cause → ⊥
  NeedsNoMemory-never_refused capacity free Memory may = let some = may.memory refl free.stays in omega (arith, free.alone, some)
  NeedsNoMemory-never_refused capacity free TooLarge may = in_range-next s.pairs s.capacity s.factor s.capacity free.count capacity free.stays (may.too_large.0 refl).1

-- an insertion that fails behind a look-up may fail before it
pub RefusalIsDue-searched : {K V : Type 0} (number : K → ℕ) (m : MapState K V) (q k : K) (cause : Cause) → RefusalIsDue number (list_of (after_search number m q)) k cause → RefusalIsDue number (list_of m) k cause
RefusalIsDue-searched number m q k cause due = record { new_key = due.new_key; too_large = due.too_large; memory = due.memory }
