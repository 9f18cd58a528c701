-- What a call ensures if it succeeds, and if it fails.
use Rattle.std.proofs.Common.{◌≡◌, true, false}
use Rattle.std.specs.Prelude.{Result, Ok, Err, OnOk, OnErr, is_err}

-- what holds in any case holds if there is an error
pub OnErr-always : {V E P : Type 0} (r : Result V E) → P → OnErr r P
OnErr-always (Ok _) p = tt
OnErr-always (Err _) p = p

-- and if there is none
pub OnOk-always : {V E P : Type 0} (r : Result V E) → P → OnOk r P
OnOk-always (Ok _) p = p
OnOk-always (Err _) p = tt

-- two things that a success ensures
pub OnOk-both : {V E : Type 0} (r : Result V E) (P Q : Type 0) → OnOk r P → OnOk r Q → OnOk r (P × Q)
OnOk-both (Ok _) P Q p q = (p, q)
OnOk-both (Err _) P Q p q = tt

-- what holds both if there is an error and if there is none holds
pub OnOk-or : {V E : Type 0} (r : Result V E) {P : Type 0} → OnOk r P → OnErr r P → P
OnOk-or (Ok _) ok err = ok
OnOk-or (Err _) ok err = err

-- what an error ensures holds if there is one, and what a success ensures if there is none
pub OnErr-at : {V E : Type 0} (r : Result V E) (P : Type 0) → is_err r ≡ true → OnErr r P → P
OnErr-at (Ok _) P is holds = absurd (cc)
OnErr-at (Err _) P is holds = holds

pub OnOk-at : {V E : Type 0} (r : Result V E) (P : Type 0) → is_err r ≡ false → OnOk r P → P
OnOk-at (Ok _) P is holds = holds
OnOk-at (Err _) P is holds = absurd (cc)
