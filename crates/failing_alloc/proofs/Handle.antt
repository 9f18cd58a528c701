-- What both proofs by hand find behind `&self`: the allocator in `inner`, and the counts in `counts`.
use Rattle.failing_alloc.proofs.Steps.{ℕ, ◌+◌, List, [], ◌∷◌, Al, seen, ftrue, fsep, flft, Fml, align, size, ‵, ◌⊛◌, ◌$◌, ◌∵◌, !, qed, done, move, keep, split, fsplit, plain, Val}
use Rattle.std.proofs.Common.{Bor}
use Rattle.std.proofs.alloc.Calls.{α}
use Rattle.failing_alloc.specs.contracts.Counts as counts
use Rattle.failing_alloc.specs.contracts.FailingAlloc as failing_alloc
use seplogic.Ra.Ura.{Ura}
use base.Fml.{Lft, Share}
use base.Logic.{ent}
use mir.Syntax.{Args, a_type, dcons, dnil}
use prog.Memory.{up}
use types.Logic.{Logic}
use types.Kit.{mean}
use denote.Builtin.{RefOf}
use denote.Memory.{hidden_shr}
use denote.Opens.{unhide}
use denote.Param.{bounded, param}
use denote.RattleType.{RattleType}
use denote.Signature.{Slot, type_at}

-- the type of `counts`
abbrev pub Counted : RattleType
Counted = counts.the_row

-- `Z` is the type parameter `B`, with its methods
module _ (Z : Al) where
  -- the type arguments, and the tables of their methods
  abbrev pub passed : Args
  passed = bounded (a_type ∷ []) (Z.row, tt) (dcons Z.d (dcons Z.drops dnil))

  -- the parameter `&self`
  abbrev pub self : Slot 2
  self = RefOf (0 ∷ []) tt (plain (λ _. failing_alloc.the_row (param 0 Z.row))) (λ _. tt)

  module _ (r : Bor (failing_alloc.the_row Z.row).Denot) where
    -- where the fields lie
    abbrev pub inner_at : ℕ × ℕ
    inner_at = (r.ref_ptr.0, r.ref_ptr.1 + up (align (α Z)) 0)

    abbrev pub counts_at : ℕ × ℕ
    counts_at = (r.ref_ptr.0, r.ref_ptr.1 + up 8 (up (align (α Z)) 0 + size (α Z)))

    -- a `&` to `counts`
    abbrev pub shared_counts : Lft → Fml
    shared_counts κ = hidden_shr Counted κ r.now.counts counts_at.0 counts_at.1

  module _ {M : Type 1} {𝓤 : Ura M} (𝓛 : Logic 𝓤) (κ₁ κ₂ : Lft) (q₁ q₂ : Share) (r : Bor (failing_alloc.the_row Z.row).Denot) (vs : List Val) (P : Fml) where
    -- the two lifetimes' tokens and `&self` come apart into a `&` to each field and the tokens; the other parameters are let go
    pub opened : ent 𝓤 (mean 𝓛 ((‵ (flft κ₁ q₁) ⊛ ‵ (flft κ₂ q₂) ⊛ ‵ ftrue) ⊛ ‵ (fsep ((type_at self (κ₁, (κ₂, tt))).own_val r vs) P)))
        (mean 𝓛 (‵ (shared_counts r κ₁) ⊛ ‵ (flft κ₁ q₁) ⊛ ‵ (seen Z κ₁ (inner_at r) r.now.inner) ⊛ ‵ (flft κ₂ q₂) ⊛ ‵ ftrue))
    opened =
        qed 𝓛 (((‵ (flft κ₁ q₁) ⊛ ‵ (flft κ₂ q₂) ⊛ ‵ ftrue) ⊛ ‵ (fsep ((type_at self (κ₁, (κ₂, tt))).own_val r vs) P)) ∷ []) ∵
        split ! $ split ! $ move ! (2 ∷ []) $ fsplit ! $ fsplit ! $ move ! (1 ∷ []) $ unhide ! $ fsplit ! $ fsplit ! $ move ! (1 ∷ []) $ fsplit ! $
        keep ! (0 ∷ 6 ∷ 2 ∷ 7 ∷ []) $ done !
