-- By hand, since the type says itself what a `&` to it holds: no hole is owned, so a borrow of one shows anything. Assumes `Logic`.
use Prim.Native.Nat.{ℕ}
use mathlib.Core.List.{[], ◌∷◌}
use seplogic.Ra.Ura.{Ura}
use base.Fml.{Lft, Fml, ftrue, ffalse, feq, fbor}
use base.Fraction.{full_share}
use base.Logic.{ent, sep, emp, via, never_e}
use types.Logic.{Logic, sem, lfts}
use types.Kit.{‵, raw, ◌⊛◌, later, ◌$◌, ◌∵◌, !, qed, by, keep, move, drop, use2, split, fsplit, fpick, await, updating, done, now as at_once}
use denote.RattleType.{RattleType}
use denote.RawPtr.{Ptr, block_ptr}
use denote.Memory.{part_at, part_of}
use denote.Param.Laws.{Laws}
use denote.Shares.{bor-Cut}
use denote.SharingLaws.{said_shr_laws}
use denote.Struct.Lending.{Lends, Lends-false}
use Rattle.intmap_table.specs.contracts.lent.Hole.{the_written}
use Rattle.intmap_table.proofs.lent.Hole.TheLaw.Statement.{statement}

module _ {M : Type 1} {𝓤 : Ura M} (𝓛 : Logic 𝓤) where
  -- what can't be owned is lent as anything
  Lends-never : (P : Fml) → ent 𝓤 (sem 𝓛 P) (sem 𝓛 ffalse) → (shown : Lft → Fml) (l : Lft) → Lends 𝓛 P shown l
  Lends-never P never shown l κ ts within covers =
      qed 𝓛 (‵ (fbor κ P) ∷ raw (lfts 𝓛 ts) ∷ []) {P = 𝓛.H.⇛ (sep 𝓤 (sem 𝓛 (shown κ)) (lfts 𝓛 ts))} (
      updating ! $ use2 𝓛 (later (‵ (fbor κ ffalse) ⊛ ‵ (fbor κ ftrue) ⊛ raw (lfts 𝓛 ts)))
      (bor-Cut 𝓛 κ ts covers P ffalse ftrue (emp 𝓤) (qed 𝓛 (‵ ffalse ∷ ‵ ftrue ∷ raw (emp 𝓤) ∷ []) ∵ keep ! (0 ∷ []) $ by ! (never_e 𝓤 _)) (via 𝓤 _ never (never_e 𝓤 _))) $
      await ! tt $ split ! $ move ! (1 ∷ []) $ split ! $ drop ! $ move ! (1 ∷ 0 ∷ []) $
      use2 𝓛 (later (‵ (shown κ) ⊛ raw (lfts 𝓛 ts))) (Lends-false 𝓛 shown l κ ts within covers) $ await ! tt $ split ! $ at_once ! $ done !)

module _ (V : RattleType) (h : Ptr × V.Denot) (block offset : ℕ) {M : Type 1} {𝓤 : Ura M} (𝓛 : Logic 𝓤) where
  unowned : ent 𝓤 (sem 𝓛 (part_at (the_written V) full_share h block offset)) (sem 𝓛 ffalse)
  unfolding part_of
  unowned = qed 𝓛 (‵ (part_at (the_written V) full_share h block offset) ∷ []) ∵ fpick ! (λ words. fsplit ! $ move ! (1 ∷ []) $ keep ! (0 ∷ []) $ done !)

pub shares : (V : RattleType) (L : Laws V) → statement V L
shares V L = record {
  shares = λ M 𝓤 𝓛 h κ ts block offset. Lends-never 𝓛 (part_at (the_written V) full_share h block offset) (unowned V h block offset 𝓛) (λ _. feq Ptr h.0 (block_ptr block offset)) _ κ ts;
  shr_laws = λ h block offset. said_shr_laws (feq Ptr h.0 (block_ptr block offset)) tt;
}
