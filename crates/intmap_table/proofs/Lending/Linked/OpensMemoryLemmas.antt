-- Slots with the pool of their nodes, whose values are lent in the order of memory. Assumes `Logic`.
use mathlib.Core.Path.{refl, sym, subst}
use mathlib.Core.List.{List, [], ◌∷◌}
use seplogic.Ra.Ura.{Ura}
use base.Logic.{id⊢}
use base.Fml.{Lft, Incl}
use base.Stored.{Coded}
use types.Logic.{Logic}
use denote.Builtin.{usize}
use denote.RattleType.{RattleType}
use denote.Memory.{part_of, shared_of}
use denote.Param.Laws.{Laws, copied_laws}
use denote.Shares.{Shares, Shares-less}
use denote.Struct.Members.{Lone, Member}
use Rattle.std.specs.contracts.vec.Vec as V-type
use Rattle.std.proofs.vec.Vec.TheLaws as V-laws
use Rattle.std.specs.declared.alloc.Allocator as allocator
use Rattle.std.specs.declared.cmp.PartialEq as eq
use Rattle.intmap_table.specs.declared.key.IntKey as key
use Rattle.intmap_table.specs.declared.table.slots.Slots as declared
use Rattle.intmap_table.specs.contracts.table.slots.Slots as L-type
use Rattle.intmap_table.specs.contracts.table.slots.Slots.TheInside as I-type
use Rattle.intmap_table.specs.contracts.bits.Bits as B-type
use Rattle.intmap_table.specs.Tables.Rows.{Contents}
use Rattle.intmap_table.proofs.bits.Bits.TheLaws as B-laws
use Rattle.intmap_table.proofs.linked.node.Node.TheLaws as N-laws
use Rattle.intmap_table.proofs.linked.pool.Pool.TheLaws as P-laws
use Rattle.intmap_table.proofs.Lending.OpensLemmas.{OpensAs}
use Rattle.intmap_table.proofs.Lending.OpensVecLemmas.{vec_opens}
use Rattle.intmap_table.proofs.Lending.OpensStructLemmas.{member, IsLaidAs, still_opens, first_part, last_part, struct_opens}
use Rattle.intmap_table.proofs.Lending.OpensPairLemmas.{V, K, Kr, Hr, Pr, pair_laws}
use Rattle.intmap_table.proofs.Lending.Linked.OpensNodeLemmas.{Nr, node_opens}
use Rattle.intmap_table.proofs.Lending.Linked.OpensPoolLemmas.{A, Lr as Pool, words_live, number_opens, pool_opens}

module _ (K' A' : RattleType) (g : key.Ghosts K'.Denot) (e : eq.Ghosts K'.Denot) (a : allocator.Ghosts A'.Denot) where
  abbrev pub Br : RattleType
  Br = B-type.the_row (A A') a

  -- slots of pairs whose values are of type R: the vector of them, all fields, and the slots of a table
  module _ (R : RattleType) where
    abbrev pub Svr : RattleType
    Svr = V-type.the_row (Nr K' g e R) (A A') a

    abbrev pub Ir : RattleType
    Ir = I-type.the_row (K K') R (A A') g e a

    abbrev pub Lr : RattleType
    Lr = L-type.the_row (K K') R (A A') g e a

    abbrev pub good : Ir.Denot → Type 0
    good = L-type.the_invariant (K K') R (A A') g e a

    abbrev pub code : Coded (Contents K'.Denot R.Denot)
    code = declared.the_code K'.Denot R.Denot A'.Denot K'.coded R.coded A'.coded

    abbrev pub view : Ir.Denot → Contents K'.Denot R.Denot
    view = L-type.the_view (K K') R (A A') g e a

  module _ (V' : RattleType) (LK : Laws K') (LV : Laws V') (LA : Laws A') {M : Type 1} {𝓤 : Ura M} (𝓛 : Logic 𝓤) where
    abbrev pub Kv : RattleType
    Kv = Kr V'

    abbrev pub Hv : RattleType
    Hv = Hr V'

    abbrev pub forms : List Member
    forms = member (Svr Kv) ∷ member (Pool K' A' g e a Kv) ∷ []

    abbrev pub fields : List Member
    fields = member usize ∷ member Br ∷ forms

    pub slots_laid : IsLaidAs (Ir Kv) fields (λ s. (s.mask, (s.bits, (s.slots, (s.pool, tt)))))
    unfolding part_of
    slots_laid s b o = refl

    pub bits_laws : Laws Br
    bits_laws = B-laws.the_row_laws (A A') a (copied_laws 2 A' LA)

    module _ (l : Lft) (ik : Incl l K'.lives) (iv : Incl l V'.lives) (ia : Incl l A'.lives) where
      abbrev pub SO : OpensAs 𝓛 (V V') (Nr K' g e Kv) (Nr K' g e Hv) l
      SO = node_opens K' g e V' LK LV 𝓛 l ik iv

      abbrev pub slots_open : OpensAs 𝓛 (V V') (Svr Kv) (Svr Hv) l
      slots_open = vec_opens 𝓛 (V V') (Nr K' g e Kv) (Nr K' g e Hv) l SO refl tt (A A') a (copied_laws 2 A' LA)
          (words_live K' A' g e a V' LK LV LA 𝓛 l ik iv ia)

      abbrev pub PO : OpensAs 𝓛 (V V') (Pool K' A' g e a Kv) (Pool K' A' g e a Hv) l
      PO = pool_opens K' A' g e a V' LK LV LA 𝓛 l ik iv ia

      -- the bits are shared as they are
      pub bits_share : Shares 𝓛 Br l
      bits_share = Shares-less 𝓛 Br Br.lives l (B-laws.the_within (A A') a l ia) (bits_laws.shares 𝓛)

      abbrev pub inside_opens : OpensAs 𝓛 (V V') (Ir Kv) (Ir Hv) l
      inside_opens =
          let pairs = pair_laws K' g e V' LK LV in
          let alloc = copied_laws 2 A' LA in
          struct_opens 𝓛 fields (Ir Kv) (λ s. (s.mask, (s.bits, (s.slots, (s.pool, tt))))) slots_laid (V V') l
          (first_part 𝓛 (V V') l usize (member Br ∷ forms) 0 (number_opens K' A' g e a V' LK LV LA 𝓛 l ik iv ia)
          (first_part 𝓛 (V V') l Br forms _ (still_opens 𝓛 (V V') Br l bits_share)
          (first_part 𝓛 (V V') l (Svr Kv) (member (Pool K' A' g e a Kv) ∷ []) _ slots_open (last_part 𝓛 (V V') l (Pool K' A' g e a Kv) _ PO)))) (
            (λ n ws p. subst Lone (sym p.0) tt),
            (
              bits_laws.single,
              (
                (V-laws.the_row_laws (Nr K' g e Kv) (A A') a (N-laws.the_row_laws (Pr K' g e Kv) pairs) alloc).single,
                ((P-laws.the_row_laws (Pr K' g e Kv) (A A') a pairs alloc).single, tt),
              ),
            ),
          ) (λ y. record { mask = y.0; bits = y.1.0; slots = y.1.1.0; pool = y.1.1.1.0 })
          (shared_of (Ir Hv)) (λ h. (h.mask, (h.bits, (h.slots, h.pool)))) (λ y. record { mask = y.0; bits = y.1.0; slots = y.1.1.0; pool = y.1.1.1 })
          (λ s. refl) (λ y. refl) (λ y. refl) (λ y b o κ. id⊢ 𝓤 _)
