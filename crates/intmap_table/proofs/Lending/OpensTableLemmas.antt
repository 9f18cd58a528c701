-- A table, whose values are lent. Assumes `Logic`.
use mathlib.Core.Path.{◌≡◌, refl, sym}
use mathlib.Core.List.{List, [], ◌∷◌}
use lib.ListN.{length, length-map}
use seplogic.Ra.Ura.{Ura}
use base.Logic.{id⊢}
use base.Fml.{Lft, Incl}
use base.Stored.{Coded}
use types.Logic.{Logic}
use denote.RattleType.{RattleType}
use denote.Memory.{part_of, shared_of}
use denote.Model.Fields.{view-Hides}
use denote.Struct.Members.{Member}
use denote.Param.Laws.{Laws, param_laws, copied_laws}
use Rattle.std.specs.Prelude.{map}
use Rattle.std.specs.declared.alloc.Allocator as allocator
use Rattle.std.specs.declared.cmp.PartialEq as eq
use Rattle.intmap_table.specs.declared.key.IntKey as key
use Rattle.std.specs.Map.{values_of}
use denote.RawPtr.{Ptr}
use Rattle.intmap_table.specs.declared.table.Table as declared
use Rattle.intmap_table.specs.contracts.table.Table as T-type
use Rattle.intmap_table.specs.contracts.table.Table.TheInside as I-type
use Rattle.intmap_table.proofs.kept.Kept.TheLaws as K-laws
use Rattle.intmap_table.specs.Tables.Slots.{Grid}
use Rattle.intmap_table.specs.Values.{lent_pairs, rows_with, with_values}
use Rattle.intmap_table.proofs.Tables.SameKeysLemmas.{IsTable-same_keys}
use Rattle.intmap_table.proofs.Lending.ValuesLemmas.{lent_pairs-joined, row_keys-lent_pairs, row_keys-rows_with, length-rows_with}
use Rattle.intmap_table.proofs.Lending.OpensLemmas.{OpensAs}
use Rattle.intmap_table.proofs.Lending.OpensStructLemmas.{member, IsLaidAs, last_part, struct_opens, view_opens}
use Rattle.intmap_table.proofs.Lending.OpensPairLemmas.{V, K, Kr, Hr}
use Rattle.intmap_table.proofs.Lending.Linked.OpensPoolLemmas.{A}
use Rattle.intmap_table.proofs.Lending.Linked.OpensMemoryLemmas.{Lr}
use Rattle.intmap_table.proofs.Lending.Linked.OpensLinkedLemmas.{linked_opens}
use Rattle.intmap_table.proofs.Lending.Linked.RefilledLemmas.{joined-rows_with}
use Rattle.intmap_table.proofs.table.slots.Slots.TheLaws as L-laws

module _ (K' A' : RattleType) (g : key.Ghosts K'.Denot) (e : eq.Ghosts K'.Denot) (a : allocator.Ghosts A'.Denot) where
  -- a table whose values are of type R: its field, and the table itself
  module _ (R : RattleType) where
    abbrev pub Ir : RattleType
    Ir = I-type.the_row (K K') R (A A') g e a

    abbrev pub Tr : RattleType
    Tr = T-type.the_row (K K') R (A A') g e a

    abbrev pub good : Ir.Denot → Type 0
    good = T-type.the_invariant (K K') R (A A') g e a

    abbrev pub code : Coded (Grid K'.Denot R.Denot)
    code = declared.the_code K'.Denot R.Denot A'.Denot K'.coded R.coded A'.coded

    abbrev pub view : Ir.Denot → Grid K'.Denot R.Denot
    view = T-type.the_view (K K') R (A A') g e a

  module _ (V' : RattleType) (LK : Laws K') (LV : Laws V') (LA : Laws A') {M : Type 1} {𝓤 : Ura M} (𝓛 : Logic 𝓤) where
    abbrev pub Kv : RattleType
    Kv = Kr V'

    abbrev pub Hv : RattleType
    Hv = Hr V'

    pub slots_laws : Laws (Lr K' A' g e a Kv)
    slots_laws = L-laws.the_row_laws (K K') Kv (A A') g e a (copied_laws 0 K' LK) (K-laws.the_row_laws (V V') (param_laws 1 V' LV))
        (copied_laws 2 A' LA)

    abbrev pub fields : List Member
    fields = member (Lr K' A' g e a Kv) ∷ []

    pub table_laid : IsLaidAs (Ir Kv) fields (λ t. (t.slots, tt))
    unfolding part_of
    table_laid t b o = refl

    module _ (l : Lft) (ik : Incl l K'.lives) (iv : Incl l V'.lives) (ia : Incl l A'.lives) where
      abbrev pub LO : OpensAs 𝓛 (V V') (Lr K' A' g e a Kv) (Lr K' A' g e a Hv) l
      LO = linked_opens K' A' g e a V' LK LV LA 𝓛 l ik iv ia

      abbrev pub inside_opens : OpensAs 𝓛 (V V') (Ir Kv) (Ir Hv) l
      inside_opens =
          struct_opens 𝓛 fields (Ir Kv) (λ t. (t.slots, tt)) table_laid (V V') l (last_part 𝓛 (V V') l (Lr K' A' g e a Kv) 0 LO)
          (slots_laws.single, tt) (λ y. record { slots = y.0 }) (shared_of (Ir Hv)) (λ h. h.slots) (λ s. record { slots = s }) (λ t. refl)
          (λ y. refl) (λ s. refl) (λ y b o κ. id⊢ 𝓤 _)

      abbrev pub grid_with : Grid K'.Denot V'.Denot → List V'.Denot → Grid K'.Denot V'.Denot
      grid_with t ws = record { walk = with_values t.walk ws; capacity = t.capacity; nodes = t.nodes }

      abbrev pub grid_fill : Grid K'.Denot (Ptr × V'.Denot) → Grid K'.Denot V'.Denot
      grid_fill t = record { walk = lent_pairs t.walk; capacity = t.capacity; nodes = t.nodes }

      pub table-puts : (t : (Ir Kv).Denot) (ws : List V'.Denot) → view Kv (inside_opens.put t ws) ≡ grid_with (view Kv t) ws
      table-puts t ws = λ i. record { walk = joined-rows_with t.slots.rows ws i; capacity = length-rows_with t.slots.rows ws i; nodes = t.slots.total }

      pub table-goods : (t : (Ir Kv).Denot) (ws : List V'.Denot) → good Kv t → good Kv (inside_opens.put t ws)
      table-goods t ws ok = IsTable-same_keys t.slots.rows (rows_with t.slots.rows ws) (sym (row_keys-rows_with t.slots.rows ws)) g.number_of ok

      pub table-fills : (h : (Ir Hv).Denot) → grid_fill (view Hv h) ≡ view Kv (inside_opens.fill h)
      table-fills h = λ i. record { walk = lent_pairs-joined h.slots.rows i; capacity = sym (length-map h.slots.rows lent_pairs) i; nodes = h.slots.total }

      -- a table is lent as a table of holes
      abbrev pub table_opens : OpensAs 𝓛 (V V') (Tr Kv) (Tr Hv) l
      table_opens =
          view_opens 𝓛 (V V') (Ir Kv) l inside_opens (Grid K'.Denot V'.Denot) (code Kv) (view Kv) (good Kv) (shared_of (Tr Hv)) (view Hv)
          grid_with (λ t. length t.walk) grid_fill (λ t. values_of t.walk)
          table-puts table-goods (λ t. refl) table-fills (λ h. refl)
          (λ h ok. view-Hides (Ir Hv) (Grid K'.Denot Hv.Denot) (code Hv) (view Hv) (good Hv) M 𝓤 𝓛 (view Hv h) h
          (refl, IsTable-same_keys (map lent_pairs h.slots.rows) h.slots.rows (row_keys-lent_pairs h.slots.rows) g.number_of ok))
