-- A map is lent as its table at holes and the right to write its values. Assumes `Logic`.
use mathlib.Core.Path.{◌≡◌, sym, ap, subst, refl, ◌∙◌}
use Prim.Native.Nat.{ℕ, ◌+◌}
use mathlib.Core.List.{List, [], ◌∷◌}
use lib.ListN.{length}
use seplogic.Ra.Ura.{Ura}
use base.Fml.{Lft, Fml, Incl, ftrue}
use base.Fraction.{full_share}
use base.Logic.{ent, sep, emp, via, fst∗}
use prog.Memory.{align, size, up}
use types.Logic.{Logic, sem}
use denote.Builtin.{usize}
use denote.Memory.{part_at, part_of, shared_of, lone}
use denote.Model.Fields.{view_owns, view_made, plain_out, Plain-in}
use denote.Param.Laws.{Laws, param_laws, copied_laws}
use denote.RattleType.{RattleType}
use denote.Struct.Lending.{Lends-nothing}
use denote.Struct.Declared.{Declared}
use denote.Struct.Members.{Member, rows_of, parts_at, Lones, lawful_Lones}
use Rattle.std.specs.Map.{values_of}
use Rattle.std.specs.declared.alloc.Allocator as allocator
use Rattle.std.specs.declared.cmp.PartialEq as eq
use Rattle.intmap.specs.Map.{MapState, IsMap, map_with_values}
use Rattle.intmap_table.specs.Values.{lent_pairs, with_values}
use Rattle.intmap_table.specs.declared.key.IntKey as key
use Rattle.intmap.specs.contracts.map.IntMap as M-type
use Rattle.intmap.specs.contracts.map.IntMap.TheInside as I-type
use Rattle.intmap_table.specs.contracts.steps.Steps as N-type
use Rattle.intmap.proofs.map.IntMap.TheInside.TheLaws as I-laws
use Rattle.intmap_table.proofs.Lending.OpensLemmas.{OpensAs, Opening, any, seen_as, framed}
use Rattle.intmap_table.proofs.Lending.OpensStructLemmas.{member, IsLaidAs, left, Fields, apart, whole}
use Rattle.intmap_table.proofs.Lending.OpensPairLemmas.{V, K, Kr, Hr}
use Rattle.intmap_table.proofs.Lending.Linked.OpensPoolLemmas.{A}
use Rattle.intmap_table.proofs.Lending.OpensTableLemmas.{Tr, table_opens}
use Rattle.intmap.proofs.SameKeysLemmas.{IsConsistent-same_keys}
use Rattle.intmap_table.proofs.Lending.ValuesLemmas.{keys_of-with_values}

module _ (K' V' A' : RattleType) (g : key.Ghosts K'.Denot) (e : eq.Ghosts K'.Denot) (a : allocator.Ghosts A'.Denot) where
  abbrev pub Mr : RattleType
  Mr = M-type.the_row (K K') (V V') (A A') g e a

  abbrev pub Inside : RattleType
  Inside = I-type.the_row (K K') (V V') (A A') g e a

  abbrev pub T : Declared
  T = I-type.the_type (K K') (V V') (A A') g e a

  abbrev pub Table : RattleType
  Table = Tr K' A' g e a (Kr V')

  abbrev pub Holed : RattleType
  Holed = Tr K' A' g e a (Hr V')

  abbrev pub State : Type 0
  State = MapState K'.Denot V'.Denot

  -- the length, the threshold, the load factor, both counts and what is reserved
  abbrev pub other_members : List Member
  other_members = member usize ∷ member usize ∷ member usize ∷ member N-type.the_row ∷ member N-type.the_row ∷ member N-type.the_row ∷ []

  abbrev pub members : List Member
  members = member Table ∷ other_members

  -- where the table lies in a map
  abbrev pub table_place : ℕ → ℕ
  table_place offset = offset + up (align (lone Table.mir)) 0

  abbrev pub view : Inside.Denot → State
  view = M-type.the_view (K K') (V V') (A A') g e a

  abbrev pub good : Inside.Denot → Type 0
  good = M-type.the_invariant (K K') (V V') (A A') g e a

  module _ (LK : Laws K') (LV : Laws V') (LA : Laws A') {M : Type 1} {𝓤 : Ura M} (𝓛 : Logic 𝓤) (b o : ℕ) where
    -- all of a map but its table, and the bytes round its fields
    abbrev pub others : Inside.Denot → Fml
    others m = parts_at full_share other_members (up (align (lone Table.mir)) 0 + size (lone Table.mir)) (T.to m).1 b o

    pub map_laid : IsLaidAs Inside members T.to
    unfolding part_of
    map_laid m b o = refl

    pub lone_members : Lones (rows_of members)
    lone_members = let x = I-laws.the_loose (K K') (V V') (A A') g e a (copied_laws 0 K' LK) (param_laws 1 V' LV) (copied_laws 2 A' LA) in
        lawful_Lones 𝓛 members (
          x.0.lawful 𝓛,
          (
            x.1.0.lawful 𝓛,
            (
              x.1.1.0.lawful 𝓛,
              (x.1.1.1.0.lawful 𝓛, (x.1.1.1.1.0.lawful 𝓛, (x.1.1.1.1.1.0.lawful 𝓛, (x.1.1.1.1.1.1.0.lawful 𝓛, tt)))),
            ),
          ),
        )

    module _ (d : State) (κ : Lft) (ik : Incl κ K'.lives) (iv : Incl κ V'.lives) (ia : Incl κ A'.lives) where
      abbrev pub O : OpensAs 𝓛 (V V') Table Holed κ
      O = table_opens K' A' g e a V' LK LV LA 𝓛 κ ik iv ia

      -- with other values in its table, the map is what it was but for these
      pub back : (m : Inside.Denot) → view m ≡ d → good m → (ws : List V'.Denot)
          → ent 𝓤 (sem 𝓛 (Fields 𝓛 members Inside T.to map_laid (T.to (record m { table = O.put m.table ws })) b o))
          (sem 𝓛 (part_at Mr full_share (map_with_values d ws) b o))
      back m seen ok ws =
          let n : Inside.Denot = record m { table = O.put m.table ws } in
          let W = m.table.walk in
          let is : good n = IsConsistent-same_keys g.number_of g.is_valid W (with_values W ws) m.table.capacity m.factor m.len m.threshold m.reserved m.table.nodes
          (sym (keys_of-with_values W ws)) ok in
          via 𝓤 _ (whole 𝓛 members Inside T.to map_laid n (T.to n) refl b o)
          (Plain-in Mr Inside (view_owns Inside State Mr.coded view good) 𝓛 full_share (map_with_values d ws) n
          (view_made Inside State Mr.coded view good 𝓛 (map_with_values d ws) n (ap (λ (s : State). map_with_values s ws) seen, is)) b o)

      -- a map is lent as its table of holes, which shows the pairs of the map and has its capacity
      abbrev pub map_opens : Opening 𝓛 (V V') κ (part_at Mr full_share d b o) (λ ws. part_at Mr full_share (map_with_values d ws) b o) (length d.walk)
          {Y = Holed.Denot} (λ h. values_of h.walk) (λ h. shared_of Holed h b (table_place o))
          (λ h. (lent_pairs h.walk ≡ d.walk) × IsMap g.number_of g.is_valid d × (h.capacity ≡ d.capacity))
      map_opens = let around = left members full_share b o in
          any (λ (x : (m : Inside.Denot) × ((view m ≡ d) × good m)). part_at Inside full_share x.0 b o) (λ x.
          seen_as (framed (framed (O.opens x.0.table b (table_place o)) (others x.0) (λ κ. ftrue) (Lends-nothing 𝓛 (others x.0) κ)) around
          (λ κ. ftrue) (Lends-nothing 𝓛 around κ))
          (λ h k. h) (apart 𝓛 members Inside T.to map_laid lone_members x.0 b o) (back x.0 x.1.0 x.1.1)
          (ap (λ (s : State). length s.walk) x.1.0) (λ h k. refl)
          (λ h k. (
            ap (λ (t : Table.Denot). t.walk) k ∙ ap (λ (s : State). s.walk) x.1.0,
            subst (λ (s : State). IsMap g.number_of g.is_valid s) x.1.0 x.1.1.map,
            ap (λ (t : Table.Denot). t.capacity) k ∙ ap (λ (s : State). s.capacity) x.1.0,
          ))
          (λ h k κ. let S = sem 𝓛 (shared_of Holed h b (table_place o) κ) in
          via 𝓤 (sep 𝓤 S (emp 𝓤)) (fst∗ 𝓤 (sep 𝓤 S (emp 𝓤)) (emp 𝓤)) (fst∗ 𝓤 S (emp 𝓤))))
          (plain_out Mr Inside (view_owns Inside State Mr.coded view good) 𝓛 full_share d b o)
