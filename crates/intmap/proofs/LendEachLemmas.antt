-- A map is lent as its table at holes and the right to write the values of several keys, in the order of the keys. Assumes `Logic`.
use mathlib.Core.Path.{◌≡◌, sym, ap, subst, ◌∙◌}
use Prim.Native.Nat.{ℕ}
use mathlib.Core.List.{List, [], ◌∷◌}
use lib.ListN.{length}
use seplogic.Ra.Ura.{Ura}
use base.Fml.{Lft, Incl}
use base.Fraction.{full_share}
use base.Logic.{ent, id⊢}
use types.Logic.{Logic, sem}
use types.Kit.{‵, some, pick, show, mean, ◌$◌, ◌∵◌, !, qed, use1, done}
use denote.Memory.{part_at, shared_of}
use denote.Model.Fields.{view_owns, view_made, plain_out, Plain-in}
use denote.Param.Laws.{Laws}
use denote.RattleType.{RattleType}
use Rattle.std.specs.Prelude.{map}
use Rattle.std.specs.Map.{keys_of, values_of}
use Rattle.std.specs.declared.alloc.Allocator as allocator
use Rattle.std.specs.declared.cmp.PartialEq as eq
use Rattle.intmap.specs.Disjoint.{AreDistinct, present_values, written_each}
use Rattle.intmap.specs.Map.{MapState, IsMap, map_with_values}
use Rattle.intmap_table.specs.Apart.{contents_of}
use Rattle.intmap_table.specs.Tables.Slots.{joined}
use Rattle.intmap_table.specs.Values.{lent_pairs}
use Rattle.intmap_table.specs.declared.key.IntKey as key
use Rattle.intmap_table.proofs.Lending.ChosenLemmas.{drained, refilled}
use Rattle.intmap_table.proofs.Lending.ChosenOpensLemmas.{chosen, whole_if}
use Rattle.intmap_table.proofs.Lending.OpensLemmas.{Opening, seen_as}
use Rattle.intmap_table.proofs.Lending.OpensPairLemmas.{V}
use Rattle.intmap_table.proofs.Lending.ValuesLemmas.{keys_of-lent_pairs}
use Rattle.intmap.proofs.DisjointLemmas.{singles, joined-singles, contents-singles, contents-lent_pairs, places, length-places, drained-places, filled-written, present_values-written}
use Rattle.intmap.proofs.LendMapLemmas.{Mr, Inside, Holed, State, view, good, table_place, map_opens}

module _ (K' V' A' : RattleType) (g : key.Ghosts K'.Denot) (e : eq.Ghosts K'.Denot) (a : allocator.Ghosts A'.Denot)
    (LK : Laws K') (LV : Laws V') (LA : Laws A') {M : Type 1} {𝓤 : Ura M} (𝓛 : Logic 𝓤) (b o : ℕ) (d : MapState K'.Denot V'.Denot) where
  abbrev pub Map : RattleType
  Map = Mr K' V' A' g e a

  abbrev pub Fields : RattleType
  Fields = Inside K' V' A' g e a

  abbrev pub Holes : RattleType
  Holes = Holed K' V' A' g e a

  abbrev pub Is : Type 0
  Is = IsMap g.number_of g.is_valid d

  -- what is known of the table of holes
  abbrev pub Known : Holes.Denot → Type 0
  Known h = (lent_pairs h.walk ≡ d.walk) × Is × (h.capacity ≡ d.capacity)

  -- what a map owns says what holds of every map
  pub map_known : ent 𝓤 (sem 𝓛 (part_at Map full_share d b o)) (mean 𝓛 (some (λ (is : Is). ‵ (part_at Map full_share d b o))))
  map_known =
      let D = State K' V' A' g e a in
      let seen = view K' V' A' g e a in
      let ok = good K' V' A' g e a in
      let owns = view_owns Fields D Map.coded seen ok in
      qed 𝓛 (‵ (part_at Map full_share d b o) ∷ []) ∵
      use1 𝓛 (some (λ (x : (m : Fields.Denot) × ((seen m ≡ d) × ok m)). ‵ (part_at Fields full_share x.0 b o))) (plain_out Map Fields owns 𝓛 full_share d b o) $
      pick ! (λ x. use1 𝓛 (‵ (part_at Map full_share d b o))
      (Plain-in Map Fields owns 𝓛 full_share d x.0 (view_made Fields D Map.coded seen ok 𝓛 d x.0 (x.1.0, x.1.1)) b o) $
      show ! (λ (is : Is). mean 𝓛 (‵ (part_at Map full_share d b o))) (subst (λ (s : D). IsMap g.number_of g.is_valid s) x.1.0 x.1.1.map) $ done !)

  module _ (κ : Lft) (ik : Incl κ K'.lives) (iv : Incl κ V'.lives) (ia : Incl κ A'.lives) (ks : List K'.Denot)
      (distinct : AreDistinct g.number_of ks) (is : Is) where
    -- the places of the keys in the walk
    abbrev pub order : List ℕ
    order = places g.number_of (keys_of d.walk) ks

    -- each value of the walk in a row of its own
    abbrev pub rows : List (List V'.Denot)
    rows = singles (values_of d.walk)

    pub counted : length (drained order rows) ≡ length order
    counted = ap length (drained-places g.number_of d.walk ks distinct) ∙ sym (length-places g.number_of d.walk ks)

    pub contents : (h : Holes.Denot) → Known h → map contents_of (singles (values_of h.walk)) ≡ rows
    contents h k = contents-singles (values_of h.walk) ∙ ap singles (contents-lent_pairs g.number_of h.walk ∙ ap values_of k.0)

    pub celled : (h : Holes.Denot) → Known h → drained order (singles (values_of h.walk)) ≡ present_values g.number_of h.walk ks
    celled h k =
        let same : keys_of d.walk ≡ keys_of h.walk = ap keys_of (sym k.0) ∙ keys_of-lent_pairs h.walk in
        ap (λ l. drained (places g.number_of l ks) (singles (values_of h.walk))) same ∙ drained-places g.number_of h.walk ks distinct

    -- with other values at these places, the map is what it is once they are written
    pub again : (ws : List V'.Denot) → length ws ≡ length (drained order rows)
        → ent 𝓤 (sem 𝓛 (part_at Map full_share (map_with_values d (joined (refilled order rows ws))) b o)) (sem 𝓛 (part_at Map full_share (written_each g.number_of d ks ws) b o))
    again ws long =
        let whole = map_with_values d (joined (refilled order rows ws)) in
        let same : whole ≡ written_each g.number_of d ks ws = λ i. record d { walk = filled-written g.number_of d.walk ks ws is.distinct distinct (long ∙ counted) i } in
        subst (λ (m : MapState K'.Denot V'.Denot). ent 𝓤 (sem 𝓛 (part_at Map full_share whole b o)) (sem 𝓛 (part_at Map full_share m b o))) same (id⊢ 𝓤 _)

    -- the values of the keys are these then
    pub kept : (ws : List V'.Denot) → length ws ≡ length order → present_values g.number_of (written_each g.number_of d ks ws).walk ks ≡ ws
    kept ws long = present_values-written g.number_of d.walk ks ws is.distinct distinct long

    -- the values of these keys alone are lent
    abbrev pub each_opens : Opening 𝓛 (V V') κ (part_at Map full_share d b o) (λ ws. part_at Map full_share (written_each g.number_of d ks ws) b o) (length order)
        {Y = Holes.Denot} (λ h. present_values g.number_of h.walk ks) (λ h. shared_of Holes h b (table_place K' V' A' g e a o))
        Known
    each_opens =
        seen_as (whole_if (chosen (map_opens K' V' A' g e a LK LV LA 𝓛 b o d κ ik iv ia) order (λ h. singles (values_of h.walk))
        (λ h. joined-singles (values_of h.walk)) rows contents)
        (λ ws. part_at Map full_share (written_each g.number_of d ks ws) b o) again)
        (λ h k. h) (id⊢ 𝓤 _) (λ ws. id⊢ 𝓤 _) counted celled (λ h k. k) (λ h k κ. id⊢ 𝓤 _)
