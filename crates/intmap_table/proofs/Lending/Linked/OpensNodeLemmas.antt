-- A node, whose value is lent. Assumes `Logic`.
use mathlib.Core.Path.{◌≡◌, refl}
use mathlib.Core.List.{List, [], ◌∷◌}
use seplogic.Ra.Ura.{Ura}
use base.Logic.{id⊢}
use base.Fml.{Lft, Incl}
use base.Stored.{Coded}
use types.Logic.{Logic}
use denote.RattleType.{RattleType}
use denote.Memory.{part_of, shared_of}
use denote.Model.Fields.{view-Hides}
use denote.Struct.Members.{Member}
use denote.Param.Laws.{Laws}
use denote.RawPtr.{Ptr}
use Rattle.std.specs.Map.{values_of}
use Rattle.std.specs.declared.cmp.PartialEq as eq
use Rattle.intmap_table.specs.declared.key.IntKey as key
use Rattle.intmap_table.specs.declared.linked.node.Node as node_declared
use Rattle.intmap_table.specs.declared.linked.node.NodeForm.{NodeForm}
use Rattle.intmap_table.specs.declared.linked.node.NodeForm.TheVariants as node_forms
use Rattle.intmap_table.specs.contracts.linked.node.NodeForm as NF-type
use Rattle.intmap_table.specs.contracts.linked.node.Node as N-type
use Rattle.intmap_table.specs.contracts.linked.node.Node.TheInside as NI-type
use Rattle.intmap_table.specs.Tables.Nodes.{Node}
use Rattle.intmap_table.proofs.linked.node.NodeForm.TheLaws as NF-laws
use Rattle.intmap_table.proofs.Lending.OpensLemmas.{OpensAs}
use Rattle.intmap_table.proofs.Lending.OpensStructLemmas.{member, IsLaidAs, last_part, struct_opens, view_opens}
use Rattle.intmap_table.proofs.Lending.OpensPairLemmas.{V, Kr, Hr, Pr, pair_within, pair_laws, pair_opens}
use Rattle.intmap_table.proofs.Lending.Linked.PlacesLemmas.{in_node}
use Rattle.intmap_table.proofs.Lending.Linked.MappedLemmas.{map_node}
use Rattle.intmap_table.proofs.Lending.Linked.WrittenLemmas.{node_count, node_put}
use Rattle.intmap_table.proofs.Lending.Linked.OpensFormsLemmas.{node_opens as node_form_opens}

-- a pair as it was before its value was lent
abbrev pub was : {K V : Type 0} → K × (Ptr × V) → K × V
was p = (p.0, p.1.1)

module _ (K' : RattleType) (g : key.Ghosts K'.Denot) (e : eq.Ghosts K'.Denot) where
  -- nodes of pairs whose values are of type R, and what each is inside
  module _ (R : RattleType) where
    abbrev pub Nfr : RattleType
    Nfr = NF-type.the_row (Pr K' g e R)

    abbrev pub Nir : RattleType
    Nir = NI-type.the_row (Pr K' g e R)

    abbrev pub Nr : RattleType
    Nr = N-type.the_row (Pr K' g e R)

    abbrev pub node_code : Coded (Node (K'.Denot × R.Denot))
    node_code = node_declared.the_code (Pr K' g e R).Denot (Pr K' g e R).coded

    abbrev pub node_view : Nir.Denot → Node (K'.Denot × R.Denot)
    node_view = N-type.the_view (Pr K' g e R)

    abbrev pub node_good : Nir.Denot → Type 0
    node_good = N-type.the_invariant (Pr K' g e R)

  module _ (V' : RattleType) (LK : Laws K') (LV : Laws V') {M : Type 1} {𝓤 : Ura M} (𝓛 : Logic 𝓤) where
    abbrev pub Kv : RattleType
    Kv = Kr V'

    abbrev pub Hv : RattleType
    Hv = Hr V'

    abbrev pub P : Type 0
    P = K'.Denot × V'.Denot

    -- a pair with a hole
    abbrev pub H : Type 0
    H = K'.Denot × (Ptr × V'.Denot)

    pub PL : Laws (Pr K' g e Kv)
    PL = pair_laws K' g e V' LK LV

    module _ (l : Lft) (ik : Incl l K'.lives) (iv : Incl l V'.lives) where
      abbrev pub PO : OpensAs 𝓛 (V V') (Pr K' g e Kv) (Pr K' g e Hv) l
      PO = pair_opens K' g e V' LK LV 𝓛 l ik

      abbrev pub NF : OpensAs 𝓛 (V V') (Nfr Kv) (Nfr Hv) l
      NF = node_form_opens 𝓛 (V V') l (Pr K' g e Kv) (Pr K' g e Hv) PO PL (pair_within K' g e V' l ik iv) (λ h n b o κ. id⊢ 𝓤 _) (λ h n y b o κ. id⊢ 𝓤 _)

      abbrev pub node_fields : List Member
      node_fields = member (Nfr Kv) ∷ []

      pub node_laid : IsLaidAs (Nir Kv) node_fields (λ n. (n.form, tt))
      unfolding part_of
      node_laid n b o = refl

      abbrev pub node_inside_opens : OpensAs 𝓛 (V V') (Nir Kv) (Nir Hv) l
      node_inside_opens =
          struct_opens 𝓛 node_fields (Nir Kv) (λ n. (n.form, tt)) node_laid (V V') l (last_part 𝓛 (V V') l (Nfr Kv) 0 NF)
          ((NF-laws.the_row_laws (Pr K' g e Kv) PL).single, tt) (λ y. record { form = y.0 })
          (shared_of (Nir Hv)) (λ h. h.form) (λ y. record { form = y }) (λ n. refl) (λ y. refl) (λ y. refl) (λ y b o κ. id⊢ 𝓤 _)

      pub node_puts : (f : NodeForm P) (ws : List V'.Denot) → node_view Kv (record { form = NF.put f ws }) ≡ node_put (node_view Kv (record { form = f })) ws
      node_puts (node_forms.Free h n) ws = refl
      node_puts (node_forms.Held h n p) [] = refl
      node_puts (node_forms.Held h n p) (w ∷ ws) = refl

      pub node_counts : (f : NodeForm P) → NF.count f ≡ node_count (node_view Kv (record { form = f }))
      node_counts (node_forms.Free h n) = refl
      node_counts (node_forms.Held h n p) = refl

      pub node_fills : (f : NodeForm H) → map_node was (node_view Hv (record { form = f })) ≡ node_view Kv (record { form = NF.fill f })
      node_fills (node_forms.Free h n) = refl
      node_fills (node_forms.Held h n p) = refl

      pub node_cells : (f : NodeForm H) → NF.cells_in f ≡ values_of (in_node (node_view Hv (record { form = f })))
      node_cells (node_forms.Free h n) = refl
      node_cells (node_forms.Held h n p) = refl

      -- a node is lent as a node of a hole
      abbrev pub node_opens : OpensAs 𝓛 (V V') (Nr Kv) (Nr Hv) l
      node_opens =
          view_opens 𝓛 (V V') (Nir Kv) l node_inside_opens (Node P) (node_code Kv) (node_view Kv) (node_good Kv) (shared_of (Nr Hv)) (node_view Hv)
          node_put node_count (map_node was) (λ h. values_of (in_node h)) (λ n ws. node_puts n.form ws) (λ n ws ok. tt)
          (λ n. node_counts n.form) (λ h. node_fills h.form) (λ h. node_cells h.form)
          (λ h ok. view-Hides (Nir Hv) (Node H) (node_code Hv) (node_view Hv) (node_good Hv) M 𝓤 𝓛 (node_view Hv h) h (refl, tt))
