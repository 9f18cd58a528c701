-- What is in a node, if its pair can be lent. Assumes `Logic`.
use mathlib.Core.Path.{◌≡◌, refl, ap, sym, subst, ◌∙◌}
use Prim.Native.Nat.{ℕ, zero, ◌+◌}
use native.Mathlib.Nat.{zero-add}
use mathlib.Core.List.{List, [], ◌∷◌}
use seplogic.Ra.Ura.{Ura}
use base.Fraction.{full_share}
use mir.Syntax.{Tys, Tyss, ty_enum, ty_int, tcons, w8}
use mir.Raw.{rawss}
use base.Logic.{ent, id⊢}
use base.Fml.{Lft, Fml, Incl, ftrue, fsep, fleft}
use prog.Memory.{size, align, up}
use types.Logic.{Logic, sem}
use contract.BorrowLft.{⊑_static}
use denote.RattleType.{RattleType}
use denote.Builtin.{u8, u16, u32}
use denote.Sharing.{one, beside}
use denote.Memory.{part_at, part_of, shared_of, lone}
use denote.Copied.{tag_m, Live-out, live_in}
use denote.Enum.Enum.{layouts}
use denote.Enum.Declared as enum
use denote.Param.Laws.{Laws}
use denote.Param.Shared.{copy_shared}
use denote.Shares.{Shares, Shares-less}
use denote.Struct.Field.{u8-field, u16-field, u32-field}
use denote.Struct.Laws.{u8-copy, u16-copy, u32-copy}
use denote.Struct.Lending.{Lends-nothing}
use denote.Struct.Members.{Lone, Member, row_of, raw_tys, parts_at}
use Rattle.intmap_table.specs.declared.linked.node.NodeForm.{NodeForm}
use Rattle.intmap_table.specs.declared.linked.node.NodeForm.TheVariants.{Free, Held}
use Rattle.intmap_table.specs.contracts.linked.node.NodeForm as N-type
use Rattle.intmap_table.proofs.linked.node.NodeForm.TheLaws as N-laws
use Rattle.intmap_table.proofs.Lending.OpensLemmas.{Cells, OpensAs, Opening, still, seen_as, framed, both}
use Rattle.intmap_table.proofs.Lending.OpensStructLemmas.{member, Lends-left}

module _ {M : Type 1} {𝓤 : Ura M} (𝓛 : Logic 𝓤) (V : RattleType) (l : Lft) (R₀ R' : RattleType) (O : OpensAs 𝓛 V (row_of (member R₀)) R' l) where
  abbrev pub R : RattleType
  R = row_of (member R₀)

  -- both parts of a link, and a pair
  abbrev pub ms : List Member
  ms = member u16 ∷ member u32 ∷ member R₀ ∷ []

  abbrev pub tys : Tys
  tys = tcons (ty_int w8) (raw_tys ms)

  -- where the tag lies, both parts of the link, and the pair
  abbrev pub e₁ : ℕ
  e₁ = up (align (ty_int w8)) zero

  abbrev pub e₂ : ℕ
  e₂ = up (align (lone u16.mir)) (e₁ + size (ty_int w8))

  abbrev pub e₃ : ℕ
  e₃ = up (align (lone u32.mir)) (e₂ + size (lone u16.mir))

  abbrev pub e₄ : ℕ
  e₄ = up (align (lone R₀.mir)) (e₃ + size (lone u32.mir))

  pub tag_shares : Shares 𝓛 u8 l
  tag_shares = Shares-less 𝓛 u8 [] l (⊑_static l) ((copy_shared u8-field u8-copy).shares M 𝓤 𝓛)

  pub high_shares : Shares 𝓛 u16 l
  high_shares = Shares-less 𝓛 u16 [] l (⊑_static l) ((copy_shared u16-field u16-copy).shares M 𝓤 𝓛)

  pub low_shares : Shares 𝓛 u32 l
  low_shares = Shares-less 𝓛 u32 [] l (⊑_static l) ((copy_shared u32-field u32-copy).shares M 𝓤 𝓛)

  -- an enum of these layouts, of which variant 1 has a link and a pair
  module _ (ρss : Tyss) where
    -- what it owns in that variant: its fields, and the bytes round them
    abbrev pub Fields : ℕ → ℕ → R.Denot → ℕ → ℕ → Fml
    Fields h n x b o = fsep (parts_at full_share (tag_m 𝓛 ρss 1 ∷ ms) zero (1, (h, (n, (x, tt)))) b o) (fleft full_share (ty_enum [] ρss) tys b o)

    -- what a `&` to it holds then
    abbrev pub seen : ℕ → ℕ → R'.Denot → ℕ → ℕ → Lft → Fml
    seen h n y b o = beside (beside (shared_of u8 1 b (o + e₁)) (beside (shared_of u16 h b (o + e₂)) (beside (shared_of u32 n b (o + e₃))
        (beside (shared_of R' y b (o + e₄)) (λ κ. ftrue))))) (one (λ q. fleft q (ty_enum [] ρss) tys b o))

    -- its pair is lent
    abbrev pub fields_open : (h n : ℕ) (x : R.Denot) (b o : ℕ)
        → Opening 𝓛 V l (Fields h n x b o) (λ ws. Fields h n (O.put x ws) b o) (O.count x) O.cells_in (λ y. seen h n y b o) (λ y. O.fill y ≡ x)
    fields_open h n x b o =
        seen_as (framed (both (still 𝓛 V l (part_at u8 full_share 1 b (o + e₁)) (shared_of u8 1 b (o + e₁)) (λ κ ts. tag_shares 1 κ ts b (o + e₁)))
        (both (still 𝓛 V l (part_at u16 full_share h b (o + e₂)) (shared_of u16 h b (o + e₂)) (λ κ ts. high_shares h κ ts b (o + e₂)))
        (both (still 𝓛 V l (part_at u32 full_share n b (o + e₃)) (shared_of u32 n b (o + e₃)) (λ κ ts. low_shares n κ ts b (o + e₃)))
        (framed (O.opens x b (o + e₄)) ftrue (λ κ. ftrue) (Lends-nothing 𝓛 ftrue l)))))
        (fleft full_share (ty_enum [] ρss) tys b o) (one (λ q. fleft q (ty_enum [] ρss) tys b o)) (Lends-left 𝓛 l (ty_enum [] ρss) tys b o))
        (λ y k. y.1.1.1) (id⊢ 𝓤 _) (λ ws. id⊢ 𝓤 _) (zero-add (0 + (0 + O.count x)) ∙ zero-add (0 + O.count x) ∙ zero-add (O.count x))
        (λ y k. refl) (λ y k. k.1.1.1) (λ y k κ. id⊢ 𝓤 _)

  abbrev pub Nr : RattleType
  Nr = N-type.the_row R

  abbrev pub NHr : RattleType
  NHr = N-type.the_row R'

  abbrev pub node_tys : Tyss
  node_tys = rawss (layouts (enum.variants (N-type.the_type R)))

  abbrev pub node_count : NodeForm R.Denot → ℕ
  node_count (Free h n) = 0
  node_count (Held h n x) = O.count x

  abbrev pub node_put : NodeForm R.Denot → List V.Denot → NodeForm R.Denot
  node_put (Free h n) ws = Free h n
  node_put (Held h n x) ws = Held h n (O.put x ws)

  abbrev pub node_fill : NodeForm R'.Denot → NodeForm R.Denot
  node_fill (Free h n) = Free h n
  node_fill (Held h n y) = Held h n (O.fill y)

  abbrev pub node_cells_in : NodeForm R'.Denot → Cells V
  node_cells_in (Free h n) = []
  node_cells_in (Held h n y) = O.cells_in y

  module _ (L : Laws R) (within : Incl l R.lives) where
    pub node_out : (h n : ℕ) (x : R.Denot) (b o : ℕ) → ent 𝓤 (sem 𝓛 (part_at Nr full_share (Held h n x) b o)) (sem 𝓛 (Fields node_tys h n x b o))
    unfolding part_of
    node_out h n x b o = Live-out 𝓛 node_tys 1 ms refl (h, (n, (x, tt))) b o full_share
        ((λ n ws p. subst Lone (sym p.0) tt), ((λ n ws p. subst Lone (sym p.0) tt), (L.single, tt)))

    pub node_in : (h n : ℕ) (x : R.Denot) (b o : ℕ) → ent 𝓤 (sem 𝓛 (Fields node_tys h n x b o)) (sem 𝓛 (part_at Nr full_share (Held h n x) b o))
    unfolding part_of
    node_in h n x b o = live_in 𝓛 node_tys 1 ms refl (h, (n, (x, tt))) b o full_share

    pub node_shares : Shares 𝓛 Nr l
    node_shares = Shares-less 𝓛 Nr Nr.lives l (N-laws.the_within R l within) ((N-laws.the_row_laws R L).shares 𝓛)

    -- A node with a hole in the place of a value lies in memory as one with the value
    module _ (free_shown : (h n b o : ℕ) (κ : Lft) → ent 𝓤 (sem 𝓛 (shared_of Nr (Free h n) b o κ)) (sem 𝓛 (shared_of NHr (Free h n) b o κ)))
        (held_shown : (h n : ℕ) (y : R'.Denot) (b o : ℕ) (κ : Lft) → ent 𝓤 (sem 𝓛 (seen node_tys h n y b o κ)) (sem 𝓛 (shared_of NHr (Held h n y) b o κ))) where
      abbrev pub node_open : (x : NodeForm R.Denot) (b o : ℕ) → Opening 𝓛 V l (part_at Nr full_share x b o)
          (λ ws. part_at Nr full_share (node_put x ws) b o) (node_count x) node_cells_in (λ y. shared_of NHr y b o) (λ y. node_fill y ≡ x)
      node_open (Free h n) b o =
          seen_as (still 𝓛 V l (part_at Nr full_share (Free h n) b o) (shared_of Nr (Free h n) b o) (λ κ ts. node_shares (Free h n) κ ts b o))
          (λ y k. Free h n) (id⊢ 𝓤 _) (λ ws. id⊢ 𝓤 _) refl (λ y k. refl) (λ y k. refl) (λ y k κ. free_shown h n b o κ)
      node_open (Held h n x) b o =
          seen_as (fields_open node_tys h n x b o) (λ y k. Held h n y) (node_out h n x b o) (λ ws. node_in h n (O.put x ws) b o) refl
          (λ y k. refl) (λ y k. ap (λ z. Held h n z) k) (λ y k κ. held_shown h n y b o κ)

      abbrev pub node_opens : OpensAs 𝓛 V Nr NHr l
      node_opens = record { count = node_count; put = node_put; fill = node_fill; cells_in = node_cells_in; opens = node_open }
