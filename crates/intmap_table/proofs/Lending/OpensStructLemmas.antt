-- What is lent at holes of a struct, and of a type with a view. Assumes `Logic`.
use mathlib.Core.Path.{◌≡◌, refl, sym, ap, subst, ◌∙◌}
use Prim.Native.Nat.{ℕ, zero, ◌+◌}
use mathlib.Core.List.{List, [], ◌∷◌, ◌++◌}
use lib.ListN.{take, drop as drop_l}
use seplogic.Ra.Ura.{Ura}
use base.Fraction.{full_share}
use base.Stored.{Coded}
use mir.Syntax.{Ty, Tys, ty_struct}
use base.Logic.{ent, sep, id⊢}
use base.Fml.{Lft, Fml, Share, ftrue, fsep, fbor, fleft}
use prog.Memory.{size, align, up}
use types.Logic.{Logic, sem, lfts}
use types.Kit.{‵, raw, ◌$◌, !, qed, updating, done, now as at_once}
use types.Tokens.{bor_fracture}
use denote.RattleType.{RattleType, Denots}
use denote.Sharing.{one, beside}
use denote.Memory.{part_at, shared_of, lone}
use denote.Model.{View}
use denote.Model.Fields.{view_owns, view_made, plain_out, Plain-in}
use denote.Shares.{Shares}
use denote.Struct.Struct.{Struct}
use denote.Struct.Lending.{Lends, Lends-nothing}
use denote.Struct.Members.{Member, row_of, rows_of, raw_tys, parts_at, Lones}
use denote.Struct.Parts.{shape_of, Struct-left, left_Struct}
use Rattle.intmap_table.proofs.Lending.OpensLemmas.{Cells, Opens, OpensAs, still, any, seen_as, framed, both}

module _ {M : Type 1} {𝓤 : Ura M} (𝓛 : Logic 𝓤) where
  -- a type that holds none of the values is shared as it is
  abbrev pub still_opens : (V R : RattleType) (l : Lft) → Shares 𝓛 R l → OpensAs 𝓛 V R R l
  still_opens V R l sh = record {
    count = λ x. 0;
    put = λ x ws. x;
    fill = λ x. x;
    cells_in = λ x. [];
    opens = λ x b o. seen_as (still 𝓛 V l (part_at R full_share x b o) (shared_of R x b o) (λ κ ts. sh x κ ts b o)) (λ y k. x) (id⊢ 𝓤 _)
        (λ ws. id⊢ 𝓤 _) refl (λ y k. refl) (λ y k. refl) (λ y k κ. id⊢ 𝓤 _);
  }

  -- the bytes round the fields are shared
  pub Lends-left : (l : Lft) (ρ : Ty) (ρs : Tys) (b o : ℕ) → Lends 𝓛 (fleft full_share ρ ρs b o) (one (λ q. fleft q ρ ρs b o)) l
  Lends-left l ρ ρs b o κ ts inc sp =
      qed 𝓛 (‵ (fbor κ (fleft full_share ρ ρs b o)) ∷ raw (lfts 𝓛 ts) ∷ []) {P = 𝓛.H.⇛ (sep 𝓤 (sem 𝓛 (one (λ q. fleft q ρ ρs b o) κ)) (lfts 𝓛 ts))} (
      updating ! $ bor_fracture ! tt (λ q. fleft q ρ ρs b o) full_share $ at_once ! $ done !)

abbrev pub member : RattleType → Member
member R = record { row = R; ty = lone R.mir }

-- the last field, from some offset on
module _ {M : Type 1} {𝓤 : Ura M} (𝓛 : Logic 𝓤) (V : RattleType) (l : Lft) (R : RattleType) (from : ℕ) {Y : Type 0} {shown : Y → ℕ → ℕ → Lft → Fml}
    (O : Opens 𝓛 V (part_at (row_of (member R)) full_share) shown l) where
  abbrev pub e : ℕ
  e = up (align (lone R.mir)) from

  abbrev pub last_part : Opens 𝓛 V (parts_at full_share (member R ∷ []) from) (λ (y : Y) b o. beside (shown y b (o + e)) (λ κ. ftrue)) l
  last_part = record {
    count = λ x. O.count x.0;
    put = λ x ws. (O.put x.0 ws, tt);
    fill = λ y. (O.fill y, tt);
    cells_in = O.cells_in;
    opens = λ x b o. seen_as (framed (O.opens x.0 b (o + e)) ftrue (λ κ. ftrue) (Lends-nothing 𝓛 ftrue l))
        (λ y k. y) (id⊢ 𝓤 _) (λ ws. id⊢ 𝓤 _) refl (λ y k. refl) (λ y k j. (k j, tt)) (λ y k κ. id⊢ 𝓤 _);
  }

-- a field before others
module _ {M : Type 1} {𝓤 : Ura M} (𝓛 : Logic 𝓤) (V : RattleType) (l : Lft) (R : RattleType) (ms : List Member) (from : ℕ) {Y₁ Y₂ : Type 0}
    {shown₁ : Y₁ → ℕ → ℕ → Lft → Fml} {shown₂ : Y₂ → ℕ → ℕ → Lft → Fml}
    (O₁ : Opens 𝓛 V (part_at (row_of (member R)) full_share) shown₁ l)
    (O₂ : Opens 𝓛 V (parts_at full_share ms (e 𝓛 V l R from O₁ + size (lone R.mir))) shown₂ l) where
  abbrev pub first_part : Opens 𝓛 V (parts_at full_share (member R ∷ ms) from)
      (λ (y : Y₁ × Y₂) b o. beside (shown₁ y.0 b (o + e 𝓛 V l R from O₁)) (shown₂ y.1 b o)) l
  first_part = record {
    count = λ x. O₁.count x.0 + O₂.count x.1;
    put = λ x ws. (O₁.put x.0 (take (O₁.count x.0) ws), O₂.put x.1 (drop_l (O₁.count x.0) ws));
    fill = λ y. (O₁.fill y.0, O₂.fill y.1);
    cells_in = λ y. O₁.cells_in y.0 ++ O₂.cells_in y.1;
    opens = λ x b o. seen_as (both (O₁.opens x.0 b (o + e 𝓛 V l R from O₁)) (O₂.opens x.1 b o))
        (λ y k. y) (id⊢ 𝓤 _) (λ ws. id⊢ 𝓤 _) refl (λ y k. refl) (λ y k j. (k.0 j, k.1 j)) (λ y k κ. id⊢ 𝓤 _);
  }

-- the bytes round the fields of a struct of these members, and what a `&` to it holds of them
module _ (ms : List Member) where
  abbrev pub left : Share → ℕ → ℕ → Fml
  left q b o = fleft q (ty_struct [] (raw_tys ms)) (raw_tys ms) b o

  abbrev pub left_seen : ℕ → ℕ → Lft → Fml
  left_seen b o = one (λ q. left q b o)

-- a type that is laid out as a struct of these members
abbrev pub IsLaidAs : (R : RattleType) (ms : List Member) → (R.Denot → Denots (rows_of ms)) → Type 1
IsLaidAs R ms to = (x : R.Denot) (b o : ℕ) → part_at R full_share x b o ≡ part_at (Struct (shape_of [] ms)) full_share (to x) b o

module _ {M : Type 1} {𝓤 : Ura M} (𝓛 : Logic 𝓤) (ms : List Member) (R : RattleType) (to : R.Denot → Denots (rows_of ms))
    (laid : IsLaidAs R ms to) where
  abbrev pub Fields : Denots (rows_of ms) → ℕ → ℕ → Fml
  Fields y b o = fsep (parts_at full_share ms zero y b o) (left ms full_share b o)

  pub apart : Lones (rows_of ms) → (x : R.Denot) (b o : ℕ) → ent 𝓤 (sem 𝓛 (part_at R full_share x b o)) (sem 𝓛 (Fields (to x) b o))
  apart ones x b o = subst (λ (F : Fml). ent 𝓤 (sem 𝓛 F) (sem 𝓛 (Fields (to x) b o))) (sym (laid x b o))
      (Struct-left 𝓛 full_share [] ms ones (to x) b o)

  pub whole : (x : R.Denot) (y : Denots (rows_of ms)) → to x ≡ y → (b o : ℕ) → ent 𝓤 (sem 𝓛 (Fields y b o)) (sem 𝓛 (part_at R full_share x b o))
  whole x y is b o = subst (λ (F : Fml). ent 𝓤 (sem 𝓛 (Fields y b o)) (sem 𝓛 F))
      (ap (λ z. part_at (Struct (shape_of [] ms)) full_share z b o) (sym is) ∙ sym (laid x b o)) (left_Struct 𝓛 full_share [] ms y b o)

  -- if its fields open, so does R: what has holes is seen as its fields with holes are
  module _ (V : RattleType) (l : Lft) {Y Y' : Type 0} {shown : Y → ℕ → ℕ → Lft → Fml} (P : Opens 𝓛 V (parts_at full_share ms zero) shown l)
      (ones : Lones (rows_of ms)) (from : Denots (rows_of ms) → R.Denot) (shown' : Y' → ℕ → ℕ → Lft → Fml) (to' : Y' → Y) (from' : Y → Y')
      (made : (x : R.Denot) → from (to x) ≡ x) (read : (y : Denots (rows_of ms)) → to (from y) ≡ y) (read' : (y : Y) → to' (from' y) ≡ y)
      (shows : (y : Y) (b o : ℕ) (κ : Lft) → ent 𝓤 (sem 𝓛 (beside (shown y b o) (left_seen ms b o) κ)) (sem 𝓛 (shown' (from' y) b o κ))) where
    abbrev pub struct_opens : Opens 𝓛 V (part_at R full_share) shown' l
    struct_opens = record {
      count = λ x. P.count (to x);
      put = λ x ws. from (P.put (to x) ws);
      fill = λ h. from (P.fill (to' h));
      cells_in = λ h. P.cells_in (to' h);
      opens = λ x b o. seen_as (framed (P.opens (to x) b o) (left ms full_share b o) (left_seen ms b o)
          (Lends-left 𝓛 l (ty_struct [] (raw_tys ms)) (raw_tys ms) b o))
          (λ y k. from' y) (apart ones x b o) (λ ws. whole (from (P.put (to x) ws)) (P.put (to x) ws) (read (P.put (to x) ws)) b o) refl
          (λ y k. ap P.cells_in (sym (read' y))) (λ y k. ap (λ z. from (P.fill z)) (read' y) ∙ ap from k ∙ made x) (λ y k κ. shows y b o κ);
    }

-- a type with a view, if its fields F open: what has holes is seen by its own view
module _ {M : Type 1} {𝓤 : Ura M} (𝓛 : Logic 𝓤) (V F : RattleType) (l : Lft) {Y D' : Type 0} {shown : Y → ℕ → ℕ → Lft → Fml}
    (O : Opens 𝓛 V (part_at F full_share) shown l) (D : Type 0) (c : Coded D) (view : F.Denot → D) (good : F.Denot → Type 0)
    (shown' : D' → ℕ → ℕ → Lft → Fml) (view' : Y → D')
    (put : D → List V.Denot → D) (count : D → ℕ) (fill : D' → D) (cells_in : D' → Cells V)
    (puts : (a : F.Denot) (ws : List V.Denot) → view (O.put a ws) ≡ put (view a) ws)
    (goods : (a : F.Denot) (ws : List V.Denot) → good a → good (O.put a ws))
    (counted : (a : F.Denot) → O.count a ≡ count (view a)) (fills : (h : Y) → fill (view' h) ≡ view (O.fill h))
    (celleds : (h : Y) → O.cells_in h ≡ cells_in (view' h))
    (shows : (h : Y) → good (O.fill h) → (b o : ℕ) (κ : Lft) → ent 𝓤 (sem 𝓛 (shown h b o κ)) (sem 𝓛 (shown' (view' h) b o κ))) where
  abbrev pub W : RattleType
  W = View F D c view good

  -- the view and what is known of the fields follow from the values
  pub view_back : (d : D) (a : F.Denot) → view a ≡ d → good a → (ws : List V.Denot) (b o : ℕ)
      → ent 𝓤 (sem 𝓛 (part_at F full_share (O.put a ws) b o)) (sem 𝓛 (part_at W full_share (put d ws) b o))
  view_back d a is ok ws = Plain-in W F (view_owns F D c view good) 𝓛 full_share (put d ws) (O.put a ws)
      (view_made F D c view good 𝓛 (put d ws) (O.put a ws) (puts a ws ∙ ap (λ z. put z ws) is, goods a ws ok))

  abbrev pub view_opens : Opens 𝓛 V (part_at W full_share) shown' l
  view_opens = record {
    count = count;
    put = put;
    fill = fill;
    cells_in = cells_in;
    opens = λ d b o. any (λ (x : (a : F.Denot) × ((view a ≡ d) × good a)). part_at F full_share x.0 b o) (λ x.
        seen_as (O.opens x.0 b o) (λ h k. view' h) (id⊢ 𝓤 _) (λ ws. view_back d x.0 x.1.0 x.1.1 ws b o)
        (counted x.0 ∙ ap count x.1.0) (λ h k. celleds h) (λ h k. fills h ∙ ap view k ∙ x.1.0) (λ h k κ. shows h (subst good (sym k) x.1.1) b o κ))
        (plain_out W F (view_owns F D c view good) 𝓛 full_share d b o);
  }
