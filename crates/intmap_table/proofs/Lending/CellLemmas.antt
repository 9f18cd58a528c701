-- The first of several lent values in separate places is taken out of their loan. Assumes `Logic`.
use mathlib.Core.Path.{refl}
use Prim.Native.Nat.{ℕ}
use mathlib.Core.List.{List, [], ◌∷◌}
use seplogic.Ra.Ura.{Ura}
use base.Fml.{Lft, GName, Share, flft, fbor, fobs}
use base.Logic.{ent, sep, emp}
use base.Stored.{coded_list}
use mir.Syntax.{Lifetime}
use mir.Val.{Val, vptr, vstruct, vcons, vnil}
use types.Follow.{after₂, takes_two}
use types.Logic.{Logic, sem}
use types.Mut.{open_ref}
use types.SemTy.{SemTy, Body}
use types.Kit.{Item, ‵, raw, ◌⊛◌, some, later, pick, show, mean, ◌$◌, ◌∵◌, !, qed, move, keep, use1, group, split, split3, fsplit, fjoin, fjoin3, feq_i, updating, await, done, now as at_once}
use denote.Memory.{mem}
use denote.RattleType.{RattleType}
use denote.RawPtr.{Ptr, block_ptr}
use denote.Ref.{NamedLft, MutRef}
use denote.Shadow.{makes_shadow}
use denote.Steps.{nothing}
use denote.Struct.Owning.{shape}
use denote.Struct.Struct.{Struct}
use Rattle.intmap_table.specs.Apart.{EachAt, each_at, lent_cells, places_of, contents_of}
use Rattle.intmap_table.specs.contracts.lent.Lent.{the_type}

-- the machine value of a `Lent`, which has no bytes
abbrev pub lent_value : Val
lent_value = vstruct (vcons (vstruct vnil) vnil)

pub lent_value-made : (a : NamedLft) (V : RattleType) {M : Type 1} {𝓤 : Ura M} (𝓛 : Logic 𝓤) → ent 𝓤 (emp 𝓤) (sem 𝓛 ((Struct (shape (the_type a V))).own_val (tt, tt) (lent_value ∷ [])))
lent_value-made a V 𝓛 =
    makes_shadow 𝓛 ((Struct (shape (the_type a V))).own_val (tt, tt) (lent_value ∷ [])) (λ words. (tt, ((λ more. (tt, tt)), tt))) ((vstruct vnil ∷ [], tt), (refl, ((tt, (refl, tt)), tt)))

module _ {M : Type 1} {𝓤 : Ura M} (𝓛 : Logic 𝓤) (V : RattleType) (block offset : ℕ) (v : V.Denot) (rest : List (Ptr × V.Denot)) where
  open 𝓛 use {H, A}

  abbrev all : List (Ptr × V.Denot)
  all = (block_ptr block offset, v) ∷ rest

  -- the values of all cells, seen as one
  abbrev All : SemTy
  All = EachAt V (places_of all)

  abbrev Rest : SemTy
  Rest = EachAt V (places_of rest)

  put_back : (w : V.Denot) (ws : List V.Denot) → ent 𝓤 (sep 𝓤 (sem 𝓛 ((mem V).own_at w block offset)) (sep 𝓤 (sem 𝓛 (each_at V (places_of rest) ws)) (emp 𝓤))) (sem 𝓛 (each_at V (places_of all) (w ∷ ws)))
  put_back w ws = qed 𝓛 (‵ ((mem V).own_at w block offset) ∷ ‵ (each_at V (places_of rest) ws) ∷ raw (emp 𝓤) ∷ []) ∵ fjoin ! $ keep ! (0 ∷ []) $ done !

  module _ (ℓ : Lifetime) (κ : Lft) (q : Share) (name : GName) where
    -- a `&mut` to the first value, and a loan of the others
    abbrev pub Taken : GName × GName → Item 𝓤
    Taken names = ‵ ((MutRef ℓ κ V).own_val (record { ref_ptr = (block, offset); ghost_name = names.0; now = v }) (vptr block offset ∷ [])) ⊛ ‵ (lent_cells κ V names.1 rest) ⊛ ‵ (flft κ q)

    pub take_cell : ent 𝓤 (sep 𝓤 (sem 𝓛 (lent_cells κ V name all)) (A.lft κ q)) (H.⇛ (mean 𝓛 (some Taken)))
    take_cell =
        let cons : V.Denot → List V.Denot → List V.Denot = λ w ws. w ∷ ws in
        qed 𝓛 (‵ (lent_cells κ V name all) ∷ ‵ (flft κ q) ∷ []) ∵ updating ! $ fsplit ! $ open_ref ! tt All {x = contents_of all} {b = 0} {o = 0} $
        -- [the values; the open borrow, in three entries]
        fsplit ! $ nothing ! $ move ! (3 ∷ 4 ∷ 5 ∷ 1 ∷ 2 ∷ 0 ∷ []) $ group ! 6 $
        use1 𝓛 (later (some (λ (names : GName × GName).
        (‵ (fobs names.0 (V.coded.code v)) ⊛ ‵ (fbor κ (Body (mem V) block offset names.0)))
        ⊛ (‵ (fobs names.1 ((coded_list V.coded).code (contents_of rest))) ⊛ ‵ (fbor κ (Body Rest 0 0 names.1)))
        ⊛ ‵ (flft κ q) ⊛ ‵ (after₂ All (mem V) Rest name names.0 names.1 cons))))
        (takes_two 𝓛 All (mem V) Rest cons κ q 0 0 block offset 0 0 name (emp 𝓤) put_back ((coded_list V.coded).code (contents_of all)) ((coded_list V.coded).code (contents_of all)) v (contents_of rest)) $
        await ! tt $ pick ! (λ names. split3 ! $ split ! $ feq_i ! (List Val) (vptr block offset ∷ []) (vptr block offset ∷ []) refl $ fjoin3 ! $
        move ! (1 ∷ []) $ split ! $ fjoin ! $ move ! (2 ∷ []) $ split ! $ at_once ! $ show ! (λ (z : GName × GName). mean 𝓛 (Taken z)) names $ keep ! (3 ∷ 2 ∷ 0 ∷ []) $ done !)
