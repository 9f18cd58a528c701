-- A borrow of what opens is cut into a `&` to what has holes and the right to write the values. Assumes `Logic`.
use mathlib.Core.Path.{◌≡◌, refl, sym, ◌∙◌}
use Prim.Native.Nat.{ℕ}
use mathlib.Core.List.{List, [], ◌∷◌}
use seplogic.Ra.Ura.{Ura}
use base.Stored.{Gv}
use base.Logic.{ent, sep, emp, via, id⊢, fst∗}
use base.Fml.{Lft, GName, Share, Fml, Incl-refl, ftrue, fsep, flft, fobs, fauth, fbor, fobor, fseps}
use contract.Fact.{fact_use}
use types.Logic.{Logic, sem}
use types.Kit.{Item, ‵, raw, ◌⊛◌, some, later, ◌$◌, ◌∵◌, !, qed, by, move, keep, use0, use1, use2, split, split3, pick, group, rewrite, fsplit, fjoin, show, await, updating, done, mean, now as at_once}
use types.Mut.{open_ref}
use types.SemTy.{SemTy, Body as Borrowed}
use types.Follow.{after, takes_part, takes_beside}
use lib.ListN.{length, length-map}
use denote.RattleType.{RattleType}
use denote.RawPtr.{Ptr}
use denote.Steps.{nothing}
use Rattle.intmap_table.specs.Apart.{each_at, EachAt, lent_cells, places_of, contents_of}
use Rattle.intmap_table.proofs.Lending.OpensLemmas.{Cells, Lie, Opening, length-each_at}

-- S is what opens, at values that G has in its cells, and `vals` reads them off
module _ {M : Type 1} {𝓤 : Ura M} (𝓛 : Logic 𝓤) (V : RattleType) (κ : Lft) (S : SemTy) (G : List V.Denot → S.rep)
    (vals : S.rep → List V.Denot) (b o : ℕ)
    {own : Fml} {n : ℕ} {Y : Type 0} {cells : Y → Cells V} {shown : Y → Lft → Fml} {Known : Y → Type 0}
    (O : Opening 𝓛 V κ own (λ ws. S.own_at (G ws) b o) n cells shown Known) where
  open 𝓛 use {H, A}

  abbrev pub cs : O.Info → Cells V
  cs i = cells (O.holed i)

  module _ (kept : (ws : List V.Denot) → length ws ≡ n → vals (G ws) ≡ ws) (q : Share) (γ : GName) where
    -- the `&` at holes, a loan of the cells, the token, and what S ends as
    abbrev pub Cut : O.Info × GName × GName → Item 𝓤
    Cut c = ‵ (shown (O.holed c.0) κ) ⊛ ‵ (lent_cells κ V c.2 (cs c.0)) ⊛ ‵ (flft κ q) ⊛ ‵ (after S S γ c.1 (λ m. G (vals m)))

    module _ (i : O.Info) where
      abbrev places : List Ptr
      places = places_of (cs i)

      -- the cells, seen as S
      abbrev As : SemTy
      As = record { rep = S.rep; coded = S.coded; size = 0; own_at = λ m _ _. each_at V places (vals m) }

      -- the cells and the rest are S again
      whole_back : (m : S.rep) → ent 𝓤 (sep 𝓤 (sem 𝓛 (each_at V places (vals m))) (sep 𝓤 (sem 𝓛 (fseps (O.frame i ∷ []))) (emp 𝓤)))
          (sem 𝓛 (S.own_at (G (vals m)) b o))
      unfolding fseps
      whole_back m = qed 𝓛 (‵ (each_at V places (vals m)) ∷ ‵ (fsep (O.frame i) ftrue) ∷ raw (emp 𝓤) ∷ []) ∵ move ! (1 ∷ []) $ fsplit ! $
          keep ! (2 ∷ 0 ∷ []) $ by ! (O.back i (vals m))

      -- the values in the cells, seen as S
      named_back : (ws : List V.Denot) → ent 𝓤 (sep 𝓤 (sem 𝓛 (each_at V places ws)) (emp 𝓤)) (sem 𝓛 (each_at V places (vals (G ws))))
      named_back ws = fact_use 𝓤 (length ws ≡ length places) (via 𝓤 _ (fst∗ 𝓤 (sem 𝓛 (each_at V places ws)) (emp 𝓤))
          (length-each_at V 𝓛 places ws)) (λ long.
          qed 𝓛 (‵ (each_at V places ws) ∷ raw (emp 𝓤) ∷ []) ∵ rewrite ! 0 (λ (l : List V.Denot). ‵ (each_at V places l))
          (sym (kept ws (long ∙ length-map (cs i) (λ c. c.0) ∙ O.counts i))) refl $ keep ! (0 ∷ []) $ done !)

    -- the cells are taken out of the open borrow of S, and the rest is lent with them
    pub lend_by : (u v : Gv) → ent 𝓤 (sep 𝓤 (A.obor κ q (Borrowed S b o γ)) (sep 𝓤 (A.obs γ u) (sep 𝓤 (A.auth γ v) (sem 𝓛 own))))
        (H.⇛ (mean 𝓛 (some Cut)))
    unfolding fseps
    lend_by u v =
        qed 𝓛 (‵ (fobor κ q (Borrowed S b o γ)) ∷ ‵ (fobs γ u) ∷ ‵ (fauth γ v) ∷ ‵ own ∷ []) ∵ updating ! $ move ! (3 ∷ []) $
        use1 𝓛 (some (λ (i : O.Info). ‵ (Lie V (cs i)) ⊛ ‵ (O.frame i))) O.out $ pick ! (λ i. split ! $
        let ws = contents_of (cs i) in
        let y = G ws in
        let is : vals y ≡ ws = kept ws (length-map (cs i) (λ c. c.1) ∙ O.counts i) in
        let Values : SemTy = EachAt V (places_of (cs i)) in
        rewrite ! 0 (λ (z : List V.Denot). ‵ (each_at V (places_of (cs i)) z)) (sym is) refl $
        -- [the values; the frame; the open borrow, obs and auth]
        move ! (1 ∷ []) $ nothing ! $ move ! (1 ∷ 0 ∷ []) $ fjoin ! $ use0 𝓛 (raw (emp 𝓤)) (id⊢ 𝓤 (emp 𝓤)) $
        move ! (3 ∷ 4 ∷ 5 ∷ 2 ∷ 1 ∷ 0 ∷ []) $ group ! 6 $
        use1 𝓛 (later (some (λ (ν : GName). ‵ (fobs ν (S.coded.code y)) ⊛ ‵ (fbor κ (Borrowed (As i) 0 0 ν)) ⊛ ‵ (flft κ q)
        ⊛ ‵ (after S S γ ν (λ m. G (vals m))) ⊛ ‵ (fbor κ (O.frame i)) ⊛ ‵ ftrue)))
        (takes_beside 𝓛 S (As i) (λ m. G (vals m)) κ q b o 0 0 γ (O.frame i ∷ []) (emp 𝓤) (whole_back i) u v y) $ await ! tt $
        pick ! (λ ν. split3 ! $ move ! (2 ∷ []) $ split3 ! $ move ! (3 ∷ 4 ∷ 0 ∷ []) $
        -- [obs, the borrow and the token of ν; after; the frame's borrow and nothing]
        open_ref ! tt (As i) {x = y} {b = 0} {o = 0} $ rewrite ! 0 (λ (z : List V.Denot). ‵ (each_at V (places_of (cs i)) z)) is refl $
        nothing ! $ move ! (2 ∷ 3 ∷ 4 ∷ 1 ∷ 0 ∷ []) $ group ! 5 $
        use1 𝓛 (later (some (λ (δ : GName). ‵ (fobs δ (Values.coded.code ws)) ⊛ ‵ (fbor κ (Borrowed Values 0 0 δ)) ⊛ ‵ (flft κ q)
        ⊛ ‵ (after (As i) Values ν δ G))))
        (takes_part 𝓛 (As i) Values G κ q 0 0 0 0 ν (emp 𝓤) (named_back i) (S.coded.code y) (S.coded.code y) ws) $ await ! tt $
        pick ! (λ δ. split3 ! $ fjoin ! $ move ! (1 ∷ []) $ split ! $ move ! (4 ∷ []) $ split ! $
        -- [the frame's borrow; nothing; the token; after; the values' borrow; after]
        move ! (0 ∷ 2 ∷ []) $ use2 𝓛 (later (‵ (shown (O.holed i) κ) ⊛ ‵ (flft κ q)))
        (O.lends i κ ((κ, q) ∷ []) (Incl-refl κ) (Incl-refl κ)) $ await ! tt $ split ! $
        at_once ! $ show ! (λ (c : O.Info × GName × GName). mean 𝓛 (Cut c)) (i, ν, δ) $ keep ! (0 ∷ 4 ∷ 1 ∷ 5 ∷ []) $ done !)))
