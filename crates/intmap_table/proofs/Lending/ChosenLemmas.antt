-- Rows of values, from which those at some places are taken in the order of a list of places. Assumes `Logic`.
use mathlib.Core.Path.{◌≡◌, refl, sym, ap, ◌∙◌}
use Prim.Native.Nat.{ℕ, zero, suc}
use mathlib.Core.List.{List, [], ◌∷◌, ◌++◌}
use lib.ListN.{length, take, drop as drop_l, set, get_or}
use seplogic.Ra.Ura.{Ura}
use base.Logic.{ent, sep, id⊢, never_e}
use base.Fml.{Fml, ftrue, ffalse, fsep}
use types.Logic.{Logic, sem}
use types.Kit.{Item, ‵, ◌⊛◌, ◌$◌, ◌∵◌, !, qed, by, move, keep, drop, use1, use2, split, fsplit, fjoin, rewrite, done}
use denote.RattleType.{RattleType}
use denote.RawPtr.{Ptr}
use denote.Steps.{nothing}
use Rattle.std.specs.Prelude.{map}
use Rattle.std.proofs.lemmas.List.{map-append}
use Rattle.intmap_table.specs.Tables.Slots.{joined}
use Rattle.intmap_table.specs.Apart.{each_at, places_of, contents_of}
use Rattle.intmap_table.proofs.Lending.OpensLemmas.{Cells, Lie}

-- the row at a place, and the rows once nothing is left there
abbrev pub at_place : {X : Type 0} → List (List X) → ℕ → List X
at_place R p = get_or R p []

abbrev pub emptied : {X : Type 0} → List (List X) → ℕ → List (List X)
emptied R p = set R p []

-- what is taken at these places in turn. A place that is told again gives nothing more
abbrev pub drained : {X : Type 0} → List ℕ → List (List X) → List X
drained [] R = []
drained (p ∷ O) R = at_place R p ++ drained O (emptied R p)

-- what is left of the rows then
abbrev pub left_of : {X : Type 0} → List ℕ → List (List X) → List (List X)
left_of [] R = R
left_of (p ∷ O) R = left_of O (emptied R p)

-- the rows again, with other values in the place of those that were taken
abbrev pub refilled : {X : Type 0} → List ℕ → List (List X) → List X → List (List X)
refilled [] R ws = R
refilled (p ∷ O) R ws = set (refilled O (emptied R p) (drop_l (length (at_place R p)) ws)) p (take (length (at_place R p)) ws)

pub map-at_place : {X Y : Type 0} (f : X → Y) (R : List (List X)) (p : ℕ) → map f (at_place R p) ≡ at_place (map (map f) R) p
map-at_place f [] p = refl
map-at_place f (r ∷ R) zero = refl
map-at_place f (r ∷ R) (suc p) = map-at_place f R p

pub map-emptied : {X Y : Type 0} (f : X → Y) (R : List (List X)) (p : ℕ) → map (map f) (emptied R p) ≡ emptied (map (map f) R) p
map-emptied f [] p = refl
map-emptied f (r ∷ R) zero = refl
map-emptied f (r ∷ R) (suc p) = ap (λ S. map f r ∷ S) (map-emptied f R p)

pub map-joined : {X Y : Type 0} (f : X → Y) (R : List (List X)) → map f (joined R) ≡ joined (map (map f) R)
map-joined f [] = refl
map-joined f (r ∷ R) = map-append f r (joined R) ∙ ap (λ l. map f r ++ l) (map-joined f R)

pub map-drained : {X Y : Type 0} (f : X → Y) (O : List ℕ) (R : List (List X)) → map f (drained O R) ≡ drained O (map (map f) R)
map-drained f [] R = refl
map-drained f (p ∷ O) R = map-append f (at_place R p) (drained O (emptied R p))
    ∙ (λ i. map-at_place f R p i ++ (map-drained f O (emptied R p) ∙ ap (drained O) (map-emptied f R p)) i)

-- how long each row is
abbrev pub sizes : {X : Type 0} → List (List X) → List ℕ
sizes R = map length R

pub row_size : {X : Type 0} (R : List (List X)) (p : ℕ) → length (at_place R p) ≡ get_or (sizes R) p 0
row_size [] p = refl
row_size (r ∷ R) zero = refl
row_size (r ∷ R) (suc p) = row_size R p

pub sizes-emptied : {X : Type 0} (R : List (List X)) (p : ℕ) → sizes (emptied R p) ≡ set (sizes R) p 0
sizes-emptied [] p = refl
sizes-emptied (r ∷ R) zero = refl
sizes-emptied (r ∷ R) (suc p) = ap (λ l. length r ∷ l) (sizes-emptied R p)

module _ (V : RattleType) where
  -- rows of places, each of which holds the value of its own
  abbrev pub each_row : List (List Ptr) → List (List V.Denot) → Fml
  each_row (ps ∷ P) (vs ∷ S) = fsep (each_at V ps vs) (each_row P S)
  each_row (ps ∷ P) [] = ffalse
  each_row [] (vs ∷ S) = ffalse
  each_row [] [] = ftrue

  module _ {M : Type 1} {𝓤 : Ura M} (𝓛 : Logic 𝓤) where
    -- two lists of places are one
    pub glue_at : (ps qs : List Ptr) (ws us : List V.Denot) → ent 𝓤 (sep 𝓤 (sem 𝓛 (each_at V ps ws)) (sem 𝓛 (each_at V qs us))) (sem 𝓛 (each_at V (ps ++ qs) (ws ++ us)))
    glue_at [] qs [] us = qed 𝓛 (‵ (each_at V [] []) ∷ ‵ (each_at V qs us) ∷ []) ∵ drop ! $ done !
    glue_at [] qs (w ∷ ws) us = qed 𝓛 (‵ ffalse ∷ ‵ (each_at V qs us) ∷ []) ∵ use1 𝓛 (‵ (each_at V qs (w ∷ ws ++ us))) (never_e 𝓤 _) $ keep ! (0 ∷ []) $ done !
    glue_at (p ∷ ps) qs [] us = qed 𝓛 (‵ ffalse ∷ ‵ (each_at V qs us) ∷ []) ∵ use1 𝓛 (‵ (each_at V (p ∷ ps ++ qs) us)) (never_e 𝓤 _) $ keep ! (0 ∷ []) $ done !
    glue_at (p ∷ ps) qs (w ∷ ws) us = qed 𝓛 (‵ (each_at V (p ∷ ps) (w ∷ ws)) ∷ ‵ (each_at V qs us) ∷ []) ∵ fsplit ! $ move ! (1 ∷ 2 ∷ []) $
        use2 𝓛 (‵ (each_at V (ps ++ qs) (ws ++ us))) (glue_at ps qs ws us) $ move ! (1 ∷ []) $ fjoin ! $ done !

    -- which is parted where the second list begins
    pub part_at : (ps qs : List Ptr) (ws : List V.Denot)
        → ent 𝓤 (sem 𝓛 (each_at V (ps ++ qs) ws)) (sep 𝓤 (sem 𝓛 (each_at V ps (take (length ps) ws))) (sem 𝓛 (each_at V qs (drop_l (length ps) ws))))
    part_at [] qs ws = qed 𝓛 (‵ (each_at V qs ws) ∷ []) ∵ nothing ! $ done !
    part_at (p ∷ ps) qs [] = never_e 𝓤 _
    part_at (p ∷ ps) qs (w ∷ ws) = qed 𝓛 (‵ (each_at V (p ∷ ps ++ qs) (w ∷ ws)) ∷ []) ∵ fsplit ! $ move ! (1 ∷ []) $
        use1 𝓛 (‵ (each_at V ps (take (length ps) ws)) ⊛ ‵ (each_at V qs (drop_l (length ps) ws))) (part_at ps qs ws) $
        split ! $ move ! (2 ∷ 0 ∷ []) $ fjoin ! $ done !

    -- rows of places are one list of places
    pub rows_in : (P : List (List Ptr)) (S : List (List V.Denot)) → ent 𝓤 (sem 𝓛 (each_row P S)) (sem 𝓛 (each_at V (joined P) (joined S)))
    rows_in [] [] = id⊢ 𝓤 _
    rows_in [] (s ∷ S) = never_e 𝓤 _
    rows_in (p ∷ P) [] = never_e 𝓤 _
    rows_in (p ∷ P) (s ∷ S) = qed 𝓛 (‵ (each_row (p ∷ P) (s ∷ S)) ∷ []) ∵ fsplit ! $ move ! (1 ∷ []) $
        use1 𝓛 (‵ (each_at V (joined P) (joined S))) (rows_in P S) $ move ! (1 ∷ 0 ∷ []) $ by ! (glue_at p (joined P) s (joined S))

    pub rows_out : (R : List (Cells V)) → ent 𝓤 (sem 𝓛 (Lie V (joined R))) (sem 𝓛 (each_row (map places_of R) (map contents_of R)))
    rows_out [] = id⊢ 𝓤 _
    rows_out ([] ∷ R) = qed 𝓛 (‵ (Lie V (joined R)) ∷ []) ∵ use1 𝓛 (‵ (each_row (map places_of R) (map contents_of R))) (rows_out R) $
        nothing ! $ fjoin ! $ done !
    rows_out ((c ∷ r) ∷ R) = qed 𝓛 (‵ (Lie V (c ∷ joined (r ∷ R))) ∷ []) ∵ fsplit ! $ move ! (1 ∷ []) $
        use1 𝓛 (‵ (each_row (map places_of (r ∷ R)) (map contents_of (r ∷ R)))) (rows_out (r ∷ R)) $ fsplit ! $
        move ! (2 ∷ 0 ∷ []) $ fjoin ! $ fjoin ! $ done !

    -- the row at one place is taken
    pub row_out : (P : List (List Ptr)) (S : List (List V.Denot)) (p : ℕ)
        → ent 𝓤 (sem 𝓛 (each_row P S)) (sep 𝓤 (sem 𝓛 (each_at V (at_place P p) (at_place S p))) (sem 𝓛 (each_row (emptied P p) (emptied S p))))
    row_out [] [] p = qed 𝓛 (‵ ftrue ∷ []) ∵ nothing ! $ done !
    row_out [] (s ∷ S) p = never_e 𝓤 _
    row_out (r ∷ P) [] p = never_e 𝓤 _
    row_out (r ∷ P) (s ∷ S) zero = qed 𝓛 (‵ (each_row (r ∷ P) (s ∷ S)) ∷ []) ∵ fsplit ! $ nothing ! $ move ! (1 ∷ 0 ∷ 2 ∷ []) $ move ! (1 ∷ 2 ∷ []) $ fjoin ! $
        move ! (1 ∷ []) $ done !
    row_out (r ∷ P) (s ∷ S) (suc p) = qed 𝓛 (‵ (each_row (r ∷ P) (s ∷ S)) ∷ []) ∵ fsplit ! $ move ! (1 ∷ []) $
        use1 𝓛 (‵ (each_at V (at_place P p) (at_place S p)) ⊛ ‵ (each_row (emptied P p) (emptied S p))) (row_out P S p) $ split ! $
        move ! (2 ∷ 1 ∷ []) $ fjoin ! $ move ! (1 ∷ []) $ done !

    -- it is put back there, with other values
    pub row_in : (P : List (List Ptr)) (S : List (List V.Denot)) (p : ℕ) (us : List V.Denot)
        → ent 𝓤 (sep 𝓤 (sem 𝓛 (each_at V (at_place P p) us)) (sem 𝓛 (each_row (emptied P p) S))) (sem 𝓛 (each_row P (set S p us)))
    row_in [] [] p us = qed 𝓛 (‵ (each_at V [] us) ∷ ‵ ftrue ∷ []) ∵ keep ! (1 ∷ []) $ done !
    row_in [] (s ∷ S) p us = qed 𝓛 (‵ (each_at V [] us) ∷ ‵ ffalse ∷ []) ∵ keep ! (1 ∷ []) $ by ! (never_e 𝓤 _)
    row_in (r ∷ P) [] zero us = qed 𝓛 (‵ (each_at V r us) ∷ ‵ ffalse ∷ []) ∵ keep ! (1 ∷ []) $ by ! (never_e 𝓤 _)
    row_in (r ∷ P) [] (suc p) us = qed 𝓛 (‵ (each_at V (at_place P p) us) ∷ ‵ ffalse ∷ []) ∵ keep ! (1 ∷ []) $ by ! (never_e 𝓤 _)
    row_in (r ∷ P) (s ∷ S) zero us = qed 𝓛 (‵ (each_at V r us) ∷ ‵ (each_row ([] ∷ P) (s ∷ S)) ∷ []) ∵ move ! (1 ∷ []) $ fsplit ! $ drop ! $
        move ! (1 ∷ 0 ∷ []) $ fjoin ! $ done !
    row_in (r ∷ P) (s ∷ S) (suc p) us = qed 𝓛 (‵ (each_at V (at_place P p) us) ∷ ‵ (each_row (r ∷ emptied P p) (s ∷ S)) ∷ []) ∵ move ! (1 ∷ []) $ fsplit ! $
        move ! (2 ∷ 1 ∷ []) $ use2 𝓛 (‵ (each_row P (set S p us))) (row_in P S p us) $ move ! (1 ∷ 0 ∷ []) $ fjoin ! $ done !

    -- the rows at places in any order are taken
    pub rows_drained : (O : List ℕ) (P : List (List Ptr)) (S : List (List V.Denot))
        → ent 𝓤 (sem 𝓛 (each_row P S)) (sep 𝓤 (sem 𝓛 (each_at V (drained O P) (drained O S))) (sem 𝓛 (each_row (left_of O P) (left_of O S))))
    rows_drained [] P S = qed 𝓛 (‵ (each_row P S) ∷ []) ∵ nothing ! $ done !
    rows_drained (p ∷ O) P S = qed 𝓛 (‵ (each_row P S) ∷ []) ∵
        use1 𝓛 (‵ (each_at V (at_place P p) (at_place S p)) ⊛ ‵ (each_row (emptied P p) (emptied S p))) (row_out P S p) $ split ! $ move ! (1 ∷ []) $
        use1 𝓛 (‵ (each_at V (drained O (emptied P p)) (drained O (emptied S p))) ⊛ ‵ (each_row (left_of O (emptied P p)) (left_of O (emptied S p))))
        (rows_drained O (emptied P p) (emptied S p)) $ split ! $ move ! (2 ∷ 0 ∷ []) $
        use2 𝓛 (‵ (each_at V (drained (p ∷ O) P) (drained (p ∷ O) S))) (glue_at (at_place P p) (drained O (emptied P p)) (at_place S p) (drained O (emptied S p))) $
        done !

    -- all are put back, with other values
    pub rows_refilled : (O : List ℕ) (P : List (List Ptr)) (S : List (List V.Denot)) (ws : List V.Denot) → sizes P ≡ sizes S
        → ent 𝓤 (sep 𝓤 (sem 𝓛 (each_at V (drained O P) ws)) (sem 𝓛 (each_row (left_of O P) (left_of O S)))) (sem 𝓛 (each_row P (refilled O S ws)))
    rows_refilled [] P S ws alike = qed 𝓛 (‵ (each_at V [] ws) ∷ ‵ (each_row P S) ∷ []) ∵ drop ! $ done !
    rows_refilled (p ∷ O) P S ws alike =
        let c : length (at_place P p) ≡ length (at_place S p) = row_size P p ∙ ap (λ l. get_or l p 0) alike ∙ sym (row_size S p) in
        let rest : sizes (emptied P p) ≡ sizes (emptied S p) = sizes-emptied P p ∙ ap (λ l. set l p 0) alike ∙ sym (sizes-emptied S p) in
        let first : ℕ → Item 𝓤 = λ m. ‵ (each_at V (at_place P p) (take m ws)) in
        let second : ℕ → Item 𝓤 = λ m. ‵ (each_at V (drained O (emptied P p)) (drop_l m ws)) in
        let us = drop_l (length (at_place S p)) ws in
        qed 𝓛 (‵ (each_at V (drained (p ∷ O) P) ws) ∷ ‵ (each_row (left_of O (emptied P p)) (left_of O (emptied S p))) ∷ []) ∵
        use1 𝓛 (first (length (at_place P p)) ⊛ second (length (at_place P p))) (part_at (at_place P p) (drained O (emptied P p)) ws) $ split ! $
        rewrite ! 0 first c refl $ rewrite ! 1 second c refl $ move ! (1 ∷ 2 ∷ []) $
        use2 𝓛 (‵ (each_row (emptied P p) (refilled O (emptied S p) us))) (rows_refilled O (emptied P p) (emptied S p) us rest) $
        move ! (1 ∷ 0 ∷ []) $ by ! (row_in P (refilled O (emptied S p) us) p (take (length (at_place S p)) ws))
