-- Values are lent in another order than that of memory, and some of them not at all. Assumes `Logic`.
use mathlib.Core.Path.{◌≡◌, refl, sym, ap, ◌∙◌}
use Prim.Native.Nat.{ℕ}
use mathlib.Core.List.{List, [], ◌∷◌}
use lib.ListN.{length, length-map}
use seplogic.Ra.Ura.{Ura}
use base.Logic.{ent, emp, via, fst∗}
use contract.Fact.{fact_use}
use base.Fml.{Lft, Fml, ftrue, fsep}
use types.Logic.{Logic, sem}
use types.Kit.{Item, ‵, ◌⊛◌, some, pick, show, mean, ◌$◌, ◌∵◌, !, qed, by, move, use1, use2, split, fsplit, fjoin, rewrite, done}
use denote.RattleType.{RattleType}
use denote.RawPtr.{Ptr}
use denote.Sharing.{beside}
use denote.Struct.Lending.{Lends-both, Lends-nothing}
use Rattle.std.specs.Prelude.{map}
use Rattle.intmap_table.specs.Tables.Slots.{joined}
use Rattle.intmap_table.specs.Apart.{each_at, places_of, contents_of}
use Rattle.intmap_table.proofs.Lending.OpensLemmas.{Cells, Lie, Opening, Lends-as, Beside, length-each_at}
use Rattle.intmap_table.proofs.Lending.ChosenLemmas.{drained, left_of, refilled, sizes, map-joined, map-drained, each_row, rows_in, rows_out, rows_drained, rows_refilled}

pub sizes-map : {X Y : Type 0} (f : X → Y) (R : List (List X)) → sizes (map (map f) R) ≡ sizes R
sizes-map f [] = refl
sizes-map f (r ∷ R) = λ i. length-map r f i ∷ sizes-map f R i

-- The cells lie in rows that hold the values S. Rows are lent in the order of a list of places, and a row at none of these places stays behind
module _ {M : Type 1} {𝓤 : Ura M} {𝓛 : Logic 𝓤} {V : RattleType} {l : Lft} {own : Fml} {again : List V.Denot → Fml} {n : ℕ}
    {Y : Type 0} {cells : Y → Cells V} {shown : Y → Lft → Fml} {Known : Y → Type 0}
    (O : Opening 𝓛 V l own again n cells shown Known) (order : List ℕ)
    (R : Y → List (Cells V)) (rowed : (y : Y) → joined (R y) ≡ cells y)
    (S : List (List V.Denot)) (old : (y : Y) → Known y → map contents_of (R y) ≡ S) where
  -- the rows of cells, and where these lie
  abbrev pub Rows : O.Info → List (Cells V)
  Rows i = R (O.holed i)

  abbrev pub places : O.Info → List (List Ptr)
  places i = map places_of (Rows i)

  abbrev pub taken : O.Info → Cells V
  taken i = drained order (Rows i)

  -- the rows that stay behind
  abbrev pub rest : O.Info → Fml
  rest i = each_row V (left_of order (places i)) (left_of order S)

  abbrev pub Chosen : O.Info → Item 𝓤
  Chosen i = ‵ (Lie V (taken i)) ⊛ ‵ (fsep (O.frame i) (rest i))

  pub valued : (i : O.Info) → contents_of (taken i) ≡ drained order S
  valued i = map-drained (λ c. c.1) order (Rows i) ∙ ap (drained order) (old (O.holed i) (O.known i))

  pub placed : (i : O.Info) → places_of (taken i) ≡ drained order (places i)
  placed i = map-drained (λ c. c.0) order (Rows i)

  pub alike : (i : O.Info) → sizes (places i) ≡ sizes S
  alike i = sizes-map (λ c. c.0) (Rows i) ∙ sym (sizes-map (λ c. c.1) (Rows i)) ∙ ap sizes (old (O.holed i) (O.known i))

  pub chosen_out : ent 𝓤 (sem 𝓛 own) (mean 𝓛 (some Chosen))
  chosen_out = qed 𝓛 (‵ own ∷ []) ∵ use1 𝓛 (some (λ (i : O.Info). ‵ (Lie V (cells (O.holed i))) ⊛ ‵ (O.frame i))) O.out $ pick ! (λ i. split ! $
      rewrite ! 0 (λ (cs : Cells V). ‵ (Lie V cs)) (sym (rowed (O.holed i))) refl $
      use1 𝓛 (‵ (each_row V (places i) (map contents_of (Rows i)))) (rows_out V 𝓛 (Rows i)) $
      rewrite ! 0 (λ (T : List (List V.Denot)). ‵ (each_row V (places i) T)) (old (O.holed i) (O.known i)) refl $
      use1 𝓛 (‵ (each_at V (drained order (places i)) (drained order S)) ⊛ ‵ (rest i)) (rows_drained V 𝓛 order (places i) S) $ split ! $
      rewrite ! 0 (λ (ps : List Ptr). ‵ (each_at V ps (drained order S))) (sym (placed i)) refl $
      rewrite ! 0 (λ (vs : List V.Denot). ‵ (each_at V (places_of (taken i)) vs)) (sym (valued i)) refl $
      -- [the cells that are lent; those that stay behind; the frame]
      move ! (2 ∷ 1 ∷ []) $ fjoin ! $ show ! (λ (i : O.Info). mean 𝓛 (Chosen i)) i $ move ! (1 ∷ []) $ done !)

  pub chosen_back : (i : O.Info) (ws : List V.Denot) → ent 𝓤 (Beside 𝓛 V (taken i) ws (fsep (O.frame i) (rest i))) (sem 𝓛 (again (joined (refilled order S ws))))
  chosen_back i ws =
      let T = refilled order S ws in
      qed 𝓛 (‵ (each_at V (places_of (taken i)) ws) ∷ ‵ (fsep (O.frame i) (rest i)) ∷ []) ∵
      rewrite ! 0 (λ (ps : List Ptr). ‵ (each_at V ps ws)) (placed i) refl $ move ! (1 ∷ []) $ fsplit ! $ move ! (2 ∷ 1 ∷ []) $
      use2 𝓛 (‵ (each_row V (places i) T)) (rows_refilled V 𝓛 order (places i) S ws (alike i)) $
      use1 𝓛 (‵ (each_at V (joined (places i)) (joined T))) (rows_in V 𝓛 (places i) T) $
      rewrite ! 0 (λ (ps : List Ptr). ‵ (each_at V ps (joined T))) (sym (map-joined (λ c. c.0) (Rows i)) ∙ ap places_of (rowed (O.holed i))) refl $
      by ! (O.back i (joined T))

  abbrev pub chosen : Opening 𝓛 V l own (λ ws. again (joined (refilled order S ws))) (length (drained order S)) (λ y. drained order (R y)) shown Known
  chosen = record {
    Info = O.Info;
    holed = O.holed;
    known = O.known;
    counts = λ i. sym (length-map (taken i) (λ c. c.1)) ∙ ap length (valued i);
    frame = λ i. fsep (O.frame i) (rest i);
    out = chosen_out;
    back = chosen_back;
    lends = λ i. Lends-as 𝓛 (fsep (O.frame i) (rest i)) (beside (shown (O.holed i)) (λ κ. ftrue)) (shown (O.holed i)) l
        (Lends-both 𝓛 (O.frame i) (rest i) (shown (O.holed i)) (λ κ. ftrue) l (O.lends i) (Lends-nothing 𝓛 (rest i) l))
        (λ κ. fst∗ 𝓤 (sem 𝓛 (shown (O.holed i) κ)) (emp 𝓤));
  }

-- Only lists of as many values as there are cells come back
module _ {M : Type 1} {𝓤 : Ura M} {𝓛 : Logic 𝓤} {V : RattleType} {l : Lft} {own : Fml} {again : List V.Denot → Fml} {n : ℕ}
    {Y : Type 0} {cells : Y → Cells V} {shown : Y → Lft → Fml} {Known : Y → Type 0}
    (O : Opening 𝓛 V l own again n cells shown Known) (again' : List V.Denot → Fml) (whole : (ws : List V.Denot) → length ws ≡ n → ent 𝓤 (sem 𝓛 (again ws)) (sem 𝓛 (again' ws))) where
  pub whole_back : (i : O.Info) (ws : List V.Denot) → ent 𝓤 (Beside 𝓛 V (cells (O.holed i)) ws (O.frame i)) (sem 𝓛 (again' ws))
  whole_back i ws =
      let cs = cells (O.holed i) in
      let at = sem 𝓛 (each_at V (places_of cs) ws) in
      fact_use 𝓤 (length ws ≡ length (places_of cs)) (via 𝓤 _ (fst∗ 𝓤 at (sem 𝓛 (O.frame i))) (length-each_at V 𝓛 (places_of cs) ws))
      (λ long. via 𝓤 _ (O.back i ws) (whole ws (long ∙ length-map cs (λ c. c.0) ∙ O.counts i)))

  abbrev pub whole_if : Opening 𝓛 V l own again' n cells shown Known
  whole_if = record { Info = O.Info; holed = O.holed; known = O.known; counts = O.counts; frame = O.frame; out = O.out; back = whole_back; lends = O.lends }
