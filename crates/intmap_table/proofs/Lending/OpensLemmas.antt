-- Values are lent out of what owns them, and what is left is shared with holes in their places. Assumes `Logic`.
use mathlib.Core.Path.{◌≡◌, refl, sym, ap, subst, ◌∙◌}
use Prim.Native.Nat.{ℕ, suc, ◌+◌}
use native.Mathlib.Omega.{arith}
use mathlib.Core.List.{List, [], ◌∷◌, ◌++◌}
use lib.ListN.{length, take, drop as drop_l, length-append}
use seplogic.Ra.Ura.{Ura}
use base.Fraction.{full_share}
use base.Logic.{SProp, ent, sep, emp, via, id⊢, mono_l, never_e}
use base.Fml.{Lft, Fml, ftrue, ffalse, fsep}
use contract.Monad.{fact}
use contract.Fact.{fact_i}
use prog.Memory.{size}
use types.Logic.{Logic, sem, lfts}
use types.Kit.{Item, ‵, ◌⊛◌, some, pick, show, mean, given, ◌$◌, ◌∵◌, !, qed, by, learn, move, keep, drop, use1, use2, split, fsplit, fjoin, rewrite, done}
use denote.RattleType.{RattleType}
use denote.RawPtr.{Ptr, lies_at}
use denote.Steps.{nothing}
use denote.Sharing.{beside}
use denote.Memory.{part_at, shared_of, lone, each_shared}
use denote.Index.{row}
use denote.Struct.Lending.{Lends, Lends-both, Lends-nothing}
use Rattle.std.specs.Prelude.{map}
use Rattle.std.proofs.lemmas.List.{take-take, drop-take, drop-drop}
use Rattle.intmap_table.specs.Apart.{each_at, places_of, contents_of}

module _ (V : RattleType) where
  abbrev pub Cells : Type 0
  Cells = List (Ptr × V.Denot)

  -- the values of cells in their places
  abbrev pub Lie : Cells → Fml
  Lie cs = each_at V (places_of cs) (contents_of cs)

  module _ {M : Type 1} {𝓤 : Ura M} (𝓛 : Logic 𝓤) where
    -- there are as many values as places
    pub length-each_at : (ps : List Ptr) (ws : List V.Denot) → ent 𝓤 (sem 𝓛 (each_at V ps ws)) (fact 𝓤 (length ws ≡ length ps))
    length-each_at [] [] = fact_i 𝓤 _ (emp 𝓤) refl
    length-each_at [] (w ∷ ws) = never_e 𝓤 _
    length-each_at (p ∷ ps) [] = never_e 𝓤 _
    length-each_at (p ∷ ps) (w ∷ ws) = qed 𝓛 (‵ (lies_at V full_share p w) ∷ ‵ (each_at V ps ws) ∷ []) ∵ drop ! $
        use1 𝓛 (given (length ws ≡ length ps) (‵ ftrue)) (length-each_at ps ws) $
        learn ! (λ e. by ! (fact_i 𝓤 (suc (length ws) ≡ suc (length ps)) (emp 𝓤) (ap suc e)))

    -- cells, and further ones
    pub glue : (cs ds : Cells) → ent 𝓤 (sep 𝓤 (sem 𝓛 (Lie cs)) (sem 𝓛 (Lie ds))) (sem 𝓛 (Lie (cs ++ ds)))
    glue [] ds = qed 𝓛 (‵ (Lie []) ∷ ‵ (Lie ds) ∷ []) ∵ drop ! $ done !
    glue (c ∷ cs) ds = qed 𝓛 (‵ (Lie (c ∷ cs)) ∷ ‵ (Lie ds) ∷ []) ∵ fsplit ! $ move ! (1 ∷ 2 ∷ []) $
        use2 𝓛 (‵ (Lie (cs ++ ds))) (glue cs ds) $ move ! (1 ∷ []) $ fjoin ! $ done !

    -- and apart again, with other values
    pub part : (cs ds : Cells) (ws : List V.Denot)
        → ent 𝓤 (sem 𝓛 (each_at V (places_of (cs ++ ds)) ws)) (sep 𝓤 (sem 𝓛 (each_at V (places_of cs) (take (length cs) ws)))
        (sem 𝓛 (each_at V (places_of ds) (drop_l (length cs) ws))))
    part [] ds ws = qed 𝓛 (‵ (each_at V (places_of ds) ws) ∷ []) ∵ nothing ! $ done !
    part (c ∷ cs) ds [] = never_e 𝓤 _
    part (c ∷ cs) ds (w ∷ ws) = qed 𝓛 (‵ (each_at V (places_of (c ∷ cs ++ ds)) (w ∷ ws)) ∷ []) ∵ fsplit ! $ move ! (1 ∷ []) $
        use1 𝓛 (‵ (each_at V (places_of cs) (take (length cs) ws)) ⊛ ‵ (each_at V (places_of ds) (drop_l (length cs) ws)))
        (part cs ds ws) $ split ! $ move ! (2 ∷ 0 ∷ []) $ fjoin ! $ done !

-- what is shown of what is lent may be shown as something else
pub Lends-as : {M : Type 1} {𝓤 : Ura M} (𝓛 : Logic 𝓤) (F : Fml) (t t' : Lft → Fml) (l : Lft) → Lends 𝓛 F t l
    → ((κ : Lft) → ent 𝓤 (sem 𝓛 (t κ)) (sem 𝓛 (t' κ))) → Lends 𝓛 F t' l
Lends-as {𝓤 = 𝓤} 𝓛 F t t' l lent shows κ ts inc sp = via 𝓤 (𝓛.H.⇛ (sep 𝓤 (sem 𝓛 (t κ)) (lfts 𝓛 ts))) (lent κ ts inc sp)
    (𝓛.laws.⇛_mono (sep 𝓤 (sem 𝓛 (t κ)) (lfts 𝓛 ts)) (sep 𝓤 (sem 𝓛 (t' κ)) (lfts 𝓛 ts))
    (mono_l 𝓤 {P = sem 𝓛 (t κ)} {P' = sem 𝓛 (t' κ)} (lfts 𝓛 ts) (shows κ)))

-- these values in the places of cells, and what lies beside them
abbrev pub Beside : {M : Type 1} {𝓤 : Ura M} (𝓛 : Logic 𝓤) (V : RattleType) → Cells V → List V.Denot → Fml → SProp 𝓤
Beside {𝓤 = 𝓤} 𝓛 V cs ws F = sep 𝓤 (sem 𝓛 (each_at V (places_of cs) ws)) (sem 𝓛 F)

-- What owns values of V in cells is taken apart: into the cells, and a rest that is lent, up to l, as some y with a hole in the place of
-- each value. With other values in the cells it is put together again.
pub record Opening {M : Type 1} {𝓤 : Ura M} (𝓛 : Logic 𝓤) (V : RattleType) (l : Lft) (own : Fml) (again : List V.Denot → Fml) (count : ℕ)
    {Y : Type 0} (cells : Y → Cells V) (shown : Y → Lft → Fml) (Known : Y → Type 0) : Type 2 where
  -- what is learned as it is taken apart
  pub Info : Type 0
  pub holed : Info → Y
  pub known : (i : Info) → Known (holed i)
  pub counts : (i : Info) → length (cells (holed i)) ≡ count
  -- the rest in memory
  pub frame : Info → Fml
  pub out : ent 𝓤 (sem 𝓛 own) (mean 𝓛 (some (λ i. ‵ (Lie V (cells (holed i))) ⊛ ‵ (frame i))))
  pub back : (i : Info) (ws : List V.Denot) → ent 𝓤 (Beside 𝓛 V (cells (holed i)) ws (frame i)) (sem 𝓛 (again ws))
  pub lends : (i : Info) → Lends 𝓛 (frame i) (shown (holed i)) l

-- What own says to lie in memory opens at each value x: at as many cells as count says, and with other values it is what put says.
-- What stands for x with holes shows its cells, and is x again once it is filled.
pub record Opens {M : Type 1} {𝓤 : Ura M} (𝓛 : Logic 𝓤) (V : RattleType) {X Y : Type 0}
    (own : X → ℕ → ℕ → Fml) (shown : Y → ℕ → ℕ → Lft → Fml) (l : Lft) : Type 2 where
  pub count : X → ℕ
  pub put : X → List V.Denot → X
  pub fill : Y → X
  pub cells_in : Y → Cells V
  pub opens : (x : X) (b o : ℕ)
      → Opening 𝓛 V l (own x b o) (λ ws. own (put x ws) b o) (count x) cells_in (λ y. shown y b o) (λ y. fill y ≡ x)

-- a value of R in memory is lent as one of R'
abbrev pub OpensAs : {M : Type 1} {𝓤 : Ura M} (𝓛 : Logic 𝓤) (V R R' : RattleType) (l : Lft) → Type 2
OpensAs 𝓛 V R R' l = Opens 𝓛 V (part_at R full_share) (shared_of R') l

module _ {M : Type 1} {𝓤 : Ura M} (𝓛 : Logic 𝓤) (V : RattleType) (l : Lft) where
  -- what owns none of the values is lent as it is
  abbrev pub still : (F : Fml) (t : Lft → Fml) → Lends 𝓛 F t l → Opening 𝓛 V l F (λ ws. F) 0 {Y = Unit {0}} (λ y. []) (λ y. t) (λ y. Unit {0})
  still F t lent = record {
    Info = Unit {0};
    holed = λ i. tt;
    known = λ i. tt;
    counts = λ i. refl;
    frame = λ i. F;
    out = qed 𝓛 (‵ F ∷ []) ∵ show ! (λ (i : Unit {0}). mean 𝓛 (‵ (Lie V []) ⊛ ‵ F)) tt $ nothing ! $ done !;
    back = λ i ws. qed 𝓛 (‵ (each_at V [] ws) ∷ ‵ F ∷ []) ∵ keep ! (1 ∷ []) $ done !;
    lends = λ i. lent;
  }

  -- nothing is lent of what can't be
  abbrev pub lost : {again : List V.Denot → Fml} {count : ℕ} {Y : Type 0} {cells : Y → Cells V} {shown : Y → Lft → Fml} {Known : Y → Type 0}
      → Opening 𝓛 V l ffalse again count cells shown Known
  lost = record {
    Info = ⊥;
    holed = λ i. absurd i;
    known = λ i. absurd i;
    counts = λ i. absurd i;
    frame = λ i. ffalse;
    out = never_e 𝓤 _;
    back = λ i ws. absurd i;
    lends = λ i. absurd i;
  }

module _ {M : Type 1} {𝓤 : Ura M} {𝓛 : Logic 𝓤} {V : RattleType} {l : Lft} {again : List V.Denot → Fml} {n : ℕ}
    {Y : Type 0} {cells : Y → Cells V} {shown : Y → Lft → Fml} {Known : Y → Type 0} where
  -- one of several
  module _ {A : Type 0} (own : A → Fml) (O : (a : A) → Opening 𝓛 V l (own a) again n cells shown Known) where
    abbrev pub Apart : (a : A) × (O a).Info → Item 𝓤
    Apart k = ‵ (Lie V (cells ((O k.0).holed k.1))) ⊛ ‵ ((O k.0).frame k.1)

    pub any_out : (own' : Fml) → ent 𝓤 (sem 𝓛 own') (mean 𝓛 (some (λ a. ‵ (own a)))) → ent 𝓤 (sem 𝓛 own') (mean 𝓛 (some Apart))
    any_out own' one = qed 𝓛 (‵ own' ∷ []) ∵ use1 𝓛 (some (λ (a : A). ‵ (own a))) one $ pick ! (λ a.
        use1 𝓛 (some (λ (i : (O a).Info). Apart (a, i))) (O a).out $ pick ! (λ i. show ! (λ k. mean 𝓛 (Apart k)) (a, i) $ done !))

    abbrev pub any : {own' : Fml} → ent 𝓤 (sem 𝓛 own') (mean 𝓛 (some (λ a. ‵ (own a)))) → Opening 𝓛 V l own' again n cells shown Known
    any {own'} one = record {
      Info = (a : A) × (O a).Info;
      holed = λ k. (O k.0).holed k.1;
      known = λ k. (O k.0).known k.1;
      counts = λ k. (O k.0).counts k.1;
      frame = λ k. (O k.0).frame k.1;
      out = any_out own' one;
      back = λ k. (O k.0).back k.1;
      lends = λ k. (O k.0).lends k.1;
    }

  module _ {own : Fml} (O : Opening 𝓛 V l own again n cells shown Known) where
    abbrev pub cs : O.Info → Cells V
    cs i = cells (O.holed i)

    abbrev pub Open : O.Info → Item 𝓤
    Open i = ‵ (Lie V (cs i)) ⊛ ‵ (O.frame i)

    -- shown as something else
    module _ {own' : Fml} {again' : List V.Denot → Fml} {n' : ℕ} {Y' : Type 0} {cells' : Y' → Cells V} {shown' : Y' → Lft → Fml}
        {Known' : Y' → Type 0}
        (f : (y : Y) → Known y → Y') (apart : ent 𝓤 (sem 𝓛 own') (sem 𝓛 own))
        (whole : (ws : List V.Denot) → ent 𝓤 (sem 𝓛 (again ws)) (sem 𝓛 (again' ws))) (counted : n ≡ n')
        (celled : (y : Y) (k : Known y) → cells y ≡ cells' (f y k)) (knows : (y : Y) (k : Known y) → Known' (f y k))
        (shows : (y : Y) (k : Known y) (κ : Lft) → ent 𝓤 (sem 𝓛 (shown y κ)) (sem 𝓛 (shown' (f y k) κ))) where
      abbrev pub seen_as : Opening 𝓛 V l own' again' n' cells' shown' Known'
      seen_as = record {
        Info = O.Info;
        holed = λ i. f (O.holed i) (O.known i);
        known = λ i. knows (O.holed i) (O.known i);
        counts = λ i. ap length (sym (celled (O.holed i) (O.known i))) ∙ O.counts i ∙ counted;
        frame = O.frame;
        out = subst (λ (c : O.Info → Cells V). ent 𝓤 (sem 𝓛 own') (mean 𝓛 (some (λ i. ‵ (Lie V (c i)) ⊛ ‵ (O.frame i)))))
            (λ j i. celled (O.holed i) (O.known i) j) (via 𝓤 _ apart O.out);
        back = λ i ws. subst (λ (c : Cells V). ent 𝓤 (Beside 𝓛 V c ws (O.frame i)) (sem 𝓛 (again' ws)))
            (celled (O.holed i) (O.known i)) (via 𝓤 _ (O.back i ws) (whole ws));
        lends = λ i. Lends-as 𝓛 (O.frame i) (shown (O.holed i)) (shown' (f (O.holed i) (O.known i))) l (O.lends i) (shows (O.holed i) (O.known i));
      }

    -- beside what owns none of the values
    module _ (F : Fml) where
      abbrev pub Framed : O.Info → Item 𝓤
      Framed i = ‵ (Lie V (cs i)) ⊛ ‵ (fsep (O.frame i) F)

      pub framed_out : ent 𝓤 (sem 𝓛 (fsep own F)) (mean 𝓛 (some Framed))
      framed_out = qed 𝓛 (‵ (fsep own F) ∷ []) ∵ fsplit ! $ use1 𝓛 (some Open) O.out $ pick ! (λ i. split ! $
          move ! (1 ∷ 2 ∷ []) $ fjoin ! $ show ! (λ (i : O.Info). mean 𝓛 (Framed i)) i $ move ! (1 ∷ []) $ done !)

      pub framed_back : (i : O.Info) (ws : List V.Denot) → ent 𝓤 (Beside 𝓛 V (cs i) ws (fsep (O.frame i) F)) (sem 𝓛 (fsep (again ws) F))
      framed_back i ws = qed 𝓛 (‵ (each_at V (places_of (cs i)) ws) ∷ ‵ (fsep (O.frame i) F) ∷ []) ∵ move ! (1 ∷ []) $ fsplit ! $
          move ! (2 ∷ []) $ use2 𝓛 (‵ (again ws)) (O.back i ws) $ fjoin ! $ done !

      abbrev pub framed : (t : Lft → Fml) → Lends 𝓛 F t l → Opening 𝓛 V l (fsep own F) (λ ws. fsep (again ws) F) n cells
          (λ y. beside (shown y) t) Known
      framed t lent = record {
        Info = O.Info;
        holed = O.holed;
        known = O.known;
        counts = O.counts;
        frame = λ i. fsep (O.frame i) F;
        out = framed_out;
        back = framed_back;
        lends = λ i. Lends-both 𝓛 (O.frame i) F (shown (O.holed i)) t l (O.lends i) lent;
      }

    -- beside what owns further ones: the first one takes its values first
    module _ {own₂ : Fml} {again₂ : List V.Denot → Fml} {n₂ : ℕ} {Y₂ : Type 0} {cells₂ : Y₂ → Cells V} {shown₂ : Y₂ → Lft → Fml}
        {Known₂ : Y₂ → Type 0} (O₂ : Opening 𝓛 V l own₂ again₂ n₂ cells₂ shown₂ Known₂) where
      abbrev pub ds : O₂.Info → Cells V
      ds j = cells₂ (O₂.holed j)

      abbrev pub both_again : List V.Denot → Fml
      both_again ws = fsep (again (take n ws)) (again₂ (drop_l n ws))

      abbrev pub both_frame : O.Info × O₂.Info → Fml
      both_frame k = fsep (O.frame k.0) (O₂.frame k.1)

      abbrev pub Both : O.Info × O₂.Info → Item 𝓤
      Both k = ‵ (Lie V (cs k.0 ++ ds k.1)) ⊛ ‵ (both_frame k)

      pub both_out : ent 𝓤 (sem 𝓛 (fsep own own₂)) (mean 𝓛 (some Both))
      both_out = qed 𝓛 (‵ (fsep own own₂) ∷ []) ∵ fsplit ! $ use1 𝓛 (some Open) O.out $ pick ! (λ i. split ! $ move ! (2 ∷ []) $
          use1 𝓛 (some (λ (j : O₂.Info). ‵ (Lie V (ds j)) ⊛ ‵ (O₂.frame j))) O₂.out $ pick ! (λ j. split ! $
          -- [cells and frame of the second; of the first]
          move ! (2 ∷ 0 ∷ []) $ use2 𝓛 (‵ (Lie V (cs i ++ ds j))) (glue V 𝓛 (cs i) (ds j)) $
          move ! (2 ∷ 1 ∷ []) $ fjoin ! $ show ! (λ k. mean 𝓛 (Both k)) (i, j) $ move ! (1 ∷ []) $ done !))

      pub both_back : (k : O.Info × O₂.Info) (ws : List V.Denot) → ent 𝓤 (Beside 𝓛 V (cs k.0 ++ ds k.1) ws (both_frame k)) (sem 𝓛 (both_again ws))
      both_back k ws =
          let first : ℕ → Item 𝓤 = λ m. ‵ (each_at V (places_of (cs k.0)) (take m ws)) in
          let second : ℕ → Item 𝓤 = λ m. ‵ (each_at V (places_of (ds k.1)) (drop_l m ws)) in
          qed 𝓛 (‵ (each_at V (places_of (cs k.0 ++ ds k.1)) ws) ∷ ‵ (both_frame k) ∷ []) ∵
          use1 𝓛 (first (length (cs k.0)) ⊛ second (length (cs k.0))) (part V 𝓛 (cs k.0) (ds k.1) ws) $ split ! $
          rewrite ! 0 first (O.counts k.0) refl $ rewrite ! 1 second (O.counts k.0) refl $ move ! (2 ∷ []) $ fsplit ! $
          -- [the frames; the cells]
          move ! (2 ∷ 0 ∷ []) $ use2 𝓛 (‵ (again (take n ws))) (O.back k.0 (take n ws)) $
          move ! (2 ∷ 1 ∷ []) $ use2 𝓛 (‵ (again₂ (drop_l n ws))) (O₂.back k.1 (drop_l n ws)) $ move ! (1 ∷ []) $ fjoin ! $ done !

      abbrev pub both : Opening 𝓛 V l (fsep own own₂) both_again (n + n₂) {Y = Y × Y₂}
          (λ y. cells y.0 ++ cells₂ y.1) (λ y. beside (shown y.0) (shown₂ y.1)) (λ y. Known y.0 × Known₂ y.1)
      both = record {
        Info = O.Info × O₂.Info;
        holed = λ k. (O.holed k.0, O₂.holed k.1);
        known = λ k. (O.known k.0, O₂.known k.1);
        counts = λ k. length-append (cs k.0) (ds k.1) ∙ (λ j. O.counts k.0 j + O₂.counts k.1 j);
        frame = both_frame;
        out = both_out;
        back = both_back;
        lends = λ k. Lends-both 𝓛 (O.frame k.0) (O₂.frame k.1) (shown (O.holed k.0)) (shown₂ (O₂.holed k.1)) l (O.lends k.0) (O₂.lends k.1);
      }

-- of elements side by side: each takes its values, the first ones first
abbrev pub row_count : {X : Type 0} → (X → ℕ) → List X → ℕ
row_count count [] = 0
row_count count (x ∷ xs) = count x + row_count count xs

abbrev pub row_put : {X W : Type 0} → (X → ℕ) → (X → List W → X) → List X → List W → List X
row_put count put [] ws = []
row_put count put (x ∷ xs) ws = put x (take (count x) ws) ∷ row_put count put xs (drop_l (count x) ws)

pub length-row_put : {X W : Type 0} (count : X → ℕ) (put : X → List W → X) (xs : List X) (ws : List W) → length (row_put count put xs ws) ≡ length xs
length-row_put count put [] ws = refl
length-row_put count put (x ∷ xs) ws = ap suc (length-row_put count put xs (drop_l (count x) ws))

abbrev pub row_cells_in : {Y C : Type 0} → (Y → List C) → List Y → List C
row_cells_in cells_in [] = []
row_cells_in cells_in (h ∷ hs) = cells_in h ++ row_cells_in cells_in hs

pub row_put-append : {X W : Type 0} (count : X → ℕ) (put : X → List W → X) (xs ys : List X) (ws : List W)
    → row_put count put xs (take (row_count count xs) ws) ++ row_put count put ys (drop_l (row_count count xs) ws) ≡ row_put count put (xs ++ ys) ws
row_put-append count put [] ys ws = refl
row_put-append count put (x ∷ xs) ys ws =
    let c = count x in let n = row_count count xs in let rows = row_put count put in
    (λ i. put x (take-take c (c + n) ws (omega arith) i) ∷ rows xs (drop-take c n ws i) ++ rows ys (sym (drop-drop n c ws) i))
    ∙ ap (λ zs. put x (take c ws) ∷ zs) (row_put-append count put xs ys (drop_l c ws))

abbrev pub row_opens : {M : Type 1} {𝓤 : Ura M} (𝓛 : Logic 𝓤) (V R R' : RattleType) (l : Lft) (O : OpensAs 𝓛 V R R' l) (xs : List R.Denot) (b o : ℕ)
    → Opening 𝓛 V l (row R full_share xs b o) (λ ws. row R full_share (row_put O.count O.put xs ws) b o) (row_count O.count xs)
    (row_cells_in O.cells_in)
    (λ hs. each_shared hs (shared_of R') (size (lone R.mir)) b o) (λ hs. map O.fill hs ≡ xs)
row_opens {𝓤 = 𝓤} 𝓛 V R R' l O [] b o = seen_as (still 𝓛 V l ftrue (λ κ. ftrue) (Lends-nothing 𝓛 ftrue l)) (λ y k. []) (id⊢ 𝓤 _)
    (λ ws. id⊢ 𝓤 _) refl (λ y k. refl) (λ y k. refl) (λ y k κ. id⊢ 𝓤 _)
row_opens {𝓤 = 𝓤} 𝓛 V R R' l O (x ∷ xs) b o = seen_as (both (O.opens x b o) (row_opens 𝓛 V R R' l O xs b (o + size (lone R.mir))))
    (λ y k. y.0 ∷ y.1) (id⊢ 𝓤 _) (λ ws. id⊢ 𝓤 _) refl (λ y k. refl) (λ y k j. k.0 j ∷ k.1 j) (λ y k κ. id⊢ 𝓤 _)
