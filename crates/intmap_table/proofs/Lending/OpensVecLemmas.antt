-- What is lent of a `Vec` at holes, if its elements can be. Assumes `Logic`.
use mathlib.Core.Path.{◌≡◌, refl, sym, ap, ◌∙◌, subst}
use mathlib.Core.Bool.{Bool, true, false, not}
use Prim.Native.Nat.{ℕ, ◌-◌, ◌*◌, ◌≤◌, ◌^◌}
use native.Mathlib.Omega.{arith}
use native.Mathlib.Nat.{suc-ne-zero, zero-add, ℕ_set}
use native.Mathlib.Bridge.{le_prop}
use mathlib.Core.List.{List, [], ◌∷◌}
use lib.Dec.{T, eqb, eqb→eq}
use lib.ListN.{length, length-map}
use mathlib.Core.HLevel.{is_prop→PathP}
use Rattle.std.specs.Prelude.{map}
use seplogic.Ra.Ura.{Ura}
use base.Fraction.{full_share}
use base.Logic.{ent, emp, id⊢, via, mono_l, fst∗}
use base.Fml.{Lft, Fml, Incl, ftrue, fsep, flt, feq}
use mir.Syntax.{ty_array}
use mir.Raw.{raw as bare}
use prog.Memory.{size}
use types.Logic.{Logic, sem}
use types.Kit.{‵, ◌$◌, ◌∵◌, !, qed, by, use1, fsplit, fjoin, feq_i, feq_l, rewrite, done}
use denote.RattleType.{RattleType, lives_all}
use denote.RawPtr.{Ptr, block_ptr, null_ptr, lies_at, room_for, in_block, ◌+ₚ◌}
use denote.Array.{Array}
use denote.ArrayMemory.{Single, Array-apart, Array-whole}
use denote.Sharing.{said}
use denote.Steps.{nothing}
use denote.Memory.{part_at, shared_of, lone, each_shared}
use denote.Index.{row}
use denote.Shares.{Shares, Shares-less}
use denote.Param.Laws.{Laws, row_shared}
use denote.Param.Shared.{copy_shared, parts_share}
use denote.Struct.Field.{Field, RawPtr-field, usize-field, row_field, rows}
use denote.Struct.Laws.{RawPtr-copy, usize-copy}
use denote.Struct.Lending.{lent_at, Lends, Lends-nothing, Lends-said}
use denote.Struct.Owning.{Owning, shape, to}
use denote.Struct.OwningLaws.{part_out, part_in}
use denote.Struct.Struct.{Struct}
use Rattle.std.specs.declared.alloc.Allocator.{Ghosts}
use Rattle.std.specs.declared.vec.Vec.{Vec}
use Rattle.std.specs.contracts.vec.Vec as V-type
use Rattle.std.specs.Vec.Ownership.{owns_if}
use Rattle.intmap_table.proofs.Lending.OpensLemmas.{OpensAs, Opening, still, lost, seen_as, framed, both, row_count, row_put, length-row_put, row_cells_in, row_opens}

pub none : {X : Type 0} (xs : List X) → length xs ≡ 0 → xs ≡ []
none [] e = refl
none (x ∷ xs) e = absurd (suc-ne-zero (length xs) e)

-- a `Vec` with as many other elements
abbrev pub with_items : {X Y B : Type 0} (d : Vec X B) (ys : List Y) → length d.items ≡ length ys → Vec Y B
with_items d ys e = record { ptr = d.ptr; len = d.len; cap = d.cap; alloc = d.alloc; items = ys; ok = (d.ok.0 ∙ e, d.ok.1); small = d.small }

module _ {M : Type 1} {𝓤 : Ura M} (𝓛 : Logic 𝓤) (V R R' : RattleType) (l : Lft) (O : OpensAs 𝓛 V R R' l)
    (same : size (lone R.mir) ≡ size (lone R'.mir)) (sg : Single R.mir) where
  abbrev pub puts : List R.Denot → List V.Denot → List R.Denot
  puts = row_put O.count O.put

  module _ (Spare : Ptr → Fml) (n : ℕ) where
    -- the block of a `Vec`, if it has one: its elements, and the room behind them
    abbrev pub Blk : Ptr → Bool → List R.Denot → Fml
    Blk p y xs = in_block p (owns_if y (fsep (lies_at (Array R n) full_share p xs) (Spare p)))

    -- the elements of a block
    pub elements_in : (xs : List R.Denot) (b o : ℕ) → n ≡ length xs → ent 𝓤 (sem 𝓛 (row R full_share xs b o))
        (sem 𝓛 (part_at (Array R n) full_share xs b o))
    elements_in xs b o lens = qed 𝓛 (‵ (row R full_share xs b o) ∷ []) ∵ feq_i ! ℕ (length xs) n (sym lens) $ fjoin ! $
        by ! (Array-whole 𝓛 R full_share n xs b o)

    pub elements_out : (xs : List R.Denot) (b o : ℕ) → ent 𝓤 (sem 𝓛 (part_at (Array R n) full_share xs b o)) (sem 𝓛 (row R full_share xs b o))
    elements_out xs b o = qed 𝓛 (‵ (part_at (Array R n) full_share xs b o) ∷ []) ∵
        use1 𝓛 (‵ (fsep (feq ℕ (length xs) n) (row R full_share xs b o))) (Array-apart 𝓛 R full_share sg n xs b o) $ fsplit ! $ feq_l ! (λ e. done !)

    abbrev pub each : List R'.Denot → ℕ → ℕ → ℕ → Lft → Fml
    each hs k b o = each_shared hs (shared_of R') k b o

    -- what is lent of them
    pub shows : (hs : List R'.Denot) (b o : ℕ) (κ : Lft) → n ≡ length hs
        → ent 𝓤 (sem 𝓛 (each hs (size (lone R.mir)) b o κ)) (sem 𝓛 (lent_at (Array R' n) (block_ptr b o) hs κ))
    shows hs b o κ lens = qed 𝓛 (‵ (each hs (size (lone R.mir)) b o κ) ∷ []) ∵ rewrite ! 0 (λ (k : ℕ). ‵ (each hs k b o κ)) same refl $
        feq_i ! ℕ (length hs) n (sym lens) $ fjoin ! $ nothing ! $ fjoin ! $ done !

    -- the block is taken apart
    abbrev pub blk_opens : (c : ℕ) (xs : List R.Denot) → n ≡ length xs → n ≤ c → (p : Ptr) (y : Bool) → (T y → c ≡ 0)
        → Opening 𝓛 V l (Blk p (not y) xs) (λ ws. Blk p (not y) (puts xs ws)) (row_count O.count xs) (row_cells_in O.cells_in)
        (lent_at (Array R' n) p) (λ hs. map O.fill hs ≡ xs)
    blk_opens c xs lens le null_ptr y z = lost 𝓛 V l
    blk_opens c xs lens le (block_ptr b o) false z =
        let spare = Spare (block_ptr b o) in
        seen_as (framed (row_opens 𝓛 V R R' l O xs b o) spare (λ κ. ftrue) (Lends-nothing 𝓛 spare l))
        (λ hs k. hs) (mono_l 𝓤 (sem 𝓛 spare) (elements_out xs b o))
        (λ ws. mono_l 𝓤 (sem 𝓛 spare) (elements_in (puts xs ws) b o (lens ∙ sym (length-row_put O.count O.put xs ws))))
        refl (λ hs k. refl) (λ hs k. k) (λ hs k κ. via 𝓤 _ (fst∗ 𝓤 _ (emp 𝓤)) (shows hs b o κ (lens ∙ ap length (sym k) ∙ length-map hs O.fill)))
    blk_opens c xs lens le (block_ptr b o) true z =
        let c0 : c ≡ 0 = z tt in
        let n0 : length xs ≡ 0 = omega arith in
        let is : xs ≡ [] = none xs n0 in
        seen_as (still 𝓛 V l ftrue (λ κ. ftrue) (Lends-nothing 𝓛 ftrue l)) (λ y k. []) (id⊢ 𝓤 _) (λ ws. id⊢ 𝓤 _)
        (ap (row_count O.count) (sym is)) (λ y k. refl) (λ y k. sym is) (λ y k κ. shows [] b o κ (lens ∙ n0))

  module _ (B : RattleType) (G : Ghosts B.Denot) (LB : Laws B) (inc : Incl l
      (lives_all (rows (RawPtr-field ∷ usize-field ∷ usize-field ∷ row_field B ∷ [])))) where
    abbrev pub Ty' : Owning
    Ty' = V-type.the_type R B G

    abbrev pub Vr : RattleType
    Vr = V-type.the_row R B G

    abbrev pub fields : List Field
    fields = RawPtr-field ∷ usize-field ∷ usize-field ∷ row_field B ∷ []

    -- the pointer, the length, the capacity and the allocator
    abbrev pub Words : RattleType
    Words = Struct (shape Ty')

    abbrev pub D : Type 0
    D = Vec R.Denot B.Denot

    abbrev pub Spare : D → Ptr → Fml
    Spare d p = fsep (room_for (bare (ty_array (lone R.mir) (d.cap - d.len))) (p +ₚ d.len * size (lone R.mir)))
        (G.dealloc_token d.alloc (bare (ty_array (lone R.mir) d.cap)) p)

    abbrev pub bound : D → ℕ → Fml
    bound d k = flt (d.cap * k) (2 ^ 63)

    abbrev pub vec_holed : (d : D) (hs : List R'.Denot) → map O.fill hs ≡ d.items → Vec R'.Denot B.Denot
    vec_holed d hs k = with_items d hs (ap length (sym k) ∙ length-map hs O.fill)

    abbrev pub vec_put : D → List V.Denot → D
    vec_put d ws = with_items d (puts d.items ws) (sym (length-row_put O.count O.put d.items ws))

    abbrev pub vec_fill : Vec R'.Denot B.Denot → D
    vec_fill h = with_items h (map O.fill h.items) (sym (length-map h.items O.fill))

    pub vec_filled : (d : D) (hs : List R'.Denot) (k : map O.fill hs ≡ d.items) → vec_fill (vec_holed d hs k) ≡ d
    vec_filled d hs k = λ i. record {
      ptr = d.ptr;
      len = d.len;
      cap = d.cap;
      alloc = d.alloc;
      items = k i;
      small = d.small;
      ok = is_prop→PathP (λ j. (d.len ≡ length (k j)) × (d.len ≤ d.cap)) (λ j a b m. (ℕ_set _ _ a.0 b.0 m, le_prop a.1 b.1 m))
          (vec_fill (vec_holed d hs k)).ok d.ok i;
    }

    pub words_share : Shares 𝓛 Words l
    words_share = Shares-less 𝓛 Words (lives_all (rows fields)) l inc (parts_share 𝓛 fields [] [] []
        (copy_shared RawPtr-field RawPtr-copy, (copy_shared usize-field usize-copy, (copy_shared usize-field usize-copy, (row_shared B LB, tt)))))

    pub bound_shares : (d : D) → Lends 𝓛 (bound d (size (lone R.mir))) (said (bound d (size (lone R'.mir)))) l
    bound_shares d = subst (λ (k : ℕ). Lends 𝓛 (bound d k) (said (bound d (size (lone R'.mir)))) l) (sym same)
        (Lends-said 𝓛 (bound d (size (lone R'.mir))) tt l)

    -- if its elements can be lent at holes, so can a `Vec`
    abbrev pub vec_opens : OpensAs 𝓛 V Vr (V-type.the_row R' B G) l
    vec_opens = record {
      count = λ d. row_count O.count d.items;
      put = vec_put;
      fill = vec_fill;
      cells_in = λ d. row_cells_in O.cells_in d.items;
      opens = λ d b o. seen_as
          (both (still 𝓛 V l (part_at Words full_share (to Ty' d) b o) (shared_of Words (to Ty' d) b o) (λ κ ts. words_share (to Ty' d) κ ts b o))
          (both (still 𝓛 V l (bound d (size (lone R.mir))) (said (bound d (size (lone R'.mir)))) (bound_shares d))
          (blk_opens (Spare d) d.len d.cap d.items d.ok.0 d.ok.1 d.ptr (eqb d.cap 0) (eqb→eq d.cap 0))))
          (λ y k. vec_holed d y.1.1 k.1.1) (part_out 𝓛 Ty' full_share d b o) (λ ws. part_in 𝓛 Ty' full_share (vec_put d ws) b o)
          (zero-add _ ∙ zero-add _)
          (λ y k. refl) (λ y k. vec_filled d y.1.1 k.1.1) (λ y k κ. id⊢ 𝓤 _);
    }
