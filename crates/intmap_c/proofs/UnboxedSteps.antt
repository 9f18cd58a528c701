-- An `Unboxed` as what it owns: a value at its place, the right to free the block, and an allocator. Assumes `Logic`.
use Rattle.intmap_c.proofs.Words.{◌≡◌, ℕ, List, [], ◌∷◌, ◌++◌, refl, ap, ◌∙◌, Ura, T, true, ◌&&◌, impl, tnil, dnil, bare, Val, vptr, vstruct, vcons}
use Rattle.intmap_c.proofs.Words.{vnil, of_list, has_ty, WT, never, fst∗, Logic, sem, Item, Goal, Seq, Step, step, ‵, ◌$◌, move, drop, fsplit}
use Rattle.intmap_c.proofs.Words.{fsplit3, fjoin, fjoin3, fpick, fpack, feq_i, feq_l, RattleType, Valss, RawPtr, lone, layout, Laws, block_ptr}
use Rattle.intmap_c.proofs.Words.{null_ptr, ptr_val, in_a_block, nothing, shape, within, box_owns, Ghosts, Al, handle_tells, Good, and_tt}
use Rattle.intmap_c.specs.contracts.unboxed.Unboxed as unboxed

-- the machine value: a pointer and an allocator
abbrev pub parted : ℕ → ℕ → Val → Val
parted b o h = vstruct (vcons (vptr b o) (vcons h vnil))

module _ (R Z : RattleType) (L : Laws Z) (g : Ghosts Z.Denot) where
  abbrev pub Parts : RattleType
  Parts = unboxed.the_row R Z g

  abbrev allocator : Al
  allocator = record { row = Z; laws = L; g = g; d = impl [] tnil dnil; drops = impl [] tnil dnil }

  -- it has its type if the allocator has
  pub parted_fits : (b o : ℕ) (h : Val) → Good (layout Z) h → T (has_ty (layout Z) h && true) × WT (parted b o h)
  parted_fits b o h fits = (and_tt (has_ty (layout Z) h) fits.0, (tt, (fits.1, tt)))

  module _ {M : Type 1} {𝓤 : Ura M} {𝓛 : Logic 𝓤} {K : Type 0} {Γ : List (Item 𝓤)} {G : Goal 𝓤 𝓛.H} where
    pub parts_out : K → (d : Parts.Denot) (vs : List Val)
        → ((b o : ℕ) (h : Val) → d.at ≡ block_ptr b o → vs ≡ parted b o h ∷ [] → Good (layout Z) h
        → Seq K 𝓛 (‵ (box_owns (g.dealloc_token d.alloc) R (block_ptr b o) d.value) ∷ ‵ (Z.own_val d.alloc (h ∷ [])) ∷ Γ) G)
        → Seq K 𝓛 (‵ (Parts.own_val d vs) ∷ Γ) G
    parts_out t d vs rest =
        fsplit t $ fpick t (λ vss. fsplit3 t $ feq_l t (λ all. feq_l t (λ at. fsplit t $ handle_tells allocator t d.alloc vss.1.0 (λ h one fits.
        move t (1 ∷ []) $ drop t $ move t (1 ∷ []) $
        in_a_block t d.at (λ p. box_owns (g.dealloc_token d.alloc) R p d.value) (fst∗ 𝓤 (never 𝓤) (sem 𝓛 (g.dealloc_token d.alloc (bare (lone R.mir)) null_ptr))) (λ b o e.
        rest b o h e
        (all ∙ ap (λ (us : List Val). vstruct (of_list (us ++ (vss.1.0 ++ []))) ∷ []) at ∙ ap (λ (us : List Val). vstruct (of_list (ptr_val d.at ∷ (us ++ []))) ∷ []) one
        ∙ ap (λ p. vstruct (of_list (ptr_val p ∷ h ∷ [])) ∷ []) e)
        fits)))))

    pub parts_in : K → (b o : ℕ) (h : Val) (a : Z.Denot) (x : R.Denot)
        → Step K 𝓛 (‵ (Parts.own_val (record { at = block_ptr b o; alloc = a; value = x }) (parted b o h ∷ [])) ∷ Γ) G
        (‵ (box_owns (g.dealloc_token a) R (block_ptr b o) x) ∷ ‵ (Z.own_val a (h ∷ [])) ∷ Γ) G
    parts_in t b o h a x = step (λ rest.
        nothing t $ move t (2 ∷ 0 ∷ []) $ fjoin t $ feq_i t (List Val) (vptr b o ∷ []) (vptr b o ∷ []) refl $
        feq_i t (List Val) (parted b o h ∷ []) (parted b o h ∷ []) refl $ fjoin3 t $
        fpack t (Valss (RawPtr ∷ Z ∷ [])) (within (shape (unboxed.the_type R Z g)) (block_ptr b o, (a, tt)) (parted b o h ∷ [])) (vptr b o ∷ [], (h ∷ [], tt)) $ fjoin t $ rest)
