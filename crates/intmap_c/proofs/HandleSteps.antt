-- A `Handle` as what it owns: nothing at null, and else a map and the right to free its block. Assumes `Logic`.
use Rattle.intmap_c.proofs.Words.{◌≡◌, ℕ, List, [], ◌∷◌, refl, lit<, Ura, bare, Val, vstruct, vcons, vnil, ent, guard, guard_i, never, via, fst∗}
use Rattle.intmap_c.proofs.Words.{snd∗, fact_use, Logic, sem, Item, Goal, Seq, Step, step, ‵, ◌$◌, fjoin, fjoin3, fpack, feq_i, feq_l, given, use1}
use Rattle.intmap_c.proofs.Words.{learn, RattleType, Valss, RawPtr, lone, layout, Ptr, block_ptr, null_ptr, ptr_val, in_a_block, Testable, lies_at}
use Rattle.intmap_c.proofs.Words.{nothing, shape, to, within, box_owns, Option, None, Some, Good}
use base.Fraction.{full_share}
use Rattle.std.specs.contracts.alloc.Global.{the_row as Global}
use Rattle.std.proofs.Handle.{handle as global, heap_val}
use Rattle.std.proofs.GlobalToken.{dealloc_token-Testable}
use Rattle.intmap_c.specs.contracts.handle.Handle as handle
use Rattle.intmap_c.specs.Handles.{Map, may_free, owns_map}
use Rattle.intmap_c.proofs.handle.Handle.TheLaws.{lowered}

abbrev pub Word : RattleType
Word = handle.the_row

-- the one machine value of an allocator has its type
pub heap_fits : Good (layout Global) heap_val
heap_fits = (tt, ((tt, tt), tt))

-- the machine value of any handle has its type
pub word_fits : (p : Ptr) → Good (layout Word) (vstruct (vcons (ptr_val p) vnil))
word_fits null_ptr = (tt, (record { fits = lit< tt }, tt))
word_fits (block_ptr b o) = (tt, (tt, tt))

-- a pointer to a map may be compared with null
tested : {M : Type 1} {𝓤 : Ura M} (𝓛 : Logic 𝓤) (p : Ptr) (x : Map.Denot) → ent 𝓤 (sem 𝓛 (box_owns may_free Map p x)) (guard 𝓤 (Testable p) (sem 𝓛 (box_owns may_free Map p x)))
tested {𝓤 = 𝓤} 𝓛 p x =
    let owned = sem 𝓛 (box_owns may_free Map p x) in
    fact_use 𝓤 (Testable p)
    (via 𝓤 _ (snd∗ 𝓤 (sem 𝓛 (lies_at Map full_share p x)) (sem 𝓛 (may_free (bare (lone Map.mir)) p))) (dealloc_token-Testable 𝓛 global (bare (lone Map.mir)) p))
    (guard_i 𝓤 (Testable p) owned)

module _ {M : Type 1} {𝓤 : Ura M} {𝓛 : Logic 𝓤} {K : Type 0} {Γ : List (Item 𝓤)} {G : Goal 𝓤 𝓛.H} where
  pub word_in : K → (d : Word.Denot) → Step K 𝓛 (‵ (Word.own_val d (lowered d ∷ [])) ∷ Γ) G (‵ (owns_map d.at d.value) ∷ Γ) G
  word_in t d = step (λ rest.
      nothing t $ feq_i t (List Val) (ptr_val d.at ∷ []) (ptr_val d.at ∷ []) refl $ feq_i t (List Val) (lowered d ∷ []) (lowered d ∷ []) refl $ fjoin3 t $
      fpack t (Valss (RawPtr ∷ [])) (within (shape handle.the_type) (to handle.the_type d) (lowered d ∷ [])) (ptr_val d.at ∷ [], tt) $ fjoin t $ rest)

  pub by_map : K → (p : Ptr) (v : Option Map.Denot) → (p ≡ null_ptr → v ≡ None → Seq K 𝓛 Γ G)
      → ((b o : ℕ) (x : Map.Denot) → p ≡ block_ptr b o → v ≡ Some x → Testable (block_ptr b o) → Seq K 𝓛 (‵ (box_owns may_free Map (block_ptr b o) x) ∷ Γ) G)
      → Seq K 𝓛 (‵ (owns_map p v) ∷ Γ) G
  by_map t p None none one = feq_l t (λ e. none e refl)
  by_map t p (Some x) none one =
      in_a_block t p (λ q. box_owns may_free Map q x) (fst∗ 𝓤 (never 𝓤) (sem 𝓛 (may_free (bare (lone Map.mir)) null_ptr))) (λ b o e.
      use1 𝓛 (given (Testable (block_ptr b o)) (‵ (box_owns may_free Map (block_ptr b o) x))) (tested 𝓛 (block_ptr b o) x) $ learn t (λ test. one b o x e refl test))
