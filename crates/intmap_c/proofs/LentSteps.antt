-- What is lent: nothing at null, and else a map that is shared. Assumes `Logic`.
use Rattle.intmap_c.proofs.Words.{◌≡◌, ℕ, List, [], ◌∷◌, refl, lit<, T, Ura, vstruct, vcons, vnil, has_ty, WT, Logic, sem, Item, Goal, Seq, ‵, given}
use Rattle.intmap_c.proofs.Words.{◌$◌, ◌∵◌, !, qed, done, move, drop, fsplit, fjoin, feq_l, use0, use1, learn, layout, Laws, Ptr, block_ptr, null_ptr}
use Rattle.intmap_c.proofs.Words.{ptr_val, Testable, Option, None, Some, Good, shape, to}
use Rattle.std.specs.Prelude.{◌^◌}
use base.Fml.{Lft, ftrue, feq, flt}
use base.Logic.{ent, never_e}
use mir.Syntax.{ty_ptr}
use denote.Param.Laws.{of_field}
use denote.Param.Shared.{copy_shared}
use denote.Builtin.{u64}
use denote.RawPtr.{count_of}
use denote.Ref.{NamedLft}
use denote.Shadow.{makes_shadow}
use denote.Sharing.{ShrLaws, said}
use denote.SharingLaws.{said_shr_laws, beside_shr_laws}
use denote.Struct.Field.{u64-field}
use denote.Struct.Laws.{u64-laws, u64-copy}
use denote.Struct.Lending.{lent_at, lent_at_shr_laws}
use denote.Struct.Struct.{Struct}
use Rattle.std.specs.contracts.alloc.Global as heap
use Rattle.std.specs.contracts.impls.GlobalAllocator.TheImpl as global_allocator
use Rattle.std.specs.contracts.prelude.U64PartialEq.TheImpl as u64_equal
use Rattle.std.proofs.alloc.Global.TheLaws as heap_laws
use Rattle.intmap_table.specs.contracts.key.wide.U64IntKey.TheImpl as u64_key
use Rattle.intmap.proofs.map.IntMap.TheLaws as map_laws
use Rattle.intmap_c.specs.contracts.lent.LentMap as lent
use Rattle.intmap_c.proofs.lent.LentMap.TheLaws.{lowered}
use types.Kit.{flt_l}
use denote.Memory.{shared_of}
use Rattle.intmap_c.specs.Handles.{Map}
use Rattle.intmap_c.specs.Loans.{shares_map}

module _ {M : Type 1} {𝓤 : Ura M} {𝓛 : Logic 𝓤} {K : Type 0} {Γ : List (Item 𝓤)} {G : Goal 𝓤 𝓛.H} where
  pub by_lent : K → (p : Ptr) (v : Option Map.Denot) (κ : Lft) → (p ≡ null_ptr → v ≡ None → Seq K 𝓛 Γ G)
      → ((b o : ℕ) (x : Map.Denot) → p ≡ block_ptr b o → v ≡ Some x → Testable (block_ptr b o) → Seq K 𝓛 (‵ (shared_of Map x b o κ) ∷ Γ) G)
      → Seq K 𝓛 (‵ (shares_map p v κ) ∷ Γ) G
  by_lent t p None κ none one = feq_l t (λ e. none e refl)
  by_lent t (block_ptr b o) (Some x) κ none one = fsplit t $ move t (1 ∷ []) $ flt_l t (λ test. fsplit t $ drop t $ one b o x refl refl test)
  by_lent t null_ptr (Some x) κ none one = fsplit t $ fsplit t $ use1 𝓛 (given ⊥ (‵ ftrue)) (never_e 𝓤 _) $ learn t (λ z. absurd z)

u64_row_laws : Laws u64
u64_row_laws = of_field u64-field u64-laws refl (copy_shared u64-field u64-copy)

pub map_row_laws : Laws Map
map_row_laws = map_laws.the_row_laws u64 u64 heap.the_row u64_key.ghosts u64_equal.ghosts global_allocator.ghosts u64_row_laws u64_row_laws heap_laws.the_row_laws

-- it can be had twice, and for less long
pub shares_map_laws : (p : Ptr) (v : Option Map.Denot) → ShrLaws (shares_map p v)
shares_map_laws p None = said_shr_laws (feq Ptr p null_ptr) tt
shares_map_laws p (Some m) = beside_shr_laws (lent_at Map p m) (said (flt (count_of p) (2 ^ 63))) (lent_at_shr_laws Map map_row_laws.shr_laws p m) (said_shr_laws (flt (count_of p) (2 ^ 63)) tt)

-- any pointer has its type
pub ptr_fits : (p : Ptr) → T (has_ty ty_ptr (ptr_val p)) × WT (ptr_val p)
ptr_fits (block_ptr b o) = (tt, tt)
ptr_fits null_ptr = (tt, record { fits = lit< tt })

module _ (a : NamedLft) where
  pub lent_fits : (p : Ptr) → Good (layout (lent.the_row a)) (vstruct (vcons (ptr_val p) (vcons (vstruct vnil) vnil)))
  lent_fits (block_ptr b o) = (tt, (tt, (tt, tt)))
  lent_fits null_ptr = (tt, (record { fits = lit< tt }, (tt, tt)))

  abbrev pub lent_val : Ptr → Option Map.Denot → (lent.the_row a).Denot
  lent_val p v = record { at = p; life = record {}; value = v }

  pub lent_in : {M : Type 1} {𝓤 : Ura M} (𝓛 : Logic 𝓤) (p : Ptr) (v : Option Map.Denot)
      → ent 𝓤 (sem 𝓛 (shares_map p v a.lft)) (sem 𝓛 ((lent.the_row a).own_val (lent_val p v) (lowered a (lent_val p v) ∷ [])))
  lent_in 𝓛 p v = let F = (Struct (shape (lent.the_type a))).own_val (to (lent.the_type a) (lent_val p v)) (lowered a (lent_val p v) ∷ []) in
      qed 𝓛 (‵ (shares_map p v a.lft) ∷ []) ∵
      use0 𝓛 (‵ F) (makes_shadow 𝓛 F (λ vss. (tt, (tt, ((λ uss. (tt, tt)), tt)))) ((ptr_val p ∷ [], (vstruct vnil ∷ [], tt)), (refl, (refl, ((tt, (refl, tt)), tt))))) $ fjoin ! $ done !
