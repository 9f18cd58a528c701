-- A value that is lent in its place: how its address and the right to give it back are made of a loan. Assumes `Logic`.
use Rattle.intmap_c.proofs.Words.{◌≡◌, ℕ, [], ◌∷◌, List, refl, ap, ◌∙◌, ◌++◌, Ura, Val, vptr, vcons, vnil, of_list, bare, Logic, sem, Item, Goal, Seq}
use Rattle.intmap_c.proofs.Words.{‵, later, ◌$◌, ◌∵◌, !, qed, done, move, drop, use1, fsplit, fsplit3, fjoin, fjoin3, fpick, feq_i, feq_l, await}
use Rattle.intmap_c.proofs.Words.{RattleType, lone, Ptr, block_ptr, only, Option, None, Some, live}
use base.Fraction.{full_share}
use base.Fml.{Lft, GName, Share, Fml, fsep, fat, flft, flent, fres, fobs, fobor, fauth}
use base.Logic.{ent, sep, wand, id⊢}
use mir.Syntax.{Lifetime, named, ty_ptr}
use types.Kit.{Soaks, Step, step, rewrite, use2, use3, updating, now, assume, each, frame, group}
use types.SemTy.{Body}
use types.Tokens.{lft_end, name_done}
use types.Mut.{open_ref, close_ref}
use denote.Builtin.{RawPtr, u64}
use denote.Follow.{follows, follows_by, followed}
use denote.Lend.{ref_back}
use denote.Memory.{cell_at, mem}
use denote.MutBor.{MutBor}
use denote.RawPtr.{ptr_val, lies_at}
use denote.Ref.{MutRef, mut_vals}
use denote.Steps.{opens, closes}
use Rattle.std.specs.contracts.option.Option as option
use Rattle.intmap.specs.Map.{after_search}
use Rattle.intmap_c.specs.Calls.{State, itself}
use Rattle.intmap_c.specs.Handles.{Map, may_free, owns_map}
use Rattle.intmap_c.specs.Places.{left_in, lends_value, gives_back}

abbrev pub ValueRef : Lft → RattleType
ValueRef κ = MutRef (named 0) κ u64

abbrev pub Found : Lft → RattleType
Found κ = option.the_row (ValueRef κ)

-- the machine value of what was found
abbrev pub found_at : MutBor ℕ → Val
found_at r = live 1 (vcons (vptr r.ref_ptr.0 r.ref_ptr.1) vnil)

module _ {M : Type 1} {𝓤 : Ura M} {𝓛 : Logic 𝓤} {K : Type 0} {Γ : List (Item 𝓤)} {G : Goal 𝓤 𝓛.H} where
  pub by_found : K → (κ : Lft) (found : Option (MutBor ℕ)) (v : Val) → (found ≡ None → v ≡ live 0 vnil → Seq K 𝓛 Γ G)
      → ((r : MutBor ℕ) → found ≡ Some r → v ≡ found_at r → Seq K 𝓛 (‵ ((ValueRef κ).own_val r (mut_vals r)) ∷ Γ) G)
      → Seq K 𝓛 (‵ ((Found κ).own_val found (v ∷ [])) ∷ Γ) G
  by_found t κ None v none one = fpick t (λ us. fsplit t $ feq_l t (λ e. fpick t (λ vss. fsplit t $ feq_l t (λ e'. drop t $
      none refl (ap only e ∙ ap (λ ws. live 0 (of_list ws)) e')))))
  by_found t κ (Some r) v none one = fpick t (λ us. fsplit t $ feq_l t (λ e. fpick t (λ vss. fsplit t $ feq_l t (λ e'. fsplit t $ fsplit t $ feq_l t (λ e''.
      feq_i t (List Val) (mut_vals r) (mut_vals r) refl $ fjoin t $ move t (1 ∷ []) $ drop t $
      one r refl (ap only e ∙ ap (λ ws. live 1 (of_list ws)) (e' ∙ ap (λ ws. ws ++ []) e'')))))))

-- a `&mut` to an address while that is read or written
abbrev pub held : Lft → Share → MutBor Ptr → Fml
held κ q r = fsep (fobor κ q (Body (mem RawPtr) r.ref_ptr.0 r.ref_ptr.1 r.ghost_name)) (fsep (fobs r.ghost_name (RawPtr.coded.code r.now)) (fauth r.ghost_name (RawPtr.coded.code r.now)))

module _ {M : Type 1} {𝓤 : Ura M} {𝓛 : Logic 𝓤} {K : Type 0} {Γ : List (Item 𝓤)} {G : Goal 𝓤 𝓛.H} where
  pub address_out : K → Soaks G → (ℓ : Lifetime) {κ : Lft} {q : Share} (r : MutBor Ptr)
      → Step K 𝓛 (‵ (fat full_share ty_ptr r.ref_ptr.0 r.ref_ptr.1 (ptr_val r.now)) ∷ ‵ (held κ q r) ∷ Γ) G
      (‵ ((MutRef ℓ κ RawPtr).own_val r (mut_vals r)) ∷ ‵ (flft κ q) ∷ Γ) G
  address_out t z ℓ r = step (λ s. let b = r.ref_ptr.0 in let o = r.ref_ptr.1 in
      fsplit3 t $ feq_l t (λ _. move t (0 ∷ 1 ∷ 2 ∷ []) $ opens t z RawPtr b o (λ vs. move t (1 ∷ []) $ feq_l t (λ e.
      rewrite t 0 (λ (us : List Val). ‵ (cell_at full_share RawPtr.mir us b o)) e refl $ move t (1 ∷ 2 ∷ 3 ∷ []) $ fjoin3 t $ move t (1 ∷ 0 ∷ []) $ s))))

  pub address_in : K → Soaks G → (ℓ : Lifetime) {κ : Lft} {q : Share} (r : MutBor Ptr) (n : Ptr)
      → Step K 𝓛 (‵ ((MutRef ℓ κ RawPtr).own_val (record r { now = n }) (mut_vals r)) ∷ ‵ (flft κ q) ∷ Γ) G
      (‵ (fat full_share ty_ptr r.ref_ptr.0 r.ref_ptr.1 (ptr_val n)) ∷ ‵ (held κ q r) ∷ Γ) G
  address_in t z ℓ r n = step (λ s. let b = r.ref_ptr.0 in let o = r.ref_ptr.1 in
      move t (1 ∷ []) $ fsplit3 t $ feq_i t (List Val) (ptr_val n ∷ []) (ptr_val n ∷ []) refl $ move t (4 ∷ 0 ∷ []) $
      closes t z RawPtr n (ptr_val n ∷ []) b o $ feq_i t (List Val) (mut_vals r) (mut_vals r) refl $ fjoin3 t $ s)

module _ {M : Type 1} {𝓤 : Ura M} (𝓛 : Logic 𝓤) where
  open 𝓛 use {H}

  -- what is known of the map if nothing was found, and if a value was
  pub none_follows : (m : MutBor State) (k : ℕ) → ent 𝓤 (sem 𝓛 (lends_value m k None)) (sem 𝓛 (fres m.ghost_name (Map.coded.code (after_search itself m.now k))))
  unfolding follows_by
  none_follows m k = id⊢ 𝓤 _

  pub some_follows : (m : MutBor State) (k : ℕ) (r : MutBor ℕ) → ent 𝓤 (sem 𝓛 (lends_value m k (Some r))) (sem 𝓛 (follows Map u64 m.ghost_name r.ghost_name (left_in m.now k)))
  unfolding follows_by
  some_follows m k r = id⊢ 𝓤 _

  module _ (b o : ℕ) (α : ℕ) (γ : GName) where
    abbrev κ : Lft
    κ = α ∷ []

    abbrev p : Ptr
    p = block_ptr b o

    -- the loan is over, and the map's last value is known
    map_back : (n : State)
        → ent 𝓤 (sep 𝓤 (sem 𝓛 (flft κ full_share)) (sep 𝓤 (sem 𝓛 (flent κ (Body (mem Map) b o γ)))
        (sep 𝓤 (sem 𝓛 (fres γ (Map.coded.code n))) (sem 𝓛 (may_free (bare (lone Map.mir)) p)))))
        (H.⇛ (sem 𝓛 (owns_map p (Some n))))
    map_back n = qed 𝓛 (‵ (flft κ full_share) ∷ ‵ (flent κ (Body (mem Map) b o γ)) ∷ ‵ (fres γ (Map.coded.code n)) ∷ ‵ (may_free (bare (lone Map.mir)) p) ∷ []) ∵
        updating ! $ lft_end ! tt $ use3 𝓛 (later (‵ ((mem Map).own_at n b o))) (ref_back 𝓛 Map κ γ n b o) $ await ! tt $ fjoin ! $ now ! $ done !

    module _ (x : State) (k : ℕ) where
      abbrev m : MutBor State
      m = record { ref_ptr = (b, o); ghost_name = γ; now = x }

      -- nothing was found
      pub not_lent : ent 𝓤 (sep 𝓤 (sem 𝓛 (flft κ full_share)) (sep 𝓤 (sem 𝓛 (flent κ (Body (mem Map) b o γ)))
          (sep 𝓤 (sem 𝓛 (lends_value m k None)) (sem 𝓛 (may_free (bare (lone Map.mir)) p)))))
          (H.⇛ (sem 𝓛 (owns_map p (Some (after_search itself x k)))))
      not_lent = qed 𝓛 (‵ (flft κ full_share) ∷ ‵ (flent κ (Body (mem Map) b o γ)) ∷ ‵ (lends_value m k None) ∷ ‵ (may_free (bare (lone Map.mir)) p) ∷ []) ∵
          updating ! $ move ! (2 ∷ []) $ use1 𝓛 (‵ (fres γ (Map.coded.code (after_search itself x k)))) (none_follows m k) $ move ! (1 ∷ 2 ∷ 0 ∷ []) $
          group ! 4 $ use1 𝓛 (later (‵ (owns_map p (Some (after_search itself x k))))) (map_back (after_search itself x k)) $ await ! tt $ now ! $ done !

      -- a value was found: its place is taken out of the loan, and whoever gives it back ends the loan
      pub lent_out : (r : MutBor ℕ) → let at = block_ptr r.ref_ptr.0 r.ref_ptr.1 in
          ent 𝓤 (sep 𝓤 (sem 𝓛 ((ValueRef κ).own_val r (mut_vals r))) (sep 𝓤 (sem 𝓛 (flft κ full_share))
          (sep 𝓤 (sem 𝓛 (flent κ (Body (mem Map) b o γ))) (sep 𝓤 (sem 𝓛 (lends_value m k (Some r))) (sem 𝓛 (may_free (bare (lone Map.mir)) p))))))
          (H.⇛ (sep 𝓤 (sem 𝓛 (lies_at u64 full_share at r.now)) (gives_back 𝓛 p x k at)))
      lent_out r = let at = block_ptr r.ref_ptr.0 r.ref_ptr.1 in let δ = r.ghost_name in
          qed 𝓛 (‵ ((ValueRef κ).own_val r (mut_vals r)) ∷ ‵ (flft κ full_share) ∷ ‵ (flent κ (Body (mem Map) b o γ))
          ∷ ‵ (lends_value m k (Some r)) ∷ ‵ (may_free (bare (lone Map.mir)) p) ∷ []) ∵
          updating ! $ fsplit3 ! $ feq_l ! (λ _. open_ref ! tt (mem u64) $
          -- [the value in its place; the open borrow; its name, twice; the map's loan; how the map follows the value; the right to free the map]
          now ! $ frame ! $ each ! (λ (w : ℕ). wand 𝓤 (sem 𝓛 (lies_at u64 full_share at w)) (H.⇛ (sem 𝓛 (owns_map p (Some (left_in x k w)))))) (λ w.
          assume ! (‵ (lies_at u64 full_share at w)) $ updating ! $ close_ref ! tt (mem u64) w $ name_done ! tt $ move ! (4 ∷ []) $
          use1 𝓛 (‵ (follows Map u64 γ δ (left_in x k))) (some_follows m k r) $ move ! (0 ∷ 1 ∷ []) $
          use2 𝓛 (‵ (fres γ (Map.coded.code (left_in x k w)))) (followed 𝓛 Map u64 (left_in x k) γ δ w) $
          -- [the map's last value; the borrow; the token; the map's loan; the right to free the map]
          move ! (1 ∷ []) $ drop ! $ move ! (1 ∷ 2 ∷ 0 ∷ []) $ group ! 4 $
          use1 𝓛 (later (‵ (owns_map p (Some (left_in x k w))))) (map_back (left_in x k w)) $ await ! tt $ now ! $ done !))
