-- What lends a map and takes it back, on the side of the caller. Assumes `Logic`.
--     lends        the owner of a handle gives it away, and has a loan of the whole of it, and the right to the handle once the loan is over
--     ends         that right, with the whole of the loan, is the handle again
--     cuts, joins  a loan is two, of which each may be passed to a call, in whichever thread; and the two are one again
--     gives        the value at the address that `intmap_place` wrote, whatever was left there, is given up for the map
use Rattle.intmap_c.proofs.Words.{ℕ, [], ◌∷◌, Ura, Logic, sem, ‵, raw, ◌⊛◌, given, later, ◌$◌, ◌∵◌, !, qed, done, move, drop, use1, split, fsplit}
use Rattle.intmap_c.proofs.Words.{fjoin, learn, await, fact_use, guard_i, bare, lone, Ptr, null_ptr, Testable, Option, None, Some}
use Rattle.std.specs.Prelude.{◌^◌}
use base.Fraction.{full_share}
use base.Share
use base.Share.{halves}
use base.Fml.{Lft, Share, Incl-refl, feq, flt, flft, fbor, flent}
use base.Logic.{ent, sep, wand, all, ex, all_e, apply∗}
use contract.BorrowLft.{⊑_static}
use types.Logic.{lfts}
use types.Kit.{use2, flt_i, updating, now, show}
use types.Tokens.{lft_new, lft_end, bor_new, lent_back}
use denote.Builtin.{u64}
use denote.RawPtr.{lies_at, count_of}
use denote.Shares.{Shares-less}
use denote.Sharing.{said}
use denote.SharingLaws.{contraction}
use denote.Struct.Lending.{Lends, Lends-both, Lends-lies, Lends-said, lent_at}
use Rattle.std.proofs.Handle.{handle as global}
use Rattle.std.proofs.GlobalToken.{dealloc_token-Testable}
use Rattle.intmap_c.specs.Handles.{Map, may_free, owns_map}
use Rattle.intmap_c.specs.Loans.{Loan, shares_map, is_lent}
use Rattle.intmap_c.specs.Calls.{State}
use Rattle.intmap_c.specs.Places.{left_in, gives_back}
use Rattle.intmap_c.proofs.LentSteps.{map_row_laws, shares_map_laws}

abbrev loan : Lft → Share → Option Map.Denot → Loan
loan κ q v = record { life = κ; share = q; value = v }

module _ {M : Type 1} {𝓤 : Ura M} (𝓛 : Logic 𝓤) where
  open 𝓛 use {H, A}

  -- a borrow of the right to free a block shows that its pointer may be compared with null
  Lends-tested : (p : Ptr) (l : Lft) → Lends 𝓛 (may_free (bare (lone Map.mir)) p) (said (flt (count_of p) (2 ^ 63))) l
  Lends-tested p l κ ts inc sp = let P = may_free (bare (lone Map.mir)) p in
      qed 𝓛 (‵ (fbor κ P) ∷ raw (lfts 𝓛 ts) ∷ []) {P = H.⇛ (sep 𝓤 (sem 𝓛 (flt (count_of p) (2 ^ 63))) (lfts 𝓛 ts))} (
      updating ! $ use2 𝓛 (later (‵ P ⊛ raw (wand 𝓤 (sem 𝓛 P) (H.⇛ (sep 𝓤 (A.bor κ P) (lfts 𝓛 ts)))))) (𝓛.more.bor_acc_by κ ts P sp) $ await ! tt $ split ! $
      use1 𝓛 (given (Testable p) (‵ P)) (fact_use 𝓤 (Testable p) (dealloc_token-Testable 𝓛 global (bare (lone Map.mir)) p) (guard_i 𝓤 (Testable p) (sem 𝓛 P))) $ learn ! (λ test.
      use2 𝓛 (later (‵ (fbor κ P) ⊛ raw (lfts 𝓛 ts))) (apply∗ 𝓤 (sem 𝓛 P) (H.⇛ (sep 𝓤 (A.bor κ P) (lfts 𝓛 ts)))) $ await ! tt $ split ! $ drop ! $
      flt_i ! (count_of p) (2 ^ 63) test $ now ! $ done !))

  Lends-map : (p : Ptr) (v : Option Map.Denot) → Lends 𝓛 (owns_map p v) (shares_map p v) []
  Lends-map p None = Lends-said 𝓛 (feq Ptr p null_ptr) tt []
  Lends-map p (Some m) = Lends-both 𝓛 (lies_at Map full_share p m) (may_free (bare (lone Map.mir)) p) (lent_at Map p m) (said (flt (count_of p) (2 ^ 63))) []
      (Lends-lies 𝓛 Map [] p m (Shares-less 𝓛 Map Map.lives [] (Incl-refl []) (map_row_laws.shares 𝓛) m)) (Lends-tested p [])

  pub lends : (p : Ptr) (v : Option Map.Denot)
      → ent 𝓤 (sem 𝓛 (owns_map p v)) (H.⇛ (ex 𝓤 (λ (α : ℕ). sep 𝓤 (sem 𝓛 (is_lent (loan (α ∷ []) full_share v) p)) (sem 𝓛 (flent (α ∷ []) (owns_map p v))))))
  lends p v = qed 𝓛 (‵ (owns_map p v) ∷ []) ∵ updating ! $ lft_new ! tt (λ α. move ! (1 ∷ []) $ bor_new ! tt (α ∷ []) $ move ! (0 ∷ 2 ∷ []) $
      use2 𝓛 (later (‵ (shares_map p v (α ∷ [])) ⊛ ‵ (flft (α ∷ []) full_share)))
      (Lends-map p v (α ∷ []) ((α ∷ [], full_share) ∷ []) (⊑_static (α ∷ [])) (Incl-refl (α ∷ []))) $ await ! tt $ split ! $
      move ! (1 ∷ 0 ∷ []) $ fjoin ! $ now ! $ show ! (λ (β : ℕ). sep 𝓤 (sem 𝓛 (is_lent (loan (β ∷ []) full_share v) p)) (sem 𝓛 (flent (β ∷ []) (owns_map p v)))) α $ done !)

  pub ends : (α : ℕ) (p : Ptr) (v : Option Map.Denot)
      → ent 𝓤 (sep 𝓤 (sem 𝓛 (is_lent (loan (α ∷ []) full_share v) p)) (sem 𝓛 (flent (α ∷ []) (owns_map p v)))) (H.⇛ (sem 𝓛 (owns_map p v)))
  ends α p v = qed 𝓛 (‵ (is_lent (loan (α ∷ []) full_share v) p) ∷ ‵ (flent (α ∷ []) (owns_map p v)) ∷ []) ∵ updating ! $
      fsplit ! $ move ! (1 ∷ []) $ drop ! $ lft_end ! tt $ lent_back ! tt $ now ! $ done !

  pub cuts : (κ : Lft) (q : Share) (p : Ptr) (v : Option Map.Denot)
      → ent 𝓤 (sem 𝓛 (is_lent (loan κ q v) p)) (sep 𝓤 (sem 𝓛 (is_lent (loan κ (Share.left q) v) p)) (sem 𝓛 (is_lent (loan κ (Share.right q) v) p)))
  cuts κ q p v = qed 𝓛 (‵ (is_lent (loan κ q v) p) ∷ []) ∵ fsplit ! $
      use1 𝓛 (‵ (flft κ (Share.left q)) ⊛ ‵ (flft κ (Share.right q))) (𝓛.lfts.lft_cut κ q (Share.left q) (Share.right q) (halves q)) $ split ! $
      move ! (2 ∷ []) $ use1 𝓛 (‵ (shares_map p v κ) ⊛ ‵ (shares_map p v κ)) (contraction 𝓛 (shares_map p v) (shares_map_laws p v) κ) $ split ! $
      move ! (3 ∷ 0 ∷ []) $ fjoin ! $ move ! (2 ∷ 1 ∷ []) $ fjoin ! $ done !

  pub joins : (κ : Lft) (q : Share) (p : Ptr) (v : Option Map.Denot)
      → ent 𝓤 (sep 𝓤 (sem 𝓛 (is_lent (loan κ (Share.left q) v) p)) (sem 𝓛 (is_lent (loan κ (Share.right q) v) p))) (sem 𝓛 (is_lent (loan κ q v) p))
  joins κ q p v = qed 𝓛 (‵ (is_lent (loan κ (Share.left q) v) p) ∷ ‵ (is_lent (loan κ (Share.right q) v) p) ∷ []) ∵
      fsplit ! $ move ! (2 ∷ []) $ fsplit ! $ move ! (2 ∷ 0 ∷ []) $
      use2 𝓛 (‵ (flft κ q)) (𝓛.lfts.lft_glue κ q (Share.left q) (Share.right q) (halves q)) $ move ! (2 ∷ []) $ drop ! $ fjoin ! $ done !

  pub gives : (p : Ptr) (m : State) (k : ℕ) (at : Ptr) (w : ℕ)
      → ent 𝓤 (sep 𝓤 (sem 𝓛 (lies_at u64 full_share at w)) (gives_back 𝓛 p m k at)) (H.⇛ (sem 𝓛 (owns_map p (Some (left_in m k w)))))
  gives p m k at w = let Left = λ (v : ℕ). wand 𝓤 (sem 𝓛 (lies_at u64 full_share at v)) (H.⇛ (sem 𝓛 (owns_map p (Some (left_in m k v))))) in
      qed 𝓛 (‵ (lies_at u64 full_share at w) ∷ raw (all 𝓤 Left) ∷ []) ∵ updating ! $ move ! (1 ∷ []) $ use1 𝓛 (raw (Left w)) (all_e 𝓤 Left w) $ move ! (1 ∷ 0 ∷ []) $
      use2 𝓛 (later (‵ (owns_map p (Some (left_in m k w)))))
      (apply∗ 𝓤 (sem 𝓛 (lies_at u64 full_share at w)) (H.⇛ (sem 𝓛 (owns_map p (Some (left_in m k w)))))) $ await ! tt $ now ! $ done !
