-- What the proofs of calls that only read share. Assumes `Logic`.
--     opens_word, shuts_word   the word behind a `&` is looked into, and shut again
--     lends                    of a loan, there is what a callee is lent, and what stays lent
--     gives_back               from the callee's answer and what stayed lent there is the call's own, whose result is a value of its type to the machine too
use Rattle.intmap_c.proofs.Words.{List, [], ◌∷◌, sym, subst, Val, Ura, ent, fact, Logic, Seq, Step, Goal, Item, some, later, id⊢}
use Rattle.intmap_c.proofs.Words.{‵, raw, ◌⊛◌, ◌$◌, move, use1, split, join, fsplit, fjoin, pick, await, Ptr, RattleType, step}
use base.Fml.{Lft, Share, Fml, flft}
use base.Logic.{SProp}
use mir.Syntax.{Lifetime}
use types.Kit.{Soaks, mean}
use denote.Laws.{Is, shows}
use denote.Memory.{cell_at, part_at, hidden_shr}
use denote.Opens.{Shut}
use denote.Ref.{Bor, NamedLft}
use denote.SharingLaws.{contraction}
use denote.Steps.{looks, shuts, peeks}
use Rattle.intmap_c.specs.Loans.{Loan, shares_map, is_lent}
use Rattle.intmap_c.specs.contracts.lent.Word.{the_row as Word}
use Rattle.intmap_c.proofs.lent.Word.TheLaws.{lowers as word_lowers, the_row_copy as word_copies}
use Rattle.intmap_c.specs.contracts.lent.LentMap.{the_row as lent_row}
use Rattle.intmap_c.proofs.lent.LentMap.TheLaws.{lowered}
use Rattle.intmap_c.proofs.LentSteps.{shares_map_laws, lent_val, lent_in}

-- what a callee is passed in place of a word that holds p: the loan's map, and how the machine has that
module _ (ℓ : Lifetime) (loan : Loan) where
  abbrev pub life : NamedLft
  life = record { mir = ℓ; lft = loan.life }

  abbrev pub map_lent : Ptr → (lent_row life).Denot
  map_lent p = lent_val life p loan.value

  abbrev pub passed : Ptr → Val
  passed p = lowered life (map_lent p)

  abbrev lent : Ptr → Fml
  lent p = (lent_row life).own_val (map_lent p) (passed p ∷ [])

-- what of it stays lent meanwhile
abbrev shared : Loan → Ptr → Fml
shared loan p = shares_map p loan.value loan.life

-- a word behind a `&`
abbrev pub behind : Lft → Bor Word.Denot → Fml
behind κ w = hidden_shr Word κ w.now w.ref_ptr.0 w.ref_ptr.1

-- its cell, while it is looked into
abbrev cell : Share → Bor Word.Denot → List Val → Fml
cell s w vs = cell_at s Word.mir vs w.ref_ptr.0 w.ref_ptr.1

abbrev vals : Bor Word.Denot → List Val
vals w = word_lowers.lowered w.now ∷ []

abbrev shut : {M : Type 1} {𝓤 : Ura M} → Logic 𝓤 → Lft → Share → Share → Bor Word.Denot → Item 𝓤
shut 𝓛 κ q s w = Shut 𝓛 κ q (part_at Word s w.now w.ref_ptr.0 w.ref_ptr.1)

module _ {M : Type 1} {𝓤 : Ura M} {𝓛 : Logic 𝓤} {K : Type 0} {Γ : List (Item 𝓤)} {G : Goal 𝓤 𝓛.H} where
  pub opens_word : K → Soaks G → {κ : Lft} {q : Share} (w : Bor Word.Denot)
      → ((s : Share) → Seq K 𝓛 (‵ (cell s w (vals w)) ∷ ‵ (Word.own_val w.now (vals w)) ∷ shut 𝓛 κ q s w ∷ ‵ (behind κ w) ∷ Γ) G) → Seq K 𝓛 (‵ (behind κ w) ∷ ‵ (flft κ q) ∷ Γ) G
  opens_word t z {κ} {q} w k = looks t z Word (word_copies.copied M 𝓤 𝓛).opens w.now w.ref_ptr.0 w.ref_ptr.1 (λ s vs.
      move t (1 ∷ []) $ peeks t Word (Is Word) (shows 𝓛 Word) w.now vs (λ is. move t (1 ∷ []) $
      subst (λ (us : List Val). Seq K 𝓛 (‵ (cell s w us) ∷ ‵ (Word.own_val w.now us) ∷ shut 𝓛 κ q s w ∷ ‵ (behind κ w) ∷ Γ) G) (sym (word_lowers.val_is w.now vs is)) (k s)))

  pub shuts_word : K → Soaks G → {κ : Lft} {q : Share} (s : Share) (w : Bor Word.Denot)
      → Step K 𝓛 (‵ (flft κ q) ∷ Γ) G (‵ (cell s w (vals w)) ∷ ‵ (Word.own_val w.now (vals w)) ∷ shut 𝓛 κ q s w ∷ Γ) G
  shuts_word t z s w = shuts t z Word s w.now (vals w) w.ref_ptr.0 w.ref_ptr.1

  pub lends : K → (ℓ : Lifetime) (loan : Loan) (p : Ptr) → Step K 𝓛 (‵ (lent ℓ loan p) ∷ ‵ (shared loan p) ∷ ‵ (flft loan.life loan.share) ∷ Γ) G (‵ (is_lent loan p) ∷ Γ) G
  lends t ℓ loan p = step (λ k. fsplit t $ move t (1 ∷ []) $
      use1 𝓛 (‵ (shared loan p) ⊛ ‵ (shared loan p)) (contraction 𝓛 (shares_map p loan.value) (shares_map_laws p loan.value) loan.life) $ split t $
      use1 𝓛 (‵ (lent ℓ loan p)) (lent_in (life ℓ loan) 𝓛 p loan.value) $ k)

  pub gives_back : K → Soaks G → (loan : Loan) (p : Ptr) {κ : Lft} {q : Share} (toks : Item 𝓤) (Out : RattleType) {Ws : Type 0} (lasts : Ws → Fml) (told : Ws → Out.Denot → Type 0) (v : Val) (Post : SProp 𝓤)
      → ((u : Out.Denot) (ws : Ws) → ent 𝓤 (mean 𝓛 (((‵ (flft κ q) ⊛ toks) ⊛ ‵ (lasts ws) ⊛ ‵ (Out.own_val u (v ∷ []))) ⊛ ‵ (is_lent loan p) ⊛ raw (fact 𝓤 (told ws u)))) Post)
      → ((u : Out.Denot) → Is Out u (v ∷ []) → Seq K 𝓛 (raw Post ∷ Γ) G)
      → Seq K 𝓛 (raw (mean 𝓛 (later (some (λ (u : Out.Denot). ((‵ (flft loan.life loan.share) ⊛ toks) ⊛ ‵ (Out.own_val u (v ∷ []))) ⊛
      some (λ (ws : Ws). ‵ (lasts ws) ⊛ raw (fact 𝓤 (told ws u))))))) ∷ ‵ (shared loan p) ∷ ‵ (flft κ q) ∷ Γ) G
  gives_back t z loan p {κ} {q} toks Out {Ws} lasts told v Post ends k =
      use1 𝓛 (later (some (λ (u : Out.Denot). ((‵ (flft loan.life loan.share) ⊛ toks) ⊛ ‵ (Out.own_val u (v ∷ []))) ⊛ some (λ (ws : Ws). ‵ (lasts ws) ⊛ raw (fact 𝓤 (told ws u)))))) (id⊢ 𝓤 _) $
      await t z $ pick t (λ u. split t $ split t $ split t $ move t (2 ∷ []) $ peeks t Out (Is Out) (shows 𝓛 Out) u (v ∷ []) (λ is. move t (3 ∷ []) $ pick t (λ ws. split t $
      -- [what the callee left; what it says; the result; the token of the loan; the other tokens; what stays lent; the token of the `&`]
      move t (3 ∷ 5 ∷ []) $ fjoin t $ move t (0 ∷ 2 ∷ []) $ join t $ move t (1 ∷ 2 ∷ []) $ join t $ move t (3 ∷ 2 ∷ []) $ join t $ join t $ join t $
      use1 𝓛 (raw Post) (ends u ws) $ k u is)))
