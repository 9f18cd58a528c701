-- Two shapes of calls that read a lent map, each by one proof. Assumes `Logic`.
--     numbers   no other argument, and the result is a number of the map
--     finds     a key too
use Rattle.intmap_c.proofs.ReaderWords.{gives_back, life, map_lent, passed, shuts_word, ◌≡◌, ℕ, List, [], ◌∷◌, refl, Val, ftrue, tables, ‵, raw, ◌⊛◌}
use Rattle.intmap_c.proofs.ReaderWords.{◌$◌, !, done, move, keep, join, enter, stop, fld, of_opd, no_more, and_then, returns, alloc_all, pass_all}
use Rattle.intmap_c.proofs.ReaderWords.{free_all, look_at, get, sets, fact, id⊢, lands_as, agg, sub, whole, plain, yes, framed, stay_dropped, Stays}
use Rattle.intmap_c.proofs.ReaderWords.{Goes-dropped, walk_of, ends_at, proved, flft, named, w64, load, through, look_in, RefOf, u64, uint_vals}
use Rattle.intmap_c.proofs.ReaderWords.{uint_Tells, Is, shr_vals, shr_Tells, types_at, lasts, State, map_of, is_lent, Word, ptr_fits, lent_fits}
use Rattle.intmap_c.proofs.ReaderWords.{opens_word, ◌∵◌, qed, split, fsplit, owns, nothing, calls_at, triple_of, use2, lends}
use Rattle.intmap_c.proofs.Words.{T, has_ty, WT, sem, lone, ◌++◌, Ura, Logic, RattleType}
use Prim.Native.Nat.{◌+◌}
use base.Logic.{sep, emp}
use contract.Lifetimes.{Lfts}
use contract.Running.{Running}
use denote.Builtin.{usize}
use denote.Memory.{pointee}
use denote.Plain.{uint_Lawful}
use denote.RattleType.{Denots}
use denote.Ref.{NamedLft}
use denote.Signature.{Slot, named_lft}
use denote.Triple.Clauses.{Ended, Clauses, closing}
use denote.Triple.End.{all}
use denote.Triple.Spec.{Meets}
use lib.ListN.{length}
use mir.Syntax.{Callee, Opd, Fn, Local, local, value_local, erased, imm, ty_ref, ty_ptr, place, copy, deref, field, assign, rv_opd, aggregate, seq}
use mir.Syntax.{call, return}
use prog.Model.{Model}
use prog.Wp.{Closed}
use Rattle.std.specs.contracts.marker.PhantomData.{the_row as mark}
use Rattle.intmap_c.specs.Loans.{Loan}
use Rattle.intmap_c.specs.contracts.lent.LentMap.{the_row as lent_row}

abbrev erased_lft : NamedLft
erased_lft = record { mir = erased; lft = [] }

abbrev locals_of : List RattleType → List Local
locals_of [] = []
locals_of (R ∷ Rs) = local (lone R.mir) value_local ∷ locals_of Rs

abbrev copies : ℕ → List RattleType → List Opd
copies i [] = []
copies i (R ∷ Rs) = copy (place i []) ∷ copies (i + 1) Rs

abbrev slots : List RattleType → List (Slot 1)
slots [] = []
slots (R ∷ Rs) = plain (λ _. R) ∷ slots Rs

abbrev word : Slot 1
word = RefOf (0 ∷ []) tt (plain (λ _. Word)) (λ _. tt)

-- what the callee k makes of the map that the word leads to, and of other arguments, of the types Xs
module _ (Out : RattleType) (Xs : List RattleType) where
  abbrev n : ℕ
  n = length Xs

  abbrev code : Callee → Fn
  code k = record {
    lifetimes = 1;
    outlives = [];
    ty_params = [];
    givens = 0;
    params = n + 1;
    locals = local (lone Out.mir) value_local ∷ local (ty_ref (named 0) imm (pointee Word.written)) value_local ∷ locals_of Xs ++
        (local (lone (lent_row erased_lft).mir) value_local ∷ local ty_ptr value_local ∷ local (lone (mark usize).mir) value_local ∷ []);
    body =
        seq (assign (place (n + 3) []) (rv_opd (copy (place 1 (deref (lone Word.mir) ∷ field 0 ∷ [])))))
        (seq (assign (place (n + 4) []) (aggregate []))
        (seq (assign (place (n + 2) []) (aggregate (copy (place (n + 3) []) ∷ copy (place (n + 4) []) ∷ [])))
        (seq (call k (copy (place (n + 2) []) ∷ copies 2 Xs) (place 0 []))
        return)));
  }

  abbrev first : Slot 1 → Ended
  first s = record { signature = record { lifetimes = 1; outlives = []; params = s ∷ slots Xs; result = plain (λ _. Out) }; kept = (yes, all yes (slots Xs)) }

  abbrev of_word : Ended
  of_word = first word

  abbrev of_map : Ended
  of_map = first (plain (λ κs. lent_row (named_lft 1 0 tt κs)))

  module _ {M : Type 1} {𝓤 : Ura M} (𝓛 : Logic 𝓤) (𝓜 : Model 𝓤 𝓛.H) (𝓡 : Running 𝓤 𝓛.H 𝓜) (told : (κs : Lfts 1) → State → Denots (types_at (slots Xs) κs) → Out.Denot → Type 0) where
    abbrev asks : Clauses 𝓤 of_word
    asks κs a = record {
      ghost = Loan;
      requires = λ loan. sem 𝓛 (is_lent loan a.0.now.at);
      ensures = λ loan r e. sep 𝓤 (sem 𝓛 (is_lent loan a.0.now.at)) (fact 𝓤 (told κs (map_of loan.value) a.1 r));
    }

    abbrev answers : Clauses 𝓤 of_map
    answers κs a = record { ghost = Unit {0}; requires = λ _. emp 𝓤; ensures = λ _ r e. fact 𝓤 (told κs (map_of a.0.value) a.1 r) }

    -- the function named `name` reads the map, where the callee does
    abbrev Reader : Type 2
    Reader = (name k : Callee) → Closed 𝓤 𝓛.H (tables 𝓤 𝓛.H 𝓜 𝓡 𝓡.env).C (tables 𝓤 𝓛.H 𝓜 𝓡 𝓡.env).Λ name (code k)
        → Meets 𝓛 of_map.signature ((tables 𝓤 𝓛.H 𝓜 𝓡 𝓡.env).C k) (closing 𝓛 of_map answers) → Meets 𝓛 of_word.signature ((tables 𝓤 𝓛.H 𝓜 𝓡 𝓡.env).C name) (closing 𝓛 of_word asks)

module _ {X : Type 1} {𝓤 : Ura X} (𝓛 : Logic 𝓤) (𝓜 : Model 𝓤 𝓛.H) (𝓡 : Running 𝓤 𝓛.H 𝓜) where
  pub numbers : (number : State → ℕ) → Reader usize [] 𝓛 𝓜 𝓡 (λ κs m a r. r ≡ number m)
  numbers number name k unfolded met =
      let F = of_word usize [] in let M = of_map usize [] in let c = asks usize [] 𝓛 𝓜 𝓡 (λ κs m a r. r ≡ number m) in
      let stayed : Stays F.signature.params F.kept = (stay_dropped _ yes, tt) in
      let W = walk_of 𝓛 F stayed c in let 𝓣 = tables 𝓤 𝓛.H 𝓜 𝓡 𝓡.env in
      proved 𝓛 F stayed c 𝓜 𝓡 (Goes-dropped 𝓛 1 word yes (λ κs x w. refl), tt) name (code usize [] k) unfolded
      (λ κs. (shr_vals, tt)) (λ κs. (shr_Tells (named 0) κs.0 Word, tt)) (λ κs qs bounds a loan are.
      let p = a.0.now.at in let x = map_lent (named 0) loan p in let w = passed (named 0) loan p in let y : W.Ghost = ((κs, qs, bounds, a, (shr_vals a.0, tt)), loan) in
      let G = triple_of 𝓛 M.signature (closing 𝓛 M (answers usize [] 𝓛 𝓜 𝓡 (λ κs m a r. r ≡ number m))) in let z : G.Ghost = (((loan.life, tt), (loan.share, tt), tt, (x, tt), (w ∷ [], tt)), tt) in
      qed 𝓛 (((‵ (flft κs.0 qs.0) ⊛ ‵ ftrue) ⊛ ‵ (owns (types_at F.signature.params κs) a y.0.4)) ∷ ‵ (is_lent loan p) ∷ []) ∵ split ! $ split ! $ move ! (2 ∷ []) $
      fsplit ! $ fsplit ! $ keep ! (1 ∷ 3 ∷ 5 ∷ 2 ∷ 4 ∷ []) $
      -- [the word behind the `&`; its token; the loan; what else is passed; the other tokens]
      enter ! _ _ _ _ _ $ alloc_all ! (λ l. pass_all ! refl ((tt, tt), tt) $ opens_word ! tt a.0 (λ s.
      sets ! (of_opd ! (load ! (through ! refl (fld ! refl (stop !))) (look_in ! 0 (sub ! 0 refl (whole !))))) refl (ptr_fits p) $
      sets ! (agg ! (no_more !)) refl (tt, tt) $
      sets ! (agg ! (and_then ! (get ! refl) (and_then ! (get ! refl) (no_more !)))) refl (lent_fits (life (named 0) loan) p) $
      shuts_word ! tt s a.0 $ move ! (2 ∷ []) $ lends ! (named 0) loan p $
      -- [what the callee is lent; what stays lent; the token of the loan; that of the `&`; the word; what else is passed; the other tokens]
      move ! (0 ∷ 5 ∷ []) $ join ! $ move ! (2 ∷ 5 ∷ []) $ join ! $ join ! $ nothing ! $ move ! (1 ∷ 0 ∷ []) $ use2 𝓛 (raw (G.pre z)) (id⊢ 𝓤 _) $
      calls_at ! (framed 𝓤 𝓛.H 𝓜 𝓣) G met z (and_then ! (get ! refl) (no_more !)) (λ v.
      gives_back ! tt loan p (‵ ftrue) usize (lasts M z.0.0 z.0.3) (λ ws u. u ≡ number (map_of loan.value)) v (W.post y v) (λ u ws. ends_at 𝓛 F stayed c y v u (tt, tt) (tt, tt)) (λ u is.
      lands_as ! refl refl ((uint_Lawful 𝓛 w64).typed u (v ∷ []) is).0 $ returns ! (look_at ! 0 refl) $ free_all ! refl $ keep ! (0 ∷ []) $ done !)))))

  pub finds : (Out : RattleType) → ((u : Out.Denot) (v : Val) → Is Out u (v ∷ []) → T (has_ty (lone Out.mir) v) × WT v) → (told : State → ℕ → Out.Denot → Type 0)
      → Reader Out (u64 ∷ []) 𝓛 𝓜 𝓡 (λ κs m a r. told m a.0 r)
  finds Out typed told name k unfolded met =
      let F = of_word Out (u64 ∷ []) in let M = of_map Out (u64 ∷ []) in let c = asks Out (u64 ∷ []) 𝓛 𝓜 𝓡 (λ κs m a r. told m a.0 r) in
      let stayed : Stays F.signature.params F.kept = (stay_dropped _ yes, (stay_dropped _ yes, tt)) in
      let W = walk_of 𝓛 F stayed c in let 𝓣 = tables 𝓤 𝓛.H 𝓜 𝓡 𝓡.env in
      proved 𝓛 F stayed c 𝓜 𝓡 (Goes-dropped 𝓛 1 word yes (λ κs x w. refl), (Goes-dropped 𝓛 1 (plain (λ _. u64)) yes (λ κs x w. refl), tt))
      name (code Out (u64 ∷ []) k) unfolded
      (λ κs. (shr_vals, (uint_vals w64, tt))) (λ κs. (shr_Tells (named 0) κs.0 Word, (uint_Tells w64, tt))) (λ κs qs bounds a loan are.
      let p = a.0.now.at in let x = map_lent (named 0) loan p in let w = passed (named 0) loan p in let ks = uint_vals w64 a.1.0 in
      let y : W.Ghost = ((κs, qs, bounds, a, (shr_vals a.0, (ks, tt))), loan) in
      let G = triple_of 𝓛 M.signature (closing 𝓛 M (answers Out (u64 ∷ []) 𝓛 𝓜 𝓡 (λ κs m a r. told m a.0 r))) in let z : G.Ghost = (((loan.life, tt), (loan.share, tt), tt, (x, a.1), (w ∷ [], (ks, tt))), tt) in
      qed 𝓛 (((‵ (flft κs.0 qs.0) ⊛ ‵ ftrue) ⊛ ‵ (owns (types_at F.signature.params κs) a y.0.4)) ∷ ‵ (is_lent loan p) ∷ []) ∵ split ! $ split ! $ move ! (2 ∷ []) $
      fsplit ! $ fsplit ! $ keep ! (1 ∷ 3 ∷ 5 ∷ 2 ∷ 4 ∷ []) $
      -- [the word behind the `&`; its token; the loan; what else is passed; the other tokens]
      enter ! _ _ _ _ _ $ alloc_all ! (λ l. pass_all ! refl ((tt, tt), ((tt, record { fits = are.1.0.1 }), tt)) $ opens_word ! tt a.0 (λ s.
      sets ! (of_opd ! (load ! (through ! refl (fld ! refl (stop !))) (look_in ! 0 (sub ! 0 refl (whole !))))) refl (ptr_fits p) $
      sets ! (agg ! (no_more !)) refl (tt, tt) $
      sets ! (agg ! (and_then ! (get ! refl) (and_then ! (get ! refl) (no_more !)))) refl (lent_fits (life (named 0) loan) p) $
      shuts_word ! tt s a.0 $ move ! (2 ∷ []) $ lends ! (named 0) loan p $
      -- [what the callee is lent; what stays lent; the token of the loan; that of the `&`; the word; what else is passed; the other tokens]
      move ! (0 ∷ 5 ∷ []) $ join ! $ move ! (2 ∷ 5 ∷ []) $ join ! $ join ! $ nothing ! $ move ! (1 ∷ 0 ∷ []) $ use2 𝓛 (raw (G.pre z)) (id⊢ 𝓤 _) $
      calls_at ! (framed 𝓤 𝓛.H 𝓜 𝓣) G met z (and_then ! (get ! refl) (and_then ! (get ! refl) (no_more !))) (λ v.
      gives_back ! tt loan p (‵ ftrue) Out (lasts M z.0.0 z.0.3) (λ ws u. told (map_of loan.value) a.1.0 u) v (W.post y v) (λ u ws. ends_at 𝓛 F stayed c y v u (tt, (tt, tt)) (tt, (tt, tt))) (λ u is.
      lands_as ! refl refl (typed u v is) $ returns ! (look_at ! 0 refl) $ free_all ! refl $ keep ! (0 ∷ []) $ done !)))))
