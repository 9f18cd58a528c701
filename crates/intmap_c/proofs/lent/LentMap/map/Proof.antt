-- By hand, since a pointer is compared with null: what is lent there decides the outcome.
use Rattle.intmap_c.proofs.Words.{[], ◌∷◌, refl, List, lit<, Val, vnil, ftrue, WpFn, tables, ‵, ◌⊛◌, prop, at_ret, ◌$◌, ◌∵◌, !, qed, done, move, keep}
use Rattle.intmap_c.proofs.Words.{use0, use1, split, fsplit, fjoin, feq_i, regoal, suffices, enter, stop, fld, lit, of_opd, bin, no_more, and_then}
use Rattle.intmap_c.proofs.Words.{first, blocks, branches, skips, exec, returns, returns_within, alloc_all, pass_all, free_all, look_at, get, get_in}
use Rattle.intmap_c.proofs.Words.{sets, env, live, agg, sub, whole, owns, types_at, plain, type_at, RattleType, Ptr, block_ptr, tests_null, nothing}
use Rattle.intmap_c.proofs.Words.{Stays, stay_dropped, Goes-dropped, walk_of, says, ends_at, Some-of, none_of, None, Some, proved}
use base.Fml.{Lft, flft}
use mir.Val.{vptr, of_list}
use mir.Syntax.{named}
use types.Kit.{frame}
use types.Run.{addr}
use types.ByLocal.{through, sets_last}
use denote.Exit.{no}
use denote.Opens.{hide}
use denote.Ref.{Bor, ShrRef}
use denote.Signature.{named_lft}
use Rattle.intmap_c.specs.Handles.{Map}
use Rattle.intmap_c.specs.contracts.lent.LentMap as lent
use Rattle.intmap_c.proofs.LentSteps.{by_lent}
use Rattle.intmap_c.proofs.lent.LentMap.TheLaws.{lowered, lowers}
use Rattle.intmap_c.specs.contracts.lent.LentMap.map as f
use Rattle.intmap_c.proofs.lent.LentMap.map.Statement.{statement}
use Rattle.intmap_c.proofs.lent.LentMap.map.Code as code

abbrev stayed : Stays f.ended.signature.params f.ended.kept
stayed = (stay_dropped _ no, tt)

pub map_spec : {M : Type 1} → statement M
map_spec 𝓤 𝓛 𝓜 𝓡 wired =
    let c = f.clauses 𝓛 𝓜.mem 𝓡.returns in let W = walk_of 𝓛 f.ended stayed c in let 𝓣 = tables 𝓤 𝓛.H 𝓜 𝓡 𝓡.env in
    proved 𝓛 f.ended stayed c 𝓜 𝓡 (Goes-dropped 𝓛 1 (plain (λ κs. lent.the_row (named_lft 1 0 tt κs))) no (λ κs x w. refl), tt)
    f.Key.name code.function (code.unfolded 𝓤 𝓛.H 𝓜 𝓡 wired)
    (λ κs. ((λ d. lowered (named_lft 1 0 tt κs) d ∷ []), tt)) (λ κs. ((lowers (named_lft 1 0 tt κs)).val_is, tt)) (λ κs qs bounds a _ are.
    let d = a.0 in let κ : Lft = κs.0 in let word : Ptr → Val = λ p. lowered (named_lft 1 0 tt κs) (record d { at = p }) in
    let LentMap : RattleType = ShrRef (named 0) κ Map in let Out = type_at f.ended.signature.result κs in
    let y : W.Ghost = ((κs, qs, bounds, a, (word d.at ∷ [], tt)), tt) in
    let run = λ (p : Ptr). prop (WpFn 𝓤 𝓛.H 𝓣.C 𝓣.Λ code.function (word p ∷ []) (W.post y)) in
    qed 𝓛 (((‵ (flft κ qs.0) ⊛ ‵ ftrue) ⊛ ‵ (owns (types_at f.ended.signature.params κs) a y.0.4)) ∷ ‵ ftrue ∷ []) ∵
    split ! $ move ! (1 ∷ []) $ fsplit ! $ fsplit ! $ keep ! (1 ∷ 3 ∷ []) $
    by_lent ! d.at d.value κ
    (λ at none.
    let v : Val = live 0 vnil in
    regoal ! run at refl $ enter ! _ _ _ _ _ $ alloc_all ! (λ l. pass_all ! refl ((tt, (record { fits = lit< tt }, (tt, tt))), tt) $
    sets ! (of_opd ! (get_in ! (fld ! refl (stop !)) (sub ! 0 refl (whole !)))) refl (tt, record { fits = lit< tt }) $
    sets ! (of_opd ! (get ! refl)) refl (tt, record { fits = lit< tt }) $
    sets ! (bin ! (get ! refl) (lit ! tt) tt) refl (tt, tt) $ first ! $ branches ! (get ! refl)
    (λ _. sets ! (agg ! (and_then ! (lit ! tt) (no_more !))) refl (tt, (record { fits = lit< tt }, tt)) $
    returns_within ! (W.post y) refl (look_at ! 0 refl) $ free_all ! refl $
    use0 𝓛 (‵ (Out.own_val None (v ∷ []))) (none_of 𝓛 LentMap) $
    suffices ! _ (ends_at 𝓛 f.ended stayed c y v None (tt, tt) (tt, tt)) $ says ! none $
    move ! (1 ∷ []) $ frame ! $ nothing ! $ nothing ! $ fjoin ! $ done !)
    (λ other. absurd other)))
    (λ b o x at some test.
    let w : Val = vptr b o in let v : Val = live 1 (of_list (w ∷ [])) in let r : Bor Map.Denot = record { ref_ptr = (b, o); now = x } in
    hide ! $ feq_i ! (List Val) (w ∷ []) (w ∷ []) refl $ fjoin ! $ use1 𝓛 (‵ (Out.own_val (Some r) (v ∷ []))) (Some-of 𝓛 LentMap r w) $
    regoal ! run at refl $ enter ! _ _ _ _ _ $ alloc_all ! (λ l. pass_all ! refl ((tt, (tt, (tt, tt))), tt) $
    sets ! (of_opd ! (get_in ! (fld ! refl (stop !)) (sub ! 0 refl (whole !)))) refl (tt, tt) $
    sets ! (of_opd ! (get ! refl)) refl (tt, tt) $
    sets ! (bin ! (get ! refl) (lit ! tt) (tests_null (block_ptr b o) test)) refl (tt, tt) $ first ! $ branches ! (get ! refl)
    (λ other. absurd other)
    (λ _. skips ! $ exec ! 𝓣.C 𝓣.Λ (env code.Mir.locals l) code.Mir.t-5 (at_ret (env code.Mir.locals l) (W.post y)) $
    sets ! (of_opd ! (get ! refl)) refl (tt, tt) $ sets ! (of_opd ! (get ! refl)) refl (tt, tt) $
    first ! $ blocks ! $ sets_last ! (addr ! (through ! refl (stop !))) refl (tt, tt) $
    exec ! 𝓣.C 𝓣.Λ (env code.Mir.locals l) code.Mir.t-8 (at_ret (env code.Mir.locals l) (W.post y)) $
    sets ! (of_opd ! (get ! refl)) refl (tt, tt) $
    sets ! (agg ! (and_then ! (lit ! tt) (and_then ! (get ! refl) (no_more !)))) refl (tt, (record { fits = lit< tt }, (tt, tt))) $
    returns ! (look_at ! 0 refl) $ free_all ! refl $
    suffices ! _ (ends_at 𝓛 f.ended stayed c y v (Some r) (tt, tt) (tt, tt)) $ says ! some $
    move ! (1 ∷ []) $ frame ! $ nothing ! $ nothing ! $ fjoin ! $ done !))))
