-- By hand, since a pointer is compared with null: what the handle owns there decides the outcome.
use Rattle.intmap_c.proofs.Words.{[], ◌∷◌, refl, lit<, Val, vstruct, vcons, vnil, ptr_val, ftrue, WpFn, tables, ‵, ◌⊛◌, prop, at_ret, ◌$◌, ◌∵◌}
use Rattle.intmap_c.proofs.Words.{qed, !, done, move, keep, drop, use0, use1, split, join, fsplit, regoal, suffices, enter, stop, fld, lit, of_opd, bin}
use Rattle.intmap_c.proofs.Words.{no_more, and_then, first, branches, skips, exec, returns, returns_within, alloc_all, pass_all, free_all, look_at}
use Rattle.intmap_c.proofs.Words.{get, get_in, sets, env, live, agg, sub, whole, yes, RattleType, plain, type_at, layout, Ptr, block_ptr, null_ptr}
use Rattle.intmap_c.proofs.Words.{tests_null, nothing, Stays, stay_dropped, Goes-dropped, walk_of, says, ends_at, Good, Some-of, none_of, None, Some}
use Rattle.intmap_c.proofs.Words.{proved}
use Rattle.std.specs.contracts.impls.GlobalAllocator.TheImpl.{ghosts}
use Rattle.std.specs.contracts.alloc.Global.{the_row as Global}
use Rattle.std.proofs.alloc.Global.TheLaws.{the_row_laws}
use Rattle.std.proofs.Handle.{heap_val, heap_Tells}
use Rattle.intmap_c.specs.Handles.{Map}
use Rattle.intmap_c.proofs.UnboxedSteps.{parted, parted_fits, Parts, parts_in}
use Rattle.intmap_c.proofs.HandleSteps.{Word, heap_fits, word_fits, by_map}
use Rattle.intmap_c.proofs.handle.Handle.TheLaws.{lowered, lowers}
use Rattle.intmap_c.specs.contracts.handle.Handle.into_map as f
use Rattle.intmap_c.proofs.handle.Handle.into_map.Statement.{statement}
use Rattle.intmap_c.proofs.handle.Handle.into_map.Code as code

abbrev stayed : Stays f.ended.signature.params f.ended.kept
stayed = (stay_dropped _ yes, (stay_dropped _ yes, tt))

abbrev Box : RattleType
Box = Parts Map Global the_row_laws ghosts

pub into_map_spec : {M : Type 1} → statement M
into_map_spec 𝓤 𝓛 𝓜 𝓡 wired =
    let c = f.clauses 𝓛 𝓜.mem 𝓡.returns in let W = walk_of 𝓛 f.ended stayed c in let 𝓣 = tables 𝓤 𝓛.H 𝓜 𝓡 𝓡.env in
    proved 𝓛 f.ended stayed c 𝓜 𝓡 (Goes-dropped 𝓛 0 (plain (λ _. Word)) yes (λ κs x w. refl), (Goes-dropped 𝓛 0 (plain (λ _. Global)) yes (λ κs x w. refl), tt))
    f.Key.name code.function (code.unfolded 𝓤 𝓛.H 𝓜 𝓡 wired)
    (λ κs. ((λ d. lowered d ∷ []), ((λ _. heap_val ∷ []), tt))) (λ κs. (lowers.val_is, (heap_Tells, tt))) (λ κs qs bounds a _ are.
    let d = a.0 in let alloc = a.1.0 in let Out = type_at f.ended.signature.result κs in
    let y : W.Ghost = ((κs, qs, bounds, a, (lowered d ∷ [], (heap_val ∷ [], tt))), tt) in
    let run = λ (p : Ptr). prop (WpFn 𝓤 𝓛.H 𝓣.C 𝓣.Λ code.function (vstruct (vcons (ptr_val p) vnil) ∷ heap_val ∷ []) (W.post y)) in
    qed 𝓛 ((‵ ftrue ⊛ ‵ (Word.own_val d (lowered d ∷ [])) ⊛ ‵ (Global.own_val alloc (heap_val ∷ [])) ⊛ ‵ ftrue) ∷ ‵ ftrue ∷ []) ∵
    split ! $ drop ! $ split ! $ fsplit ! $ drop ! $ move ! (1 ∷ []) $ split ! $ keep ! (2 ∷ 0 ∷ []) $
    by_map ! d.at d.value
    (λ at none. drop ! $
    let v : Val = live 0 vnil in
    regoal ! run at refl $ enter ! _ _ _ _ _ $ alloc_all ! (λ l. pass_all ! refl (word_fits null_ptr, (heap_fits, tt)) $
    sets ! (of_opd ! (get_in ! (fld ! refl (stop !)) (sub ! 0 refl (whole !)))) refl (tt, record { fits = lit< tt }) $
    sets ! (bin ! (get ! refl) (lit ! tt) tt) refl (tt, tt) $ first ! $ branches ! (get ! refl)
    (λ _. sets ! (agg ! (and_then ! (lit ! tt) (no_more !))) refl (tt, (record { fits = lit< tt }, tt)) $
    returns_within ! (W.post y) refl (look_at ! 0 refl) $ free_all ! refl $
    suffices ! _ (ends_at 𝓛 f.ended stayed c y v None (tt, (tt, tt)) (tt, (tt, tt))) $ says ! none $
    use0 𝓛 (‵ (Out.own_val None (v ∷ []))) (none_of 𝓛 Box) $
    nothing ! $ nothing ! $ join ! $ nothing ! $ join ! $ nothing ! $ done !)
    (λ other. absurd other)))
    (λ b o x at some test.
    let new : Box.Denot = record { at = block_ptr b o; alloc = alloc; value = x } in let w = parted b o heap_val in let v : Val = live 1 (vcons w vnil) in
    let fits = parted_fits Map Global the_row_laws ghosts b o heap_val heap_fits in
    let good : Good (layout Out) v = (tt, (record { fits = lit< tt }, (fits.1, tt))) in
    regoal ! run at refl $ enter ! _ _ _ _ _ $ alloc_all ! (λ l. pass_all ! refl (word_fits (block_ptr b o), (heap_fits, tt)) $
    sets ! (of_opd ! (get_in ! (fld ! refl (stop !)) (sub ! 0 refl (whole !)))) refl (tt, tt) $
    sets ! (bin ! (get ! refl) (lit ! tt) (tests_null (block_ptr b o) test)) refl (tt, tt) $ first ! $ branches ! (get ! refl)
    (λ other. absurd other)
    (λ _. skips ! $ exec ! 𝓣.C 𝓣.Λ (env code.Mir.locals l) code.Mir.t-4 (at_ret _ (W.post y)) $
    sets ! (of_opd ! (get ! refl)) refl (tt, tt) $
    sets ! (agg ! (and_then ! (get ! refl) (and_then ! (get ! refl) (no_more !)))) refl fits $
    sets ! (agg ! (and_then ! (lit ! tt) (and_then ! (get ! refl) (no_more !)))) refl good $
    returns ! (look_at ! 0 refl) $ free_all ! refl $
    parts_in Map Global the_row_laws ghosts ! b o heap_val alloc x $ use1 𝓛 (‵ (Out.own_val (Some new) (v ∷ []))) (Some-of 𝓛 Box new w) $
    suffices ! _ (ends_at 𝓛 f.ended stayed c y v (Some new) (tt, (tt, tt)) (tt, (tt, tt))) $ says ! some $
    nothing ! $ nothing ! $ join ! $ nothing ! $ join ! $ nothing ! $ done !))))
