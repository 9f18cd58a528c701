-- By hand, since the map is required of the caller, and its pointer is followed.
use Rattle.intmap_c.proofs.ReaderWords.{◌≡◌, ℕ, [], ◌∷◌, refl, List, Val, ftrue, tables, ‵, raw, ◌⊛◌, some, later, ◌$◌, ◌∵◌, !, qed, done, move, keep}
use Rattle.intmap_c.proofs.ReaderWords.{drop, use1, split, join, fsplit, fjoin, pick, await, suffices, enter, stop, fld, of_opd, no_more, and_then}
use Rattle.intmap_c.proofs.ReaderWords.{returns, alloc_all, pass_all, free_all, look_at, get, sets, lands_as, sub, whole, owns, types_at, plain, yes}
use Rattle.intmap_c.proofs.ReaderWords.{nothing, calls_at, Lasts, lasts, triple_of, framed, Stays, stay_dropped, Goes-dropped, walk_of, says, ends_at}
use Rattle.intmap_c.proofs.ReaderWords.{proved, flft, id⊢, named, w64, fact, use2, frame, group, load, through, look_in, u64, Is, shows, uint_vals}
use Rattle.intmap_c.proofs.ReaderWords.{uint_Tells, peeks, heard, Word, ptr_fits, addr, mut_vals, mut_Tells, State, map_of}
use Rattle.intmap_c.proofs.Words.{vptr, sym, ap, rewrite, lit<, subst, ◌∙◌, RawPtr, Ptr, block_ptr, null_ptr, ptr_val, tests_null, prop, at_ret, lit}
use Rattle.intmap_c.proofs.Words.{bin, first, blocks, branches, skips, exec, returns_within, env, Option, None, Some, feq_i, fsplit3, fjoin3, get_in}
use Rattle.intmap_c.proofs.Words.{lies_at}
use base.Fml.{Lft, GName, flent}
use base.Fraction.{full_share}
use denote.Lend.{lends_ref}
use denote.Memory.{cell_at, mem}
use denote.MutBor.{MutBor}
use denote.Plain.{uint_Makes}
use denote.Ref.{MutRef}
use denote.Steps.{owned, opens, closes}
use denote.Triple.Walked.{Goes-ref, stay_ref}
use mathlib.Core.Bool.{true≢false}
use mir.Val.{vunit}
use prog.Wp.{Wp, after_seq, at_return}
use types.ByLocal.{get_tag, is, sets_last}
use types.Kit.{Sq, any_q}
use types.Match.{vrt, in_variant}
use types.Run.{store, assigns, assigns_last, switches_on, unit_lit}
use types.SemTy.{Body as Held}
use types.Tokens.{lft_new}
use Rattle.std.proofs.alloc.Shapes.{front, arm_body}
use Rattle.std.specs.Option.{option_copied_mut}
use Rattle.intmap.specs.Map.{after_search}
use Rattle.intmap_c.proofs.HandleSteps.{by_map}
use Rattle.intmap_c.proofs.PlaceSteps.{Found, by_found, address_out, address_in, not_lent, lent_out}
use Rattle.intmap_c.proofs.lent.Word.TheLaws.{lowers as word_lowers}
use Rattle.intmap_c.specs.Calls.{bound_to, itself}
use Rattle.intmap_c.specs.Handles.{Map, owns_map}
use Rattle.intmap_c.specs.Places.{Leaves, lends_value, gives_back, lends_found, lends_place}
use Rattle.intmap_c.specs.contracts.place.intmap_place as f
use Rattle.intmap_c.proofs.place.intmap_place.Statement.{statement}
use Rattle.intmap_c.proofs.place.intmap_place.Code as code
use Rattle.intmap_c.specs.contracts.place.find as g
use Rattle.intmap_c.proofs.place.find.Met.{met}

abbrev stayed : Stays f.ended.signature.params f.ended.kept
stayed = (stay_ref (0 ∷ []) tt (plain (λ _. Word)), (stay_dropped _ yes, (stay_ref (1 ∷ []) tt (plain (λ _. RawPtr)), tt)))

pub intmap_place_spec : {M : Type 1} → statement M
intmap_place_spec {M = M} 𝓤 𝓛 𝓜 𝓡 wired =
    let c = f.clauses 𝓛 𝓜.mem 𝓡.returns in let W = walk_of 𝓛 f.ended stayed c in let 𝓣 = tables 𝓤 𝓛.H 𝓜 𝓡 𝓡.env in
    proved 𝓛 f.ended stayed c 𝓜 𝓡 (
      Goes-ref 𝓛 2 0 tt (plain (λ _. Word)),
      (Goes-dropped 𝓛 2 (plain (λ _. u64)) yes (λ κs x w. refl), (Goes-ref 𝓛 2 1 tt (plain (λ _. RawPtr)), tt)),
    )
    f.Key.name code.function (code.unfolded 𝓤 𝓛.H 𝓜 𝓡 wired)
    (λ κs. (mut_vals, (uint_vals w64, (mut_vals, tt)))) (λ κs. (mut_Tells (named 0) κs.0 Word, (uint_Tells w64, (mut_Tells (named 1) κs.1.0 RawPtr, tt)))) (λ κs qs bounds a value are.
    let word = a.0 in let b = word.ref_ptr.0 in let o = word.ref_ptr.1 in let κ : Lft = κs.0 in let d = word.now in let p = d.at in let k = a.1.0 in
    let Whole = (MutRef (named 0) κ Word).own_val word (mut_vals word) in
    let r = a.1.1.0 in let rs = mut_vals r in let Ref = λ (n : Ptr). (MutRef (named 1) κs.1.0 RawPtr).own_val (record r { now = n }) rs in
    let y : W.Ghost = ((κs, qs, bounds, a, (mut_vals word, (uint_vals w64 k, (rs, tt)))), value) in
    let out : Leaves (map_of value) k → (n : Ptr)
    → Sq 𝓛 (raw (lends_place 𝓛 p value k n) ∷ ‵ Whole ∷ ‵ (flft κ qs.0) ∷ ‵ (Ref n) ∷ ‵ (flft κs.1.0 qs.1.0) ∷ []) (prop (W.post y vunit)) = λ leaves n.
    suffices ! _ (ends_at 𝓛 f.ended stayed c y vunit tt (d, (tt, (n, tt))) (tt, (tt, (tt, tt)))) $
    feq_i ! _ (vunit ∷ []) _ refl $ nothing ! $ move ! (5 ∷ 0 ∷ []) $ join ! $ nothing ! $ join ! $ move ! (3 ∷ 0 ∷ []) $ join ! $
    nothing ! $ move ! (5 ∷ 0 ∷ []) $ join ! $ move ! (4 ∷ 0 ∷ []) $ join ! $ group ! 3 $ frame ! $ says ! leaves $ done ! in
    qed 𝓛 (((‵ (flft κ qs.0) ⊛ ‵ (flft κs.1.0 qs.1.0) ⊛ ‵ ftrue) ⊛ ‵ (owns (types_at f.ended.signature.params κs) a y.0.4)) ∷ ‵ (owns_map p value) ∷ []) ∵
    split ! $ split ! $ move ! (3 ∷ []) $ move ! (2 ∷ []) $ split ! $ move ! (4 ∷ []) $ fsplit ! $ move ! (1 ∷ []) $ fsplit ! $ move ! (1 ∷ []) $ fsplit ! $
    keep ! (0 ∷ 4 ∷ 3 ∷ 7 ∷ 6 ∷ []) $
    -- [the `&mut` to the address; its token; that to the word; its token; the map]
    enter ! _ _ _ _ _ $ alloc_all ! (λ l. pass_all ! refl ((tt, tt), ((tt, record { fits = are.1.0.1 }), ((tt, tt), tt))) $
    let En = env code.Mir.locals l in
    let Then = any_q (after_seq 𝓤 𝓛.H (Wp 𝓤 𝓛.H 𝓣.C 𝓣.Λ En code.Mir.t-13 (at_return 𝓤 𝓛.H En (W.post y))) (at_return 𝓤 𝓛.H En (W.post y))) in
    address_out ! tt (named 1) r $
    assigns ! (of_opd ! (lit ! tt)) (through ! refl (stop !)) (store ! 0 refl (tt, record { fits = lit< tt })) $
    move ! (2 ∷ 3 ∷ []) $
    fsplit3 ! $ move ! (1 ∷ 2 ∷ 3 ∷ []) $ opens ! tt Word b o (λ vs. move ! (1 ∷ []) $ peeks ! Word (Is Word) (shows 𝓛 Word) d vs (λ so.
    let ev = word_lowers.val_is d vs so in
    rewrite ! 1 (λ (us : List Val). ‵ (cell_at full_share Word.mir us b o)) ev refl $
    sets ! (of_opd ! (load ! (through ! refl (fld ! refl (stop !))) (look_in ! 1 (sub ! 0 refl (whole !))))) refl (ptr_fits p) $
    rewrite ! 1 (λ (us : List Val). ‵ (cell_at full_share Word.mir us b o)) (sym ev) refl $ move ! (1 ∷ 0 ∷ []) $ closes ! tt Word d vs b o $ move ! (3 ∷ 0 ∷ 1 ∷ []) $ fjoin3 ! $
    -- [the word; its token; the address; the rest of its `&mut`; the map]
    move ! (4 ∷ []) $ by_map ! p value
    (λ at none.
    sets ! (is ! (of_opd ! (get ! refl)) (ap ptr_val at)) refl (tt, record { fits = lit< tt }) $
    sets ! (bin ! (get ! refl) (lit ! tt) tt) refl (tt, tt) $ first ! $ branches ! (get ! refl)
    (λ _. move ! (2 ∷ 3 ∷ []) $ address_in ! tt (named 1) r null_ptr $
    sets ! (of_opd ! (unit_lit !)) refl (tt, tt) $ returns_within ! (W.post y) refl (look_at ! 0 refl) $ free_all ! refl $
    keep ! (2 ∷ 3 ∷ 0 ∷ 1 ∷ []) $
    feq_i ! Ptr null_ptr null_ptr refl $ feq_i ! Ptr null_ptr null_ptr refl $ fjoin ! $ use1 𝓛 (raw (lends_place 𝓛 null_ptr None k null_ptr)) (id⊢ 𝓤 _) $
    rewrite ! 0 (λ (v : Option Map.Denot). raw (lends_place 𝓛 null_ptr v k null_ptr)) (sym none) refl $
    rewrite ! 0 (λ (n : Ptr). raw (lends_place 𝓛 n value k null_ptr)) (sym at) refl $
    out (subst (λ (v : Option Map.Denot). Leaves (map_of v) k) (sym none) (λ never w. absurd (true≢false (sym never)))) null_ptr)
    (λ other. absurd other))
    (λ b' o' x at some_map test.
    let whole_map = block_ptr b' o' in
    let told_at : (n : Ptr) → Sq 𝓛 (raw (lends_place 𝓛 p value k n) ∷ ‵ Whole ∷ ‵ (flft κ qs.0) ∷ ‵ (Ref n) ∷ ‵ (flft κs.1.0 qs.1.0) ∷ []) (prop (W.post y vunit))
    → Sq 𝓛 (raw (lends_found 𝓛 whole_map x k n (bound_to x k)) ∷ ‵ Whole ∷ ‵ (flft κ qs.0) ∷ ‵ (Ref n) ∷ ‵ (flft κs.1.0 qs.1.0) ∷ []) (prop (W.post y vunit)) = λ n rest.
    use1 𝓛 (raw (lends_place 𝓛 whole_map (Some x) k n)) (id⊢ 𝓤 _) $
    rewrite ! 0 (λ (v : Option Map.Denot). raw (lends_place 𝓛 whole_map v k n)) (sym some_map) refl $
    rewrite ! 0 (λ (m : Ptr). raw (lends_place 𝓛 m value k n)) (sym at) refl $ rest in
    sets ! (is ! (of_opd ! (get ! refl)) (ap ptr_val at)) refl (tt, tt) $
    sets ! (bin ! (get ! refl) (lit ! tt) (tests_null whole_map test)) refl (tt, tt) $ first ! $ branches ! (get ! refl)
    (λ other. absurd other)
    (λ _. skips ! $ exec ! 𝓣.C 𝓣.Λ En code.Mir.t-6 (at_ret En (W.post y)) $
    sets ! (is ! (of_opd ! (get ! refl)) (ap ptr_val at)) refl (tt, tt) $ sets ! (of_opd ! (get ! refl)) refl (tt, tt) $
    first ! $ blocks ! $ sets_last ! (addr ! (through ! refl (stop !))) refl (tt, tt) $
    exec ! 𝓣.C 𝓣.Λ En code.Mir.t-9 (at_ret En (W.post y)) $
    sets ! (of_opd ! (get ! refl)) refl (tt, tt) $ sets ! (of_opd ! (get ! refl)) refl (tt, record { fits = are.1.0.1 }) $
    -- [the map and the right to free it; the word; its token; the address; the rest of its `&mut`]
    fsplit ! $ lft_new ! tt (λ α. move ! (1 ∷ []) $
    use1 𝓛 (later (some (λ (γ : GName).
    ‵ ((MutRef (named 0) (α ∷ []) Map).own_val (record { ref_ptr = (b', o'); ghost_name = γ; now = x }) (vptr b' o' ∷ [])) ⊛ ‵ (flent (α ∷ []) (Held (mem Map) b' o' γ)))))
    (lends_ref 𝓛 Map (named 0) (α ∷ []) x b' o') $ await ! tt $ pick ! (λ γ. split ! $
    -- [the map, lent; what the lender keeps; the token of that; the right to free; ..]
    let m : MutBor State = record { ref_ptr = (b', o'); ghost_name = γ; now = x } in
    let G = triple_of 𝓛 g.signature (g.spec 𝓛 𝓜.mem 𝓡.returns) in
    let z : G.Ghost = (((α ∷ [], tt), (full_share, tt), tt, (m, (k, tt)), (vptr b' o' ∷ [], (uint_vals w64 k, tt))), tt) in
    owned ! u64 _ (uint_Makes 𝓛 w64) k _ (refl, are.1.0.1) $ nothing ! $ move ! (1 ∷ 0 ∷ []) $ join ! $ move ! (1 ∷ 0 ∷ []) $ join ! $
    nothing ! $ move ! (3 ∷ 0 ∷ []) $ join ! $ join ! $
    nothing ! $ move ! (1 ∷ 0 ∷ []) $ use2 𝓛 (raw (G.pre z)) (id⊢ 𝓤 _) $
    calls_at ! (framed 𝓤 𝓛.H 𝓜 (tables 𝓤 𝓛.H 𝓜 𝓡 𝓡.env)) G (met 𝓤 𝓛 𝓜 𝓡 (code.calls-intmap_c::place::find 𝓡.env wired)) z
    (and_then ! (get ! refl) (and_then ! (get ! refl) (no_more !))) (λ v.
    use1 𝓛 (later (some (λ (u : Option (MutBor ℕ)). ((‵ (flft (α ∷ []) full_share) ⊛ ‵ ftrue) ⊛ ‵ ((Found (α ∷ [])).own_val u (v ∷ []))) ⊛
    some (λ (ws : Lasts g.ended z.0.0 z.0.3). ‵ (lasts g.ended z.0.0 z.0.3 ws) ⊛ ‵ (lends_value m k u) ⊛
    raw (fact 𝓤 (option_copied_mut u ≡ bound_to x k)) ⊛ raw (fact 𝓤 (Leaves x k)))))) (id⊢ 𝓤 _) $
    await ! tt $ pick ! (λ u. split ! $ split ! $ split ! $ move ! (3 ∷ []) $ pick ! (λ ws. split ! $ drop ! $ split ! $ move ! (1 ∷ []) $ split ! $ heard ! _ (λ told. heard ! _ (λ leaves.
    let kept = subst (λ (v : Option Map.Denot). Leaves (map_of v) k) (sym some_map) leaves in
    -- [how the map follows what was found; the token of the loan; nothing; what was found; what the lender keeps; the right to free; ..]
    move ! (3 ∷ []) $ by_found ! (α ∷ []) u v
    (λ absent is_none.
    rewrite ! 0 (λ (n : Option (MutBor ℕ)). ‵ (lends_value m k n)) absent refl $
    lands_as ! is_none refl (tt, (record { fits = lit< tt }, tt)) $
    first ! $ switches_on ! (get_tag ! (vrt ! refl (fld ! refl (stop !))) (whole !)) $ exec ! 𝓣.C 𝓣.Λ En (arm_body 1 (front code.Mir.t-12)) Then $
    skips ! $ exec ! 𝓣.C 𝓣.Λ En code.Mir.t-13 (at_ret En (W.post y)) $
    move ! (1 ∷ 3 ∷ 0 ∷ 4 ∷ []) $ group ! 4 $ use1 𝓛 (later (‵ (owns_map whole_map (Some (after_search itself x k))))) (not_lent 𝓛 b' o' α γ x k) $ await ! tt $
    -- [the map and the right to free it; nothing; the word; its token; the address; the rest of its `&mut`]
    move ! (4 ∷ 5 ∷ []) $ address_in ! tt (named 1) r null_ptr $
    sets ! (of_opd ! (unit_lit !)) refl (tt, tt) $ returns ! (look_at ! 0 refl) $ free_all ! refl $ keep ! (2 ∷ 4 ∷ 5 ∷ 0 ∷ 1 ∷ []) $
    feq_i ! Ptr null_ptr null_ptr refl $ fjoin ! $ use1 𝓛 (raw (lends_found 𝓛 whole_map x k null_ptr None)) (id⊢ 𝓤 _) $
    rewrite ! 0 (λ (n : Option ℕ). raw (lends_found 𝓛 whole_map x k null_ptr n)) (ap option_copied_mut (sym absent) ∙ told) refl $ told_at null_ptr (out kept null_ptr))
    (λ s present is_some.
    let place = block_ptr s.ref_ptr.0 s.ref_ptr.1 in
    rewrite ! 1 (λ (n : Option (MutBor ℕ)). ‵ (lends_value m k n)) present refl $
    lands_as ! is_some refl (tt, (record { fits = lit< tt }, (tt, tt))) $
    first ! $ switches_on ! (get_tag ! (vrt ! refl (fld ! refl (stop !))) (whole !)) $ exec ! 𝓣.C 𝓣.Λ En (arm_body 0 (front code.Mir.t-12)) Then $
    sets ! (of_opd ! (get_in ! (vrt ! refl (fld ! refl (stop !))) (in_variant ! 1 0 refl refl (whole !)))) refl (tt, tt) $
    sets ! (addr ! (through ! refl (stop !))) refl (tt, tt) $
    assigns_last ! (of_opd ! (get ! refl)) (through ! refl (stop !)) (store ! 8 refl (tt, tt)) $
    exec ! 𝓣.C 𝓣.Λ En code.Mir.t-13 (at_ret En (W.post y)) $
    move ! (0 ∷ 2 ∷ 4 ∷ 1 ∷ 5 ∷ []) $ group ! 5 $
    use1 𝓛 (later (‵ (lies_at u64 full_share place s.now) ⊛ raw (gives_back 𝓛 whole_map x k place))) (lent_out 𝓛 b' o' α γ x k s) $ await ! tt $
    -- [the value and the right to give it back; nothing; the word; its token; the address; the rest of its `&mut`]
    move ! (4 ∷ 5 ∷ []) $ address_in ! tt (named 1) r place $
    sets ! (of_opd ! (unit_lit !)) refl (tt, tt) $ returns ! (look_at ! 0 refl) $ free_all ! refl $ keep ! (2 ∷ 4 ∷ 5 ∷ 0 ∷ 1 ∷ []) $
    use1 𝓛 (raw (lends_found 𝓛 whole_map x k place (Some s.now))) (id⊢ 𝓤 _) $
    rewrite ! 0 (λ (n : Option ℕ). raw (lends_found 𝓛 whole_map x k place n)) (ap option_copied_mut (sym present) ∙ told) refl $ told_at place (out kept place)))))))))))))))
