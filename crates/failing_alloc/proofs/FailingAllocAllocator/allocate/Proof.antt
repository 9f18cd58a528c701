-- By hand, since what is handed on is a block of memory, and the borrow checker reads no clause that owns one.
use Rattle.failing_alloc.proofs.Steps.{Bool, ◌≡◌, ℕ, List, [], ◌∷◌, true, false, Ok, Err, refl, ap, w64, leaves, proved, after, Al, Answer, answer_val, Answer-typed, Answer-Ok, Answer-err, Takes, at_takes, Takes-goes, Takes-gives, Answered, answers, token, seen, ftrue, flft, froom, id⊢, ◌⊑◌, ⊑_trans, fact, tables, inst_fn, Fn, Val, vptr, align, capped, size, ‵, raw, ◌⊛◌, some, later, prop, at_ret, Sq, ◌$◌, ◌∵◌, !, qed, done, move, drop, frame, use0, use1, use2, split, split3, join, fjoin, feq_i, feq_l, pick, await, suffices, agg, addr, and_then, branches, enter, exec, first, fld, lit, no_more, returns, returns_within, skips, stop, alloc_all, env, free_all, get, lands_as, look_at, pass_all, sets, through, bool, usize, yes, uint_Tells, uint_vals, owns, block_ptr, shr_vals, plain, heard, nothing, only, calls_at, Ended, lasts, on_entry, triple_of, framed, Goes-dropped, Stays, stay_dropped, walk_of, After, any_q, keep, flt_i, vint, Wp, after_seq, at_return, switches_on, unit, get_in, get_tag, in_variant, vrt, whole, sets_last, of_opd, shr_dup, arm_body, front, ◌^◌}
use Rattle.failing_alloc.proofs.Handle.{passed, self, Counted, inner_at, counts_at, shared_counts, opened}
use Rattle.failing_alloc.specs.contracts.FailingAllocAllocator.allocate as f
use Rattle.failing_alloc.specs.contracts.FailingAllocAllocator.allocate.Key.{name}
use Rattle.failing_alloc.proofs.FailingAllocAllocator.allocate.Statement.{statement}
use Rattle.failing_alloc.proofs.FailingAllocAllocator.allocate.Code as code
use Rattle.failing_alloc.specs.contracts.Counts.request as counted
use Rattle.failing_alloc.proofs.Counts.TheLaws as counts_laws
use Rattle.failing_alloc.proofs.Counts.request.Met as counted_proof
use Rattle.failing_alloc.specs.contracts.Counts.grant as granted
use Rattle.failing_alloc.proofs.Counts.grant.Met as granted_proof

module _ (Z : Al) where
  abbrev ended : Ended
  ended = f.ended Z.row Z.g Z.d Z.drops

  abbrev stayed : Stays ended.signature.params ended.kept
  stayed = (stay_dropped (self Z) yes, (stay_dropped (plain (λ _. usize)) yes, (stay_dropped (plain (λ _. usize)) yes, tt)))

  abbrev here : Fn
  here = inst_fn (passed Z) code.function

pub allocate_spec : {M : Type 1} → statement M
allocate_spec 𝓤 𝓛 𝓜 𝓡 wired B laws ghosts methods drops met _ =
    let Z : Al = record { row = B; laws = laws; g = ghosts; d = methods; drops = drops } in
    let c = f.clauses B ghosts methods drops 𝓛 𝓜.mem 𝓡.returns in
    let W = walk_of 𝓛 (ended Z) (stayed Z) c in
    let 𝓣 = tables 𝓤 𝓛.H 𝓜 𝓡 𝓡.env in
    let number = Goes-dropped 𝓛 2 (plain (λ _. usize)) yes (λ κs x w. refl) in
    proved 𝓛 (ended Z) (stayed Z) c 𝓜 𝓡 (Goes-dropped 𝓛 2 (self Z) yes (λ κs x w. refl), (number, (number, tt)))
    (name (passed Z)) (here Z) (code.unfolded 𝓤 𝓛.H 𝓜 𝓡 wired (B, tt) methods drops)
    (λ κs. (shr_vals, (uint_vals w64, (uint_vals w64, tt)))) (λ κs. ((λ r vs is. is.0), (uint_Tells w64, (uint_Tells w64, tt)))) (λ κs qs bounds a τ are.
    let κ = κs.0 in let q = qs.0 in let r = a.0 in let h = r.now.inner in let bytes = a.1.0 in let boundary = a.1.1.0 in
    let y : W.Ghost = ((κs, qs, bounds, a, (shr_vals r, (uint_vals w64 bytes, (uint_vals w64 boundary, tt)))), τ) in
    let HasLayout : Type 0 = (capped (size τ) ≡ bytes) × (capped (align τ) ≡ boundary) in
    let tokens = ‵ (flft κ q) ∷ (‵ (flft κs.1.0 qs.1.0) ⊛ ‵ ftrue) ∷ [] in
    -- how each outcome ends, from the tokens that are left
    let refuses : Sq 𝓛 tokens (prop (W.post y (answer_val false 0 0))) =
    suffices ! _ (leaves 𝓛 (ended Z) (stayed Z) c y (answer_val false 0 0) (Err (record {})) (tt, (tt, (tt, tt))) (tt, (tt, (tt, tt)))) $
    join ! $ frame ! $ nothing ! $ nothing ! $ fjoin ! $ nothing ! $ fjoin ! $ nothing ! $ fjoin ! $ frame ! $
    use0 𝓛 (‵ (Answer.own_val (Err (record {})) (answer_val false 0 0 ∷ []))) (Answer-err 𝓛) $ frame ! $ nothing ! $ done ! in
    let grants : (b o : ℕ) → Sq 𝓛 (‵ (froom τ b o) ∷ ‵ (token Z h τ (block_ptr b o)) ∷ tokens) (prop (W.post y (answer_val true b o))) = λ b o.
    suffices ! _ (leaves 𝓛 (ended Z) (stayed Z) c y (answer_val true b o) (Ok (block_ptr b o)) (tt, (tt, (tt, tt))) (tt, (tt, (tt, tt)))) $
    move ! (2 ∷ 3 ∷ []) $ join ! $ frame ! $ nothing ! $ nothing ! $ fjoin ! $ nothing ! $ fjoin ! $ nothing ! $ fjoin ! $ frame ! $
    use0 𝓛 (‵ (Answer.own_val (Ok (block_ptr b o)) (answer_val true b o ∷ []))) (Answer-Ok 𝓛 b o) $ frame ! $ fjoin ! $ done ! in
    qed 𝓛 (raw (on_entry 𝓛 (ended Z).signature κs qs a y.0.4) ∷ (raw (fact 𝓤 (κs.1.0 ⊑ B.lives)) ⊛ raw (fact 𝓤 HasLayout)) ∷ []) ∵
    use1 𝓛 (‵ (shared_counts Z r κ) ⊛ ‵ (flft κ q) ⊛ ‵ (seen Z κ (inner_at Z r) h) ⊛ ‵ (flft κs.1.0 qs.1.0) ⊛ ‵ ftrue)
    (opened Z 𝓛 κ κs.1.0 q qs.1.0 r (shr_vals r) (owns (usize ∷ usize ∷ []) a.1 y.0.4.1)) $
    split3 ! $ move ! (2 ∷ []) $ split ! $ move ! (4 ∷ 2 ∷ 3 ∷ 0 ∷ 1 ∷ []) $ split ! $ heard ! _ (λ lives. heard ! HasLayout (λ layout.
    let p = counts_at Z r in let pointer = vptr p.0 p.1 ∷ [] in
    shr_dup ! Counted counts_laws.the_row_laws.shr_laws r.now.counts p.0 p.1 κ $ move ! (0 ∷ 2 ∷ 3 ∷ 4 ∷ []) $
    -- [the counts; the token; the inner allocator; the other tokens; the counts once more]
    enter ! _ _ _ _ _ $ alloc_all ! (λ l. pass_all ! refl ((tt, tt), ((tt, record { fits = are.1.0.1 }), ((tt, record { fits = are.1.1.0.1 }), tt))) $
    sets ! (addr ! (through ! refl (fld ! refl (stop !)))) refl (tt, tt) $
    let Count = triple_of 𝓛 counted.signature (counted.spec 𝓛 𝓜.mem 𝓡.returns) in
    let number = vint w64 bytes ∷ [] in
    let z : Count.Ghost = (((κ, tt), (q, tt), tt, (record { ref_ptr = p; now = r.now.counts }, (bytes, tt)), (pointer, (number, tt))), tt) in
    nothing ! $ flt_i ! bytes (2 ^ 64) are.1.0.1 $ feq_i ! (List Val) number number refl $ fjoin ! $ fjoin ! $
    move ! (1 ∷ []) $ feq_i ! (List Val) pointer pointer refl $ fjoin ! $ fjoin ! $
    nothing ! $ move ! (2 ∷ 0 ∷ []) $ join ! $ join ! $ nothing ! $ move ! (1 ∷ 0 ∷ []) $ use2 𝓛 (raw (Count.pre z)) (id⊢ 𝓤 _) $
    calls_at ! (framed 𝓤 𝓛.H 𝓜 𝓣) Count (counted_proof.met 𝓤 𝓛 𝓜 𝓡 (code.calls-failing_alloc::Counts::request 𝓡.env wired)) z (and_then ! (get ! refl) (and_then ! (get ! refl) (no_more !))) (λ v.
    use1 𝓛 (later (some (λ (refused : Bool). ((‵ (flft κ q) ⊛ ‵ ftrue) ⊛ ‵ (bool.own_val refused (v ∷ []))) ⊛
    some (λ (ws : Unit {0} × (Unit {0} × Unit {0})). ‵ (lasts counted.ended (κ, tt) z.0.3 ws) ⊛ ‵ ftrue)))) (id⊢ 𝓤 _) $
    await ! tt $ pick ! (λ refused. split ! $ split ! $ split ! $ move ! (2 ∷ []) $ feq_l ! (λ answer. move ! (2 ∷ []) $ drop ! $ move ! (1 ∷ []) $ drop ! $
    lands_as ! (ap only answer) refl (tt, tt) $ move ! (1 ∷ []) $
    -- [the inner allocator; the token; the other tokens; the counts]
    first ! $ branches ! (get ! refl)
    (λ _. sets ! (agg ! (no_more !)) refl (tt, tt) $
    sets ! (agg ! (and_then ! (lit ! tt) (and_then ! (get ! refl) (no_more !)))) refl (Answer-typed false 0 0) $
    returns_within ! (W.post y) refl (look_at ! 0 refl) $ free_all ! refl $ keep ! (1 ∷ 2 ∷ []) $ refuses)
    (λ _. let Locals = env (here Z).locals l in
    let arms = front (after 5 (here Z).body) in
    let Then : After 𝓤 𝓛.H = any_q (after_seq 𝓤 𝓛.H (Wp 𝓤 𝓛.H 𝓣.C 𝓣.Λ Locals (after 6 (here Z).body) (at_return 𝓤 𝓛.H Locals (W.post y))) (at_return 𝓤 𝓛.H Locals (W.post y))) in
    skips ! $ exec ! 𝓣.C 𝓣.Λ Locals (after 3 (here Z).body) (at_ret Locals (W.post y)) $
    sets ! (addr ! (through ! refl (fld ! refl (stop !)))) refl (tt, tt) $
    let x = at_takes Z 𝓛 𝓜.mem 𝓡.returns κ q (inner_at Z r) h bytes boundary τ in
    use2 𝓛 (raw ((Takes Z 𝓛 𝓜.mem 𝓡.returns).pre x))
    (Takes-goes Z 𝓛 𝓜.mem 𝓡.returns κ q (inner_at Z r) h (⊑_trans κ κs.1.0 B.lives bounds.0 lives) bytes boundary τ layout.0 layout.1 are.1.0.1 are.1.1.0.1) $
    calls_at ! (framed 𝓤 𝓛.H 𝓜 𝓣) (Takes Z 𝓛 𝓜.mem 𝓡.returns) (met.allocate drops) x (and_then ! (get ! refl) (and_then ! (get ! refl) (and_then ! (get ! refl) (no_more !)))) (λ u.
    use1 𝓛 (later (raw (Answered Z 𝓛 𝓜.mem 𝓡.returns h τ u) ⊛ ‵ (flft κ q))) (Takes-gives Z 𝓛 𝓜.mem 𝓡.returns κ q (inner_at Z r) h bytes boundary τ u) $ await ! tt $ split ! $
    answers Z ! 𝓜.mem 𝓡.returns h τ u
    (λ b o is. lands_as ! is refl (Answer-typed true b o) $
    first ! $ switches_on ! (get_tag ! (vrt ! refl (fld ! refl (stop !))) (whole !)) $ exec ! 𝓣.C 𝓣.Λ Locals (arm_body 0 arms) Then $
    sets ! (of_opd ! (get_in ! (vrt ! refl (fld ! refl (stop !))) (in_variant ! 0 0 refl refl (whole !)))) refl (tt, tt) $
    sets ! (addr ! (through ! refl (fld ! refl (stop !)))) refl (tt, tt) $
    -- [the block, with the right to free it; the token; the other tokens; the counts]
    let Grant = triple_of 𝓛 granted.signature (granted.spec 𝓛 𝓜.mem 𝓡.returns) in
    let g : Grant.Ghost = (((κ, tt), (q, tt), tt, (record { ref_ptr = p; now = r.now.counts }, (bytes, tt)), (pointer, (number, tt))), tt) in
    nothing ! $ flt_i ! bytes (2 ^ 64) are.1.0.1 $ feq_i ! (List Val) number number refl $ fjoin ! $ fjoin ! $
    move ! (5 ∷ []) $ feq_i ! (List Val) pointer pointer refl $ fjoin ! $ fjoin ! $
    nothing ! $ move ! (4 ∷ 0 ∷ []) $ join ! $ join ! $ nothing ! $ move ! (1 ∷ 0 ∷ []) $ use2 𝓛 (raw (Grant.pre g)) (id⊢ 𝓤 _) $
    calls_at ! (framed 𝓤 𝓛.H 𝓜 𝓣) Grant (granted_proof.met 𝓤 𝓛 𝓜 𝓡 (code.calls-failing_alloc::Counts::grant 𝓡.env wired)) g (and_then ! (get ! refl) (and_then ! (get ! refl) (no_more !))) (λ v'.
    use1 𝓛 (later (some (λ (nought : Unit {0}). ((‵ (flft κ q) ⊛ ‵ ftrue) ⊛ ‵ (unit.own_val nought (v' ∷ []))) ⊛
    some (λ (ws : Unit {0} × (Unit {0} × Unit {0})). ‵ (lasts granted.ended (κ, tt) g.0.3 ws) ⊛ ‵ ftrue)))) (id⊢ 𝓤 _) $
    await ! tt $ pick ! (λ nought. split ! $ split ! $ split ! $ move ! (2 ∷ []) $ feq_l ! (λ done_as. move ! (2 ∷ []) $ drop ! $ move ! (1 ∷ []) $ drop ! $
    lands_as ! (ap only done_as) refl (tt, tt) $
    sets_last ! (agg ! (and_then ! (lit ! tt) (and_then ! (get ! refl) (no_more !)))) refl (Answer-typed true b o) $
    exec ! 𝓣.C 𝓣.Λ Locals (after 6 (here Z).body) (at_ret Locals (W.post y)) $ sets ! (of_opd ! (get ! refl)) refl (Answer-typed true b o) $
    returns ! (look_at ! 0 refl) $ free_all ! refl $ move ! (1 ∷ 2 ∷ []) $ grants b o))))
    (λ is. lands_as ! is refl (Answer-typed false 0 0) $
    first ! $ switches_on ! (get_tag ! (vrt ! refl (fld ! refl (stop !))) (whole !)) $ exec ! 𝓣.C 𝓣.Λ Locals (arm_body 1 arms) Then $
    sets ! (agg ! (no_more !)) refl (tt, tt) $
    sets_last ! (agg ! (and_then ! (lit ! tt) (and_then ! (get ! refl) (no_more !)))) refl (Answer-typed false 0 0) $
    exec ! 𝓣.C 𝓣.Λ Locals (after 6 (here Z).body) (at_ret Locals (W.post y)) $ sets ! (of_opd ! (get ! refl)) refl (Answer-typed false 0 0) $
    returns ! (look_at ! 0 refl) $ free_all ! refl $ keep ! (0 ∷ 1 ∷ []) $ refuses))))))))))
