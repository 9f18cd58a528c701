-- By hand, since a block of memory is handed over, and the borrow checker reads no clause that owns one.
use Rattle.failing_alloc.proofs.Steps.{◌≡◌, List, [], ◌∷◌, refl, w64, leaves, proved, Al, Gives, at_gives, Gives-goes, Gives-Gives, token, seen, ftrue, fsep, flft, fst∗, never, ◌⊑◌, ⊑_trans, fact, tables, inst_fn, Fn, Val, vint, vptr, vunit, align, capped, size, WpFn, ‵, raw, ◌⊛◌, later, given, prop, ◌$◌, ◌∵◌, !, qed, done, move, drop, frame, use1, split, split3, join, fsplit, fjoin, feq_i, group, learn, await, regoal, suffices, sem, addr, and_then, enter, fld, no_more, of_opd, returns, stop, unit_lit, alloc_all, free_all, get, lands_as, look_at, pass_all, sets, through, usize, yes, uint_Tells, uint_vals, owns, Ptr, RawPtr, block_ptr, in_a_block, null_ptr, ptr_val, rawptr_Tells, rawptr_vals, room_for, shr_vals, plain, heard, nothing, calls_at, Ended, on_entry, framed, Goes-dropped, Stays, stay_dropped, walk_of, ap, some, use2, pick, feq_l, flt_i, unit, lasts, only, triple_of, id⊢, ◌^◌}
use Rattle.failing_alloc.proofs.Handle.{passed, self, inner_at, counts_at, shared_counts, opened}
use Rattle.failing_alloc.specs.contracts.FailingAllocAllocator.deallocate as f
use Rattle.failing_alloc.specs.contracts.FailingAllocAllocator.deallocate.Key.{name}
use Rattle.failing_alloc.proofs.FailingAllocAllocator.deallocate.Statement.{statement}
use Rattle.failing_alloc.proofs.FailingAllocAllocator.deallocate.Code as code
use Rattle.failing_alloc.specs.contracts.Counts.hand_back as handed
use Rattle.failing_alloc.proofs.Counts.hand_back.Met as handed_proof

module _ (Z : Al) where
  abbrev ended : Ended
  ended = f.ended Z.row Z.g Z.d Z.drops

  abbrev stayed : Stays ended.signature.params ended.kept
  stayed = (stay_dropped (self Z) yes, (stay_dropped (plain (λ _. RawPtr)) yes, (stay_dropped (plain (λ _. usize)) yes, (stay_dropped (plain (λ _. usize)) yes, tt))))

  abbrev here : Fn
  here = inst_fn (passed Z) code.function

pub deallocate_spec : {M : Type 1} → statement M
deallocate_spec 𝓤 𝓛 𝓜 𝓡 wired B laws ghosts methods drops met _ =
    let Z : Al = record { row = B; laws = laws; g = ghosts; d = methods; drops = drops } in
    let c = f.clauses B ghosts methods drops 𝓛 𝓜.mem 𝓡.returns in
    let W = walk_of 𝓛 (ended Z) (stayed Z) c in
    let 𝓣 = tables 𝓤 𝓛.H 𝓜 𝓡 𝓡.env in
    let number = Goes-dropped 𝓛 2 (plain (λ _. usize)) yes (λ κs x w. refl) in
    proved 𝓛 (ended Z) (stayed Z) c 𝓜 𝓡
    (Goes-dropped 𝓛 2 (self Z) yes (λ κs x w. refl), (Goes-dropped 𝓛 2 (plain (λ _. RawPtr)) yes (λ κs x w. refl), (number, (number, tt))))
    (name (passed Z)) (here Z) (code.unfolded 𝓤 𝓛.H 𝓜 𝓡 wired (B, tt) methods drops)
    (λ κs. (shr_vals, (rawptr_vals, (uint_vals w64, (uint_vals w64, tt))))) (λ κs. ((λ r vs is. is.0), (rawptr_Tells, (uint_Tells w64, (uint_Tells w64, tt)))))
    (λ κs qs bounds a τ are.
    let κ = κs.0 in let q = qs.0 in let r = a.0 in let h = r.now.inner in let block = a.1.0 in let bytes = a.1.1.0 in let boundary = a.1.1.1.0 in
    let y : Ptr → W.Ghost = λ p.
    ((κs, qs, bounds, (r, (p, (bytes, (boundary, tt)))), (shr_vals r, (rawptr_vals p, (uint_vals w64 bytes, (uint_vals w64 boundary, tt))))), τ) in
    let HasLayout : Type 0 = (capped (size τ) ≡ bytes) × (capped (align τ) ≡ boundary) in
    let owned_at = λ (p : Ptr). fsep (room_for τ p) (token Z h τ p) in
    qed 𝓛 (raw (on_entry 𝓛 (ended Z).signature κs qs a (y block).0.4) ∷ (raw (fact 𝓤 (κs.1.0 ⊑ B.lives)) ⊛ raw (fact 𝓤 HasLayout) ⊛ ‵ (owned_at block)) ∷ []) ∵
    use1 𝓛 (‵ (shared_counts Z r κ) ⊛ ‵ (flft κ q) ⊛ ‵ (seen Z κ (inner_at Z r) h) ⊛ ‵ (flft κs.1.0 qs.1.0) ⊛ ‵ ftrue)
    (opened Z 𝓛 κ κs.1.0 q qs.1.0 r (shr_vals r) (owns (RawPtr ∷ usize ∷ usize ∷ []) a.1 (y block).0.4.1)) $
    split3 ! $ move ! (3 ∷ []) $ split3 ! $ heard ! _ (λ lives. heard ! HasLayout (λ layout.
    -- [the block, with the right to free it; the counts; the first token; the inner allocator and the other tokens]
    in_a_block ! block owned_at (fst∗ 𝓤 (never 𝓤) (sem 𝓛 (token Z h τ null_ptr))) (λ b o at.
    regoal ! (λ p. prop (WpFn 𝓤 𝓛.H 𝓣.C 𝓣.Λ (here Z) (vptr r.ref_ptr.0 r.ref_ptr.1 ∷ ptr_val p ∷ vint w64 bytes ∷ vint w64 boundary ∷ []) (W.post (y p)))) at refl $
    fsplit ! $ move ! (4 ∷ []) $ split ! $ move ! (4 ∷ 5 ∷ 2 ∷ 3 ∷ 0 ∷ []) $
    enter ! _ _ _ _ _ $
    alloc_all ! (λ l. pass_all ! refl ((tt, tt), ((tt, tt), ((tt, record { fits = are.1.1.0.1 }), ((tt, record { fits = are.1.1.1.0.1 }), tt)))) $
    sets ! (addr ! (through ! refl (fld ! refl (stop !)))) refl (tt, tt) $
    let Back = triple_of 𝓛 handed.signature (handed.spec 𝓛 𝓜.mem 𝓡.returns) in
    let p = counts_at Z r in let pointer = vptr p.0 p.1 ∷ [] in let size = vint w64 bytes ∷ [] in
    let z : Back.Ghost = (((κ, tt), (q, tt), tt, (record { ref_ptr = p; now = r.now.counts }, (bytes, tt)), (pointer, (size, tt))), tt) in
    nothing ! $ flt_i ! bytes (2 ^ 64) are.1.1.0.1 $ feq_i ! (List Val) size size refl $ fjoin ! $ fjoin ! $
    move ! (1 ∷ []) $ feq_i ! (List Val) pointer pointer refl $ fjoin ! $ fjoin ! $
    nothing ! $ move ! (2 ∷ 0 ∷ []) $ join ! $ join ! $ nothing ! $ move ! (1 ∷ 0 ∷ []) $ use2 𝓛 (raw (Back.pre z)) (id⊢ 𝓤 _) $
    calls_at ! (framed 𝓤 𝓛.H 𝓜 𝓣) Back (handed_proof.met 𝓤 𝓛 𝓜 𝓡 (code.calls-failing_alloc::Counts::hand_back 𝓡.env wired)) z (and_then ! (get ! refl) (and_then ! (get ! refl) (no_more !))) (λ u.
    use1 𝓛 (later (some (λ (nought : Unit {0}). ((‵ (flft κ q) ⊛ ‵ ftrue) ⊛ ‵ (unit.own_val nought (u ∷ []))) ⊛
    some (λ (ws : Unit {0} × (Unit {0} × Unit {0})). ‵ (lasts handed.ended (κ, tt) z.0.3 ws) ⊛ ‵ ftrue)))) (id⊢ 𝓤 _) $
    await ! tt $ pick ! (λ nought. split ! $ split ! $ split ! $ move ! (2 ∷ []) $ feq_l ! (λ answer. move ! (2 ∷ []) $ drop ! $ move ! (1 ∷ []) $ drop ! $
    lands_as ! (ap only answer) refl (tt, tt) $
    sets ! (addr ! (through ! refl (fld ! refl (stop !)))) refl (tt, tt) $ move ! (1 ∷ 2 ∷ 3 ∷ 0 ∷ []) $
    let x = at_gives Z 𝓛 𝓜.mem 𝓡.returns κ q (inner_at Z r) h b o bytes boundary τ in
    group ! 4 $ use1 𝓛 (raw ((Gives Z 𝓛 𝓜.mem 𝓡.returns).pre x))
    (Gives-goes Z 𝓛 𝓜.mem 𝓡.returns κ q (inner_at Z r) h (⊑_trans κ κs.1.0 B.lives bounds.0 lives) b o bytes boundary τ layout.0 layout.1 are.1.1.0.1 are.1.1.1.0.1) $
    calls_at ! (framed 𝓤 𝓛.H 𝓜 𝓣) (Gives Z 𝓛 𝓜.mem 𝓡.returns) (met.deallocate drops) x
    (and_then ! (get ! refl) (and_then ! (get ! refl) (and_then ! (get ! refl) (and_then ! (get ! refl) (no_more !))))) (λ v.
    use1 𝓛 (later (given (v ≡ vunit) (‵ (flft κ q)))) (Gives-Gives Z 𝓛 𝓜.mem 𝓡.returns κ q (inner_at Z r) h b o bytes boundary τ v) $ await ! tt $ learn ! (λ is.
    lands_as ! is refl (tt, tt) $ sets ! (of_opd ! (unit_lit !)) refl (tt, tt) $ returns ! (look_at ! 0 refl) $ free_all ! refl $
    suffices ! _ (leaves 𝓛 (ended Z) (stayed Z) c (y (block_ptr b o)) vunit tt (tt, (tt, (tt, (tt, tt)))) (tt, (tt, (tt, (tt, tt))))) $
    join ! $ frame ! $ nothing ! $ nothing ! $ fjoin ! $ nothing ! $ fjoin ! $ nothing ! $ fjoin ! $ nothing ! $ fjoin ! $ frame ! $
    feq_i ! (List Val) (vunit ∷ []) (vunit ∷ []) refl $ frame ! $ nothing ! $ done !))))))))))
