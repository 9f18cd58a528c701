-- By hand, since a struct that owns memory is made: it owns what the box owned.
use Rattle.intmap_c.proofs.Words.{◌≡◌, List, [], ◌∷◌, ◌++◌, refl, ap, ◌∙◌, a_type, dcons, dnil, inst_fn, bare, Val, vstruct, of_list, ptr_val, ftrue}
use Rattle.intmap_c.proofs.Words.{flft, never, fst∗, sem, id⊢, fact, tables, WpFn, ‵, raw, ◌⊛◌, some, later, prop, ◌$◌, ◌∵◌, !, qed, done, move, keep}
use Rattle.intmap_c.proofs.Words.{drop, use1, split, split3, join, fsplit, fsplit3, fjoin, fpick, feq_l, heard, pick, await, rewrite, regoal}
use Rattle.intmap_c.proofs.Words.{suffices, stop, fld, of_opd, no_more, and_then, returns, enter, alloc_all, pass_all, free_all, look_at, get, get_in}
use Rattle.intmap_c.proofs.Words.{sets, lands_as, agg, sub, whole, no, RattleType, owns, types_at, plain, lone, param, bounded, param_laws, RawPtr}
use Rattle.intmap_c.proofs.Words.{Ptr, block_ptr, null_ptr, in_a_block, Tuple, nothing, only, calls_at, Lasts, lasts, triple_of, framed, Stays}
use Rattle.intmap_c.proofs.Words.{stay_dropped, walk_of, says, ends_at, box_owns, handle_tells, Goes-blank, proved_at}
use Rattle.std.proofs.BoxSteps.Form.{Bx, B, word}
use Rattle.std.proofs.BoxSteps.Steps.{box_out, box_in}
use Rattle.std.specs.contracts.boxed.Box.into_raw_with_allocator as split_up
use Rattle.std.proofs.boxed.Box.into_raw_with_allocator.Met.{met}
use Rattle.intmap_c.proofs.UnboxedSteps.{parted, parted_fits, Parts, parts_in}
use Rattle.intmap_c.specs.contracts.unboxed.Unboxed.of as f
use Rattle.intmap_c.proofs.unboxed.Unboxed.of.Statement.{statement}
use Rattle.intmap_c.proofs.unboxed.Unboxed.of.Code as code

pub of_spec : {M : Type 1} → statement M
of_spec 𝓤 𝓛 𝓜 𝓡 wired T A L LA g d dx dd allocator glue-T glue-A =
    let R : RattleType = param 0 T in let Z : RattleType = param 1 A in let LZ = param_laws 1 A LA in let Pair = Tuple (RawPtr ∷ Z ∷ []) in
    let E : Bx = record { row = T; laws = L; al = record { row = A; laws = LA; g = g; d = d; drops = dd } } in
    let given = bounded (a_type ∷ a_type ∷ []) (T, (A, tt)) (dcons d (dcons dx (dcons dd dnil))) in let fn = inst_fn given code.function in
    let En = f.ended T A g d dx dd in let c = f.clauses T A g d dx dd 𝓛 𝓜.mem 𝓡.returns in let 𝓣 = tables 𝓤 𝓛.H 𝓜 𝓡 𝓡.env in
    let stayed : Stays En.signature.params En.kept = (stay_dropped _ no, tt) in let W = walk_of 𝓛 En stayed c in
    proved_at 𝓛 En stayed c 𝓜 𝓡 (Goes-blank 𝓛 2 (plain (λ _. B E)) no (λ κs x s. tt), tt)
    (f.Key.name given) fn (code.unfolded 𝓤 𝓛.H 𝓜 𝓡 wired (T, (A, tt)) d dx dd) (λ y are.
    let κs = y.0.0 in let qs = y.0.1 in let boxed = y.0.3.0 in let a = boxed.alloc in let vs = y.0.4.0 in
    let tokens = ‵ (flft κs.0 qs.0) ⊛ ‵ (flft κs.1.0 qs.1.0) ⊛ ‵ ftrue in let En' = split_up.ended T A g d dd dx in
    qed 𝓛 ((tokens ⊛ ‵ (owns (types_at En.signature.params κs) y.0.3 y.0.4)) ∷ raw ((c κs y.0.3).requires y.1) ∷ []) ∵
    split ! $ move ! (1 ∷ []) $ fsplit ! $ box_out E ! boxed vs (λ b o h at is fits. box_in E ! boxed b o boxed.value at refl $
    -- [the box; nothing; the tokens; what is known of the lifetimes]
    let w : Val = word E h b o in let typed = parted_fits R Z LZ g b o h fits in
    let G = triple_of 𝓛 (split_up.signature T A g d dd dx) (split_up.spec T A g d dd dx 𝓛 𝓜.mem 𝓡.returns) in
    let z : G.Ghost = ((κs, qs, tt, (boxed, tt), (w ∷ [], tt)), tt) in
    move ! (0 ∷ 1 ∷ []) $ fjoin ! $ move ! (1 ∷ 0 ∷ []) $ join ! $ join ! $ use1 𝓛 (raw (G.pre z)) (id⊢ 𝓤 _) $
    regoal ! (λ (us : List Val). prop (WpFn 𝓤 𝓛.H 𝓣.C 𝓣.Λ fn (us ++ []) (W.post y))) is refl $
    enter ! 𝓣.C 𝓣.Λ fn (w ∷ []) (W.post y) $ alloc_all ! (λ l. pass_all ! refl (typed, tt) $
    sets ! (of_opd ! (get ! refl)) refl typed $
    calls_at ! (framed 𝓤 𝓛.H 𝓜 𝓣) G (met 𝓤 𝓛 𝓜 𝓡 (code.calls-std_alloc::boxed::Box::into_raw_with_allocator 𝓡.env wired) T A L LA g d dd dx allocator glue-A glue-T) z
    (and_then ! (get ! refl) (no_more !)) (λ u.
    use1 𝓛 (later (some (λ (r : Ptr × A.Denot). (tokens ⊛ ‵ (Pair.own_val r (u ∷ []))) ⊛
    some (λ (ls : Lasts En' κs z.0.3). ‵ (lasts En' κs z.0.3 ls) ⊛ raw (fact 𝓤 (r.1 ≡ a)) ⊛ ‵ (box_owns (g.dealloc_token a) R r.0 boxed.value))))) (id⊢ 𝓤 (G.post z u)) $
    await ! tt $ pick ! (λ r. split ! $ move ! (1 ∷ []) $ pick ! (λ ls. split3 ! $ drop ! $ heard ! (r.1 ≡ a) (λ same.
    in_a_block ! r.0 (λ p. box_owns (g.dealloc_token a) R p boxed.value) (fst∗ 𝓤 (never 𝓤) (sem 𝓛 (g.dealloc_token a (bare (lone R.mir)) null_ptr))) (λ b' o' at'.
    move ! (1 ∷ []) $ split ! $ move ! (1 ∷ []) $ fpick ! (λ vss. fsplit3 ! $ feq_l ! (λ all. feq_l ! (λ ptr. fsplit ! $
    rewrite ! 0 (λ (s : A.Denot). ‵ (A.own_val s vss.1.0)) same refl $ handle_tells E.al ! a vss.1.0 (λ h' one fits'.
    -- [the allocator; nothing; the tokens; the box's memory]
    let new : (Parts R Z LZ g).Denot = record { at = block_ptr b' o'; alloc = a; value = boxed.value } in
    let typed' = parted_fits R Z LZ g b' o' h' fits' in
    let word' : (u ∷ []) ≡ (parted b' o' h' ∷ []) =
    all ∙ ap (λ (us : List Val). vstruct (of_list (us ++ (vss.1.0 ++ []))) ∷ []) ptr ∙ ap (λ (us : List Val). vstruct (of_list (ptr_val r.0 ∷ (us ++ []))) ∷ []) one
    ∙ ap (λ (p : Ptr). vstruct (of_list (ptr_val p ∷ h' ∷ [])) ∷ []) at' in
    lands_as ! (ap only word') refl typed' $
    sets ! (of_opd ! (get_in ! (fld ! refl (stop !)) (sub ! 0 refl (whole !)))) refl (tt, tt) $
    sets ! (of_opd ! (get_in ! (fld ! refl (stop !)) (sub ! 1 refl (whole !)))) refl fits' $
    sets ! (of_opd ! (get ! refl)) refl fits' $
    sets ! (agg ! (and_then ! (get ! refl) (and_then ! (get ! refl) (no_more !)))) refl typed' $
    returns ! (look_at ! 0 refl) $ free_all ! refl $ keep ! (3 ∷ 0 ∷ 2 ∷ []) $ parts_in R Z LZ g ! b' o' h' a boxed.value $
    suffices ! _ (ends_at 𝓛 En stayed c y (parted b' o' h') new ((tt, (tt, tt)), tt) (tt, tt)) $ says ! refl $
    nothing ! $ nothing ! $ join ! $ move ! (2 ∷ 0 ∷ []) $ done !))))))))))))
