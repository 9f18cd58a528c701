-- By hand, since a struct that owns memory is taken apart: what it owns is what the box is made of.
use Rattle.intmap_c.proofs.Words.{◌≡◌, List, [], ◌∷◌, ◌++◌, refl, sym, ap, subst, a_type, dcons, dnil, inst_fn, Val, vptr, ftrue, flft, id⊢, fact}
use Rattle.intmap_c.proofs.Words.{◌⊑◌, tables, WpFn, ‵, raw, ◌⊛◌, some, later, prop, at_ret, ◌$◌, ◌∵◌, !, qed, done, move, keep, drop, use1, split}
use Rattle.intmap_c.proofs.Words.{split3, join, fsplit, fjoin, feq_i, heard, pick, await, rewrite, regoal, suffices, stop, fld, of_opd, no_more}
use Rattle.intmap_c.proofs.Words.{and_then, first, blocks, exec, returns, enter, alloc_all, pass_all, free_all, look_at, get, get_in, sets}
use Rattle.intmap_c.proofs.Words.{lands_last, env, sub, whole, no, RattleType, owns, types_at, plain, layout, param, bounded, param_laws, block_ptr}
use Rattle.intmap_c.proofs.Words.{nothing, only, calls_at_last, Lasts, lasts, triple_of, framed, Stays, stay_dropped, walk_of, says, ends_at}
use Rattle.intmap_c.proofs.Words.{Goes-blank, after, Good, proved_at}
use Rattle.std.proofs.BoxSteps.Form.{Bx, B}
use Rattle.std.proofs.BoxSteps.Steps.{box_out, box_in}
use Rattle.std.specs.contracts.boxed.Box.from_raw as made
use Rattle.std.proofs.boxed.Box.from_raw.Met.{met}
use Rattle.intmap_c.proofs.UnboxedSteps.{parted, parted_fits, Parts, parts_out}
use Rattle.intmap_c.specs.contracts.unboxed.Unboxed.into_box as f
use Rattle.intmap_c.proofs.unboxed.Unboxed.into_box.Statement.{statement}
use Rattle.intmap_c.proofs.unboxed.Unboxed.into_box.Code as code

pub into_box_spec : {M : Type 1} → statement M
into_box_spec 𝓤 𝓛 𝓜 𝓡 wired T A L LA g d dx dd allocator glue-T glue-A =
    let R : RattleType = param 0 T in let Z : RattleType = param 1 A in let LZ = param_laws 1 A LA in
    let E : Bx = record { row = T; laws = L; al = record { row = A; laws = LA; g = g; d = d; drops = dd } } in
    let given = bounded (a_type ∷ a_type ∷ []) (T, (A, tt)) (dcons d (dcons dx (dcons dd dnil))) in let fn = inst_fn given code.function in
    let En = f.ended T A g d dx dd in let c = f.clauses T A g d dx dd 𝓛 𝓜.mem 𝓡.returns in let 𝓣 = tables 𝓤 𝓛.H 𝓜 𝓡 𝓡.env in
    let stayed : Stays En.signature.params En.kept = (stay_dropped _ no, tt) in let W = walk_of 𝓛 En stayed c in
    proved_at 𝓛 En stayed c 𝓜 𝓡 (Goes-blank 𝓛 2 (plain (λ _. Parts R Z LZ g)) no (λ κs x s. tt), tt)
    (f.Key.name given) fn (code.unfolded 𝓤 𝓛.H 𝓜 𝓡 wired (T, (A, tt)) d dx dd) (λ y are.
    let κs = y.0.0 in let qs = y.0.1 in let was = y.0.3.0 in let vs = y.0.4.0 in
    let tokens = ‵ (flft κs.0 qs.0) ⊛ ‵ (flft κs.1.0 qs.1.0) ⊛ ‵ ftrue in
    qed 𝓛 ((tokens ⊛ ‵ (owns (types_at En.signature.params κs) y.0.3 y.0.4)) ∷ (raw (fact 𝓤 (κs.0 ⊑ T.lives)) ⊛ raw (fact 𝓤 (κs.1.0 ⊑ A.lives)) ⊛ ‵ ftrue) ∷ []) ∵
    split ! $ move ! (1 ∷ []) $ fsplit ! $ parts_out R Z LZ g ! was vs (λ b o h at is fits.
    -- [the box's memory; the allocator; nothing; the tokens; what is known of the lifetimes]
    let G = triple_of 𝓛 (made.signature T A g d dd) (made.spec T A g d dd 𝓛 𝓜.mem 𝓡.returns) in
    let z : G.Ghost = ((κs, qs, tt, (was.alloc, (block_ptr b o, tt)), (h ∷ [], (vptr b o ∷ [], tt))), was.value) in
    move ! (4 ∷ []) $ split3 ! $ move ! (1 ∷ 3 ∷ []) $ join ! $ move ! (1 ∷ 0 ∷ []) $ join ! $
    move ! (1 ∷ []) $ feq_i ! (List Val) (vptr b o ∷ []) (vptr b o ∷ []) refl $ fjoin ! $ move ! (2 ∷ 0 ∷ []) $ fjoin ! $
    move ! (3 ∷ 0 ∷ []) $ join ! $ join ! $ use1 𝓛 (raw (G.pre z)) (id⊢ 𝓤 _) $
    regoal ! (λ (us : List Val). prop (WpFn 𝓤 𝓛.H 𝓣.C 𝓣.Λ fn (us ++ []) (W.post y))) is refl $
    enter ! 𝓣.C 𝓣.Λ fn (parted b o h ∷ []) (W.post y) $ alloc_all ! (λ l. pass_all ! refl (parted_fits R Z LZ g b o h fits, tt) $
    sets ! (of_opd ! (get_in ! (fld ! refl (stop !)) (sub ! 0 refl (whole !)))) refl (tt, tt) $
    sets ! (of_opd ! (get_in ! (fld ! refl (stop !)) (sub ! 1 refl (whole !)))) refl fits $
    first ! $ blocks ! $ sets ! (of_opd ! (get ! refl)) refl fits $
    calls_at_last ! (framed 𝓤 𝓛.H 𝓜 𝓣) G (met 𝓤 𝓛 𝓜 𝓡 (code.calls-std_alloc::boxed::Box::from_raw 𝓡.env wired) T A L LA g d dd allocator glue-A) z
    (and_then ! (get ! refl) (and_then ! (get ! refl) (no_more !))) (λ u.
    use1 𝓛 (later (some (λ (r : (B E).Denot). (tokens ⊛ ‵ ((B E).own_val r (u ∷ []))) ⊛
    some (λ (ls : Lasts (made.ended T A g d dd) κs z.0.3). ‵ (lasts (made.ended T A g d dd) κs z.0.3 ls) ⊛
    raw (fact 𝓤 (r.value ≡ was.value)) ⊛ raw (fact 𝓤 (r.alloc ≡ was.alloc)))))) (id⊢ 𝓤 (G.post z u)) $
    await ! tt $ pick ! (λ r. split ! $ move ! (1 ∷ []) $ pick ! (λ ls. split3 ! $ drop ! $ heard ! (r.value ≡ was.value) (λ same. drop ! $ split ! $ move ! (1 ∷ []) $
    -- [the box; the tokens; nothing]
    box_out E ! r (u ∷ []) (λ b' o' h' at' is' fits'. box_in E ! r b' o' r.value at' refl $ rewrite ! 0 (λ (us : List Val). ‵ ((B E).own_val r us)) (sym is') refl $
    let good : Good (layout (B E)) u = subst (Good (layout (B E))) (sym (ap only is')) (parted_fits R Z LZ g b' o' h' fits') in
    lands_last ! refl good $ exec ! 𝓣.C 𝓣.Λ (env fn.locals l) (after 3 fn.body) (at_ret _ (W.post y)) $
    sets ! (of_opd ! (get ! refl)) refl good $
    returns ! (look_at ! 0 refl) $ free_all ! refl $ keep ! (1 ∷ 0 ∷ []) $
    suffices ! _ (ends_at 𝓛 En stayed c y u r ((tt, (tt, tt)), tt) (tt, tt)) $ says ! same $
    nothing ! $ nothing ! $ join ! $ move ! (1 ∷ 0 ∷ []) $ done !))))))))
