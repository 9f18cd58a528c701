-- By hand, since two loans are required of the caller, and given back.
use Rattle.intmap_c.proofs.ReaderWords.{life, map_lent, passed, shuts_word, [], ◌∷◌, refl, ftrue, tables, ‵, raw, ◌⊛◌, some, later, ◌$◌, ◌∵◌, !, qed}
use Rattle.intmap_c.proofs.ReaderWords.{done, move, keep, drop, use1, split, join, fsplit, fjoin, pick, await, suffices, enter, stop, fld, of_opd}
use Rattle.intmap_c.proofs.ReaderWords.{no_more, and_then, returns, alloc_all, pass_all, free_all, look_at, get, sets, lands_as, agg, sub, whole}
use Rattle.intmap_c.proofs.ReaderWords.{owns, types_at, plain, yes, nothing, calls_at, Lasts, lasts, triple_of, framed, Stays, stay_dropped}
use Rattle.intmap_c.proofs.ReaderWords.{Goes-dropped, walk_of, says, ends_at, proved, flft, id⊢, named, fact, use2, frame, group, load, through}
use Rattle.intmap_c.proofs.ReaderWords.{look_in, RefOf, Is, shows, shr_vals, shr_Tells, peeks, heard, is_lent, Word, ptr_fits, lent_fits, map_of}
use Rattle.intmap_c.proofs.ReaderWords.{opens_word, lends}
use denote.Builtin.{bool}
use denote.Plain.{bool_Lawful}
use mathlib.Core.Bool.{Bool}
use Rattle.intmap_c.specs.Calls.{AreEqual}
use Rattle.intmap_c.specs.contracts.read.intmap_equal as f
use Rattle.intmap_c.proofs.read.intmap_equal.Statement.{statement}
use Rattle.intmap_c.proofs.read.intmap_equal.Code as code
use Rattle.intmap_c.specs.contracts.read.equal as g
use Rattle.intmap_c.proofs.read.equal.Met.{met}

abbrev stayed : Stays f.ended.signature.params f.ended.kept
stayed = (stay_dropped _ yes, (stay_dropped _ yes, tt))

pub intmap_equal_spec : {M : Type 1} → statement M
intmap_equal_spec 𝓤 𝓛 𝓜 𝓡 wired =
    let c = f.clauses 𝓛 𝓜.mem 𝓡.returns in let W = walk_of 𝓛 f.ended stayed c in let 𝓣 = tables 𝓤 𝓛.H 𝓜 𝓡 𝓡.env in
    let first = RefOf (0 ∷ []) tt (plain (λ _. Word)) (λ _. tt) in let second = RefOf (1 ∷ []) tt (plain (λ _. Word)) (λ _. tt) in
    proved 𝓛 f.ended stayed c 𝓜 𝓡 (Goes-dropped 𝓛 2 first yes (λ κs x w. refl), (Goes-dropped 𝓛 2 second yes (λ κs x w. refl), tt))
    f.Key.name code.function (code.unfolded 𝓤 𝓛.H 𝓜 𝓡 wired)
    (λ κs. (shr_vals, (shr_vals, tt))) (λ κs. (shr_Tells (named 0) κs.0 Word, (shr_Tells (named 1) κs.1.0 Word, tt))) (λ κs qs bounds a loans are.
    let p = a.0.now.at in let x = map_lent (named 0) loans.0 p in let w = passed (named 0) loans.0 p in
    let p' = a.1.0.now.at in let x' = map_lent (named 1) loans.1 p' in let w' = passed (named 1) loans.1 p' in
    let y : W.Ghost = ((κs, qs, bounds, a, (shr_vals a.0, (shr_vals a.1.0, tt))), loans) in
    let G = triple_of 𝓛 g.signature (g.spec 𝓛 𝓜.mem 𝓡.returns) in
    let z : G.Ghost = (((loans.0.life, (loans.1.life, tt)), (loans.0.share, (loans.1.share, tt)), tt, (x, (x', tt)), (w ∷ [], (w' ∷ [], tt))), tt) in
    qed 𝓛 (((‵ (flft κs.0 qs.0) ⊛ ‵ (flft κs.1.0 qs.1.0) ⊛ ‵ ftrue) ⊛ ‵ (owns (types_at f.ended.signature.params κs) a y.0.4))
    ∷ (‵ (is_lent loans.0 p) ⊛ ‵ (is_lent loans.1 p')) ∷ []) ∵
    split ! $ split ! $ move ! (3 ∷ []) $ split ! $ move ! (3 ∷ []) $ split ! $ move ! (5 ∷ []) $ fsplit ! $ fsplit ! $ move ! (2 ∷ []) $ fsplit ! $ fsplit ! $
    keep ! (4 ∷ 9 ∷ 1 ∷ 5 ∷ 7 ∷ 8 ∷ []) $
    -- [the first word; its token; the second word; its token; what is lent of both]
    enter ! _ _ _ _ _ $ alloc_all ! (λ l. pass_all ! refl ((tt, tt), ((tt, tt), tt)) $ opens_word ! tt a.0 (λ s.
    sets ! (of_opd ! (load ! (through ! refl (fld ! refl (stop !))) (look_in ! 0 (sub ! 0 refl (whole !))))) refl (ptr_fits p) $
    sets ! (agg ! (no_more !)) refl (tt, tt) $
    sets ! (agg ! (and_then ! (get ! refl) (and_then ! (get ! refl) (no_more !)))) refl (lent_fits (life (named 0) loans.0) p) $
    shuts_word ! tt s a.0 $ move ! (2 ∷ 3 ∷ []) $ opens_word ! tt a.1.0 (λ s'.
    sets ! (of_opd ! (load ! (through ! refl (fld ! refl (stop !))) (look_in ! 0 (sub ! 0 refl (whole !))))) refl (ptr_fits p') $
    sets ! (agg ! (no_more !)) refl (tt, tt) $
    sets ! (agg ! (and_then ! (get ! refl) (and_then ! (get ! refl) (no_more !)))) refl (lent_fits (life (named 1) loans.1) p') $
    shuts_word ! tt s' a.1.0 $
    -- [the token of the second `&`; the second word; that of the first; the first word; what is lent of both]
    move ! (4 ∷ []) $ lends ! (named 0) loans.0 p $ move ! (7 ∷ []) $ lends ! (named 1) loans.1 p' $
    -- [what the callee reads of the second; what stays lent of it; its loan's token; what it reads of the first; what stays lent; its loan's token; ..]
    nothing ! $ move ! (1 ∷ 0 ∷ []) $ join ! $ move ! (3 ∷ 0 ∷ []) $ join ! $
    nothing ! $ move ! (3 ∷ 0 ∷ []) $ join ! $ move ! (4 ∷ 0 ∷ []) $ join ! $ join ! $
    nothing ! $ move ! (1 ∷ 0 ∷ []) $ use2 𝓛 (raw (G.pre z)) (id⊢ 𝓤 _) $
    calls_at ! (framed 𝓤 𝓛.H 𝓜 𝓣) G (met 𝓤 𝓛 𝓜 𝓡 (code.calls-intmap_c::read::equal 𝓡.env wired)) z
    (and_then ! (get ! refl) (and_then ! (get ! refl) (no_more !))) (λ v.
    use1 𝓛 (later (some (λ (r : Bool). ((‵ (flft loans.0.life loans.0.share) ⊛ ‵ (flft loans.1.life loans.1.share) ⊛ ‵ ftrue) ⊛ ‵ (bool.own_val r (v ∷ []))) ⊛
    some (λ (ws : Lasts g.ended z.0.0 z.0.3). ‵ (lasts g.ended z.0.0 z.0.3 ws) ⊛ raw (fact 𝓤 (AreEqual (map_of loans.0.value) (map_of loans.1.value) r)))))) (id⊢ 𝓤 _) $
    await ! tt $ pick ! (λ r. split ! $ split ! $ split ! $ move ! (1 ∷ []) $ split ! $ move ! (3 ∷ []) $ peeks ! bool (Is bool) (shows 𝓛 bool) r (v ∷ []) (λ is.
    lands_as ! refl refl ((bool_Lawful 𝓛).typed r (v ∷ []) is).0 $ returns ! (look_at ! 0 refl) $ free_all ! refl $
    -- [the result; the second loan's token; nothing; the first's; what the callee left and says; what stays lent of both; ..]
    move ! (4 ∷ []) $ pick ! (λ ws. split ! $ drop ! $ heard ! _ (λ told.
    keep ! (3 ∷ 5 ∷ 1 ∷ 4 ∷ 0 ∷ 8 ∷ 6 ∷ []) $ fjoin ! $ move ! (1 ∷ 2 ∷ []) $ fjoin ! $ move ! (2 ∷ 1 ∷ []) $
    -- [the result; both loans; the tokens of both `&`]
    suffices ! _ (ends_at 𝓛 f.ended stayed c y v r (tt, (tt, tt)) (tt, (tt, tt))) $
    nothing ! $ nothing ! $ join ! $ nothing ! $ join ! $
    nothing ! $ move ! (6 ∷ 0 ∷ []) $ join ! $ move ! (5 ∷ 0 ∷ []) $ join ! $ group ! 3 $ frame ! $ frame ! $ says ! told $ done !)))))))))
