-- By hand, since the loan is required of the caller, and given back.
use Rattle.intmap_c.proofs.ReaderWords.{gives_back, life, map_lent, passed, shuts_word, [], ◌∷◌, refl, ftrue, tables, ‵, raw, ◌⊛◌, ◌$◌, !, done, move}
use Rattle.intmap_c.proofs.ReaderWords.{keep, join, enter, stop, fld, of_opd, no_more, and_then, returns, alloc_all, pass_all, free_all, look_at, get}
use Rattle.intmap_c.proofs.ReaderWords.{sets, lands_as, agg, sub, whole, plain, yes, framed, Stays, stay_dropped, Goes-dropped, walk_of, ends_at}
use Rattle.intmap_c.proofs.ReaderWords.{proved, id⊢, flft, named, load, addr, through, look_in, RefOf, mut_vals, mut_Tells, shr_vals, shr_Tells}
use Rattle.intmap_c.proofs.ReaderWords.{lasts, gave_ref, Goes-gave_ref, map_of, Word, ptr_fits, lent_fits, opens_word, ◌∵◌, qed, split, fsplit, owns}
use Rattle.intmap_c.proofs.ReaderWords.{types_at, nothing, calls_at, triple_of, use2, is_lent, lends, w64}
use types.Run.{from, hop}
use types.ByLocal.{get_in, look_in_at}
use denote.Builtin.{usize}
use denote.Plain.{uint_Lawful}
use denote.Slice.{mut_slice_vals, mut_slice_Tells}
use denote.Exit.{left}
use denote.Signature.{Slot, mut_slice_of}
use denote.Triple.Walked.{Stay}
use Rattle.intmap_c.specs.Walks.{CopiesPairs}
use Rattle.intmap_table.specs.contracts.table.walk.Cursor.{the_row as Cursor}
use Rattle.intmap_c.specs.contracts.answer.Pair.{the_row as Pair}
use Rattle.intmap_c.specs.contracts.read.intmap_copy_pairs as f
use Rattle.intmap_c.proofs.read.intmap_copy_pairs.Statement.{statement}
use Rattle.intmap_c.proofs.read.intmap_copy_pairs.Code as code
use Rattle.intmap_c.specs.contracts.read.copy_pairs as g
use Rattle.intmap_c.proofs.read.copy_pairs.Met.{met}

-- The slice is handed on to the callee, which leaves what the contract says of it.
abbrev slice : Slot 3
slice = mut_slice_of (2 ∷ []) tt (plain (λ _. Pair))

abbrev gave_slice : Stay slice yes
gave_slice = record { fit = λ κs x ws. Unit {0}; has = λ κs x ws vs. left ((slice.row κs).exit yes) x ws }

abbrev stayed : Stays f.ended.signature.params f.ended.kept
stayed = (stay_dropped _ yes, (gave_ref (1 ∷ []) tt (plain (λ _. Cursor)), (gave_slice, tt)))

pub intmap_copy_pairs_spec : {M : Type 1} → statement M
intmap_copy_pairs_spec 𝓤 𝓛 𝓜 𝓡 wired =
    let c = f.clauses 𝓛 𝓜.mem 𝓡.returns in let W = walk_of 𝓛 f.ended stayed c in let 𝓣 = tables 𝓤 𝓛.H 𝓜 𝓡 𝓡.env in
    proved 𝓛 f.ended stayed c 𝓜 𝓡
    (Goes-dropped 𝓛 3 (RefOf (0 ∷ []) tt (plain (λ _. Word)) (λ _. tt)) yes (λ κs x w. refl), (Goes-gave_ref 𝓛 3 1 tt (plain (λ _. Cursor)), ((λ κs x ws vs fits. 𝓛.laws.⇛_intro _), tt)))
    f.Key.name code.function (code.unfolded 𝓤 𝓛.H 𝓜 𝓡 wired)
    (λ κs. (shr_vals, (mut_vals, (mut_slice_vals, tt)))) (λ κs. (shr_Tells (named 0) κs.0 Word, (mut_Tells (named 1) κs.1.0 Cursor, (mut_slice_Tells (named 2) κs.1.1.0 Pair, tt)))) (λ κs qs bounds a loan are.
    let p = a.0.now.at in let x = map_lent (named 0) loan p in let w = passed (named 0) loan p in let rs = mut_vals a.1.0 in let ss = mut_slice_vals a.1.1.0 in
    let y : W.Ghost = ((κs, qs, bounds, a, (shr_vals a.0, (rs, (ss, tt)))), loan) in
    let G = triple_of 𝓛 g.signature (g.spec 𝓛 𝓜.mem 𝓡.returns) in let z : G.Ghost = (((loan.life, κs.1), (loan.share, qs.1), tt, (x, a.1), (w ∷ [], (rs, (ss, tt)))), tt) in
    qed 𝓛 (((‵ (flft κs.0 qs.0) ⊛ ‵ (flft κs.1.0 qs.1.0) ⊛ ‵ (flft κs.1.1.0 qs.1.1.0) ⊛ ‵ ftrue) ⊛ ‵ (owns (types_at f.ended.signature.params κs) a y.0.4)) ∷ ‵ (is_lent loan p) ∷ []) ∵ split ! $ split ! $ move ! (2 ∷ []) $
    fsplit ! $ fsplit ! $ keep ! (1 ∷ 3 ∷ 5 ∷ 2 ∷ 4 ∷ []) $
    -- [the word behind the `&`; its token; the loan; what else is passed; the other tokens]
    enter ! _ _ _ _ _ $ alloc_all ! (λ l. pass_all ! refl ((tt, tt), ((tt, tt), ((tt, (tt, (record { fits = are.1.1.0.0.1.0 }, tt))), tt))) $ opens_word ! tt a.0 (λ s.
    sets ! (of_opd ! (load ! (through ! refl (fld ! refl (stop !))) (look_in ! 0 (sub ! 0 refl (whole !))))) refl (ptr_fits p) $
    sets ! (agg ! (no_more !)) refl (tt, tt) $
    sets ! (agg ! (and_then ! (get ! refl) (and_then ! (get ! refl) (no_more !)))) refl (lent_fits (life (named 0) loan) p) $
    shuts_word ! tt s a.0 $ sets ! (addr ! (through ! refl (stop !))) refl (tt, tt) $
    sets ! (addr ! (from ! (fld ! refl (hop ! (look_in_at ! 3 (sub ! 0 refl (whole !))) (stop !))))) refl (tt, tt) $
    sets ! (agg ! (and_then ! (get ! refl) (and_then ! (get_in ! (fld ! refl (stop !)) (sub ! 1 refl (whole !))) (no_more !)))) refl (tt, (tt, (record { fits = are.1.1.0.0.1.0 }, tt))) $
    move ! (2 ∷ []) $ lends ! (named 0) loan p $
    -- [what the callee is lent; what stays lent; the token of the loan; that of the `&`; the word; what else is passed; the other tokens]
    move ! (0 ∷ 5 ∷ []) $ join ! $ move ! (2 ∷ 5 ∷ []) $ join ! $ join ! $ nothing ! $ move ! (1 ∷ 0 ∷ []) $ use2 𝓛 (raw (G.pre z)) (id⊢ 𝓤 _) $
    calls_at ! (framed 𝓤 𝓛.H 𝓜 𝓣) G (met 𝓤 𝓛 𝓜 𝓡 (code.calls-intmap_c::read::copy_pairs 𝓡.env wired)) z (and_then ! (get ! refl) (and_then ! (get ! refl) (and_then ! (get ! refl) (no_more !)))) (λ v.
    gives_back ! tt loan p (‵ (flft κs.1.0 qs.1.0) ⊛ ‵ (flft κs.1.1.0 qs.1.1.0) ⊛ ‵ ftrue) usize (lasts g.ended z.0.0 z.0.3) (λ ws u. CopiesPairs (map_of loan.value) a.1.0.now ws.1.0 a.1.1.0.now ws.1.1.0 u) v (W.post y v)
    (λ u ws. ends_at 𝓛 f.ended stayed c y v u (tt, ws.1) (tt, (tt, (tt, tt)))) (λ u is.
    lands_as ! refl refl ((uint_Lawful 𝓛 w64).typed u (v ∷ []) is).0 $ returns ! (look_at ! 0 refl) $ free_all ! refl $ keep ! (0 ∷ []) $ done !)))))
