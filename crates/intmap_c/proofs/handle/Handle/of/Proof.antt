-- By hand, since a struct that owns memory is made: the handle owns what the parts of the box owned.
use Rattle.intmap_c.proofs.Words.{[], ◌∷◌, ◌++◌, refl, List, Val, ftrue, WpFn, tables, ‵, raw, ◌⊛◌, prop, ◌$◌, ◌∵◌, !, qed, done, keep, drop, split}
use Rattle.intmap_c.proofs.Words.{join, fsplit, regoal, suffices, enter, stop, fld, of_opd, no_more, and_then, returns, alloc_all, pass_all, free_all}
use Rattle.intmap_c.proofs.Words.{look_at, get, get_in, sets, agg, sub, whole, yes, owns, types_at, plain, block_ptr, nothing, alive, Stays}
use Rattle.intmap_c.proofs.Words.{stay_dropped, Goes-dropped, walk_of, says, ends_at, Some, proved_at}
use Rattle.std.specs.contracts.impls.GlobalAllocator.TheImpl.{ghosts}
use Rattle.std.specs.contracts.alloc.Global.{the_row as Global}
use Rattle.std.proofs.alloc.Global.TheLaws.{the_row_laws}
use Rattle.intmap_c.specs.Handles.{Map}
use Rattle.intmap_c.proofs.UnboxedSteps.{parted_fits, Parts, parts_out}
use Rattle.intmap_c.proofs.HandleSteps.{Word, word_fits, word_in}
use Rattle.intmap_c.proofs.handle.Handle.TheLaws.{lowered}
use Rattle.intmap_c.specs.contracts.handle.Handle.of as f
use Rattle.intmap_c.proofs.handle.Handle.of.Statement.{statement}
use Rattle.intmap_c.proofs.handle.Handle.of.Code as code

abbrev stayed : Stays f.ended.signature.params f.ended.kept
stayed = (stay_dropped _ yes, tt)

pub of_spec : {M : Type 1} → statement M
of_spec 𝓤 𝓛 𝓜 𝓡 wired =
    let c = f.clauses 𝓛 𝓜.mem 𝓡.returns in let W = walk_of 𝓛 f.ended stayed c in let 𝓣 = tables 𝓤 𝓛.H 𝓜 𝓡 𝓡.env in
    let Box = Parts Map Global the_row_laws ghosts in
    proved_at 𝓛 f.ended stayed c 𝓜 𝓡 (Goes-dropped 𝓛 0 (plain (λ _. Box)) yes (λ κs x w. refl), tt)
    f.Key.name code.function (code.unfolded 𝓤 𝓛.H 𝓜 𝓡 wired) (λ y are.
    let d = y.0.3.0 in let vs = y.0.4.0 in
    qed 𝓛 ((raw (alive 𝓛 f.signature y.0.0 y.0.1) ⊛ ‵ (owns (types_at f.signature.params y.0.0) y.0.3 y.0.4)) ∷ ‵ ftrue ∷ []) ∵
    split ! $ drop ! $ fsplit ! $ parts_out Map Global the_row_laws ghosts ! d vs (λ b o h at word fits.
    keep ! (0 ∷ []) $
    let new : Word.Denot = record { at = block_ptr b o; value = Some d.value } in
    regoal ! (λ (us : List Val). prop (WpFn 𝓤 𝓛.H 𝓣.C 𝓣.Λ code.function (us ++ []) (W.post y))) word refl $
    enter ! _ _ _ _ _ $ alloc_all ! (λ l. pass_all ! refl (parted_fits Map Global the_row_laws ghosts b o h fits, tt) $
    sets ! (of_opd ! (get_in ! (fld ! refl (stop !)) (sub ! 0 refl (whole !)))) refl (tt, tt) $
    sets ! (of_opd ! (get ! refl)) refl (tt, tt) $
    sets ! (agg ! (and_then ! (get ! refl) (no_more !))) refl (word_fits (block_ptr b o)) $
    returns ! (look_at ! 0 refl) $ free_all ! refl $
    suffices ! _ (ends_at 𝓛 f.ended stayed c y (lowered new) new (tt, tt) (tt, tt)) $ says ! refl $
    word_in ! new $ nothing ! $ nothing ! $ join ! $ nothing ! $ done !)))
