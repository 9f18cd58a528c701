-- By hand, since a struct that owns memory is made: at null it owns nothing.
use Rattle.intmap_c.proofs.Words.{[], ◌∷◌, refl, ftrue, ‵, raw, ◌$◌, ◌∵◌, !, qed, done, drop, suffices, feq_i, enter, lit, no_more, and_then, returns}
use Rattle.intmap_c.proofs.Words.{alloc_all, pass_all, free_all, look_at, sets, agg, Ptr, null_ptr, nothing, on_entry, says, ends_at, None, proved}
use Rattle.intmap_c.proofs.HandleSteps.{Word, word_fits, word_in}
use Rattle.intmap_c.proofs.handle.Handle.TheLaws.{lowered}
use Rattle.intmap_c.specs.contracts.handle.Handle.none as f
use Rattle.intmap_c.proofs.handle.Handle.none.Statement.{statement}
use Rattle.intmap_c.proofs.handle.Handle.none.Code as code

abbrev empty : Word.Denot
empty = record { at = null_ptr; value = None }

pub none_spec : {M : Type 1} → statement M
none_spec 𝓤 𝓛 𝓜 𝓡 wired =
    let c = f.clauses 𝓛 𝓜.mem 𝓡.returns in
    proved 𝓛 f.ended tt c 𝓜 𝓡 tt f.Key.name code.function (code.unfolded 𝓤 𝓛.H 𝓜 𝓡 wired) (λ κs. tt) (λ κs. tt) (λ κs qs bounds a _ are.
    qed 𝓛 (raw (on_entry 𝓛 f.signature κs qs a tt) ∷ ‵ ftrue ∷ []) ∵ drop ! $ drop ! $
    enter ! _ _ _ _ _ $ alloc_all ! (λ l. pass_all ! refl tt $
    sets ! (agg ! (and_then ! (lit ! tt) (no_more !))) refl (word_fits null_ptr) $
    returns ! (look_at ! 0 refl) $ free_all ! refl $
    suffices ! _ (ends_at 𝓛 f.ended tt c ((κs, qs, bounds, a, tt), tt) (lowered empty) empty tt tt) $ says ! refl $
    feq_i ! Ptr null_ptr null_ptr refl $ word_in ! empty $ nothing ! $ nothing ! $ done !))
