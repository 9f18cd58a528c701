-- By hand, since a tally's number exists only in proofs: here the new tally's is chosen to be 0.
use Rattle.std.proofs.Common.{[], ◌∷◌, refl}
use Rattle.std.proofs.raw_atomic.Walks.{proved}
use mir.Val.{vstruct, vnil}
use types.Kit.{raw, ◌$◌, ◌∵◌, !, qed, done, drop, fjoin, suffices}
use types.Part.{agg}
use types.Run.{enter, returns, no_more}
use types.ByLocal.{alloc_all, pass_all, free_all, look_at, sets}
use denote.Laws.{Is}
use denote.Steps.{nothing, owned}
use denote.Struct.Owning.{shape}
use denote.Struct.Struct.{Struct, Struct-Makes}
use denote.Triple.Entry.{on_entry}
use denote.Triple.Walked.{Stays, says, ends_at}
use Rattle.intmap_table.specs.contracts.steps.Tally.{the_type}
use Rattle.intmap_table.specs.contracts.steps.Tally.new as f
use Rattle.intmap_table.proofs.steps.Tally.new.Statement.{statement}
use Rattle.intmap_table.proofs.steps.Tally.new.Code as code

abbrev stayed : Stays f.ended.signature.params f.ended.kept
stayed = tt

pub new_spec : {M : Type 1} → statement M
new_spec 𝓤 𝓛 𝓜 𝓡 wired =
    let c = f.clauses 𝓛 𝓜.mem 𝓡.returns in
    proved 𝓛 f.ended stayed c 𝓜 𝓡 tt
    f.Key.name code.function (code.unfolded 𝓤 𝓛.H 𝓜 𝓡 wired)
    (λ κs. tt) (λ κs. tt) (λ κs qs bounds a g are.
    let fields = Struct (shape the_type) in let made = vstruct vnil in
    qed 𝓛 (raw (on_entry 𝓛 f.signature κs qs a tt) ∷ raw ((c κs a).requires g) ∷ []) ∵
    drop ! $ drop ! $ enter ! _ _ _ _ _ $ alloc_all ! (λ l. pass_all ! refl tt $
    sets ! (agg ! (no_more !)) refl (tt, tt) $ returns ! (look_at ! 0 refl) $ free_all ! refl $
    suffices ! _ (ends_at 𝓛 f.ended stayed c ((κs, qs, bounds, a, tt), g)
    made (record { count = 0 }) tt tt) $ says ! refl $
    -- [the tokens; the parameters; the new tally]: the first two are empty
    nothing ! $
    owned ! fields (Is fields) (Struct-Makes 𝓛 (shape the_type) tt) tt (made ∷ [])
    (tt, (refl, tt)) $ fjoin ! $ nothing ! $ nothing ! $ done !))
