-- By hand, since a tally's number exists only in proofs: here the new one is chosen as the greater of the old one and the sum.
use Rattle.std.proofs.Common.{[], ◌∷◌, refl, ◌+◌}
use Rattle.std.specs.Prelude.{max}
use Rattle.std.proofs.raw_atomic.Walks.{proved}
use mir.Syntax.{named, w64}
use mir.Val.{vint, vstruct, vnil}
use types.Kit.{‵, raw, ◌⊛◌, ◌$◌, ◌∵◌, !, qed, done, split, move, keep, join, fjoin, suffices}
use types.Part.{agg}
use types.Run.{enter, returns, no_more}
use types.ByLocal.{alloc_all, pass_all, free_all, look_at, sets}
use denote.Builtin.{RefOf, usize}
use denote.Exit.{yes}
use denote.Laws.{Is}
use denote.RattleType.{owns}
use denote.Ref.{shr_vals, shr_Tells}
use denote.Signature.{plain, types_at}
use denote.Steps.{nothing, owned}
use denote.Struct.Owning.{shape}
use denote.Struct.Struct.{Struct, Struct-Makes}
use denote.Triple.Entry.{alive}
use denote.Triple.Walked.{Stays, says, stay_dropped, Goes-dropped, ends_at}
use denote.Plain.{uint_vals, uint_Tells}
use Rattle.intmap_table.specs.contracts.steps.Tally.{the_type, the_row}
use Rattle.intmap_table.specs.contracts.steps.Tally.or_sum as f
use Rattle.intmap_table.proofs.steps.Tally.or_sum.Statement.{statement}
use Rattle.intmap_table.proofs.steps.Tally.or_sum.Code as code

abbrev stayed : Stays f.ended.signature.params f.ended.kept
stayed = (stay_dropped _ yes, (stay_dropped _ yes, (stay_dropped _ yes, tt)))

pub or_sum_spec : {M : Type 1} → statement M
or_sum_spec 𝓤 𝓛 𝓜 𝓡 wired =
    let c = f.clauses 𝓛 𝓜.mem 𝓡.returns in
    let self = RefOf (0 ∷ []) tt (plain (λ _. the_row)) (λ _. tt) in
    let number = plain (λ _. usize) in
    proved 𝓛 f.ended stayed c 𝓜 𝓡
    (Goes-dropped 𝓛 1 self yes (λ κs x w. refl), (Goes-dropped 𝓛 1 number yes (λ κs x w. refl), (Goes-dropped 𝓛 1 number yes (λ κs x w. refl), tt)))
    f.Key.name code.function (code.unfolded 𝓤 𝓛.H 𝓜 𝓡 wired)
    (λ κs. (shr_vals, (uint_vals w64, (uint_vals w64, tt)))) (λ κs. (shr_Tells (named 0) κs.0 the_row, (uint_Tells w64, (uint_Tells w64, tt)))) (λ κs qs bounds a g are.
    let fields = Struct (shape the_type) in let made = vstruct vnil in
    let owned_by_self = owns (types_at f.signature.params κs) a (shr_vals a.0, (vint w64 a.1.0 ∷ [], (vint w64 a.1.1.0 ∷ [], tt))) in
    qed 𝓛 ((raw (alive 𝓛 f.signature κs qs) ⊛ ‵ owned_by_self) ∷ raw ((c κs a).requires g) ∷ []) ∵
    -- only the lifetime's token is kept, since the old number is in the argument `a`
    keep ! (0 ∷ []) $ split ! $ keep ! (0 ∷ []) $
    enter ! _ _ _ _ _ $ alloc_all ! (λ l. pass_all ! refl ((tt, tt), ((tt, record { fits = are.1.0.1 }), ((tt, record { fits = are.1.1.0.1 }), tt))) $
    sets ! (agg ! (no_more !)) refl (tt, tt) $ returns ! (look_at ! 0 refl) $ free_all ! refl $
    suffices ! _ (ends_at 𝓛 f.ended stayed c ((κs, qs, bounds, a, (shr_vals a.0, (vint w64 a.1.0 ∷ [], (vint w64 a.1.1.0 ∷ [], tt)))), g)
    made (record { count = max a.0.now.count (a.1.0 + a.1.1.0) }) (tt, (tt, (tt, tt))) (tt, (tt, (tt, tt)))) $ says ! refl $
    -- [the token; the parameters, of which nothing is left; the new tally]
    nothing ! $
    owned ! fields (Is fields) (Struct-Makes 𝓛 (shape the_type) tt) tt (made ∷ [])
    (tt, (refl, tt)) $ fjoin ! $ nothing ! $ nothing ! $ join ! $ nothing ! $ join ! $ nothing ! $ join ! $ move ! (2 ∷ []) $ done !))
