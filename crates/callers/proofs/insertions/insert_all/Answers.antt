use Rattle.std.proofs.Common.{◌≡◌, [], ◌∷◌, ◌++◌, sym, ap, subst, ◌∙◌, append-nil}
use Rattle.std.specs.Option.{option_or}
use Rattle.std.specs.Prelude.{reverse}
use Rattle.std.specs.Vec.Iter.{into_iter_items}
use Rattle.std.proofs.IntoIterSteps.{All-taken}
use Rattle.intmap.specs.Bindings.{value_of}
use Rattle.intmap.specs.Room.{HasRoomFor}
use Rattle.intmap.proofs.ExtendLemmas.{items-yielded_then}
use Rattle.callers.proofs.insertions.insert_all.Goals as goal

pub unreachable-requires : goal.unreachable-requires
unreachable-requires g c =
    let m = c.args.map.now in
    let refused = c.in-Err._refused in
    let stopped = c.in-Err.ensures.stops in
    let items : c.args.pairs.items ≡ stopped.pairs ++ (refused.key, refused.value) ∷ into_iter_items stopped.rest =
    sym c.into_iter.ensures.rest ∙ items-yielded_then c.into_iter.result stopped.pairs (refused.key, refused.value) stopped.rest stopped.came in
    let room = subst (HasRoomFor g.K.IntKey.number_of m.walk m.capacity m.factor) items c.requires in
    c.pairs_with_room_are_inserted.ensures.never_refused m stopped.before stopped.pairs (into_iter_items stopped.rest) (refused.key, refused.value) refused.cause
    c.in-Err.ensures.valid.capacity room stopped.extended stopped.may_refuse

pub returns-clause-capacity : goal.returns-clause-capacity
returns-clause-capacity g c =
    let m = c.args.map.now in
    let all = c.in-Ok.ensures.extends in
    let items : c.args.pairs.items ≡ all.pairs ++ [] = sym c.into_iter.ensures.rest ∙ sym (All-taken c.into_iter.result all.pairs all.came) ∙ sym (append-nil all.pairs) in
    let room = subst (HasRoomFor g.K.IntKey.number_of m.walk m.capacity m.factor) items c.requires in
    c.pairs_with_room_are_inserted.ensures.capacity m c.extend.new.self all.pairs [] c.in-Ok.ensures.valid.capacity room all.extended

pub returns-clause-values : goal.returns-clause-values
returns-clause-values g c q =
    let all = c.in-Ok.ensures.extends in
    all.extended.updates q
    ∙ ap (λ pairs. option_or (value_of g.K.IntKey.number_of (reverse pairs) q) (value_of g.K.IntKey.number_of c.args.map.now.walk q)) (All-taken c.into_iter.result all.pairs all.came ∙ c.into_iter.ensures.rest)
