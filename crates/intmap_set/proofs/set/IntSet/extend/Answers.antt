-- The keys of an iterator are inserted one after another, and an induction over them is beyond the search.
use Rattle.std.proofs.Common.{subst, arith, rules}
use Rattle.std.specs.Iterator.{Yields}
use Rattle.std.proofs.iter.runs.Consumers.{total_runs}
use Rattle.std.proofs.lemmas.List.{length_push, length-map}
use Rattle.intmap.proofs.ExtendLemmas.{length-new_keys}
use Rattle.intmap.proofs.ReservedLemmas.{HasRoom-fewer}
use Rattle.intmap_set.specs.Sets.{as_map, paired}
use Rattle.intmap_set.proofs.ExtendLemmas.{IsExtended-push}
use Rattle.intmap_set.proofs.RoomLemmas.{HasRoom-inserts}
use Rattle.intmap_set.proofs.set.IntSet.extend.Goals as goal

pub loop-key-preserved : goal.loop-key-preserved
loop-key-preserved g c =
    let number = g.K.IntKey.number_of in let is_valid = g.K.IntKey.is_valid in
    let key = c.in-Some.key in let kept = c.loop-key.invariant in (
      search rules,
      IsExtended-push number is_valid c.args.self.now c.loop-key.self c.insert.new.self c.loop-key.yielded key kept.1 c.in_default.ensures.inserted,
      omega (arith, c.saturating_add-applied.ensures, kept.2, length_push c.loop-key.yielded key),
      c.insert.ensures.valid_after,
      kept.4,
      (let goes = c.in-Some.ensures.goes.on kept.0.1 in let more = length_push c.loop-key.yielded key in omega (arith, goes, more, kept.5)),
      λ room. let goes = c.in-Some.ensures.goes.on kept.0.1 in let more = length_push c.loop-key.yielded key in
          HasRoom-inserts number is_valid c.loop-key.self c.insert.new.self key _ kept.3
          (HasRoom-fewer number (as_map c.loop-key.self) _ _ kept.3.capacity (kept.6 room) (omega (arith, goes, more, kept.5))) c.in_default.ensures.inserted,
    )

pub returns-in-Err-clause-stops : goal.returns-in-Err-clause-stops
returns-in-Err-clause-stops g c =
    let gives = g.I.Iterator.next_gives in let keys = c.loop-key.yielded in let e = c.in-Err.ensures in
    record {
      keys = keys;
      rest = c.next.new.self;
      came = (
        c.loop-key.key-iterator,
        subst (λ i. Yields gives i keys c.loop-key.key-iterator) c.into_iter-key-iterator.ensures.into_iter_gives c.loop-key.yielded_by,
        c.in-Some.ensures.steps,
      );
      before = c.loop-key.self;
      extended = c.loop-key.invariant.1;
      may_refuse = e.refused;
      after = e.err;
      applied = c.loop-key.invariant.2;
    }

pub returns-clause-len : goal.returns-clause-len
returns-clause-len g c =
    let kept = c.loop-key.invariant in
    let few = length-new_keys g.K.IntKey.number_of (paired c.args.self.now.walk) (paired c.loop-key.yielded) in
    let same = length-map {B = g.row.K.Denot × Unit {0}} c.loop-key.yielded (λ k. (k, tt)) in
    omega (arith, kept.1.len, few, same, kept.5)

pub returns-clause-runs : goal.returns-clause-runs
returns-clause-runs g c =
    let gives = g.I.Iterator.next_gives in let keys = c.loop-key.yielded in
    let came = subst (λ i. Yields gives i keys c.loop-key.key-iterator) c.into_iter-key-iterator.ensures.into_iter_gives c.loop-key.yielded_by in
    total_runs gives c.args.iter (Unit {0}) _ (keys, λ _. (c.next.new.self, (c.loop-key.key-iterator, came, c.in-None.ensures.steps)), c.loop-key.invariant.1.updates) tt

pub returns-in-Err-clause-has_room : goal.returns-in-Err-clause-has_room
returns-in-Err-clause-has_room g c room =
    let kept = c.loop-key.invariant in let goes = c.in-Some.ensures.goes.on kept.0.1 in
    c.in-Err.ensures.has_room (HasRoom-fewer g.K.IntKey.number_of (as_map c.loop-key.self) _ 1 kept.3.capacity (kept.6 room) (omega (arith, goes, kept.5)))
