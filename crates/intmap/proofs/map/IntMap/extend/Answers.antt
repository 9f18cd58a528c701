-- The pairs of an iterator are inserted one after another, and an induction over them is beyond the search.
use Rattle.std.proofs.Common.{Some, refl, sym, subst, arith, rules}
use Rattle.std.specs.Iterator.{Yields}
use Rattle.std.proofs.iter.runs.Consumers.{total_runs}
use Rattle.std.proofs.lemmas.List.{length_push}
use Rattle.intmap.proofs.ExtendLemmas.{IsExtended-nil, IsExtended-push, length-new_keys}
use Rattle.intmap.proofs.ReservedLemmas.{HasRoom-fewer, HasRoom-inserted}
use Rattle.intmap.proofs.map.IntMap.extend.Goals as goal

pub loop-key-init : goal.loop-key-init
loop-key-init g c = (search rules, IsExtended-nil g.K.IntKey.number_of g.K.IntKey.is_valid c.args.self.now, refl, c.known.ensures.valid, c.known.ensures.valid, search (arith, rules), λ room. HasRoom-fewer g.K.IntKey.number_of c.args.self.now _ _ c.known.ensures.valid.capacity room (omega arith))

pub loop-key-preserved : goal.loop-key-preserved
loop-key-preserved g c =
    let e = c.in-Ok.ensures in
    let kept = c.loop-key.invariant in (
      search rules,
      IsExtended-push g.K.IntKey.number_of g.K.IntKey.is_valid c.args.self.now c.loop-key.self c.insert.new.self c.loop-key.yielded c.in-Some.key c.in-Some.value
          kept.1 (record { inserted = e.inserted; state = e.state }),
      omega (arith, c.saturating_add-applied.ensures, kept.2, length_push c.loop-key.yielded (c.in-Some.key, c.in-Some.value)),
      c.insert.ensures.valid_after,
      kept.4,
      (let goes = c.in-Some.ensures.goes.on kept.0.1 in let more = length_push c.loop-key.yielded (c.in-Some.key, c.in-Some.value) in omega (arith, goes, more, kept.5)),
      λ room. let goes = c.in-Some.ensures.goes.on kept.0.1 in let more = length_push c.loop-key.yielded (c.in-Some.key, c.in-Some.value) in
          HasRoom-inserted g.K.IntKey.number_of g.K.IntKey.is_valid c.loop-key.self c.insert.new.self c.in-Some.key c.in-Some.value _ kept.3
          (HasRoom-fewer g.K.IntKey.number_of c.loop-key.self _ _ kept.3.capacity (kept.6 room) (omega (arith, goes, more, kept.5))) e.inserted e.state,
    )

pub returns-in-Err-clause-stops : goal.returns-in-Err-clause-stops
returns-in-Err-clause-stops g c =
    let e = c.in-Err.ensures in
    let gives = g.I.Iterator.next_gives in
    let pairs = c.loop-key.yielded in
    record {
      pairs = pairs;
      rest = c.next.new.self;
      came = (
        c.loop-key.key-iterator,
        subst (λ s. Yields gives s pairs c.loop-key.key-iterator) c.into_iter-key-iterator.ensures.into_iter_gives c.loop-key.yielded_by,
        subst (λ v. gives c.loop-key.key-iterator (Some (c.in-Some.key, v)) c.next.new.self) (sym e.value_returned) c.in-Some.ensures.steps,
      );
      before = c.loop-key.self;
      extended = c.loop-key.invariant.1;
      may_refuse = e.refused;
      after = e.err;
      applied = c.loop-key.invariant.2;
    }

pub returns-clause-extends : goal.returns-clause-extends
returns-clause-extends g c =
    let gives = g.I.Iterator.next_gives in
    let pairs = c.loop-key.yielded in
    record {
      pairs = pairs;
      came = (
        c.next.new.self,
        (
          c.loop-key.key-iterator,
          subst (λ s. Yields gives s pairs c.loop-key.key-iterator) c.into_iter-key-iterator.ensures.into_iter_gives c.loop-key.yielded_by,
          c.in-None.ensures.steps,
        ),
      );
      extended = c.loop-key.invariant.1;
    }

pub returns-clause-runs : goal.returns-clause-runs
returns-clause-runs g c =
    let all = returns-clause-extends g c in
    total_runs g.I.Iterator.next_gives c.args.iter (Unit {0}) _ (all.pairs, λ _. all.came, all.extended.updates) tt

pub returns-clause-len : goal.returns-clause-len
returns-clause-len g c =
    let kept = c.loop-key.invariant in
    let few = length-new_keys g.K.IntKey.number_of c.args.self.now.walk c.loop-key.yielded in
    omega (arith, kept.1.len, few, kept.5)

pub returns-in-Err-clause-has_room : goal.returns-in-Err-clause-has_room
returns-in-Err-clause-has_room g c room =
    let kept = c.loop-key.invariant in let goes = c.in-Some.ensures.goes.on kept.0.1 in
    c.in-Err.ensures.has_room (HasRoom-fewer g.K.IntKey.number_of c.loop-key.self _ 1 kept.3.capacity (kept.6 room) (omega (arith, goes, kept.5)))
