use borrow.Follows.Closed.{read_of}
use Rattle.std.proofs.Common.{◌≡◌, ap}
use Rattle.std.specs.Option.{ghost_name_of}
use Rattle.intmap.specs.Map.{MapState, after_search, written}
use Rattle.intmap.proofs.WriteLemmas.{Updates-bound, length-write_value, IsMapWalk-written, IsConsistent-written}
use Rattle.intmap.proofs.map.IntMap.get_mut.Goals as goal

pub invariant_of-self-lent : goal.invariant_of-self-lent
invariant_of-self-lent g c _ = (λ w. IsConsistent-written g.K.IntKey.number_of g.K.IntKey.is_valid _ _ _ _ _ _ _ c.args.key _ c.self.invariant, c.self.invariant)

pub returns : goal.returns
returns g c =
    let number = g.K.IntKey.number_of in
    let m = c.self.inside in
    let now : MapState g.row.K.Denot g.row.V.Denot = record { walk = m.table.walk; capacity = m.table.capacity; factor = m.factor; placed = m.placed; compared = m.compared; reserved = m.reserved } in
    let state : record now { compared = c.value_mut_of.new.steps } ≡ after_search number now c.args.key = ap (λ n. record now { compared = n }) c.value_mut_of.ensures.counted in
    rw (← c.self.view_is) (
      λ t. read_of (ghost_name_of c.value_mut_of.result) (λ (w : g.row.V.Denot). written number (state t) c.args.key w) (state t),
      record {
        writes_back = tt;
        value = c.value_mut_of.ensures.value;
        updates = λ bound v. Updates-bound number m.table.walk c.args.key v bound;
        len = λ v. length-write_value number m.table.walk c.args.key v;
        valid = c.self.invariant.map;
        valid_after = λ v. IsMapWalk-written number g.K.IntKey.is_valid m.table.walk _ _ c.args.key v c.self.invariant.map;
      },
    )
