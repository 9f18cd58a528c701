use Rattle.std.proofs.Common.{◌≡◌, ◌+◌, ℕ, length, take, drop, arith}
use Rattle.intmap_table.specs.Keeping.{dropped_by}
use Rattle.intmap_table.specs.Picking.{pairs_before}
use Rattle.intmap.proofs.KeepingLemmas.{IsConsistent-left, length-left, length-removed, value_of-left}
use Rattle.intmap.proofs.map.IntMap.keep_marked.Goals as goal
use Rattle.intmap.proofs.map.IntMap.keep_marked.Goals.{After-keep_marked-removed}

module _ (g : _) (c : After-keep_marked-removed g) where
  -- the number of pairs before the cursor
  abbrev before : ℕ
  before = pairs_before g.K.IntKey.number_of c.self.inside.table.walk c.self.inside.table.capacity c.args.at.now

  removed : c.keep_marked-removed.result ≡ length (dropped_by c.args.marks (take 64 (drop before c.self.inside.table.walk)))
  removed = length-removed g.K.IntKey.number_of c.args.marks before c.self.inside.table.walk c.keep_marked-removed.new.self.walk c.keep_marked-removed.ensures.walk c.keep_marked-removed.result c.keep_marked-removed.ensures.removed

  len : length c.keep_marked-removed.new.self.walk + c.keep_marked-removed.result ≡ length c.self.inside.table.walk
  len = let all = length-left g.K.IntKey.number_of c.args.marks before c.self.inside.table.walk c.keep_marked-removed.new.self.walk c.keep_marked-removed.ensures.walk in let gone = removed in omega (arith, all, gone)

pub overflow_sub-self : goal.overflow_sub-self
overflow_sub-self g c = let all = len g c in omega (arith, all, c.self.invariant.count)

pub invariant_of-self : goal.invariant_of-self
invariant_of-self g c =
    let at = (goal.at.invariant_of-self g c).After-keep_marked-removed in let all = len g at in let kept = c.keep_marked-removed.ensures in
    IsConsistent-left g.K.IntKey.number_of c.args.marks (before g at) c.self.inside.table.walk c.keep_marked-removed.new.self.walk kept.walk _ _ _ _ _ _ _ _ _ _
    kept.capacity kept.own (omega (arith, all, c.self.invariant.count)) (omega (arith, c.self.invariant.memory, kept.nodes)) c.self.invariant

pub returns-clause-passed : goal.returns-clause-passed
returns-clause-passed g c = rw (← c.self.view_is) c.keep_marked-removed.ensures.passed

pub returns-clause-updates : goal.returns-clause-updates
returns-clause-updates g c =
    let at = (goal.at.returns-clause-updates g c).After-keep_marked-removed in
    rw (← c.self.view_is) (value_of-left g.K.IntKey.number_of c.args.marks (before g at) c.self.inside.table.walk c.keep_marked-removed.new.self.walk c.keep_marked-removed.ensures.walk c.self.invariant.map.distinct)

pub returns-clause-removed : goal.returns-clause-removed
returns-clause-removed g c = rw (← c.self.view_is) (removed g (goal.at.returns-clause-removed g c).After-keep_marked-removed)

pub returns-clause-len : goal.returns-clause-len
returns-clause-len g c = rw (← c.self.view_is) (len g (goal.at.returns-clause-len g c).After-keep_marked-removed)

pub returns-clause-valid_after : goal.returns-clause-valid_after
returns-clause-valid_after g c = (invariant_of-self g c).map
