use Rattle.std.proofs.Common.{arith}
use Rattle.intmap_table.specs.Retaining.{KeepsAt}
use Rattle.intmap_table.proofs.RetainLemmas.{length-Retains}
use Rattle.intmap.proofs.AnsweringLemmas.{Retains-tested, value_of-answered_key, value_of-answered_pair}
use Rattle.intmap.proofs.RetainLemmas.{value_of-Retains, IsConsistent-Retains}
use Rattle.intmap.proofs.map.IntMap.retain.Goals as goal

pub invariant_of-self : goal.invariant_of-self
invariant_of-self g c =
    let kept = c.retain-self-inside.ensures in
    IsConsistent-Retains g.K.IntKey.number_of g.K.IntKey.is_valid (KeepsAt g.F.FnMut) c.args.f c.retain-self-inside.new.f c.self.inside.table.walk c.retain-self-inside.new.self.walk _ _ _ _ _ _ _ _ _
    kept.pairs kept.capacity kept.own kept.count (omega (arith, c.self.invariant.memory, kept.nodes)) c.self.invariant

pub returns-clause-by_pair : goal.returns-clause-by_pair
returns-clause-by_pair g c q v b each is =
    value_of-answered_pair g.K.IntKey.number_of (KeepsAt g.F.FnMut) c.args.f q v b each _ _ _ c.retain-self-inside.ensures.pairs c.self.invariant.map.distinct (rw (← c.self.view_is) at is)

pub returns-clause-by_key : goal.returns-clause-by_key
returns-clause-by_key g c q b each =
    rw (← c.self.view_is) (value_of-answered_key g.K.IntKey.number_of (KeepsAt g.F.FnMut) c.args.f q b each _ _ _ c.retain-self-inside.ensures.pairs c.self.invariant.map.distinct)

pub returns-clause-filtered : goal.returns-clause-filtered
returns-clause-filtered g c test each = rw (← c.self.view_is) (Retains-tested (KeepsAt g.F.FnMut) c.args.f test each _ _ _ c.retain-self-inside.ensures.pairs)

pub returns-clause-updates : goal.returns-clause-updates
returns-clause-updates g c q =
    rw (← c.self.view_is) (value_of-Retains g.K.IntKey.number_of (KeepsAt g.F.FnMut) q _ _ _ _ c.retain-self-inside.ensures.pairs c.self.invariant.map.distinct)

pub returns-clause-len : goal.returns-clause-len
returns-clause-len g c = rw (← c.self.view_is) (length-Retains (KeepsAt g.F.FnMut) _ _ _ _ c.retain-self-inside.ensures.pairs)

pub returns-clause-valid_after : goal.returns-clause-valid_after
returns-clause-valid_after g c = (invariant_of-self g c).map
