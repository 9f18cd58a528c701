use Rattle.std.proofs.Common.{◌≡◌, ◌-◌, drop, length}
use Rattle.intmap.specs.Map.{passed}
use Rattle.intmap.specs.Taking.{TakesEach}
use Rattle.intmap_set.specs.Retaining.{KeepsKey, PicksKey, TakesKey}
use Rattle.intmap_set.specs.Sets.{as_map}
use Rattle.intmap_set.proofs.ExtractLemmas.{StepsFrom}
use Rattle.intmap_set.proofs.set.IntSet.extract_next.Given as goal

-- a step from the cursor on is one from where it was at the call, and the set is as it was
abbrev pub invariant-loop-key : goal.invariant-loop-key
invariant-loop-key g l = record {
  same : l.self ≡ l.initial.self;
  at : l.behind ≡ l.at;
  reached : l.before ≡ passed g.K.IntKey.number_of (as_map l.self) l.at;
  callable : TakesEach (KeepsKey g.F.FnMut) (TakesKey g.F.FnMut) l.test (drop l.before l.self.walk);
  steps : StepsFrom (PicksKey g.F.FnMut) l.initial.test l.self.walk l.initial.before l.test l.before;
}

abbrev pub decreases-loop-key : goal.decreases-loop-key
decreases-loop-key g l = length l.self.walk - l.before
