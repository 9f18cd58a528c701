use Rattle.std.proofs.Common.{refl, sym, subst, arith}
use Rattle.intmap.specs.Map.{MapState}
use Rattle.intmap_table.proofs.Tables.CloneLemmas.{AreClones, keys_of-AreClones, BindsClones-AreClones}
use Rattle.intmap_table.proofs.Tables.SameKeysLemmas.{length-same_keys}
use Rattle.intmap.proofs.SameKeysLemmas.{IsConsistent-same_keys}
use Rattle.intmap.proofs.map.IntMap.clone.Goals as goal
use Rattle.intmap.proofs.map.IntMap.clone.Goals.{After-new-3}

-- the walk of the clone
walk : (g : _) (c : After-new-3 g) → AreClones g.V.Clone.is_clone c.args.self.now.walk c.in-Ok.table.walk
walk g c =
    let clones = g.V.Clone.is_clone in
    subst (λ (m : MapState _ _). AreClones clones m.walk c.in-Ok.table.walk) c.self.view_is c.in-Ok.ensures.walk

pub invariant_of-result : goal.invariant_of-result
invariant_of-result g c =
    let made = c.in-Ok.ensures in
    let old = c.self.invariant in
    rw made.capacity (IsConsistent-same_keys g.K.IntKey.number_of g.K.IntKey.is_valid c.self.inside.table.walk c.in-Ok.table.walk _ _ _ _ _ _
    (keys_of-AreClones _ c.self.inside.table.walk c.in-Ok.table.walk made.walk) (record { map = old.map; count = old.count; threshold = old.threshold; memory = let none = c.new-3.ensures in omega (arith, none) }))

pub returns-clause-clone : goal.returns-clause-clone
returns-clause-clone g c = record { walk = walk g c; state = rw (← c.self.view_is, c.in-Ok.ensures.capacity, c.new.ensures, c.new-2.ensures, c.new-3.ensures) refl }

pub returns-clause-keys : goal.returns-clause-keys
returns-clause-keys g c = sym (keys_of-AreClones g.V.Clone.is_clone c.args.self.now.walk c.in-Ok.table.walk (walk g c))

pub returns-clause-values : goal.returns-clause-values
returns-clause-values g c = BindsClones-AreClones g.V.Clone.is_clone g.K.IntKey.number_of c.args.self.now.walk c.in-Ok.table.walk (walk g c)

pub returns-clause-len : goal.returns-clause-len
returns-clause-len g c = length-same_keys c.in-Ok.table.walk c.args.self.now.walk (returns-clause-keys g c)

pub returns-clause-valid_after : goal.returns-clause-valid_after
returns-clause-valid_after g c = (invariant_of-result g c).map
