use Rattle.std.proofs.Common.{subst}
use Rattle.intmap_table.specs.Tables.Slots.{Grid, joined}
use Rattle.intmap_table.proofs.Tables.CloneLemmas.{AreClones}
use Rattle.intmap_table.proofs.Tables.MovedLemmas.{AreClones-joined, IsTable-clones, length-clones}
use Rattle.intmap_table.proofs.Tables.TableLemmas.{walk_of-joined}
use Rattle.intmap_table.proofs.table.Table.clone.Goals as goal

pub invariant_of-result : goal.invariant_of-result
invariant_of-result g c = IsTable-clones g.X.Clone.is_clone g.K.IntKey.number_of c.self.inside.slots.rows c.in_ok-slots.slots.rows c.in_ok-slots.ensures c.self.invariant

pub returns-clause-walk : goal.returns-clause-walk
returns-clause-walk g c =
    let clones = g.X.Clone.is_clone in let new = c.in_ok-slots.slots.rows in
    subst (λ (t : Grid _ _). AreClones clones t.walk (joined new)) c.self.view_is (AreClones-joined clones c.self.inside.slots.rows new c.in_ok-slots.ensures)

pub returns-clause-capacity : goal.returns-clause-capacity
returns-clause-capacity g c = rw (← c.self.view_is) (length-clones g.X.Clone.is_clone c.self.inside.slots.rows c.in_ok-slots.slots.rows c.in_ok-slots.ensures)

pub returns-clause-own : goal.returns-clause-own
returns-clause-own g c = walk_of-joined g.K.IntKey.number_of c.in_ok-slots.slots.rows (invariant_of-result g c)
