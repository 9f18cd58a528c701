use Rattle.std.proofs.Common.{◌≡◌, ℕ, ◌∙◌, [], length, get_or, ap}
use Rattle.std.proofs.lemmas.List.{length-replicate}
use Rattle.intmap_table.proofs.Tables.FilledLemmas.{joined-emptied}
use Rattle.intmap_table.proofs.Tables.MarkedLemmas.{get_or-of_default}
use Rattle.intmap_table.proofs.Tables.TableLemmas.{IsTable-empty}
use Rattle.intmap_table.proofs.table.Table.new.Goals as goal
use Rattle.intmap_table.proofs.table.Table.new.Goals.{In_ok-slots}

module _ (g : _) (c : In_ok-slots g) where
  len : length c.in_ok-slots.slots.rows ≡ c.args.capacity
  len = ap length c.in_ok-slots.ensures.rows ∙ length-replicate c.args.capacity []

  -- no slot holds a pair
  empty : (i : ℕ) → get_or c.in_ok-slots.slots.rows i [] ≡ []
  empty i = rw c.in_ok-slots.ensures.rows (get_or-of_default c.args.capacity i [])

pub invariant_of-result : goal.invariant_of-result
invariant_of-result g c =
    let at = (goal.at.invariant_of-result g c).In_ok-slots in IsTable-empty g.K.IntKey.number_of c.in_ok-slots.slots.rows (rw (len g at) c.requires) (empty g at)

pub returns-clause-walk : goal.returns-clause-walk
returns-clause-walk g c = joined-emptied c.in_ok-slots.slots.rows (empty g (goal.at.returns-clause-walk g c).In_ok-slots)

pub returns-clause-capacity : goal.returns-clause-capacity
returns-clause-capacity g c = len g (goal.at.returns-clause-capacity g c).In_ok-slots
