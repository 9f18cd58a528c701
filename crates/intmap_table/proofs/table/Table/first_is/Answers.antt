use Rattle.std.proofs.Common.{◌∙◌, ap}
use Rattle.std.specs.Prelude.{position}
use Rattle.intmap_table.specs.Classes.{same_key}
use Rattle.intmap_table.proofs.Tables.FirstLemmas.{MatchBool-weaker}
use Rattle.intmap_table.proofs.Tables.TableLemmas.{slot_of-joined}
use Rattle.intmap_table.proofs.table.Table.first_is.Goals as goal

pub returns-clause-value : goal.returns-clause-value
returns-clause-value g c =
    let row = slot_of-joined g.K.IntKey.number_of c.self.inside.slots.rows c.self.invariant c.args.slot in
    let slot = rw (← c.self.view_is) at c.requires in
    rw (← c.self.view_is) (MatchBool-weaker c.first_is.result
    (λ found. record { slot = slot; place = ap (position (λ p. same_key g.K.IntKey.number_of c.args.key.now p.0)) row ∙ found })
    (λ none. rw row none) c.first_is.ensures.value)

pub returns-clause-counted : goal.returns-clause-counted
returns-clause-counted g c = rw (← c.self.view_is) (rw (slot_of-joined g.K.IntKey.number_of c.self.inside.slots.rows c.self.invariant c.args.slot) c.first_is.ensures.counted)
