use Rattle.std.proofs.Common.{refl, ap, sym, ◌∙◌}
use Rattle.intmap_table.specs.Bindings.{value_of}
use Rattle.intmap.specs.Entries.{occupied_key}
use Rattle.intmap.specs.Map.{without_key}
use Rattle.intmap_table.proofs.WrittenLemmas.{the_key-same}
use Rattle.intmap.proofs.AfterLemmas.{Updates-taken, length-taken}
use Rattle.intmap.proofs.entry.OccupiedEntry.remove_entry.Goals as goal

pub returns-clause-value : goal.returns-clause-value
returns-clause-value g c =
    ap (value_of g.K.IntKey.number_of c.args.self.map.now.walk) (sym (the_key-same _ _ refl c.args.self.found.some c.location-at.ensures.key)) ∙ c.take_at.ensures.value

pub returns-clause-state : goal.returns-clause-state
returns-clause-state g c =
    c.take_at.ensures.state ∙ ap (without_key g.K.IntKey.number_of c.args.self.map.now) (the_key-same _ _ refl c.args.self.found.some c.location-at.ensures.key)

pub returns-clause-updates : goal.returns-clause-updates
returns-clause-updates g c =
    Updates-taken g.K.IntKey.number_of g.K.IntKey.is_valid c.args.self.map.now _ (occupied_key c.args.self) c.take_at.ensures.valid (ap (λ m. m.walk) (returns-clause-state g c))

pub returns-clause-len : goal.returns-clause-len
returns-clause-len g c =
    rw (returns-clause-value g c) at
    (length-taken g.K.IntKey.number_of g.K.IntKey.is_valid c.args.self.map.now _ (occupied_key c.args.self) c.take_at.ensures.valid (ap (λ m. m.walk) (returns-clause-state g c)))
