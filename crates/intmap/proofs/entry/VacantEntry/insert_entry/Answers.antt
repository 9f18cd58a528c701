use Rattle.std.proofs.Common.{Some, refl, ap, ◌∙◌}
use Rattle.intmap.specs.Entries.{Vacant, entry_list}
use Rattle.intmap.specs.Map.{MapState, with_pair}
use Rattle.intmap_table.proofs.WrittenLemmas.{the_key-same}
use Rattle.intmap.proofs.EntryLemmas.{next_capacity-inserted, key_at-located_in, IsFound-located_in}
use Rattle.intmap.proofs.RefusalLemmas.{NeedsNoMemory-never_refused}
use Rattle.intmap.proofs.entry.VacantEntry.insert_entry.Goals as goal
use Rattle.intmap.proofs.entry.VacantEntry.insert_entry.Goals.{In-Ok}

pub returns-in-Err : goal.returns-in-Err
returns-in-Err g c =
    let due = rw c.new.ensures.value at c.in-Err.ensures.refused in (
      (refl, (λ w. tt), c.in-Err.ensures.err),
      record {
        written = tt;
        absent = c.args.self.missing;
        inserted = tt;
        err = tt;
        value_returned = c.in-Err.ensures.value_returned;
        refused = due;
        succeeds = λ free. absurd (NeedsNoMemory-never_refused g.K.IntKey.number_of (entry_list (Vacant c.args.self)) c.args.self.key c.add.ensures.valid.capacity free c.in-Err.refused.cause due);
        has_room = c.in-Err.ensures.has_room;
      },
    )

pub invariant_of-result : goal.invariant_of-result
invariant_of-result g c =
    let told = c.in-Ok.ensures in
    record { found = IsFound-located_in g.K.IntKey.number_of g.K.IntKey.is_valid g.met.K.IntKey.number_injective c.add.new.self c.args.self.key c.in-Ok.at c.add.ensures.valid_after (rw c.new.ensures.value at told.known) (rw c.new.ensures.value at told.key) told.at }

pub returns : goal.returns
returns g c =
    let number = g.K.IntKey.number_of in
    let m : MapState g.row.K.Denot g.row.V.Denot = c.args.self.map.now in
    let k = c.args.self.key in
    let told = c.in-Ok.ensures in
    let same = next_capacity-inserted number g.K.IntKey.is_valid m c.add.new.self k c.args.value c.args.self.missing c.add.ensures.valid (rw c.new.ensures.value at c.in-Ok.ensures.inserted) in (
      (refl, (λ w. refl), tt),
      record {
        written = record {
          same_reference = refl;
          map = (rw c.new.ensures.value at c.in-Ok.ensures.state) ∙ ap (with_pair number m k c.args.value) same;
          key = the_key-same _ (Some k) _ refl (key_at-located_in number g.K.IntKey.is_valid g.met.K.IntKey.number_injective c.add.new.self k c.in-Ok.at c.add.ensures.valid_after (rw c.new.ensures.value at told.known) (rw c.new.ensures.value at told.key) told.at);
        };
        absent = c.args.self.missing;
        inserted = (rw c.new.ensures.value at c.in-Ok.ensures.inserted);
        err = tt;
        value_returned = tt;
        refused = tt;
        succeeds = λ free. refl;
        has_room = λ room. refl;
      },
    )
