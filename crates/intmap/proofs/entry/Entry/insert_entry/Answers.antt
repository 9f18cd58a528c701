use Rattle.std.proofs.Common.{refl, sym, subst}
use Rattle.intmap_table.proofs.Tables.MemoryLemmas.{OnErr-always}
use Rattle.intmap.specs.Entries.{occupied_key}
use Rattle.intmap.specs.Insertions.{IsInsertion}
use Rattle.intmap_table.proofs.WrittenLemmas.{IsFound-write_in, key_at-write_in, the_key-same}
use Rattle.intmap.proofs.EntryLemmas.{written-in, value_of-in}
use Rattle.intmap.proofs.InsertionLemmas.{IsInsertion-written}
use Rattle.intmap.proofs.entry.Entry.insert_entry.Goals as goal

pub invariant_of-self : goal.invariant_of-self
invariant_of-self g c = let o = c.in-Occupied.entry in record { found = IsFound-write_in g.K.IntKey.number_of o.map.now.walk o.map.now.capacity o.slot o.place c.args.value o.found }

pub returns-in-Occupied : goal.returns-in-Occupied
returns-in-Occupied g c =
    let number = g.K.IntKey.number_of in
    let o = c.in-Occupied.entry in
    let v = c.args.value in
    rw c.in-Occupied.is (
      (refl, (λ w. refl), tt),
      record {
        written = record {
          same_reference = refl;
          map = sym (written-in o v);
          key = the_key-same _ _ _ o.found.some (key_at-write_in number o.map.now.walk o.map.now.capacity o.slot o.place v o.found);
        };
        inserted = subst (IsInsertion number g.K.IntKey.is_valid o.map.now (occupied_key o) v) (written-in o v)
            (IsInsertion-written number g.K.IntKey.is_valid o.map.now (occupied_key o) v _ (value_of-in o _ c.value_mut_in.ensures.value) c.value_mut_in.ensures.valid);
        err = tt;
        value_returned = tt;
        absent = tt;
        refused = tt;
        succeeds = λ free. refl;
        has_room = λ room. refl;
      },
    )

pub returns-in-Vacant : goal.returns-in-Vacant
returns-in-Vacant g c =
    let e = c.in-Vacant.entry in
    let told = c.insert_entry.ensures in
    rw c.in-Vacant.is (
      (refl, c.insert_entry.follows.holds, c.insert_entry.follows.holds-at-none),
      record {
        written = told.written;
        inserted = told.inserted;
        err = tt;
        value_returned = told.value_returned;
        absent = OnErr-always c.insert_entry.result e.missing;
        refused = told.refused;
        succeeds = told.succeeds;
        has_room = told.has_room;
      },
    )
