use Rattle.std.proofs.Common.{refl}
use Rattle.intmap_table.proofs.Tables.MemoryLemmas.{OnErr-always}
use Rattle.intmap.specs.Entries.{Occupied, map_with_value, occupied_key}
use Rattle.intmap.proofs.InsertionLemmas.{IsInsertion-present}
use Rattle.intmap.proofs.entry.Entry.or_insert.Goals as goal

pub returns-in-Occupied : goal.returns-in-Occupied
returns-in-Occupied g c =
    let o = c.in-Occupied.entry in
    let told = c.into_mut.ensures in
    rw c.in-Occupied.is (
      refl,
      record {
        writes_back = tt;
        value = rw told.value refl;
        inserted = λ v. IsInsertion-present g.K.IntKey.number_of g.K.IntKey.is_valid o.map.now (map_with_value (Occupied o) v) (occupied_key o) v _ told.value refl (told.updates v) (told.len v) (told.valid_after v);
        value_returned = tt;
        absent = tt;
        refused = tt;
        succeeds = λ free. refl;
        has_room = λ room. refl;
      },
    )

pub returns-in-Vacant : goal.returns-in-Vacant
returns-in-Vacant g c =
    let e = c.in-Vacant.entry in
    let told = c.insert.ensures in
    rw c.in-Vacant.is (
      refl,
      record {
        writes_back = tt;
        value = rw e.missing told.value;
        inserted = told.inserted;
        value_returned = told.value_returned;
        absent = OnErr-always c.insert.result e.missing;
        refused = told.refused;
        succeeds = told.succeeds;
        has_room = told.has_room;
      },
    )
