use Rattle.std.proofs.Common.{refl, subst}
use Rattle.std.proofs.lemmas.Result.{IfOk-weaker, IfErr-weaker}
use Rattle.intmap.proofs.EntryLemmas.{made-so}
use Rattle.intmap_table.proofs.Tables.MemoryLemmas.{OnErr-always}
use Rattle.intmap.specs.Entries.{Occupied, map_with_value, occupied_key}
use Rattle.intmap.proofs.InsertionLemmas.{IsInsertion-present}
use Rattle.intmap.proofs.entry.Entry.or_try_insert_with.Goals as goal

pub returns-in-Occupied : goal.returns-in-Occupied
returns-in-Occupied g c =
    let o = c.in-Occupied.entry in
    let told = c.into_mut.ensures in
    rw c.in-Occupied.is (
      refl,
      record {
        writes_back = tt;
        value = rw told.value refl;
        inserted = λ v. IsInsertion-present g.K.IntKey.number_of g.K.IntKey.is_valid o.map.now (map_with_value (Occupied o) v) (occupied_key o) v _ told.value refl (told.updates v) (told.len v) (told.valid_after v);
        absent = tt;
        err = tt;
        succeeds = λ free. tt;
        has_room = λ room. tt;
      },
    )

pub returns-in-Vacant : goal.returns-in-Vacant
returns-in-Vacant g c =
    let e = c.in-Vacant.entry in
    let told = c.insert_made.ensures in
    let Made = goal.F-post g c.args.f in
    let made : Made c.f-made.result = c.f-made.ensures in
    rw c.in-Vacant.is (
      refl,
      record {
        writes_back = tt;
        value = IfOk-weaker c.insert_made.result _ _ (λ r is. rw e.missing (subst Made is made)) told.value;
        inserted = told.inserted;
        absent = OnErr-always c.insert_made.result e.missing;
        err = IfErr-weaker c.insert_made.result _ _ (λ error. made-so Made _ _ c.f-made.result error made) told.err;
        succeeds = λ free. IfErr-weaker c.insert_made.result _ _ (λ error is. subst Made is made) (told.succeeds free);
        has_room = λ room. IfErr-weaker c.insert_made.result _ _ (λ error is. subst Made is made) (told.has_room room);
      },
    )
