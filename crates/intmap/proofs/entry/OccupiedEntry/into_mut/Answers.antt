use Rattle.std.proofs.Common.{refl, sym}
use Rattle.intmap.specs.Entries.{occupied_key}
use Rattle.intmap.proofs.EntryLemmas.{written-in, value_of-in}
use Rattle.intmap.proofs.WriteLemmas.{Updates-written, length-write_value, IsMapWalk-written}
use Rattle.intmap.proofs.entry.OccupiedEntry.into_mut.Goals as goal

pub returns : goal.returns
returns g c =
    let number = g.K.IntKey.number_of in
    let o = c.args.self in
    let value = value_of-in o _ c.value_mut_in.ensures.value in (
      (refl, λ w. sym (written-in o w)),
      record {
        writes_back = tt;
        value = value;
        updates = λ v. Updates-written number o.map.now.walk (occupied_key o) v c.value_mut_in.result.now value;
        len = λ v. length-write_value number o.map.now.walk (occupied_key o) v;
        valid_after = λ v. IsMapWalk-written number g.K.IntKey.is_valid o.map.now.walk _ _ (occupied_key o) v c.value_mut_in.ensures.valid;
      },
    )
