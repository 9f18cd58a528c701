use Rattle.std.proofs.Common.{refl}
use Rattle.intmap.specs.Entries.{occupied_key}
use Rattle.intmap_table.proofs.WrittenLemmas.{IsFound-write_in}
use Rattle.intmap.proofs.EntryLemmas.{occupied-rewritten, written-in, value_of-in}
use Rattle.intmap.proofs.WriteLemmas.{Updates-written, length-write_value, IsMapWalk-written}
use Rattle.intmap.proofs.entry.OccupiedEntry.get_mut.Goals as goal

pub invariant_of-self-lent : goal.invariant_of-self-lent
invariant_of-self-lent g c w = let o = c.args.self.now in (IsFound-write_in g.K.IntKey.number_of o.map.now.walk o.map.now.capacity o.slot o.place w o.found, tt)

pub returns : goal.returns
returns g c =
    let number = g.K.IntKey.number_of in
    let o = c.args.self.now in
    let value = value_of-in o _ c.value_mut_in.ensures.value in (
      (refl, λ w. occupied-rewritten o w _ (written-in o w) _),
      record {
        writes_back = tt;
        value = value;
        updates = λ v. Updates-written number o.map.now.walk (occupied_key o) v c.value_mut_in.result.now value;
        len = λ v. length-write_value number o.map.now.walk (occupied_key o) v;
        valid_after = λ v. IsMapWalk-written number g.K.IntKey.is_valid o.map.now.walk _ _ (occupied_key o) v c.value_mut_in.ensures.valid;
      },
    )
