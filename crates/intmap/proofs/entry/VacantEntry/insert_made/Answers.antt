use Rattle.std.proofs.Common.{Ok, sym, ap, ◌∙◌}
use mathlib.Core.Logic.{inl, inr}
use mathlib.Core.Path.{fun_ext}
use Rattle.intmap.specs.Entries.{Vacant, entry_list}
use Rattle.intmap.specs.Map.{MapState}
use Rattle.intmap.proofs.EntryLemmas.{written-added, IsInsertion-lent, IsFound-located_in, written-located_in, value_of-located_in}
use Rattle.intmap.proofs.RefusalLemmas.{NeedsNoMemory-never_refused}
use Rattle.intmap.proofs.entry.VacantEntry.insert_made.Goals as goal

pub returns-in-Err-add : goal.returns-in-Err-add
returns-in-Err-add g c =
    let told = c.in-Err-add.ensures in (
      ap (λ m. inr m) told.err,
      record {
        writes_back = tt;
        value = tt;
        inserted = tt;
        err = inr (record {
          refused = c.in-Err-add.refused;
          value = ap Ok told.value_returned ∙ sym c.in-Ok.is;
          due = (rw c.new.ensures.value at told.refused);
          error = c.from.ensures;
        });
        succeeds = λ free. absurd (NeedsNoMemory-never_refused g.K.IntKey.number_of (entry_list (Vacant c.args.self)) c.args.self.key c.add.ensures.valid.capacity free c.in-Err-add.refused.cause (rw c.new.ensures.value at told.refused));
        has_room = λ room. let no = told.has_room room in cc;
      },
    )

pub value_mut_in-requires : goal.value_mut_in-requires
value_mut_in-requires g c =
    let told = c.in-Ok-add.ensures in
    IsFound-located_in g.K.IntKey.number_of g.K.IntKey.is_valid g.met.K.IntKey.number_injective c.add.new.self c.args.self.key c.in-Ok-add.at c.add.ensures.valid_after (rw c.new.ensures.value at told.known) (rw c.new.ensures.value at told.key) told.at

pub returns : goal.returns
returns g c =
    let number = g.K.IntKey.number_of in let valid = g.K.IntKey.is_valid in let n : MapState g.row.K.Denot g.row.V.Denot = c.add.new.self in
    let m : MapState g.row.K.Denot g.row.V.Denot = c.args.self.map.now in let k = c.args.self.key in let told = c.in-Ok-add.ensures in
    let after = written-added number valid m n k c.in-Ok.value c.args.self.missing c.add.ensures.valid (rw c.new.ensures.value at told.inserted) (rw c.new.ensures.value at told.state) in (
      ap (λ f. inl (c.value_mut_in.result.ghost_name, f)) (fun_ext (λ v. written-located_in number valid g.met.K.IntKey.number_injective n k c.in-Ok-add.at c.add.ensures.valid_after (rw c.new.ensures.value at told.known) (rw c.new.ensures.value at told.key) told.at v ∙ after v)),
      record {
        writes_back = tt;
        value = c.in-Ok.is ∙ ap Ok (let found = value_of-located_in number valid g.met.K.IntKey.number_injective n k c.in-Ok-add.at c.add.ensures.valid_after (rw c.new.ensures.value at told.known) (rw c.new.ensures.value at told.key) told.at c.value_mut_in.result.now c.value_mut_in.ensures.value in let is = (rw c.new.ensures.value at told.inserted).updates.1 in cc);
        inserted = IsInsertion-lent number valid m n k c.in-Ok.value c.args.self.missing c.add.ensures.valid (rw c.new.ensures.value at told.inserted) (rw c.new.ensures.value at told.state);
        err = tt;
        succeeds = λ free. tt;
        has_room = λ room. tt;
      },
    )
