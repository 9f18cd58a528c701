use Rattle.std.proofs.Common.{◌≡◌, sym, ap, ◌∙◌, subst, refl}
use Rattle.std.specs.Map.Calls.{MayWrite, ModifiesValue}
use Rattle.intmap.specs.Entries.{entry_value, entry_key, occupied_with_value}
use Rattle.intmap_table.specs.Bindings.{value_of}
use Rattle.intmap.proofs.EntryLemmas.{occupied_key-written}
use Rattle.intmap.proofs.entry.Entry.and_modify.Goals as goal

-- what is said of equal things
both : {X : Type 0} (P : X → X → Type 0) (p q a b : X) → p ≡ a → q ≡ b → P a b → P p q
both P p q a b old new h = subst (λ r. P r q) (sym old) (subst (P a) (sym new) h)

pub f-requires : goal.f-requires
f-requires g c = c.requires c.get_mut.result (ap entry_value c.in-Occupied.is ∙ c.get_mut.ensures.value)

pub returns-in-Occupied : goal.returns-in-Occupied
returns-in-Occupied g c =
    let left = c.f.new.arg2 in let o = c.in-Occupied.entry in let told = c.get_mut.ensures in
    let here = ap (value_of g.K.IntKey.number_of (occupied_with_value o left).map.now.walk) (occupied_key-written o left) ∙ (told.updates left).1 in
    let did : MayWrite g.F.FnOnce c.args.f c.get_mut.result.now left
    = record { lent = c.get_mut.result; result = c.f.result; left = _; before = refl; met = c.f.ensures; after = refl } in
    record {
      same_reference = rw c.in-Occupied.is refl;
      key = occupied_key-written o left ∙ ap entry_key (sym c.in-Occupied.is);
      value = both (ModifiesValue g.F.FnOnce c.args.f) _ _ _ _ (ap entry_value c.in-Occupied.is ∙ told.value) here did;
      state = rw (here, c.in-Occupied.is) refl;
      updates = rw (here, c.in-Occupied.is) (told.updates left);
      len = rw c.in-Occupied.is (told.len left);
      valid_after = told.valid_after left;
    }

pub returns-in-Vacant : goal.returns-in-Vacant
returns-in-Vacant g c = rw (c.in-Vacant.is, c.in-Vacant.entry.missing) record { same_reference = refl; key = refl; value = refl; state = refl; updates = refl; len = refl; valid_after = c.known.ensures.valid }
