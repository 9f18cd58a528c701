use Rattle.std.proofs.Common.{◌≡◌, ◌∙◌, OnOk, Some, sym, ap, subst}
use Rattle.std.proofs.lemmas.Result.{IfErr-weaker}
use Rattle.intmap_table.specs.Bindings.{value_of}
use Rattle.intmap.specs.Map.{MapState, after_insert, after_search, with_pair}
use Rattle.intmap.specs.Spots.{after_rest}
use Rattle.intmap.proofs.InsertionLemmas.{IsInsertion-replaced}
use Rattle.intmap.proofs.SpotLemmas.{after_first-vacant, after_first-first, after_rest-first, RefusalIsDue-counted, TakesFirst-free}
use Rattle.intmap.proofs.map.IntMap.insert.Goals as goal
use Rattle.intmap.proofs.map.IntMap.insert.Goals.{In-First, In-Other}

-- the slot is empty, and the pair was put there
pub returns-in-Vacant-clause-state : goal.returns-in-Vacant-clause-state
returns-in-Vacant-clause-state g c =
    rw (← c.new-key.ensures.value) (let told = c.in-Vacant.ensures in
    let searched = told.state ∙ after_first-vacant g.K.IntKey.number_of c.args.self.now c.in-Vacant.slot c.new-key.result told.valid.capacity told.slot told.spot.empty in
    rw searched at c.add_first.ensures.state)

-- the first pair has the key, and is replaced
module _ (g : _) (c : In-First g) where
  searched : c.spot_for.new.self ≡ after_search g.K.IntKey.number_of c.args.self.now c.new-key.result
  searched = let told = c.in-First.ensures in told.state ∙ after_first-first g.K.IntKey.number_of c.args.self.now c.in-First.slot c.new-key.result told.valid.capacity told.slot told.spot

pub returns-in-First-clause-state : goal.returns-in-First-clause-state
returns-in-First-clause-state g c =
    rw (← c.new-key.ensures.value) (let m = c.args.self.now in
    let replaced : c.replace_first.new.self ≡ after_insert g.K.IntKey.number_of m c.new-key.result c.args.value m.capacity = rw (searched g (goal.at.returns-in-First-clause-state g c).In-First) at c.replace_first.ensures.state in
    replaced ∙ ap (after_insert g.K.IntKey.number_of m c.new-key.result c.args.value) (sym (ap (λ (n : MapState g.row.K.Denot g.row.V.Denot). n.capacity) replaced)))

pub returns-in-First-clause-inserted : goal.returns-in-First-clause-inserted
returns-in-First-clause-inserted g c =
    rw (← c.new-key.ensures.value) (let m = c.args.self.now in let told = c.replace_first.ensures in let is = searched g (goal.at.returns-in-First-clause-inserted g c).In-First in
    let bound : value_of g.K.IntKey.number_of m.walk c.new-key.result ≡ Some c.replace_first.result = rw is at told.value in
    let replaced : c.replace_first.new.self ≡ after_insert g.K.IntKey.number_of m c.new-key.result c.args.value m.capacity = rw is at told.state in
    let same = ap (λ (n : MapState g.row.K.Denot g.row.V.Denot). n.capacity) replaced in
    let walk = ap (λ (n : MapState g.row.K.Denot g.row.V.Denot). n.walk) replaced in
    IsInsertion-replaced g.K.IntKey.number_of g.K.IntKey.is_valid m c.replace_first.new.self c.new-key.result c.args.value c.replace_first.result bound c.in-First.ensures.valid told.valid_after (rw same walk) same)

pub returns-in-First-clause-updates : goal.returns-in-First-clause-updates
returns-in-First-clause-updates g c = (returns-in-First-clause-inserted g c).updates

pub returns-in-First-clause-len : goal.returns-in-First-clause-len
returns-in-First-clause-len g c =
    let is = searched g (goal.at.returns-in-First-clause-len g c).In-First in
    rw (rw (is, c.new-key.ensures.value) at c.replace_first.ensures.value) at (returns-in-First-clause-inserted g c).len

-- the rest of the slot is searched
module _ (g : _) (c : In-Other g) where
  searched_all : after_rest g.K.IntKey.number_of c.spot_for.new.self c.in-Other.slot c.new-key.result ≡ after_search g.K.IntKey.number_of c.args.self.now c.new-key.result
  searched_all =
      let told = c.in-Other.ensures in
      after_rest-first g.K.IntKey.number_of c.args.self.now c.in-Other.slot c.new-key.result told.valid.capacity told.slot c.spot_for.new.self told.state told.spot.1

pub returns-in-Other-clause-state : goal.returns-in-Other-clause-state
returns-in-Other-clause-state g c =
    rw (← c.new-key.ensures.value) (let n = c.insert_otherwise.new.self in
    subst (λ (m : MapState g.row.K.Denot g.row.V.Denot). OnOk c.insert_otherwise.result (n ≡ with_pair g.K.IntKey.number_of m c.new-key.result c.args.value n.capacity))
    (searched_all g (goal.at.returns-in-Other-clause-state g c).In-Other) c.insert_otherwise.ensures.state)

pub returns-in-Other-clause-err : goal.returns-in-Other-clause-err
returns-in-Other-clause-err g c = rw (← c.new-key.ensures.value) (rw (searched_all g (goal.at.returns-in-Other-clause-err g c).In-Other) at c.insert_otherwise.ensures.err)

pub returns-in-Other-clause-refused : goal.returns-in-Other-clause-refused
returns-in-Other-clause-refused g c =
    rw (← c.new-key.ensures.value) (IfErr-weaker c.insert_otherwise.result _ _ (λ refused due. RefusalIsDue-counted g.K.IntKey.number_of c.args.self.now _ c.new-key.result refused.cause due) (rw c.in-Other.ensures.state at c.insert_otherwise.ensures.refused))

pub returns-in-Other-clause-succeeds : goal.returns-in-Other-clause-succeeds
returns-in-Other-clause-succeeds g c =
    rw (← c.new-key.ensures.value) (let told = c.in-Other.ensures in let m = c.args.self.now in
    λ free. absurd (told.spot.0 (TakesFirst-free g.K.IntKey.number_of m.walk m.capacity m.factor c.in-Other.slot c.new-key.result told.valid.capacity told.slot free)))
