use Rattle.std.proofs.Common.{◌≡◌, IfOk, Some, refl, ap, ◌∙◌, subst}
use Rattle.std.specs.Prelude.{MatchBool}
use Rattle.std.proofs.lemmas.Result.{IfErr-weaker, on_ok_weaker}
use Rattle.intmap_table.specs.Bindings.{value_of}
use Rattle.intmap_table.proofs.LocationLemmas.{IsPresent-at}
use Rattle.intmap.specs.Map.{MapState, after_search, with_pair}
use Rattle.intmap.specs.Spots.{after_rest}
use Rattle.intmap.proofs.InsertionLemmas.{IsInsertion-kept}
use Rattle.intmap.proofs.SpotLemmas.{after_first-vacant, after_first-first, after_rest-first, RefusalIsDue-counted, TakesFirst-free}
use Rattle.intmap.proofs.WriteLemmas.{some_from}
use Rattle.intmap.proofs.map.IntMap.insert_checked.Goals as goal
use Rattle.intmap.proofs.map.IntMap.insert_checked.Goals.{In-First, In-Other}

-- the slot is empty, and the pair was put there
pub returns-in-Vacant-clause-state : goal.returns-in-Vacant-clause-state
returns-in-Vacant-clause-state g c =
    rw (← c.new-sought.ensures.value) (let told = c.in-Vacant.ensures in
    let searched = told.state ∙ after_first-vacant g.K.IntKey.number_of c.args.self.now c.in-Vacant.slot c.new-sought.result told.valid.capacity told.slot told.spot.empty in
    rw searched at c.add_first.ensures.state)

-- the first pair has the key
module _ (g : _) (c : In-First g) where
  searched : c.spot_for.new.self ≡ after_search g.K.IntKey.number_of c.args.self.now c.new-sought.result
  searched = let told = c.in-First.ensures in told.state ∙ after_first-first g.K.IntKey.number_of c.args.self.now c.in-First.field-0 c.new-sought.result told.valid.capacity told.slot told.spot

  had : (v : g.row.V.Denot) × (value_of g.K.IntKey.number_of c.args.self.now.walk c.new-sought.result ≡ Some v)
  had = some_from _ (IsPresent-at g.K.IntKey.number_of c.args.self.now.walk c.args.self.now.capacity _ c.in-First.ensures.spot)

pub returns-in-First-clause-new : goal.returns-in-First-clause-new
returns-in-First-clause-new g c = rw (← c.new-sought.ensures.value) (let some = had g (goal.at.returns-in-First-clause-new g c).In-First in rw some.1 refl)

pub returns-in-First-clause-inserted : goal.returns-in-First-clause-inserted
returns-in-First-clause-inserted g c =
    rw (← c.new-sought.ensures.value) (let at = (goal.at.returns-in-First-clause-inserted g c).In-First in
    let is = searched g at in let some = had g at in
    rw some.1 (IsInsertion-kept g.K.IntKey.number_of g.K.IntKey.is_valid c.args.self.now c.spot_for.new.self c.new-sought.result some.0 some.1
    (ap (λ (n : MapState g.row.K.Denot g.row.V.Denot). n.walk) is) (ap (λ (n : MapState g.row.K.Denot g.row.V.Denot). n.capacity) is) (rw is c.in-First.ensures.valid)))

pub returns-in-First-clause-updates : goal.returns-in-First-clause-updates
returns-in-First-clause-updates g c = (returns-in-First-clause-inserted g c).updates

pub returns-in-First-clause-state : goal.returns-in-First-clause-state
returns-in-First-clause-state g c = rw (← c.new-sought.ensures.value) (searched g (goal.at.returns-in-First-clause-state g c).In-First)

-- the rest of the slot is searched
module _ (g : _) (c : In-Other g) where
  searched_all : after_rest g.K.IntKey.number_of c.spot_for.new.self c.in-Other.slot c.new-sought.result ≡ after_search g.K.IntKey.number_of c.args.self.now c.new-sought.result
  searched_all =
      let told = c.in-Other.ensures in
      after_rest-first g.K.IntKey.number_of c.args.self.now c.in-Other.slot c.new-sought.result told.valid.capacity told.slot c.spot_for.new.self told.state told.spot.1

pub returns-in-Other-clause-updates : goal.returns-in-Other-clause-updates
returns-in-Other-clause-updates g c =
    rw (← c.new-sought.ensures.value) (on_ok_weaker c.insert_checked_otherwise.result (λ did. did.updates) (rw c.in-Other.ensures.state at c.insert_checked_otherwise.ensures.inserted))

pub returns-in-Other-clause-state : goal.returns-in-Other-clause-state
returns-in-Other-clause-state g c =
    rw (← c.new-sought.ensures.value) (let n = c.insert_checked_otherwise.new.self in
    subst (λ (m : MapState g.row.K.Denot g.row.V.Denot). IfOk c.insert_checked_otherwise.result (λ new. MatchBool new (n ≡ with_pair g.K.IntKey.number_of m c.new-sought.result c.args.value n.capacity) (n ≡ m)))
    (searched_all g (goal.at.returns-in-Other-clause-state g c).In-Other) c.insert_checked_otherwise.ensures.state)

pub returns-in-Other-clause-err : goal.returns-in-Other-clause-err
returns-in-Other-clause-err g c = rw (← c.new-sought.ensures.value) (rw (searched_all g (goal.at.returns-in-Other-clause-err g c).In-Other) at c.insert_checked_otherwise.ensures.err)

pub returns-in-Other-clause-refused : goal.returns-in-Other-clause-refused
returns-in-Other-clause-refused g c =
    rw (← c.new-sought.ensures.value) (IfErr-weaker c.insert_checked_otherwise.result _ _ (λ refused due. RefusalIsDue-counted g.K.IntKey.number_of c.args.self.now _ c.new-sought.result refused.cause due) (rw c.in-Other.ensures.state at c.insert_checked_otherwise.ensures.refused))

pub returns-in-Other-clause-succeeds : goal.returns-in-Other-clause-succeeds
returns-in-Other-clause-succeeds g c =
    rw (← c.new-sought.ensures.value) (let told = c.in-Other.ensures in let m = c.args.self.now in
    λ free. absurd (told.spot.0 (TakesFirst-free g.K.IntKey.number_of m.walk m.capacity m.factor c.in-Other.slot c.new-sought.result told.valid.capacity told.slot free)))
