use Rattle.std.proofs.Common.{◌≡◌, Some, refl, subst}
use Rattle.intmap_table.specs.Bindings.{value_of}
use Rattle.intmap.specs.Entries.{occupied_key}
use Rattle.intmap_table.proofs.WrittenLemmas.{the_key-same}
use Rattle.intmap.proofs.HandingOverLemmas.{IsLeft, IsUpdated-left, others-updated, length-left}
use Rattle.intmap.proofs.entry.OccupiedEntry.hand_over.Goals as goal

pub returns-clause-state : goal.returns-clause-state
returns-clause-state g c =
    let number = g.K.IntKey.number_of in
    let m = c.args.self.map.now in
    let n = c.hand_over_at.new.self in
    subst (λ k. (x : g.row.V.Denot) × (value_of number m.walk k ≡ Some x) × IsLeft number g.K.IntKey.is_valid (g.F.FnOnce.post c.args.f (x, tt)) m n k c.hand_over_at.result)
    (the_key-same _ _ refl c.args.self.found.some c.location-at.ensures.key) c.hand_over_at.ensures.state

pub returns-clause-updates : goal.returns-clause-updates
returns-clause-updates g c =
    let left = returns-clause-state g c in
    (left.0, left.1, IsUpdated-left g.K.IntKey.number_of g.K.IntKey.is_valid (g.F.FnOnce.post c.args.f (left.0, tt)) c.args.self.map.now c.hand_over_at.new.self (occupied_key c.args.self) c.hand_over_at.result c.hand_over_at.ensures.valid left.2)

pub returns-clause-others : goal.returns-clause-others
returns-clause-others g c =
    let updated = returns-clause-updates g c in
    others-updated g.K.IntKey.number_of g.K.IntKey.is_valid (g.F.FnOnce.post c.args.f (updated.0, tt)) c.args.self.map.now c.hand_over_at.new.self (occupied_key c.args.self) c.hand_over_at.result updated.2

pub returns-clause-len : goal.returns-clause-len
returns-clause-len g c =
    let left = returns-clause-state g c in
    length-left g.K.IntKey.number_of g.K.IntKey.is_valid (g.F.FnOnce.post c.args.f (left.0, tt)) c.args.self.map.now c.hand_over_at.new.self (occupied_key c.args.self) c.hand_over_at.result left.0 c.hand_over_at.ensures.valid left.1 left.2
