-- The search does not see which of the two calls failed, and gives up on a map that was collected.
use Rattle.std.proofs.Common.{◌≡◌, inl, inr, refl, ap, ◌∙◌, subst}
use Rattle.std.specs.Prelude.{reverse}
use Rattle.std.specs.Option.{option_or}
use Rattle.std.proofs.iter.runs.Consumers.{total_runs}
use Rattle.intmap_table.specs.Bindings.{value_of}
use Rattle.intmap.specs.Extending.{Extends, ExtendsUpTo}
use Rattle.intmap.specs.Map.{MapState}
use Rattle.intmap.proofs.ExtendLemmas.{MatchResult-refused, cause-with_slots, option_or-none}
use Rattle.intmap.proofs.map.IntMap.from_iter.Goals as goal

pub returns-in_err-map-clause-collects : goal.returns-in_err-map-clause-collects
returns-in_err-map-clause-collects g c =
    let lower = c.size_hint-lower.result.0 in (
      lower,
      c.size_hint-lower.ensures.lower c.requires.ends,
      MatchResult-refused c.from_residual.result _ _ _ c.from_residual.ensures.1
          (λ cause is. elim (cause-with_slots c.in_err-map.field-0.0 lower c.in_err-map.ensures.too_large) [
            | inl large ↦ inl (is ∙ large.0, large.1)
            | inr within ↦ inr (inl (is ∙ within.0, within.1))
          ]),
    )

pub returns-in-Err-clause-collects : goal.returns-in-Err-clause-collects
returns-in-Err-clause-collects g c =
    let made = c.in_ok-map.ensures in
    let Stops : MapState g.row.K.Denot g.row.V.Denot → Type 0 =
    λ m. ExtendsUpTo g.K.IntKey.number_of g.K.IntKey.is_valid g.I.Iterator.next_gives c.args.iter m c.in-Err.refused c.extend.new.self in
    (c.size_hint-lower.result.0, c.size_hint-lower.ensures.lower c.requires.ends, inr (inr (c.in_ok-map.map.capacity, made.capacity, c.in-Err.refused, c.extend.new.self, subst Stops made.state c.in-Err.ensures.stops, refl)))

pub returns-in-Ok-clause-collects : goal.returns-in-Ok-clause-collects
returns-in-Ok-clause-collects g c =
    let made = c.in_ok-map.ensures in
    let Extended : MapState g.row.K.Denot g.row.V.Denot → Type 0 =
    λ m. Extends g.K.IntKey.number_of g.K.IntKey.is_valid g.I.Iterator.next_gives c.args.iter m c.extend.new.self in (
      c.size_hint-lower.result.0,
      c.size_hint-lower.ensures.lower c.requires.ends,
      record { slots = c.in_ok-map.map.capacity; power = made.capacity; extends = subst Extended made.state c.in-Ok.ensures.extends },
    )

pub returns-in-Ok-clause-runs : goal.returns-in-Ok-clause-runs
returns-in-Ok-clause-runs g c =
    let number = g.K.IntKey.number_of in
    let all = c.in-Ok.ensures.extends in
    let none = ap (λ (m : MapState g.row.K.Denot g.row.V.Denot). m.walk) c.in_ok-map.ensures.state in
    total_runs g.I.Iterator.next_gives c.args.iter (Unit {0}) (λ items. (q : g.row.K.Denot) → value_of number c.extend.new.self.walk q ≡ value_of number (reverse items) q)
    (all.pairs, λ _. all.came, λ q. all.extended.updates q ∙ ap (λ W. option_or (value_of number (reverse all.pairs) q) (value_of number W q)) none ∙ option_or-none (value_of number (reverse all.pairs) q)) tt
