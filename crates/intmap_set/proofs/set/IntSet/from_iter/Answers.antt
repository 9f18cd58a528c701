-- The search does not see which of the two calls failed.
use Rattle.std.proofs.Common.{◌≡◌, inl, inr, ◌^◌, ◌≤◌, ◌||◌, max, ap, ◌∙◌, refl, subst, arith}
use Rattle.std.proofs.iter.runs.Consumers.{total_runs}
use Rattle.std.proofs.lemmas.Bool.{cases_lt}
use Rattle.std.specs.Prelude.{Err}
use Rattle.std.proofs.lemmas.Result.{err_from_is_err_and}
use Rattle.intmap.specs.Growth.{least_power}
use Rattle.intmap.proofs.GrowthLemmas.{IsLeastPower-least_power}
use Rattle.intmap_set.specs.Extending.{Extends, ExtendsUpTo}
use Rattle.intmap_set.specs.Sets.{SetState, holds}
use Rattle.intmap_set.proofs.OwnedLemmas.{only_memory}
use Rattle.intmap_set.proofs.set.IntSet.from_iter.Goals as goal

pub returns-in_err-set-clause-collects : goal.returns-in_err-set-clause-collects
returns-in_err-set-clause-collects g c =
    let b = c.size_hint-lower.result.0 in let p = err_from_is_err_and c.from_residual.result c.from_residual.ensures.1 in let e = c.in_err-set.ensures in
    let power = IsLeastPower-least_power (max b 2) (let small = c.size_hint-lower.type_inv in omega (arith, small)) in
    rw (p.1, p.2) (
      b,
      least_power (max b 2),
      c.size_hint-lower.ensures.lower c.requires.ends,
      power,
      elim (cases_lt (2 ^ 63) b) [
        | inl over ↦ inl ((let is = e.too_large.1 over in cc), over)
        | inr few ↦ inr (few, inl (only_memory c.in_err-set.field-0.0 (λ is. let over = e.too_large.0 (ap Err is) in omega (arith, few, over))))
      ],
    )

pub returns-in-Err-clause-collects : goal.returns-in-Err-clause-collects
returns-in-Err-clause-collects g c =
    let made = c.in_ok-set.ensures in let b = c.size_hint-lower.result.0 in
    let Stops : SetState g.row.K.Denot → Type 0 =
    λ s. ExtendsUpTo g.K.IntKey.number_of g.K.IntKey.is_valid g.I.Iterator.next_gives c.args.iter s c.in-Err.refused c.extend.new.self in
    let few : b ≤ 2 ^ 63 = elim (cases_lt (2 ^ 63) b) [ inl over ↦ (let no = made.too_large.1 over in cc) | inr few ↦ few ] in (
      b,
      c.in_ok-set.set.capacity,
      c.size_hint-lower.ensures.lower c.requires.ends,
      made.capacity,
      inr (few, inr (c.in-Err.refused, c.extend.new.self, subst Stops made.state c.in-Err.ensures.stops, c.extend.ensures.valid_after, refl)),
    )

pub returns-in-Ok-clause-collects : goal.returns-in-Ok-clause-collects
returns-in-Ok-clause-collects g c =
    let made = c.in_ok-set.ensures in
    let Extended : SetState g.row.K.Denot → Type 0 =
    λ s. Extends g.K.IntKey.number_of g.K.IntKey.is_valid g.I.Iterator.next_gives c.args.iter s c.extend.new.self in
    (c.size_hint-lower.result.0, c.in_ok-set.set.capacity, c.size_hint-lower.ensures.lower c.requires.ends, made.capacity, subst Extended made.state c.in-Ok.ensures.extends)

pub returns-in-Ok-clause-runs : goal.returns-in-Ok-clause-runs
returns-in-Ok-clause-runs g c =
    let number = g.K.IntKey.number_of in
    let all = c.in-Ok.ensures.extends in
    let none = ap (λ (s : SetState g.row.K.Denot). s.walk) c.in_ok-set.ensures.state in
    total_runs g.I.Iterator.next_gives c.args.iter (Unit {0}) (λ items. (q : g.row.K.Denot) → holds number c.extend.new.self.walk q ≡ holds number items q)
    (all.keys, λ _. all.came, λ q. all.extended.updates q ∙ ap (λ W. holds number W q || holds number all.keys q) none) tt
