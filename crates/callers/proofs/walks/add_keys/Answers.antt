use Rattle.std.proofs.Common.{rules, ◌+◌, ◌<◌, ◌^◌, ℕ, All}
use Rattle.std.proofs.lemmas.List.Elements.{All-head, All-tail}
use Rattle.intmap.specs.Taking.{TakesEach-from}
use Rattle.callers.proofs.walks.add_keys.Goals as goal

-- the sums that are still to come are no larger than a value may be
pub for_each_mut-requires : goal.for_each_mut-requires
for_each_mut-requires g c =
    let HasSum : ℕ × ℕ → Type 0 = λ pair. pair.0 + pair.1 < 2 ^ 64 in
    TakesEach-from _ _ (λ f rest. All HasSum rest)
    (λ f pair rest own. let here = All-head HasSum pair rest own in (λ value is. search rules, λ w f' left. All-tail HasSum pair rest own))
    _ _ c.requires
