use Rattle.std.proofs.Common.{◌≡◌, ◌+◌, ◌≤◌, ℕ, None, length, ap, ◌∙◌, arith}
use Rattle.std.proofs.lemmas.Grind.{common_steps}
use Rattle.std.proofs.lemmas.Bool.Decides.{nat_tests}
use Rattle.intmap.specs.Unsigned.{value_at}
use Rattle.callers.proofs.tables.Dense.add.Goals as goal

pub invariant_of-self-in-Ok : goal.invariant_of-self-in-Ok
invariant_of-self-in-Ok g c =
    let is = c.self.invariant in
    let put = c.in-Ok.ensures in
    let next : c.len-number.result ≡ length c.self.inside.values.walk = c.len-number.ensures.value ∙ c.reserve.ensures.len in
    let none = c.reserve.ensures.updates c.len-number.result ∙ is.not_given c.len-number.result (omega arith) in
    let long = rw none at put.inserted.len in
    let roomy = c.in_default.ensures.reserved.enough in
    let kept = c.insertions_keep_capacity.ensures c.reserve.new.self.walk c.reserve.new.self.capacity c.reserve.new.self.factor c.len-number.result c.insert.new.self.capacity put.inserted.fits.capacity in
    let room : length c.insert.new.self.walk ≤ c.insert.new.self.capacity = omega (arith, long, c.reserve.ensures.len, kept, roomy.least.enough, roomy.capacity) in
    let not_given : (n : ℕ) → length c.insert.new.self.walk ≤ n → value_at c.insert.new.self.walk n ≡ None =
    λ n above. let each = put.inserted.updates.0 n in let same = c.reserve.ensures.updates n in let had = is.not_given n in grind (arith, common_steps, nat_tests, each, same, had, long, next) in
    record {
      room = room;
      below = c.present_keys_are_below.ensures c.insert.new.self.walk c.insert.new.self.capacity (λ n above. not_given n (omega (arith, room, above)));
      given = λ n below. let each = put.inserted.updates.0 n in let same = c.reserve.ensures.updates n in let had = is.given n in grind (arith, common_steps, nat_tests, each, same, had, long, next);
      not_given = not_given;
    }

pub returns-in-Ok-clause-len : goal.returns-in-Ok-clause-len
returns-in-Ok-clause-len g c =
    let next : c.len-number.result ≡ length c.self.inside.values.walk = c.len-number.ensures.value ∙ c.reserve.ensures.len in
    let none = c.reserve.ensures.updates c.len-number.result ∙ c.self.invariant.not_given c.len-number.result (omega arith) in
    rw none at c.in-Ok.ensures.inserted.len ∙ ap (λ n. n + 1) (c.reserve.ensures.len ∙ ap length c.self.view_is)

pub invariant_of-self-2 : goal.invariant_of-self-2
invariant_of-self-2 g c =
    let is = c.self.invariant in
    let more = c.reserve.ensures in
    let room : length c.reserve.new.self.walk ≤ c.reserve.new.self.capacity = omega (arith, more.len, is.room, c.in_default.ensures.reserved.enough.capacity) in
    let absent : (n : ℕ) → length c.reserve.new.self.walk ≤ n → value_at c.reserve.new.self.walk n ≡ None = λ n above. more.updates n ∙ is.not_given n (omega (arith, more.len, above)) in
    rw c.in-Err-insert.ensures.err (record {
      room = room;
      below = c.present_keys_are_below.ensures c.reserve.new.self.walk c.reserve.new.self.capacity (λ n above. absent n (omega (arith, room, above)));
      given = λ n below. rw more.updates (is.given n (omega (arith, more.len)));
      not_given = absent;
    })
