use Rattle.std.proofs.Common.{rules, arith, ◌≡◌, ◌+◌, ◌∷◌, ℕ, ap, inl, subst, sym}
use Rattle.std.proofs.lemmas.Bool.Decides.{nat_tests}
use Rattle.std.proofs.lemmas.Grind.{common_steps}
use Rattle.std.proofs.lemmas.List.Sums.{fold_more}
use Rattle.std.specs.List.{sum}
use Rattle.std.specs.Map.{values_of}
use Rattle.std.specs.Prelude.{unwrap_or}
use Rattle.intmap.specs.Bindings.{HasDistinctKeys, value_of}
use Rattle.intmap.proofs.CostLemmas.{HasDistinctKeys-tail}
use Rattle.intmap.proofs.EqualityLemmas.{value_of-rest}
use Rattle.caller_tasks.proofs.sums.merge.Goals as goal

pub loop-key-init : goal.loop-key-init
loop-key-init g c =
    let all : c.into_iter-key-iterator.result ≡ c.args.more.now.walk = search rules in
    record {
      total = ap (λ L. sum (values_of c.args.sums.now.walk) + sum (values_of L)) all;
      all_or_none = λ q. inl (ap (λ L. unwrap_or (value_of (λ k. k) L q) 0) all);
      distinct = subst (λ L. HasDistinctKeys (λ k. k) L) (sym all) c.iter-key-items.ensures.valid.distinct;
      values = λ q. ap (λ L. unwrap_or (value_of (λ k. k) c.args.sums.now.walk q) 0 + unwrap_or (value_of (λ k. k) L q) 0) all;
    }

-- no key comes twice, so the key that was added to is absent from the pairs that are left
pub loop-key-preserved : goal.loop-key-preserved
loop-key-preserved g c =
    let before = c.loop-key.invariant in let step = c.in_ok-add_in.ensures in let rest = c.next.new.self in let pair : ℕ × ℕ = (c.in-Some.key.now, c.in-Some.value.now) in
    let is : c.loop-key.key-iterator ≡ pair ∷ rest = search rules in
    let once : HasDistinctKeys (λ k. k) (pair ∷ rest) = subst (λ L. HasDistinctKeys (λ k. k) L) is before.distinct in
    record {
      total = let so_far = rw is at before.total in let more = step.total in grind (arith, common_steps, fold_more, so_far, more);
      all_or_none = λ q.
          (let left = rw is at before.all_or_none q in let none = value_of-rest (λ k. k) pair rest once q in
          grind (arith, nat_tests, common_steps, left, none));
      distinct = HasDistinctKeys-tail (λ k. k) pair rest once;
      values = λ q.
          (let so_far = rw is at before.values q in let here = step.here in let others = step.others q in let none = value_of-rest (λ k. k) pair rest once q in
          grind (arith, nat_tests, common_steps, so_far, here, others, none));
    }
