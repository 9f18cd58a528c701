use Rattle.std.proofs.Common.{refl, rules, arith, true, ◌≡◌, ◌∙◌, ℕ, suc, zero, List, [], ◌∷◌, ap, take, ◌-◌}
use Rattle.std.specs.Prelude.{nat_lt}
use Rattle.intmap.proofs.Callers.{Retains-kept_from}
use Rattle.intmap.specs.Retaining.{kept_from}
use Rattle.callers.proofs.retained.keep_first.Goals as goal

-- a test that counts down from n keeps the first n
kept_from-first : {X : Type 0} (n : ℕ) (L : List X) → kept_from (λ n x. nat_lt 0 n) (λ n x. n - 1) n L ≡ take n L
kept_from-first zero [] = refl
kept_from-first (suc n) [] = refl
kept_from-first zero (x ∷ L) = kept_from-first zero L
kept_from-first (suc n) (x ∷ L) =
    let some : nat_lt 0 (suc n) ≡ true = grind arith in let less : suc n - 1 ≡ n = omega arith in
    rw (some, less) (ap (λ M. x ∷ M) (kept_from-first n L))

pub returns-clause-walk : goal.returns-clause-walk
returns-clause-walk g c =
    let told = c.retain.ensures.pairs in
    (Retains-kept_from _ (λ f n. f.0 ≡ n) (λ n x. nat_lt 0 n) (λ n x. n - 1) (λ f x b f' n own asked. let called = asked.called in search rules)
    _ _ told.0 c.args.map.now.walk c.retain.new.self.walk refl told.1).0
    ∙ kept_from-first c.args.count c.args.map.now.walk
