use Rattle.std.proofs.Common.{◌≤◌, ◌∙◌, length, arith}
use Rattle.std.proofs.lemmas.List.{take_all}
use Rattle.intmap_run.proofs.runner.lists.all_sizes.Goals as goal

-- the map of sizes is made, and all its pairs are taken
pub returns-in-Ok-clause-ok : goal.returns-in-Ok-clause-ok
returns-in-Ok-clause-ok g c =
    let made = c.in_ok-sizes.sizes in
    let all : length made.walk ≤ c.len-count.result = omega (arith, c.len-count.ensures.value) in
    (made, c.in_ok-sizes.ensures.sizes, c.in-Ok.ensures.pairs ∙ take_all c.len-count.result made.walk all)
