use Rattle.std.proofs.Common.{sym, ◌∙◌}
use Rattle.std.proofs.lemmas.Bool.{true≢false}
use Rattle.callers_above.proofs.combined.are_mutual_subsets.Goals as goal

-- the search takes no law whose premise says something of every member
pub returns-then-is_subset : goal.returns-then-is_subset
returns-then-is_subset g c =
    let law = c.equal_sets_are_mutual_subsets.ensures c.args.first.now c.args.second.now in
    let there = c.is_subset.ensures.value in let back = c.is_subset-then-is_subset.ensures.value in
    (λ is. law.1 (there.0 c.if-is_subset.true, back.0 is), λ equal. back.1 (law.0 equal).1)

pub returns-else-is_subset : goal.returns-else-is_subset
returns-else-is_subset g c =
    let law = c.equal_sets_are_mutual_subsets.ensures c.args.first.now c.args.second.now in
    (λ is. absurd (true≢false (sym is ∙ c.if-is_subset.false)), λ equal. c.is_subset.ensures.value.1 (law.0 equal).0)
