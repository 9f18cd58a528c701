use Rattle.std.proofs.Common.{sym, ◌∙◌}
use Rattle.callers_above.proofs.combined.have_same_members.Goals as goal

-- the search takes no law whose premise says something of every member
pub returns : goal.returns
returns g c =
    let law = c.equal_sets_have_the_same_members.ensures c.args.first.now c.args.second.now in
    (λ equal. law.0 (sym c.eq.ensures ∙ equal), λ same. c.eq.ensures ∙ law.1 same)
