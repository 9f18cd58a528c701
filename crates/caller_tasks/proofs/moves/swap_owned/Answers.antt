use Rattle.std.proofs.lemmas.Bool.{ne_eqb}
use Rattle.caller_tasks.proofs.moves.swap_owned.Goals as goal

-- each other key keeps its value, whether both keys are present or not
pub returns-in-Some-Some-Some-Some-clause-others : goal.returns-in-Some-Some-Some-Some-clause-others
returns-in-Some-Some-Some-Some-clause-others g c q a b = c.get_disjoint_mut-values.ensures.updates _ q (ne_eqb q c.args.a a, (ne_eqb q c.args.b b, tt))

pub returns-clause-others : goal.returns-clause-others
returns-clause-others g c q a b = c.get_disjoint_mut-values.ensures.updates _ q (ne_eqb q c.args.a a, (ne_eqb q c.args.b b, tt))
