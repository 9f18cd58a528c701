use Rattle.callers_above.proofs.standing.write.Goals as goal

pub returns-in-Some-clause-list : goal.returns-in-Some-clause-list
returns-in-Some-clause-list g c present L one = c.writing_keeps_standing.ensures c.args.map.now.capacity L c.args.map.now.walk c.args.key c.args.value one
