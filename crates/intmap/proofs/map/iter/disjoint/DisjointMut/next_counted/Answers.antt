use Rattle.std.proofs.Common.{rules}
use Rattle.intmap.proofs.DisjointLemmas.{value_of-lent_pairs, first_counted}
use Rattle.intmap.proofs.map.iter.disjoint.DisjointMut.next_counted.Goals as goal

pub returns-in-Some-clause-value : goal.returns-in-Some-clause-value
returns-in-Some-clause-value g c = let shows = value_of-lent_pairs g.K.IntKey.number_of c.self.inside.table.now.walk c.in_ok-key.key.now in search (rules, shows)

pub returns-in-Some-clause-counted : goal.returns-in-Some-clause-counted
returns-in-Some-clause-counted g c =
    let T = c.self.inside.table.now in
    let counted = first_counted g.K.IntKey.number_of T.walk T.capacity c.self.inside.keys.now c.in_ok-key.key.now c.in_ok-key.rest.now c.args.steps.now c.pair_of.new.steps
    c.in_ok-key.ensures.cases.0 c.pair_of.ensures.counted in
    search (rules, counted)

pub returns-in-None-clause-value : goal.returns-in-None-clause-value
returns-in-None-clause-value g c = let shows = value_of-lent_pairs g.K.IntKey.number_of c.self.inside.table.now.walk c.in_ok-key.key.now in search (rules, shows)

pub returns-in-None-clause-counted : goal.returns-in-None-clause-counted
returns-in-None-clause-counted g c =
    let T = c.self.inside.table.now in
    let counted = first_counted g.K.IntKey.number_of T.walk T.capacity c.self.inside.keys.now c.in_ok-key.key.now c.in_ok-key.rest.now c.args.steps.now c.pair_of.new.steps
    c.in_ok-key.ensures.cases.0 c.pair_of.ensures.counted in
    search (rules, counted)
