use Rattle.std.proofs.Common.{[], arith, ap, length, refl, ◌∙◌}
use Rattle.intmap_set.specs.Combined.{union_of}
use Rattle.intmap_set.proofs.OwnedLemmas.{copies-came, extended-all, if_ok, members-extended}
use Rattle.callers_above.proofs.combined.collect_either.Goals as goal

pub returns-clause-members : goal.returns-clause-members
returns-clause-members g c =
    if_ok _ c.from_iter.result c.from_iter.ensures.collects.4
    (λ made told q. members-extended g.K.IntKey.number_of g.K.IntKey.is_valid (copies-came c.copied.ensures.source) _ made told q ∙ c.union.ensures.members q)

-- each member of the union is new to an empty set
pub returns-clause-len : goal.returns-clause-len
returns-clause-len g c =
    let number = g.K.IntKey.number_of in let e = c.union.ensures in
    let V = c.args.first.now.walk in let W = c.args.second.now.walk in
    let once = c.combined_keys_are_distinct.ensures.union V W e.valid.distinct e.valid_other.distinct in
    let new = ap length (c.distinct_keys_are_new.ensures [] (union_of number V W) (λ q is. refl) once) in
    if_ok _ c.from_iter.result c.from_iter.ensures.collects.4
    (λ made told. (let len = (extended-all number g.K.IntKey.is_valid (copies-came (c.copied.ensures.source ∙ e.walk)) _ made told).len in omega (arith, len, new)))
