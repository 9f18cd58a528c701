use Rattle.std.proofs.Common.{sym, subst, ◌∙◌}
use Rattle.std.proofs.lemmas.Iterator.{items_from_collect}
use Rattle.std.proofs.lemmas.Result.{IfOk-weaker}
use Rattle.intmap.specs.Bindings.{HasDistinctKeys}
use Rattle.intmap_set.specs.Sets.{paired}
use Rattle.intmap_set.proofs.OwnedLemmas.{copies-came}
use Rattle.callers_above.proofs.combined.list_either.Goals as goal

-- the copies of the iterator's list are collected
pub returns-clause-walk : goal.returns-clause-walk
returns-clause-walk g c = items_from_collect _ c.collect.ensures.ran (copies-came (c.copied.ensures.source ∙ c.union.ensures.walk))

pub returns-clause-once : goal.returns-clause-once
returns-clause-once g c =
    let e = c.union.ensures in
    let once = c.combined_keys_are_distinct.ensures.union c.args.first.now.walk c.args.second.now.walk e.valid.distinct e.valid_other.distinct in
    IfOk-weaker c.collect.result _ _ (λ list is. subst (λ keys. HasDistinctKeys g.K.IntKey.number_of (paired keys)) (sym is) once)
    (items_from_collect c.collect.result c.collect.ensures.ran (copies-came (c.copied.ensures.source ∙ e.walk)))
