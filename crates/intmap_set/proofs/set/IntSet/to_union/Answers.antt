use Rattle.std.proofs.Common.{◌∙◌}
use Rattle.intmap_set.proofs.DistinctLemmas.{HasDistinctKeys-union_of}
use Rattle.intmap_set.proofs.OwnedLemmas.{copies-came, extended-all, if_err, if_ok, if_ok_both, length-made, members-made, too_large-made}
use Rattle.intmap_set.proofs.set.IntSet.to_union.Goals as goal

pub returns-clause-members : goal.returns-clause-members
returns-clause-members g c =
    if_ok _ c.collected.result c.collected.ensures.collects
    (λ made told q. members-made g.K.IntKey.number_of g.K.IntKey.is_valid (copies-came c.copied.ensures.source) made told q ∙ c.union.ensures.members q)

pub returns-clause-len : goal.returns-clause-len
returns-clause-len g c =
    let number = g.K.IntKey.number_of in let e = c.union.ensures in
    if_ok_both _ c.collected.result c.collected.ensures.collects c.collected.ensures.valid_after
    (length-made number g.K.IntKey.is_valid (copies-came (c.copied.ensures.source ∙ e.walk)) (HasDistinctKeys-union_of number c.args.self.now.walk c.args.other.now.walk e.valid.distinct e.valid_other.distinct))

pub returns-clause-too_large : goal.returns-clause-too_large
returns-clause-too_large g c =
    if_err _ c.collected.result c.collected.ensures.collects
    (too_large-made g.K.IntKey.number_of g.K.IntKey.is_valid (copies-came (c.copied.ensures.source ∙ c.union.ensures.walk)))

pub returns-clause-extended : goal.returns-clause-extended
returns-clause-extended g c =
    if_ok _ c.collected.result c.collected.ensures.collects
    (extended-all g.K.IntKey.number_of g.K.IntKey.is_valid (copies-came (c.copied.ensures.source ∙ c.union.ensures.walk)) _)
