use Rattle.std.proofs.Common.{Some, sym, ap, ◌∙◌, subst}
use Rattle.std.proofs.lemmas.Result.{IfOk-weaker}
use Rattle.intmap_table.proofs.Tables.FoundLemmas.{key_at-located}
use Rattle.intmap_table.proofs.LocationLemmas.{is_ok-located}
use Rattle.intmap.proofs.map.IntMap.locate.Goals as goal

pub returns-clause-key : goal.returns-clause-key
returns-clause-key g c =
    IfOk-weaker c.locate.result _ _ (λ at is. key_at-located g.K.IntKey.number_of g.K.IntKey.is_valid g.met.K.IntKey.number_injective _ c.self.inside.table.capacity at c.self.invariant.map.keys
    (subst g.K.IntKey.is_valid (sym is.0) c.locate.ensures.known) is.1 ∙ ap (λ q. Some q) is.0) c.locate.ensures.found

pub returns-clause-bound : goal.returns-clause-bound
returns-clause-bound g c =
    rw (← c.self.view_is) (is_ok-located g.K.IntKey.number_of c.self.inside.table.walk c.self.inside.table.capacity c.args.key.now c.locate.result c.locate.ensures.found c.locate.ensures.missing)
