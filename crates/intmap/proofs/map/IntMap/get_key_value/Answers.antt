use Rattle.std.proofs.Common.{◌∙◌, Contains, Some, sym, ap, subst}
use Rattle.intmap.specs.Map.{MapState}
use Rattle.intmap.proofs.ContainsLemmas.{Contains-value_of}
use Rattle.intmap.proofs.map.IntMap.get_key_value.Goals as goal

pub returns-clause-by_pair : goal.returns-clause-by_pair
returns-clause-by_pair g c =
    let told = c.in-Some.ensures in let v = c.get.result.now in
    let is = Contains-value_of g.K.IntKey.number_of g.K.IntKey.is_valid g.met.K.IntKey.number_injective c.self.inside.table.walk c.args.key v c.self.invariant.map.keys told.known (sym told.value ∙ ap Some (sym c.get.ensures)) in
    subst (λ k. Contains c.args.self.now.walk (k, v)) (sym told.key) (subst (λ (m : MapState _ _). Contains m.walk (c.args.key, v)) c.self.view_is is)
