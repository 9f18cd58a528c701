use Rattle.std.proofs.Common.{rules, None, subst, arith}
use Rattle.intmap_table.specs.Bindings.{Updates}
use Rattle.intmap.proofs.CursorLemmas.{IsConsistent-parts, Updates-parts, length-parts}
use Rattle.intmap.proofs.map.IntMap.cut.Goals as goal

pub invariant_of-self-2 : goal.invariant_of-self-2
invariant_of-self-2 g c =
    let cut = c.in-Some.ensures' in
    IsConsistent-parts g.K.IntKey.number_of _ _ _ _ _ cut.first cut.before _ _ _ _ _ _ _ _ _ cut.capacity cut.own (omega (arith, c.self.invariant.memory, cut.nodes)) c.self.invariant

pub returns-clause-updates : goal.returns-clause-updates
returns-clause-updates g c =
    let L = c.self.inside.table.walk in let M = c.cut.new.self.walk in let cut = c.in-Some.ensures' in
    let told = Updates-parts g.K.IntKey.number_of L M _ _ _ cut.first cut.before c.self.invariant.map.distinct in
    rw (← c.self.view_is) (subst (λ k. Updates g.K.IntKey.number_of L M k None) (search rules) told)

pub returns-clause-len : goal.returns-clause-len
returns-clause-len g c =
    let cut = c.in-Some.ensures' in rw (← c.self.view_is) (length-parts g.K.IntKey.number_of _ _ _ _ _ cut.first cut.before)

pub returns-clause-valid_after : goal.returns-clause-valid_after
returns-clause-valid_after g c = (invariant_of-self-2 g c).map
