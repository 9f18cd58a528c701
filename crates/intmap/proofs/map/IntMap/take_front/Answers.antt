use Rattle.std.proofs.Common.{rules, [], None, refl, subst, sym, ◌∙◌, add-zero, arith}
use Rattle.intmap_table.specs.Bindings.{Updates}
use Rattle.intmap.proofs.MapLemmas.{IsConsistent-rest}
use Rattle.intmap.proofs.CursorLemmas.{Updates-cut}
use Rattle.intmap.proofs.map.IntMap.take_front.Goals as goal

pub invariant_of-self-2 : goal.invariant_of-self-2
invariant_of-self-2 g c =
    let taken = c.in-Some.ensures' in
    IsConsistent-rest _ _ _ _ _ _ _ _ _ _ c.self.invariant _ _ (omega (arith, c.self.invariant.memory, taken.nodes)) c.take_front.new.self.capacity _ taken.first taken.capacity taken.own

pub returns-clause-updates : goal.returns-clause-updates
returns-clause-updates g c =
    let L = c.self.inside.table.walk in let M = c.take_front.new.self.walk in
    let told = Updates-cut g.K.IntKey.number_of L M [] M _ c.in-Some.ensures'.first refl c.self.invariant.map.distinct in
    rw (← c.self.view_is) (subst (λ k. Updates g.K.IntKey.number_of L M k None) (search rules) told)

pub returns-in_default : goal.returns-in_default
returns-in_default g c =
    let told = c.in_default.ensures in let same = told.first.1 ∙ sym told.first.0 in
    rw (← c.self.view_is) record {
      first = told.first;
      state = rw told.capacity refl;
      updates = same;
      len = rw same (add-zero _);
      passed = told.passed;
      slot = tt;
      stays = told.stays;
      valid = c.self.invariant.map;
      valid_after = rw (same, told.capacity) c.self.invariant.map;
    }

pub returns-clause-valid_after : goal.returns-clause-valid_after
returns-clause-valid_after g c = (invariant_of-self-2 g c).map
