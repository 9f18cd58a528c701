use Rattle.std.proofs.Common.{refl, arith}
use Rattle.intmap.proofs.MapLemmas.{IsConsistent-rest}
use Rattle.intmap.proofs.map.IntMap.take_next.Goals as goal

pub invariant_of-self-2 : goal.invariant_of-self-2
invariant_of-self-2 g c =
    let taken = c.in-Some.ensures' in
    IsConsistent-rest _ _ _ _ _ _ _ _ _ _ c.self.invariant _ _ (omega (arith, c.self.invariant.memory, taken.nodes)) c.take_next.new.self.capacity _ taken.first taken.capacity taken.own

pub returns-in_default : goal.returns-in_default
returns-in_default g c =
    let told = c.in_default.ensures in
    rw (← c.self.view_is) record { first = told.first; state = rw told.capacity refl; passed = told.passed }
