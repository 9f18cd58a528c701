use Rattle.std.proofs.Common.{ap, arith, refl}
use Rattle.std.specs.Option.{option_len}
use Rattle.intmap_table.specs.Picking.{PicksAt}
use Rattle.intmap_table.proofs.ExtractLemmas.{length-ExtractsBehind}
use Rattle.intmap.proofs.ExtractLemmas.{IsConsistent-Extracts}
use Rattle.intmap.proofs.map.IntMap.extract_next.Goals as goal

pub invariant_of-self : goal.invariant_of-self
invariant_of-self g c =
    let asked = c.extract_next.ensures in let none = ap option_len c.in_default.is in
    IsConsistent-Extracts g.K.IntKey.number_of g.K.IntKey.is_valid (PicksAt g.F.FnMut) (λ f p b h q call. call.0) c.args.f.now c.extract_next.new.f c.self.inside.table.walk c.extract_next.new.self.walk _ _ c.extract_next.result
    _ _ _ c.self.inside.len c.self.inside.len _ _ _ _ asked.step asked.capacity asked.own (omega (arith, none)) (omega (arith, c.self.invariant.memory, asked.nodes)) c.self.invariant

pub returns-in_default : goal.returns-in_default
returns-in_default g c =
    let asked = c.in_default.ensures in
    rw (← c.self.view_is) record { step = asked.step; state = rw asked.capacity refl; reached = asked.reached; valid = c.self.invariant.map; valid_after = (invariant_of-self g c).map }

pub invariant_of-self-2 : goal.invariant_of-self-2
invariant_of-self-2 g c =
    let asked = c.extract_next.ensures in let one = ap option_len c.in-Some.is in let old = c.self.inside.table.walk in
    let fewer = length-ExtractsBehind (PicksAt g.F.FnMut) c.args.f.now c.extract_next.new.f old c.extract_next.new.self.walk _ _ c.extract_next.result asked.step in
    IsConsistent-Extracts g.K.IntKey.number_of g.K.IntKey.is_valid (PicksAt g.F.FnMut) (λ f p b h q call. call.0) c.args.f.now c.extract_next.new.f old c.extract_next.new.self.walk _ _ c.extract_next.result
    _ _ _ c.self.inside.len _ _ _ _ _ asked.step asked.capacity asked.own (omega (arith, one, fewer, c.self.invariant.count)) (omega (arith, c.self.invariant.memory, asked.nodes)) c.self.invariant

pub returns : goal.returns
returns g c =
    let asked = c.in-Some.ensures in
    rw (← c.self.view_is) record { step = asked.step; state = rw asked.capacity refl; reached = asked.reached; valid = c.self.invariant.map; valid_after = (invariant_of-self-2 g c).map }
