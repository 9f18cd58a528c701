use Rattle.std.proofs.Common.{inl, arith, Bor, ◌≡◌, length, map, sym, ap, ◌∙◌}
use Rattle.std.specs.Iterator.{DrainsIf, YieldsFirstBy}
use Rattle.std.proofs.lemmas.Bool.{eq-eqb}
use Rattle.std.proofs.lemmas.Iterator.{items_from_drains}
use Rattle.std.proofs.lemmas.Iterator.Consumers.{YieldsList-from_first}
use Rattle.std.proofs.lemmas.List.{length-map}
use Rattle.intmap.proofs.map.IntMap.assert_count.Goals as goal

pub returns-clause-value : goal.returns-clause-value
returns-clause-value g c =
    let ran = c.count.ensures.ran in
    let shown : Bor g.row.K.Denot × Bor g.row.V.Denot → g.row.K.Denot × g.row.V.Denot = λ item. (item.0.now, item.1.now) in
    let drained : DrainsIf (YieldsFirstBy shown (λ rest. rest)) (Unit {0}) c.iter.result ran.0 = (ran.1.1.0, ran.1.1.1, λ _. (ran.1.0, ran.1.1.2)) in
    let items : map shown ran.0 ≡ c.args.self.now.walk = items_from_drains ran.0 drained (YieldsList-from_first shown (λ rest. rest) c.args.self.now.walk c.iter.ensures.walk) in
    let counted = ran.2 ∙ sym (length-map ran.0 shown) ∙ ap length items in
    eq-eqb c.count.result c.len.result (counted ∙ sym c.len.ensures.value)

pub count-requires-clause-fits : goal.count-requires-clause-fits
count-requires-clause-fits g c =
    let few = c.iter.ensures.valid.count in
    let same = ap length c.iter.ensures.walk in
    inl (omega (arith, few, same))
