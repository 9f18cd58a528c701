use Rattle.std.proofs.Common.{◌&&◌, Some, sym, ap, ◌∙◌}
use Rattle.std.specs.Option.{option_eq}
use Rattle.std.proofs.lemmas.Bool.{not-false}
use Rattle.intmap.proofs.EqualityLemmas.{are_found, maps_equal-same_length, maps_equal-other_length}
use Rattle.intmap.proofs.map.traits.IntMapPartialEq.eq.Goals as goal

pub returns-then-len : goal.returns-then-len
returns-then-len g c =
    sym (maps_equal-other_length g.K.IntKey.number_of g.V.PartialEq.eq c.args.self.now c.args.other.now c.len.ensures.valid.distinct c.len-2.ensures.valid.distinct
    (λ same. c.if-len.true (c.len.ensures.value ∙ same ∙ sym c.len-2.ensures.value)))

pub loop-key-init : goal.loop-key-init
loop-key-init g c = record {
  left =
      maps_equal-same_length g.K.IntKey.number_of g.V.PartialEq.eq g.met.V.PartialEq.laws c.args.self.now c.args.other.now c.len.ensures.valid.distinct c.len-2.ensures.valid.distinct
      (sym c.len.ensures.value ∙ c.if-len.false ∙ c.len-2.ensures.value)
      ∙ ap (λ P. are_found g.K.IntKey.number_of g.V.PartialEq.eq P c.args.other.now.walk) (sym c.into_iter-key-iterator.ensures.into_iter_gives);
}

pub loop-key-preserved : goal.loop-key-preserved
loop-key-preserved g c = record {
  left =
      let same = not-false (g.V.PartialEq.eq c.in-Some.value.now c.in-Some-get.theirs.now) (sym c.ne.ensures ∙ c.if-ne.false) in
      c.loop-key.invariant.left
      ∙ ap (λ P. are_found g.K.IntKey.number_of g.V.PartialEq.eq P c.args.other.now.walk) c.in-Some.ensures.steps
      ∙ ap (λ b. b && are_found g.K.IntKey.number_of g.V.PartialEq.eq c.next.new.self c.args.other.now.walk)
      (ap (option_eq g.V.PartialEq.eq (Some c.in-Some.value.now)) (sym c.in-Some-get.ensures.value) ∙ same);
}
