use Rattle.std.proofs.Common.{length, ◌∙◌, sym, ◌^◌, ◌<◌, arith}
use Rattle.std.proofs.lemmas.Result.{IfErr-weaker, on_ok_weaker}
use Rattle.intmap_set.specs.Combined.{union_of}
use Rattle.intmap_set.proofs.CombinedLemmas.{IsUnion-union_of}
use Rattle.intmap_set.proofs.DistinctLemmas.{HasDistinctKeys-union_of}
use Rattle.intmap_set.proofs.MemberLemmas.{length-paired}
use Rattle.intmap_set.proofs.OwnedLemmas.{copies-came, extended-all, members-extended, stops-among}
use Rattle.intmap_set.proofs.SizeLemmas.{length-same_members}
use Rattle.intmap_set.proofs.set.IntSet.extend_from_set.Goals as goal

pub returns-clause-updates : goal.returns-clause-updates
returns-clause-updates g c =
    on_ok_weaker c.extend.result (members-extended g.K.IntKey.number_of g.K.IntKey.is_valid (copies-came (c.copied.ensures.source ∙ c.iter.ensures.walk)) c.args.self.now c.extend.new.self) c.extend.ensures.extends

pub returns-clause-len : goal.returns-clause-len
returns-clause-len g c =
    let number = g.K.IntKey.number_of in let V = c.args.self.now.walk in let W = c.args.other.now.walk in
    on_ok_weaker c.extend.result (λ told. length-same_members number c.extend.new.self.walk (union_of number V W) c.extend.ensures.valid_after.distinct
    (HasDistinctKeys-union_of number V W c.extend.ensures.valid.distinct c.known.ensures.valid.distinct)
    (λ q. members-extended number g.K.IntKey.is_valid (copies-came (c.copied.ensures.source ∙ c.iter.ensures.walk)) c.args.self.now c.extend.new.self told q ∙ sym (IsUnion-union_of number V W q)))
    c.extend.ensures.extends

pub returns-clause-stops : goal.returns-clause-stops
returns-clause-stops g c =
    let count : length c.args.other.now.walk < 2 ^ 64 = (let few = c.known.ensures.valid.count in let same = length-paired c.args.other.now.walk in omega (arith, few, same)) in
    IfErr-weaker c.extend.result _ _ (λ refused told. stops-among g.K.IntKey.number_of g.K.IntKey.is_valid (copies-came (c.copied.ensures.source ∙ c.iter.ensures.walk)) c.args.self.now refused c.extend.new.self count told)
    c.extend.ensures.stops

pub returns-clause-extended : goal.returns-clause-extended
returns-clause-extended g c =
    on_ok_weaker c.extend.result (extended-all g.K.IntKey.number_of g.K.IntKey.is_valid (copies-came (c.copied.ensures.source ∙ c.iter.ensures.walk)) c.args.self.now c.extend.new.self) c.extend.ensures.extends
