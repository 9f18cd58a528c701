-- The members are put one after another, and an induction over the pairs is beyond the search.
use Rattle.std.proofs.Common.{◌<◌, ◌^◌, ◌∷◌, length, suc, sym, subst, arith}
use Rattle.std.specs.Prelude.{All}
use Rattle.serde_json.specs.Data.{no_members}
use Rattle.serde_json.specs.View.{view, members_view}
use Rattle.intmap.specs.Json.{HasKeyTexts}
use Rattle.intmap.proofs.MembersLemmas.{Pairs, AreApart, AreApart-distinct, HasKeyTexts-put, AreShownWith, AreShownWith-all, AreShownWith-put}
use Rattle.intmap.proofs.map.json.IntMap+u64+Value.members.Goals as goal

pub loop-key-init : goal.loop-key-init
loop-key-init c =
    let L = c.args.self.now.walk in
    let left = c.into_iter-key-iterator.result in
    let all = sym c.into_iter-key-iterator.ensures.into_iter_gives in
    let none = sym c.new-members.ensures.empty in
    let map = c.known.ensures.valid in record {
      can = tt;
      ends = tt;
      keys = subst (λ (M : Pairs). All (λ p. p.0 < 2 ^ 64) M) all map.keys;
      apart = subst AreApart all (AreApart-distinct L map.distinct);
      texts = subst (λ es. HasKeyTexts (members_view es)) none tt;
      shown = subst (λ es. AreShownWith left (members_view es) L) none (subst (λ M. AreShownWith M no_members L) all (AreShownWith-all L));
    }

pub loop-key-preserved : goal.loop-key-preserved
loop-key-preserved c =
    let L = c.args.self.now.walk in
    let left = c.next.new.self in
    let ms = members_view c.loop-key.members.entries in
    let k = c.in-Some.key.now in
    let v = c.in-Some.value.now in
    let kept = c.loop-key.invariant in
    let first = c.in-Some.ensures.steps in
    let put = sym c.in_ok-put_member.ensures.value in
    let keys = subst (λ (M : Pairs). All (λ p. p.0 < 2 ^ 64) M) first kept.keys in
    let apart = subst AreApart first kept.apart in
    let shown = subst (λ M. AreShownWith M ms L) first kept.shown in
    let some : 0 < length ((k, v) ∷ left) = omega arith in
    let small : k < 2 ^ 64 = keys 0 (k, v) some in record {
      can = tt;
      ends = tt;
      keys = λ i d below. keys (suc i) d (omega arith);
      apart = apart.1;
      texts = subst HasKeyTexts put (HasKeyTexts-put ms k (view v) small kept.texts);
      shown = subst (λ ns. AreShownWith left ns L) put (AreShownWith-put left L ms k v small apart.0 shown);
    }
