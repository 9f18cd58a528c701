-- The members are inserted one after another, and an induction over them is beyond the search.
use Rattle.std.proofs.Common.{inr, ◌^◌, ◌<◌, ◌≤◌, [], ◌∷◌, ◌++◌, append_assoc, max, string_bytes, sym, ◌∙◌, subst}
use Rattle.std.proofs.lemmas.List.{append-nil}
use Rattle.serde_json.specs.View.{members_view}
use Rattle.serde_json.proofs.Views.{members_len-members_view}
use Rattle.intmap.specs.Extending.{IsExtended}
use Rattle.intmap.specs.Growth.{IsLeastPower}
use Rattle.intmap.specs.Json.{IsKeyText, HasKeyTexts, ArePairsOf, AreCollected, MayRefuseToRead}
use Rattle.intmap.specs.Map.{empty_map}
use Rattle.intmap.proofs.ExtendLemmas.{IsExtended-nil, IsExtended-push, MatchResult-refused}
use Rattle.intmap.proofs.MembersLemmas.{AreApart-sorted, length-collected, ShowsBindings-collected, pairs_of, MayRefuseToRead-slots, MayRefuseToRead-insertion, slots-within}
use Rattle.intmap.proofs.map.json.read.IntMap+u64+Value.of_members.Goals as goal

pub returns-in_err-map-clause-refused : goal.returns-in_err-map-clause-refused
returns-in_err-map-clause-refused c =
    let count = c.len.ensures.len ∙ sym (members_len-members_view c.args.members.now.entries) in
    let ms = members_view c.args.members.now.entries in
    MatchResult-refused c.from_residual.result _ _ _ c.from_residual.ensures.1
    (λ cause is. subst (MayRefuseToRead ms) (sym is) (MayRefuseToRead-slots ms c.in_err-map.field-0.0 c.len.result count c.in_err-map.ensures.too_large))

pub loop-text-init : goal.loop-text-init
loop-text-init c =
    let made = c.in_ok-map in
    let all = c.into_iter-text-iterator.ensures.into_iter_gives ∙ c.iter-text-items.ensures.rest in record {
      can = tt;
      ends = tt;
      texts = subst (λ es. HasKeyTexts (members_view es)) (sym all) c.requires.texts;
      pairs = [];
      are = λ rest are. subst (λ es. ArePairsOf (members_view es) rest) all are;
      extended = subst (λ m. IsExtended (λ key. key) (λ key. key < 2 ^ 64) (empty_map made.map.capacity) [] m) (sym made.ensures.state)
          (IsExtended-nil (λ key. key) (λ key. key < 2 ^ 64) (empty_map made.map.capacity));
      map = made.ensures.valid;
    }

pub returns-in_err-clone-clause-refused : goal.returns-in_err-clone-clause-refused
returns-in_err-clone-clause-refused c =
    let count = c.len.ensures.len ∙ sym (members_len-members_view c.args.members.now.entries) in
    let within = subst (λ n. n ≤ 2 ^ 63) count (slots-within c.in_ok-map.map c.len.result c.in_ok-map.ensures.too_large) in
    MatchResult-refused c.from_residual-in_err-clone.result _ _ _ c.from_residual-in_err-clone.ensures.1 (λ cause is. inr (is, within))

pub returns-in_err-insert-clause-refused : goal.returns-in_err-insert-clause-refused
returns-in_err-insert-clause-refused c =
    let es = c.args.members.now.entries in
    let ms = members_view es in
    let k = c.known_key-key.result in
    let v = c.in_ok-clone.field-0 in
    let slots = c.in_ok-map.map.capacity in
    let kept = c.loop-text.invariant in
    let left = c.next.new.self in
    let count = c.len.ensures.len ∙ sym (members_len-members_view es) in
    let within = subst (λ n. n ≤ 2 ^ 63) count (slots-within c.in_ok-map.map c.len.result c.in_ok-map.ensures.too_large) in
    let first = c.in-Some.ensures.steps in
    let text : IsKeyText (string_bytes c.in-Some.text.now) k = subst (λ t. IsKeyText t k) c.as_str.ensures.value c.known_key-key.ensures.value in
    let rest = pairs_of left (subst (λ es. HasKeyTexts (members_view es)) first kept.texts).1 in
    let here = subst (λ es. ArePairsOf (members_view es) ((k, v) ∷ rest.0)) (sym first) (text, c.in_ok-clone.ensures.cases, rest.1) in
    let collected : AreCollected _ kept.pairs c.loop-text.map =
    record { slots = slots; power = subst (λ n. IsLeastPower (max n 2) slots) count c.in_ok-map.ensures.capacity; extended = kept.extended } in
    MatchResult-refused c.from_residual-in_err-insert.result _ _ _ c.from_residual-in_err-insert.ensures.1
    (λ cause is. subst (MayRefuseToRead ms) (sym is)
    (MayRefuseToRead-insertion ms c.in_err-insert.field-0.0.cause
    (λ large. record {
      pairs = kept.pairs;
      next = (k, v);
      rest = rest.0;
      are = kept.are ((k, v) ∷ rest.0) here;
      before = c.loop-text.map;
      collected = collected;
      out_of_range = (c.in_err-insert.ensures.refused.too_large.0 large);
    })
    within))

pub loop-text-preserved : goal.loop-text-preserved
loop-text-preserved c =
    let ms = members_view c.args.members.now.entries in
    let k = c.known_key-key.result in
    let v = c.in_ok-clone.field-0 in
    let kept = c.loop-text.invariant in
    let first = c.in-Some.ensures.steps in
    let e = c.in_ok-insert.ensures in
    let text : IsKeyText (string_bytes c.in-Some.text.now) k = subst (λ t. IsKeyText t k) c.as_str.ensures.value c.known_key-key.ensures.value in record {
      can = tt;
      ends = tt;
      texts = (subst (λ es. HasKeyTexts (members_view es)) first kept.texts).1;
      pairs = kept.pairs ++ (k, v) ∷ [];
      are = λ rest are.
          let here = subst (λ es. ArePairsOf (members_view es) ((k, v) ∷ rest)) (sym first) (text, c.in_ok-clone.ensures.cases, are) in
          subst (λ ps. ArePairsOf ms ps) (sym (append_assoc kept.pairs ((k, v) ∷ []) rest)) (kept.are ((k, v) ∷ rest) here);
      extended = IsExtended-push (λ key. key) (λ key. key < 2 ^ 64) (empty_map c.in_ok-map.map.capacity) c.loop-text.map c.insert.new.self kept.pairs k v
          kept.extended (record { inserted = e.inserted; state = e.state });
      map = c.insert.ensures.valid_after;
    }

pub returns : goal.returns
returns c =
    let es = c.args.members.now.entries in
    let slots = c.in_ok-map.map.capacity in
    let kept = c.loop-text.invariant in
    let count = c.len.ensures.len ∙ sym (members_len-members_view es) in
    let are = subst (λ ps. ArePairsOf (members_view es) ps) (append-nil kept.pairs)
    (kept.are [] (subst (λ es. ArePairsOf (members_view es) []) (sym c.in-None.ensures.steps.0) tt)) in
    let apart = AreApart-sorted es kept.pairs c.len.ensures.ordered are in
    let collected : AreCollected _ kept.pairs c.loop-text.map =
    record { slots = slots; power = subst (λ n. IsLeastPower (max n 2) slots) count c.in_ok-map.ensures.capacity; extended = kept.extended } in record {
      reads = record { pairs = kept.pairs; are = are; collected = collected };
      len = length-collected es kept.pairs c.loop-text.map _ are apart collected;
      shows = ShowsBindings-collected es kept.pairs c.loop-text.map _ are apart collected c.requires.texts;
      valid = kept.map;
      refused = tt;
    }
