-- The members of objects beside pairs of numbers and values.
use Rattle.std.proofs.Common.{◌≡◌, ◌≢◌, inl, inr, ℕ, suc, ◌^◌, ◌<◌, ◌≤◌, true, List, ◌∷◌, [], length, reverse, is_some, Option, Some, None, option_map, Less, Equal, Greater, string_bytes, string_cmp, nat_cmp, refl, ap, sym, ◌∙◌, subst, arith}
use Rattle.std.specs.Prelude.{◌↔◌, ⊤, Result, Ok, IsSomeAnd}
use Rattle.std.specs.Fmt.{decimal}
use Rattle.std.specs.Cmp.Lexicographic.{slice_cmp}
use Rattle.std.specs.List.{AllByRecursion}
use Rattle.std.specs.List.Sorted.{IsStrictlySortedBy}
use Rattle.std.specs.Map.{keys_of}
use Rattle.std.specs.Option.{option_or}
use Rattle.std.specs.Ordering.{match_ordering}
use Rattle.std.proofs.lemmas.Bool.{cases_lt, eq-eqb}
use Rattle.std.proofs.lemmas.Bool.Decides.{nat_tests}
use Rattle.std.proofs.lemmas.Cmp.{nat_list_cmp_total, tied_itself}
use Rattle.std.proofs.lemmas.Fmt.{decimal_injective}
use Rattle.std.proofs.lemmas.List.{reverse-append}
use Rattle.serde_json.specs.Data.{Data, Members, no_members, member, put}
use Rattle.serde_json.specs.Events.{members_len}
use Rattle.serde_json.specs.Find.{get_member}
use Rattle.serde_json.specs.View.{view, members_view}
use Rattle.serde_json.specs.declared.value.Value.{Value}
use Rattle.serde_json.proofs.Views.{get_member-put, get_member-put_other, member_here, member_later}
use Rattle.intmap_table.specs.Bindings.{value_of, HasDistinctKeys}
use Rattle.intmap.specs.Extending.{new_keys}
use Rattle.intmap.specs.Json.{json_cause, IsKeyText, HasKeyTexts, tree_of, ShowsBindings, BindSameTrees, ArePairsOf, AreCollected, MembersLeaveRange, MayRefuseToRead}
use Rattle.intmap.specs.Map.{MapState}
use Rattle.intmap.specs.declared.refusal.Cause.{Cause}
use Rattle.intmap.specs.declared.refusal.Cause.TheVariants.{Memory, TooLarge}
use Rattle.intmap_table.proofs.BindSameLemmas.{value_of-same_number}
use Rattle.intmap.proofs.CostLemmas.{HasDistinctKeys-tail}
use Rattle.intmap.proofs.EqualityLemmas.{value_of-rest}
use Rattle.intmap.proofs.ExtendLemmas.{refusal_of, cause-with_slots, option_or-none, value_of-append}
use Rattle.intmap.proofs.JsonLemmas.{Entry}

abbrev pub Pairs : Type 0
Pairs = List (ℕ × Value)

-- the value of a number
abbrev value_at : Pairs → ℕ → Option Value
value_at L k = value_of (λ key. key) L k

-- no number of a pair is present behind it
abbrev pub AreApart : Pairs → Type 0
AreApart [] = ⊤
AreApart (p ∷ ps) = (value_at ps p.0 ≡ None) × AreApart ps

-- pairs of distinct keys are apart
pub AreApart-distinct : (L : Pairs) → HasDistinctKeys (λ key. key) L → AreApart L
AreApart-distinct [] distinct = tt
AreApart-distinct (p ∷ L) distinct =
    (value_of-rest (λ key. key) p L distinct p.0 (eq-eqb p.0 p.0 refl), AreApart-distinct L (HasDistinctKeys-tail (λ key. key) p L distinct))

-- a member more, at the text of a number
pub HasKeyTexts-put : (ms : Members) (k : ℕ) (d : Data) → k < 2 ^ 64 → HasKeyTexts ms → HasKeyTexts (put (decimal k) d ms)
HasKeyTexts-put no_members k d small texts = ((k, (refl, small)), tt)
HasKeyTexts-put (member text e ms) k d small texts =
    elim (slice_cmp nat_cmp (decimal k) text) as
    (λ o. HasKeyTexts (match_ordering o (member (decimal k) d (member text e ms)) (member text d ms) (member text e (put (decimal k) d ms)))) [
      | Less ↦ ((k, (refl, small)), texts)
      | Equal ↦ texts
      | Greater ↦ (texts.0, HasKeyTexts-put ms k d small texts.1)
    ]

-- at each number, the tree is that of the pairs that are left, or else of the member that is there
abbrev pub AreShownWith : Pairs → Members → Pairs → Type 0
AreShownWith rest ms L = (q : ℕ) → q < 2 ^ 64 → option_or (tree_of rest q) (get_member (decimal q) ms) ≡ tree_of L q

-- before any member
pub AreShownWith-all : (L : Pairs) → AreShownWith L no_members L
AreShownWith-all L q small = option_or-none (tree_of L q)

-- one pair less that is left, one member more that is there
pub AreShownWith-put : (rest L : Pairs) (ms : Members) (k : ℕ) (v : Value) → k < 2 ^ 64 → value_at rest k ≡ None
    → AreShownWith ((k, v) ∷ rest) ms L → AreShownWith rest (put (decimal k) (view v) ms) L
AreShownWith-put rest L ms k v small apart shown q below =
    let before = shown q below in let here = get_member-put (decimal k) (view v) ms in
    let other = λ (away : k ≢ q). get_member-put_other (decimal q) (decimal k) (view v) ms (λ text. away (decimal_injective k q small below (sym text))) in
    grind (arith, nat_tests, before, here, other, apart)

-- there are as many pairs as members
pub length-ArePairsOf : (ms : Members) (ps : Pairs) → ArePairsOf ms ps → length ps ≡ members_len ms
length-ArePairsOf no_members [] are = refl
length-ArePairsOf (member text d ms) (p ∷ ps) are = ap suc (length-ArePairsOf ms ps are.2)
length-ArePairsOf ms ps are = absurd are

-- the member at the text of a number is the tree of its value in the pairs
pub get_member-ArePairsOf : (es : List Entry) (ps : Pairs) (q : ℕ) → q < 2 ^ 64 → ArePairsOf (members_view es) ps → get_member (decimal q) (members_view es) ≡ tree_of ps q
get_member-ArePairsOf [] [] q small are = refl
get_member-ArePairsOf (e ∷ es) (p ∷ ps) q small are =
    let rest = get_member-ArePairsOf es ps q small are.2 in let text = are.0.0 in let value = are.1 in
    let here = member_here (decimal q) e es in
    let other = λ (away : p.0 ≢ q). member_later (decimal q) e es (λ same. away (decimal_injective p.0 q are.0.1 small (sym (same ∙ text)))) in
    grind (arith, nat_tests, rest, text, value, here, other)
get_member-ArePairsOf es ps q small are = absurd are

-- what comes behind a text that is below all others isn't at its number
value_at-below : (text : List ℕ) (es : List Entry) (ps : Pairs) (k : ℕ) → IsKeyText text k → AllByRecursion (λ y. slice_cmp nat_cmp text (string_bytes y) ≡ Less) (keys_of es)
    → ArePairsOf (members_view es) ps → value_at ps k ≡ None
value_at-below text [] [] k is below are = refl
value_at-below text (e ∷ es) (p ∷ ps) k is below are =
    let rest = value_at-below text es ps k is below.1 are.2 in let here = are.0.0 in let own = is.0 in let less = below.0 in
    let tied = tied_itself nat_list_cmp_total text in
    grind (arith, nat_tests, rest, here, own, less, tied)
value_at-below text es ps k is below are = absurd are

-- the pairs of the members of a `Map` are apart
pub AreApart-sorted : (es : List Entry) (ps : Pairs) → IsStrictlySortedBy string_cmp (keys_of es) → ArePairsOf (members_view es) ps → AreApart ps
unfolding IsStrictlySortedBy
AreApart-sorted [] [] sorted are = tt
AreApart-sorted (e ∷ es) (p ∷ ps) sorted are = (value_at-below (string_bytes e.0) es ps p.0 are.0 sorted.0 are.2, AreApart-sorted es ps sorted.1 are.2)
AreApart-sorted es ps sorted are = absurd are

-- a pair whose key is absent in others may be behind them
value_at-behind : (p : ℕ × Value) (ps : Pairs) (q : ℕ) → value_at ps p.0 ≡ None → option_or (value_at ps q) (value_at (p ∷ []) q) ≡ value_at (p ∷ ps) q
value_at-behind p ps q none = let at = value_of-same_number (λ key. key) ps q p.0 in grind (arith, nat_tests, none, at)

-- so separate pairs bind the same from the back
pub value_at-reverse : (ps : Pairs) (q : ℕ) → AreApart ps → value_at (reverse ps) q ≡ value_at ps q
value_at-reverse [] q apart = refl
value_at-reverse (p ∷ ps) q apart =
    ap (λ L. value_at L q) (reverse-append (p ∷ []) ps) ∙ value_of-append (λ key. key) (reverse ps) (p ∷ []) q
    ∙ ap (λ o. option_or o (value_at (p ∷ []) q)) (value_at-reverse ps q apart.1) ∙ value_at-behind p ps q apart.0

-- all of them are new if none is present
length-new_keys : (L ps : Pairs) → AreApart ps → ((q : ℕ) → is_some (value_at ps q) ≡ true → value_at L q ≡ None) → length (new_keys (λ key. key) L ps) ≡ length ps
length-new_keys L [] apart unbound = refl
length-new_keys L (p ∷ ps) apart unbound =
    let none = apart.0 in
    let rest = length-new_keys (p ∷ L) ps apart.1 (λ q bound. let absent = unbound q in grind (arith, nat_tests, absent, bound, none)) in
    let new = unbound p.0 in
    grind (arith, nat_tests, rest, new)

module _ (es : List Entry) (ps : Pairs) (made : MapState ℕ Value) (n : ℕ) (are : ArePairsOf (members_view es) ps) (apart : AreApart ps) (collected : AreCollected n ps made) where
  -- a map of separate pairs has as many pairs
  pub length-collected : length made.walk ≡ members_len (members_view es)
  length-collected =
      let grown = collected.extended.len in
      let new : length (new_keys (λ key. key) [] ps) ≡ length ps = length-new_keys [] ps apart (λ q bound. refl) in
      let all = length-ArePairsOf (members_view es) ps are in omega (arith, grown, new, all)

  -- and has each number with the tree of its member
  pub ShowsBindings-collected : HasKeyTexts (members_view es) → ShowsBindings (members_view es) made.walk
  ShowsBindings-collected texts = record {
    texts = texts;
    trees = λ k small.
        get_member-ArePairsOf es ps k small are
        ∙ sym (ap (option_map view) (collected.extended.updates k ∙ option_or-none (value_at (reverse ps) k) ∙ value_at-reverse ps k apart));
  }

-- what one tree shows has the same values
pub BindSameTrees-Shows : (o : Option Members) (L M : Pairs) → IsSomeAnd o (λ ms. ShowsBindings ms L) → IsSomeAnd o (λ ms. ShowsBindings ms M) → BindSameTrees L M
BindSameTrees-Shows None L M left right = absurd left
BindSameTrees-Shows (Some ms) L M left right = λ k small. sym (left.trees k small) ∙ right.trees k small

-- members whose keys are texts of numbers have pairs
pub pairs_of : (es : List Entry) → HasKeyTexts (members_view es) → (ps : Pairs) × ArePairsOf (members_view es) ps
pairs_of [] texts = ([], tt)
pairs_of (e ∷ es) texts =
    let rest = pairs_of es texts.1 in ((texts.0.0, e.1) ∷ rest.0, (texts.0.1, refl, rest.1))

-- a map of so many slots that could not be made
pub MayRefuseToRead-slots : {T : Type 0} (ms : Members) (cause : Cause) (b : ℕ) → b ≡ members_len ms → (refusal_of T cause ≡ refusal_of T TooLarge) ↔ (2 ^ 63 < b)
    → MayRefuseToRead ms (json_cause cause)
MayRefuseToRead-slots {T} ms cause b count large = elim (cause-with_slots {T = T} cause b large) [
  | inl more ↦ inl (ap json_cause more.0, inl (subst (λ n. 2 ^ 63 < n) count more.1))
  | inr within ↦ inr (ap json_cause within.0, subst (λ n. n ≤ 2 ^ 63) count within.1)
]

-- an insertion that failed
pub MayRefuseToRead-insertion : (ms : Members) (cause : Cause) → ((cause ≡ TooLarge) → MembersLeaveRange ms) → members_len ms ≤ 2 ^ 63 → MayRefuseToRead ms (json_cause cause)
MayRefuseToRead-insertion ms Memory leaves within = inr (refl, within)
MayRefuseToRead-insertion ms TooLarge leaves within = inl (refl, inr (leaves refl))

-- a made T, in place of a failure
abbrev pub made_of : {T : Type 0} → T → Result T Cause
made_of made = Ok made

-- a map of so many slots that was made
pub slots-within : {T : Type 0} (made : T) (b : ℕ) → (made_of made ≡ refusal_of T TooLarge) ↔ (2 ^ 63 < b) → b ≤ 2 ^ 63
slots-within made b large = elim (cases_lt (2 ^ 63) b) [
  | inl more ↦ (let no = large.1 more in cc)
  | inr within ↦ within
]
