-- JSON objects, and the lists of numbers and JSON values that they show.
use Rattle.std.specs.Prelude.{◌≡◌, ◌⊎◌, ℕ, ◌^◌, ◌<◌, ◌≤◌, Bool, List, [], ◌∷◌, ◌++◌, Option, option_map, IsSomeAnd, ⊤}
use Rattle.std.specs.Fmt.{decimal}
use Rattle.std.specs.List.{list_any}
use Rattle.serde_json.specs.Data.{Data, Members, no_members, member}
use Rattle.serde_json.specs.Events.{members_len}
use Rattle.serde_json.specs.Find.{get_member, as_object}
use Rattle.serde_json.specs.View.{view}
use Rattle.serde_json.specs.Written.{has_float}
use Rattle.serde_json.specs.declared.value.Value.{Value}
use Rattle.intmap_table.specs.Bindings.{value_of}
use Rattle.intmap.specs.Extending.{IsCollected}
use Rattle.intmap.specs.Map.{MapState, IsOutOfRange}
use Rattle.intmap.specs.declared.map.json.JsonCause.{JsonCause}
use Rattle.intmap.specs.declared.map.json.JsonCause.TheVariants as causes
use Rattle.intmap.specs.declared.refusal.Cause.{Cause}
use Rattle.intmap.specs.declared.refusal.Cause.TheVariants.{Memory, TooLarge}

-- the cause of a failed call, as one of JSON
abbrev pub json_cause : Cause → JsonCause
json_cause Memory = causes.Memory
json_cause TooLarge = causes.TooLarge

-- the text is the decimal text of k, which is below 2^64
abbrev pub IsKeyText : List ℕ → ℕ → Type 0
IsKeyText text k = (text ≡ decimal k) × (k < 2 ^ 64)

-- the key of each member is the text of a number
abbrev pub HasKeyTexts : Members → Type 0
HasKeyTexts no_members = ⊤
HasKeyTexts (member text d ms) = ((k : ℕ) × IsKeyText text k) × HasKeyTexts ms

-- the tree of the value of a number, if the number is present
abbrev pub tree_of : List (ℕ × Value) → ℕ → Option Data
tree_of L k = option_map view (value_of (λ key. key) L k)

-- whether a value holds a float, at any depth
abbrev pub holds_a_float : List (ℕ × Value) → Bool
holds_a_float L = list_any (λ p. has_float (view p.1)) L

-- each member's key is the text of a number, and the member at the text of each number is the tree of its value, or absent if the number is
pub record ShowsBindings (ms : Members) (L : List (ℕ × Value)) : Type 0 where
  pub texts : HasKeyTexts ms
  pub trees : (k : ℕ) → k < 2 ^ 64 → get_member (decimal k) ms ≡ tree_of L k

-- the tree is an object that shows the bindings
abbrev pub Shows : Data → List (ℕ × Value) → Type 0
Shows d L = IsSomeAnd (as_object d) (λ ms. ShowsBindings ms L)

-- the same numbers are present, each with values of the same tree
abbrev pub BindSameTrees : List (ℕ × Value) → List (ℕ × Value) → Type 0
BindSameTrees L M = (k : ℕ) → k < 2 ^ 64 → tree_of L k ≡ tree_of M k

-- the pairs are the members, in their order: each member's key is the text of the number, its tree the tree of the value
abbrev pub ArePairsOf : Members → List (ℕ × Value) → Type 0
ArePairsOf no_members [] = ⊤
ArePairsOf no_members (p ∷ ps) = ⊥
ArePairsOf (member text d ms) [] = ⊥
ArePairsOf (member text d ms) (p ∷ ps) = IsKeyText text p.0 × (view p.1 ≡ d) × ArePairsOf ms ps

-- the pairs were inserted in turn, and none failed, into an empty map of at least n slots
abbrev pub AreCollected : ℕ → List (ℕ × Value) → MapState ℕ Value → Type 0
AreCollected n pairs made = IsCollected (λ key. key) (λ key. key < 2 ^ 64) n pairs made

-- the pairs of the members were inserted in turn into an empty map of at least as many slots as members
pub record AreRead (ms : Members) (made : MapState ℕ Value) : Type 0 where
  pub pairs : List (ℕ × Value)
  pub are : ArePairsOf ms pairs
  pub collected : AreCollected (members_len ms) pairs made

-- the pairs of the members were inserted in turn into an empty map of at least as many slots as members, up to one that is out of range
pub record MembersLeaveRange (ms : Members) : Type 0 where
  pub pairs : List (ℕ × Value)
  pub next : ℕ × Value
  pub rest : List (ℕ × Value)
  pub are : ArePairsOf ms (pairs ++ next ∷ rest)
  pub before : MapState ℕ Value
  pub collected : AreCollected (members_len ms) pairs before
  pub out_of_range : IsOutOfRange (λ key. key) before.walk before.capacity before.factor next.0

-- there are more than 2^63 members, or a pair of one is out of range in its turn
abbrev pub AreTooMany : Members → Type 0
AreTooMany ms = (2 ^ 63 < members_len ms) ⊎ MembersLeaveRange ms

-- reading the members may fail with this cause
abbrev pub MayRefuseToRead : Members → JsonCause → Type 0
MayRefuseToRead ms cause = ((cause ≡ causes.TooLarge) × AreTooMany ms) ⊎ ((cause ≡ causes.Memory) × (members_len ms ≤ 2 ^ 63))
