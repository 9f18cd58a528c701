use Rattle.std.specs.Prelude.{ℕ, List, ◌++◌, ◌<◌, ◌^◌}
use Rattle.serde_json.specs.View.{members_view}
use Rattle.serde_json.specs.declared.value.Value.{Value}
use Rattle.intmap.specs.Extending.{IsExtended}
use Rattle.intmap.specs.Json.{HasKeyTexts, ArePairsOf}
use Rattle.intmap.specs.Map.{IsMap, empty_map}
use Rattle.intmap.proofs.map.json.read.IntMap+u64+Value.of_members.Given as goal

-- pairs were inserted that are those of all members once those of the members that are left follow
abbrev pub invariant-loop-text : goal.invariant-loop-text
invariant-loop-text l = record {
  can : (goal.iterator-loop-text).can_next l.text-iterator;
  ends : (goal.iterator-loop-text).is_finite l.text-iterator;
  texts : HasKeyTexts (members_view l.text-iterator);
  pairs : List (ℕ × Value);
  are : (rest : List (ℕ × Value)) → ArePairsOf (members_view l.text-iterator) rest → ArePairsOf (members_view l.members.entries) (pairs ++ rest);
  extended : IsExtended (λ key. key) (λ key. key < 2 ^ 64) (empty_map l.initial.map.capacity) pairs l.map;
  map : IsMap (λ key. key) (λ key. key < 2 ^ 64) l.map;
}
