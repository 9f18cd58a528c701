use Rattle.serde_json.specs.View.{members_view}
use Rattle.intmap.specs.Json.{HasKeyTexts}
use Rattle.intmap.proofs.map.json.read.have_key_texts.Given as goal

-- the keys that are left are texts of numbers if and only if all are
abbrev pub invariant-loop-text : goal.invariant-loop-text
invariant-loop-text l = record {
  can : (goal.iterator-loop-text).can_next l.text-iterator;
  ends : (goal.iterator-loop-text).is_finite l.text-iterator;
  whole : HasKeyTexts (members_view l.text-iterator) → HasKeyTexts (members_view l.members.entries);
  rest : HasKeyTexts (members_view l.members.entries) → HasKeyTexts (members_view l.text-iterator);
}
