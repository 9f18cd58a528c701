use Rattle.std.specs.Prelude.{◌<◌, ◌^◌, All}
use Rattle.serde_json.specs.View.{members_view}
use Rattle.intmap.specs.Json.{HasKeyTexts}
use Rattle.intmap.proofs.MembersLemmas.{AreApart, AreShownWith}
use Rattle.intmap.proofs.map.json.IntMap+u64+Value.members.Given as goal

-- the pairs that are left, and the members that are there, show the walk together
abbrev pub invariant-loop-key : goal.invariant-loop-key
invariant-loop-key l = record {
  can : (goal.iterator-loop-key).can_next l.key-iterator;
  ends : (goal.iterator-loop-key).is_finite l.key-iterator;
  keys : All (λ p. p.0 < 2 ^ 64) l.key-iterator;
  apart : AreApart l.key-iterator;
  texts : HasKeyTexts (members_view l.members.entries);
  shown : AreShownWith l.key-iterator (members_view l.members.entries) l.fn.self.walk;
}
