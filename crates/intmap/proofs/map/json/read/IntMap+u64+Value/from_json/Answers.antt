use Rattle.std.proofs.Common.{rules}
use Rattle.intmap.proofs.map.json.read.IntMap+u64+Value.from_json.Goals as goal

pub returns-in_default : goal.returns-in_default
returns-in_default c = rw (← c.as_object.ensures, c.in_default.is) (search rules)

pub returns-then-not-have_key_texts : goal.returns-then-not-have_key_texts
returns-then-not-have_key_texts c = rw (← c.as_object.ensures, c.in-Some.is) (search rules)

pub returns-then-holds_float : goal.returns-then-holds_float
returns-then-holds_float c = rw (← c.as_object.ensures, c.in-Some.is) (search rules)
