use Rattle.std.proofs.Common.{◌≡◌, drop}
use Rattle.serde_json.specs.View.{view, items_view}
use Rattle.serde_json.specs.Written.{has_float, items_have_float}
use Rattle.intmap.proofs.map.json.+holds_float.Given as goal

abbrev pub decreases-holds_float : goal.decreases-holds_float
decreases-holds_float l = goal.size-holds_float l

-- the items that are left hold a float if and only if all do
abbrev pub invariant-loop-item : goal.invariant-loop-item
invariant-loop-item l = items_have_float (items_view (drop l.item-index l.item-items)) ≡ has_float (view l.fn.value)

-- and so do the members that are left
abbrev pub invariant-loop-member : goal.invariant-loop-member
invariant-loop-member l =
    (goal.iterator-loop-member).can_next l.member-iterator
    × (goal.iterator-loop-member).is_finite l.member-iterator
    × (items_have_float (items_view l.member-iterator) ≡ has_float (view l.fn.value))
