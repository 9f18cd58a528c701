-- The members of a `Map` are made of its entries by a recursion.
use Rattle.std.proofs.Common.{ap, ◌∙◌}
use Rattle.serde_json.specs.View.{members_view}
use Rattle.serde_json.proofs.Views.{members_view-insert_entry}
use Rattle.intmap.proofs.map.json.put_member.Goals as goal

pub returns : goal.returns
returns c = record {
  value = ap members_view c.in_ok-insert.ensures.entries
      ∙ members_view-insert_entry c.args.members.now.entries c.in_ok-text.text c.in_ok-clone.field-0
      ∙ rw (c.in_ok-text.ensures.ok, c.in_ok-clone.ensures.cases);
}
