-- The values of an object are seen as the items of an array are.
use Rattle.std.proofs.Common.{ap, sym, ◌∙◌, rules}
use Rattle.serde_json.specs.View.{view, items_view}
use Rattle.serde_json.specs.Written.{has_float, items_have_float}
use Rattle.serde_json.proofs.Views.{view-Object}
use Rattle.intmap.proofs.JsonLemmas.{items_have_float-values}
use Rattle.intmap.proofs.map.json.+holds_float.Goals as goal

pub loop-member-init : goal.loop-member-init
loop-member-init t c =
    let values = c.into_iter-member-iterator.ensures.into_iter_gives ∙ c.values-member-items.ensures.rest in
    let members = c.in-Object.members.entries in (
      search rules,
      search rules,
      ap (λ vs. items_have_float (items_view vs)) values
          ∙ items_have_float-values members
          ∙ ap has_float (sym (view-Object c.in-Object.members))
          ∙ ap (λ v. has_float (view v)) (sym c.in-Object.is),
    )
