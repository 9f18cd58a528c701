use Rattle.serde_json.specs.Find.{as_object}
use Rattle.intmap.proofs.MembersLemmas.{BindSameTrees-Shows}
use Rattle.intmap.proofs.laws.shown_bindings_are_the_same.Goals as goal

pub returns : goal.returns
returns c = λ tree L M. BindSameTrees-Shows (as_object tree) L M
