use Rattle.intmap_table.proofs.BindingLemmas.{All-unbound}
use Rattle.intmap.proofs.laws.present_keys_are_below.Goals as goal

pub returns : goal.returns
returns g c = All-unbound g.K.IntKey.number_of
