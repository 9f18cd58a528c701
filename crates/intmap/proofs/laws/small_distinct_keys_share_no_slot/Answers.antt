use Rattle.std.specs.Prelude.{◌++◌}
use Rattle.intmap.proofs.CostLemmas.{in_row-below}
use Rattle.intmap.proofs.RoomLemmas.{All-alone}
use Rattle.intmap.proofs.laws.small_distinct_keys_share_no_slot.Goals as goal

pub returns : goal.returns
returns g c L C ps once below = All-alone g.K.IntKey.number_of L C 0 ps once (in_row-below g.K.IntKey.number_of (L ++ ps) C below)
