use Rattle.std.specs.Prelude.{◌++◌, length}
use Rattle.intmap_table.proofs.SlotNumberLemmas.{capacity-positive}
use Rattle.intmap.proofs.LoadFactorLemmas.{IsLoaded-from}
use Rattle.intmap.proofs.RoomLemmas.{All-alone}
use Rattle.intmap.proofs.laws.keys_in_a_row_have_room.Goals as goal

pub returns : goal.returns
returns g c m ps valid once row fits meets =
    record {
      alone = All-alone g.K.IntKey.number_of m.walk m.capacity row.first ps once row.all;
      count = fits;
      load = IsLoaded-from m.capacity (length (m.walk ++ ps)) m.factor (capacity-positive m.capacity valid.capacity) meets;
    }
