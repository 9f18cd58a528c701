use Rattle.intmap.proofs.ReservedLemmas.{HasRoom-fewer}
use Rattle.intmap_set.specs.Sets.{as_map}
use Rattle.intmap_set.proofs.RoomLemmas.{HasRoom-inserts, HasRoom-removes}
use Rattle.intmap_set.proofs.laws.insertions_leave_room.Goals as goal

pub returns-clause-inserted : goal.returns-clause-inserted
returns-clause-inserted g c = HasRoom-inserts g.K.IntKey.number_of g.K.IntKey.is_valid

pub returns-clause-fewer : goal.returns-clause-fewer
returns-clause-fewer g c s n fewer valid room less = HasRoom-fewer g.K.IntKey.number_of (as_map s) n fewer valid.capacity room less

pub returns-clause-removed : goal.returns-clause-removed
returns-clause-removed g c = HasRoom-removes g.K.IntKey.number_of g.K.IntKey.is_valid
