use Rattle.intmap.proofs.ReservedLemmas.{HasRoom-inserted, HasRoom-fewer, HasRoom-removed}
use Rattle.intmap.specs.Map.{after_search}
use Rattle.intmap.proofs.laws.insertions_leave_room.Goals as goal

pub returns-clause-inserted : goal.returns-clause-inserted
returns-clause-inserted g c m l k v n valid room did state = HasRoom-inserted g.K.IntKey.number_of g.K.IntKey.is_valid m l k v n valid room did state

pub returns-clause-fewer : goal.returns-clause-fewer
returns-clause-fewer g c m n fewer valid room less = HasRoom-fewer g.K.IntKey.number_of m n fewer valid.capacity room less

pub returns-clause-removed : goal.returns-clause-removed
returns-clause-removed g c m k n valid room = HasRoom-removed g.K.IntKey.number_of g.K.IntKey.is_valid (after_search g.K.IntKey.number_of m k) k n valid room
