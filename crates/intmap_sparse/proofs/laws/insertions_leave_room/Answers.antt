use Rattle.std.proofs.Common.{refl}
use Rattle.std.specs.Prelude.{pos}
use Rattle.intmap.proofs.ReservedLemmas.{HasRoom-fewer}
use Rattle.intmap_sparse.specs.Vectors.{as_map}
use Rattle.intmap_sparse.proofs.RoomLemmas.{HasRoom-assigned, HasRoom-removed_from}
use Rattle.intmap_sparse.proofs.laws.insertions_leave_room.Goals as goal

pub returns-clause-assigned : goal.returns-clause-assigned
returns-clause-assigned c v w place z n valid room did = HasRoom-assigned v w place z valid did n room

pub returns-clause-fewer : goal.returns-clause-fewer
returns-clause-fewer c v n fewer valid room less = HasRoom-fewer (λ key. key) (as_map v) n fewer valid.map.capacity room less

pub returns-clause-removed : goal.returns-clause-removed
returns-clause-removed c v w place n valid room did = HasRoom-removed_from v w place (pos 0) valid did refl n room
