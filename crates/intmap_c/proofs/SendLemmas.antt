-- A handle may go to another thread, and what is lent may be read in any.
use Rattle.std.specs.Prelude.{Option, None, Some}
use base.Shift.{Keyless}
use denote.Builtin.{RawPtr, u64}
use base.Fraction.{full_share}
use mir.Raw.{raw}
use denote.Exit.{Exit, unchanged, leaves, hidden, under}
use denote.Memory.{lone}
use denote.RawPtr.{Ptr, block_ptr, null_ptr, lies_at}
use denote.Struct.Struct.{exits_of}
use denote.Struct.Owning.{shape, fields, to}
use denote.Param.Send.{IsSend, Quiet, AllSend, part_keyless, owning_send, plain_send, struct_send, sendable}
use Rattle.std.proofs.Crossing.{frees}
use Rattle.std.proofs.alloc.Global.TheSendSync as heap_crosses
use Rattle.std.specs.contracts.alloc.Global as heap
use Rattle.std.specs.contracts.impls.GlobalAllocator.TheImpl as global_allocator
use Rattle.std.specs.contracts.prelude.U64PartialEq.TheImpl as u64_equal
use Rattle.intmap_table.specs.contracts.key.wide.U64IntKey.TheImpl as u64_key
use Rattle.intmap.proofs.map.IntMap.TheSendSync as map_crosses
use Rattle.intmap_c.specs.Handles.{Map, the_heap, owns_map}
use Rattle.intmap_c.specs.contracts.handle.Handle as handle

pointer_send : IsSend RawPtr
pointer_send = search sendable

map_send : IsSend Map
map_send = map_crosses.the_send u64 u64 heap.the_row u64_key.ghosts u64_equal.ghosts global_allocator.ghosts (plain_send _ _ _ _ _) (plain_send _ _ _ _ _) heap_crosses.the_send frees

lies : (p : Ptr) (m : Map.Denot) → Keyless (lies_at Map full_share p m)
lies (block_ptr b o) m = part_keyless Map map_send full_share m b o
lies null_ptr m = tt

quiet : {D X : Type 0} (to : D → X) (e : Exit X) → Quiet e → Quiet (hidden (under to e))
quiet to unchanged q = λ x w. tt
quiet to (leaves L l S s r₀) q = λ d. q (to d)

owns_keyless : (p : Ptr) (v : Option Map.Denot) → Keyless (owns_map p v)
owns_keyless p None = tt
owns_keyless p (Some m) = (lies p m, frees.frees the_heap (raw (lone Map.mir)) p)

pub Handle-send : IsSend handle.the_row
Handle-send =
    let O = handle.the_type in let all : AllSend (fields O) = (pointer_send, tt) in
    owning_send O all (λ d. owns_keyless d.at d.value) (λ k. quiet (to O) (exits_of k (fields O)) ((struct_send (shape O) all).leaving k))
