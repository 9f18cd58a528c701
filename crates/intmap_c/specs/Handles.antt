-- What a word of C owns that holds a map or none.
use base.Fml.{Fml, feq}
use mir.Syntax.{Ty}
use denote.RattleType.{RattleType}
use denote.RawPtr.{Ptr, null_ptr}
use denote.Builtin.{u64}
use Rattle.std.specs.Box.Ownership.{box_owns}
use Rattle.std.specs.contracts.alloc.Global as heap
use Rattle.std.specs.declared.alloc.Global.{Global}
use Rattle.std.specs.contracts.impls.GlobalAllocator.TheImpl as global_allocator
use Rattle.std.specs.contracts.prelude.U64PartialEq.TheImpl as u64_equal
use Rattle.std.specs.contracts.option.Option as option
use Rattle.std.specs.declared.option.Option.{Option}
use Rattle.std.specs.declared.option.Option.TheVariants.{None, Some}
use Rattle.intmap_table.specs.contracts.key.wide.U64IntKey.TheImpl as u64_key
use Rattle.intmap.specs.contracts.map.IntMap as map

-- a map from 64-bit keys to 64-bit values, as the logic has it
abbrev pub Map : RattleType
Map = map.the_row u64 u64 heap.the_row u64_key.ghosts u64_equal.ghosts global_allocator.ghosts

-- such a map, or none
abbrev pub MaybeMap : RattleType
MaybeMap = option.the_row Map

-- the allocator that C has, which is one value
abbrev pub the_heap : Global
the_heap = record { memory = record { seal = tt } }

-- the right to free a block
abbrev pub may_free : Ty → Ptr → Fml
may_free = global_allocator.ghosts.dealloc_token the_heap

-- nothing if it is null, and otherwise a map in a block that `free` may be given
abbrev pub owns_map : Ptr → Option Map.Denot → Fml
owns_map p None = feq Ptr p null_ptr
owns_map p (Some m) = box_owns may_free Map p m
