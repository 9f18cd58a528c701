-- What a stored value, a node, a pool of nodes, slots and a table end as, once a value of theirs, or each, was lent and written.
use denote.Struct.Tuple.{Tuple}
use Rattle.std.specs.Prelude.{ℕ, [], ◌∷◌, Option}
use Rattle.std.specs.List.{position_or_len}
use Rattle.std.specs.Borrow.{Lends, LendsIf, Fml, RattleType, MutBor}
use Rattle.std.specs.declared.alloc.Allocator as allocator
use Rattle.std.specs.declared.cmp.PartialEq as eq
use Rattle.intmap_table.specs.declared.key.IntKey as key
use Rattle.intmap_table.specs.Bindings.{write_value}
use Rattle.intmap_table.specs.Classes.{same_key}
use Rattle.intmap_table.specs.Locations.{write_in}
use Rattle.intmap_table.specs.Tables.Slots.{Grid}
use Rattle.intmap_table.specs.Tables.Rows.{Contents, row_at, write_rows}
use Rattle.intmap_table.specs.Tables.Nodes.{Node, Pool, node_with, write_node}
use Rattle.intmap_table.specs.contracts.kept.Kept.{the_row as kept_row}
use Rattle.intmap_table.specs.contracts.table.stored.Stored.{the_row as stored_row}
use Rattle.intmap_table.specs.contracts.linked.node.Node.{the_row as node_row}
use Rattle.intmap_table.specs.contracts.linked.pool.Pool.{the_row as pool_row}
use Rattle.intmap_table.specs.contracts.table.slots.Slots.{the_row as slots_row}
use Rattle.intmap_table.specs.contracts.table.Table.{the_row as table_row}

-- once the loan named r ends, the stored value is the last one written through it
abbrev pub kept_lends : (V : RattleType) → MutBor V.Denot → MutBor V.Denot → Fml
kept_lends V k r = Lends (kept_row V) V k r (λ v. v)

-- a stored pair, as the logic names its type
abbrev pub pair_row : (K X : RattleType) → key.Ghosts K.Denot → eq.Ghosts K.Denot → RattleType
pair_row K X g e = Tuple (stored_row K g e ∷ X ∷ [])

-- once the loan named r ends, the node behind n has that value in its pair
abbrev pub node_lends : (K X : RattleType) → key.Ghosts K.Denot → eq.Ghosts K.Denot → MutBor (Node (K.Denot × X.Denot)) → MutBor X.Denot → Fml
node_lends K X g e n r = Lends (node_row (pair_row K X g e)) X n r (λ v. node_with n.now v)

-- once the loan named r ends, the pool behind p has that value in the pair of node i
abbrev pub pool_lends : (K X A : RattleType) → key.Ghosts K.Denot → eq.Ghosts K.Denot → allocator.Ghosts A.Denot
    → MutBor (Pool (K.Denot × X.Denot)) → ℕ → MutBor X.Denot → Fml
pool_lends K X A g e a p i r = Lends (pool_row (pair_row K X g e) A a) X p r (λ v. record p.now { nodes = write_node p.now.nodes i v })

-- once the loan named r ends, the slots behind s have that value at place j of slot i
abbrev pub slots_lends : (K X A : RattleType) → key.Ghosts K.Denot → eq.Ghosts K.Denot → allocator.Ghosts A.Denot
    → MutBor (Contents K.Denot X.Denot) → ℕ → ℕ → MutBor X.Denot → Fml
slots_lends K X A g e a s i j r = Lends (slots_row K X A g e a) X s r (λ v. record s.now { rows = write_rows s.now.rows i j v })

-- the same once the key k was sought in slot i; if it is absent there, the slots are as they were
abbrev pub slots_lends_present : (K V A : RattleType) → (g : key.Ghosts K.Denot) → eq.Ghosts K.Denot → allocator.Ghosts A.Denot
    → MutBor (Contents K.Denot V.Denot) → ℕ → K.Denot → Option (MutBor V.Denot) → Fml
slots_lends_present K V A g e a s i k r =
    LendsIf (slots_row K (kept_row V) A g e a) V s r (λ v. record s.now { rows = write_rows s.now.rows i (position_or_len (λ p. same_key g.number_of k p.0) (row_at s.now i)) v }) s.now

-- once the loan named r ends, the table behind t has that value as that of the key at place j of slot i
abbrev pub table_lends_in : (K X A : RattleType) → (g : key.Ghosts K.Denot) → eq.Ghosts K.Denot → allocator.Ghosts A.Denot
    → MutBor (Grid K.Denot X.Denot) → ℕ → ℕ → MutBor X.Denot → Fml
table_lends_in K X A g e a t i j r = Lends (table_row K X A g e a) X t r (λ v. record t.now { walk = write_in g.number_of t.now.walk t.now.capacity i j v })

-- the same of the key k, once it was sought; if it is absent, the table is as it was
abbrev pub table_lends_present : (K V A : RattleType) → (g : key.Ghosts K.Denot) → eq.Ghosts K.Denot → allocator.Ghosts A.Denot
    → MutBor (Grid K.Denot V.Denot) → K.Denot → Option (MutBor V.Denot) → Fml
table_lends_present K V A g e a t k r = LendsIf (table_row K (kept_row V) A g e a) V t r (λ v. record t.now { walk = write_value g.number_of t.now.walk k v }) t.now
