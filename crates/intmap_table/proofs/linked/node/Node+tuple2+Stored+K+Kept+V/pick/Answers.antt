use Rattle.std.proofs.Common.{refl}
use Rattle.intmap_table.specs.Tables.Nodes.{link_of}
use Rattle.intmap_table.proofs.linked.node.Node+tuple2+Stored+K+Kept+V.pick.Goals as goal

pub returns : goal.returns
returns g c = (
  link_of c.in-Held.field-0 c.in-Held.field-1,
  c.in-Held.pair,
  c.picks_pair.new.pair,
  rw (← c.self.view_is, c.in-Held.is) refl,
  refl,
  c.picks_pair.ensures,
)
