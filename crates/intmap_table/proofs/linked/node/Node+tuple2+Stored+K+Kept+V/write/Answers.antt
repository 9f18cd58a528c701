use Rattle.std.proofs.Common.{refl, ap}
use Rattle.intmap_table.specs.Tables.Nodes.{Held, link_of}
use Rattle.intmap_table.proofs.linked.node.Node+tuple2+Stored+K+Kept+V.write.Goals as goal

pub returns : goal.returns
returns g c =
    let link = link_of c.in-Held.field-0 c.in-Held.field-1 in (
      link,
      c.in-Held.pair,
      c.write_pair.new.pair.1,
      rw (← c.self.view_is, c.in-Held.is) refl,
      ap (λ k. Held link (k, c.write_pair.new.pair.1)) c.write_pair.ensures.key,
      c.write_pair.ensures.value,
    )
