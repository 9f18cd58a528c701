use Rattle.std.proofs.Common.{◌∙◌, sym, subst}
use Rattle.intmap_table.specs.Classes.{IsCapacity}
use Rattle.intmap_table.specs.Tables.Nodes.{rows_in}
use Rattle.intmap_table.specs.Tables.Rows.{AreRows}
use Rattle.intmap_table.proofs.Nodes.HomeLemmas.{Rows-table}
use Rattle.intmap_table.proofs.Tables.WordRowsLemmas.{AreMarked-word, IsFilledWord-marked}
use Rattle.intmap_table.proofs.table.slots.closures.Slots+K+Kept+V+A.retain_word.Goals as goal
use Rattle.intmap_table.proofs.table.slots.closures.Slots+K+Kept+V+A.retain_word.Goals.{After-set_word}

pub retain_marked-kept-requires-clause-word : goal.retain_marked-kept-requires-clause-word
retain_marked-kept-requires-clause-word g c =
    IsFilledWord-marked c.args.from c.requires.start (rows_in c.self.inside.slots.items c.self.inside.pool.nodes) c.self.inside.bits c.word-word.result c.self.invariant.marked c.word-word.ensures

-- the slots with what is left of their pairs
are : (g : _) (c : After-set_word g) → AreRows g.K.IntKey.number_of c.retain_marked-kept.new.slots.items c.retain_marked-kept.new.pool c.set_word.new.self c.self.inside.mask
are g c =
    let left = c.retain_marked-kept.ensures in
    record {
      linked = left.linked;
      capacity = subst IsCapacity (sym left.len) c.self.invariant.capacity;
      marked = AreMarked-word c.args.from c.requires.start _ _ c.self.inside.bits c.set_word.new.self c.retain_marked-kept.result c.self.invariant.marked left.rows left.word c.set_word.ensures.word c.set_word.ensures.others c.set_word.ensures.len;
      count = c.self.invariant.count ∙ sym left.len;
    }

pub invariant_of-self : goal.invariant_of-self
invariant_of-self g c = are g (goal.at.invariant_of-self g c).After-set_word

pub returns-clause-table : goal.returns-clause-table
returns-clause-table g c =
    Rows-table g.K.IntKey.number_of c.retain_marked-kept.new.slots.items c.retain_marked-kept.new.pool c.set_word.new.self c.self.inside.mask (are g (goal.at.returns-clause-table g c).After-set_word)
