use Rattle.std.proofs.Common.{◌/◌, ◌<◌, ◌≤◌, length, ◌∙◌, arith}
use Rattle.std.proofs.lemmas.Grind.{get_or_default_zero}
use Rattle.intmap_table.proofs.Tables.NextMarkLemmas.{IsWordFrom-start, IsWordFrom-past}
use Rattle.intmap_table.proofs.bits.Bits.marks_from.Goals as goal

pub returns-then-at-len : goal.returns-then-at-len
returns-then-at-len g c =
    let words = c.self.inside.words.items in
    let past : length words ≤ c.args.from / 64 = omega (arith, c.if-at-len.true, c.len.ensures, c.self.inside.words.ok.0) in
    rw (← c.self.view_is) (IsWordFrom-past words c.args.from c.ranges.from.fits past)

pub returns : goal.returns
returns g c =
    let words = c.self.inside.words.items in
    let within : c.args.from / 64 < length words = omega (arith, c.if-at-len.false, c.len.ensures, c.self.inside.words.ok.0) in
    let word = c.index.ensures ∙ get_or_default_zero words (c.args.from / 64) c.index.result.now within in
    rw (← c.self.view_is) (rw word (IsWordFrom-start words c.args.from c.ranges.from.fits within))
