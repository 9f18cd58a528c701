use Rattle.std.proofs.Common.{◌+◌, ◌^◌, ◌<◌, ◌≤◌, length, ◌∙◌, arith, w64}
use Rattle.std.proofs.lemmas.Grind.{get_or_default_zero}
use Rattle.std.proofs.lemmas.Nat.Bits.{bit_at-trailing_zeros}
use Rattle.intmap_table.proofs.Tables.NextMarkLemmas.{IsWordFrom-next, IsWordFrom-rest, IsNextMark-word, none-left}
use Rattle.intmap_table.proofs.bits.Bits.next_in.Goals as goal

pub returns-then-at-len-clause-none : goal.returns-then-at-len-clause-none
returns-then-at-len-clause-none g c = λ j le.
    let words = c.self.inside.words.items in let at = c.loop-left.left.at in
    let last : length words ≤ at + 1 = omega (arith, c.if-at-len.true, c.len.ensures, c.self.inside.words.ok.0) in
    rw (← c.self.view_is) (none-left words c.args._from at (rw c.loop-left-test.true at c.loop-left.invariant.here) last j le)

pub returns-then-at-len-clause-stays : goal.returns-then-at-len-clause-stays
returns-then-at-len-clause-stays g c = rw (← c.self.view_is) c.loop-left.invariant.here

pub loop-left-preserved : goal.loop-left-preserved
loop-left-preserved g c =
    let words = c.self.inside.words.items in let at = c.loop-left.left.at in
    let under : at + 1 < length words = omega (arith, c.if-at-len.false, c.len.ensures, c.self.inside.words.ok.0) in
    let fits : at + 1 < 2 ^ 58 = omega (arith, under, c.self.invariant) in
    let word = c.index.ensures ∙ get_or_default_zero words (at + 1) c.index.result.now under in
    record {
      here = rw word (IsWordFrom-next words c.args._from at (rw c.loop-left-test.true at c.loop-left.invariant.here) fits under);
      fits = omega arith;
    }

pub overflow_add-index : goal.overflow_add-index
overflow_add-index g c =
    let t = bit_at-trailing_zeros w64 c.loop-left.left.word (omega (arith, c.loop-left-test.false)) c.loop-left.invariant.fits in omega (arith, t.0, c.loop-left.invariant.here.fits)

pub returns-clause-some : goal.returns-clause-some
returns-clause-some g c =
    rw (← c.self.view_is) (IsNextMark-word _ c.args._from c.loop-left.left.at c.loop-left.left.word c.loop-left.invariant.here (omega (arith, c.loop-left-test.false)) c.loop-left.invariant.fits)

pub returns-clause-left : goal.returns-clause-left
returns-clause-left g c =
    rw (← c.self.view_is) (IsWordFrom-rest _ c.args._from c.loop-left.left.at c.loop-left.left.word c.loop-left.invariant.here (omega (arith, c.loop-left-test.false)) c.loop-left.invariant.fits)
