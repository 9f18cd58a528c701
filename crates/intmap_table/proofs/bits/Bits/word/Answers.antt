use Rattle.std.proofs.Common.{◌/◌, ◌≡◌, ◌∙◌, arith, get_or}
use Rattle.std.proofs.lemmas.Grind.{get_or_default_zero}
use Rattle.intmap_table.proofs.Tables.BitsLemmas.{below-marks_of, IsWordOf-marks_of}
use Rattle.intmap_table.proofs.bits.Bits.word.Goals as goal

pub index-requires : goal.index-requires
index-requires g c = omega (arith, below-marks_of _ _ c.args.index c.self.view_is c.requires, c.self.inside.words.ok.0)

pub returns : goal.returns
returns g c =
    let words = c.self.inside.words.items in
    let below = below-marks_of words _ c.args.index c.self.view_is c.requires in
    let word : c.index.result.now ≡ get_or words (c.args.index / 64) 0 =
    c.index.ensures ∙ get_or_default_zero words (c.args.index / 64) c.index.result.now (omega (arith, below)) in
    rw (← c.self.view_is, word) (IsWordOf-marks_of words c.args.index below)
