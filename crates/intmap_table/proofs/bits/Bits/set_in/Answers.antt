use Rattle.std.proofs.Common.{◌%◌, ◌<◌, arith, true, w64}
use Rattle.std.proofs.lemmas.Bool.{eq-eqb}
use Rattle.std.proofs.lemmas.Nat.Bits.{bit_at_set_same, bit_at_set_other}
use Rattle.intmap_table.proofs.Tables.BitsLemmas.{below-marks_of, marks_of-set}
use Rattle.intmap_table.proofs.bits.Bits.set_in.Goals as goal

pub index_mut-requires : goal.index_mut-requires
index_mut-requires g c = omega (arith, below-marks_of _ _ c.args.index c.self.view_is c.requires.within, c.self.inside.words.ok.0)

pub returns : goal.returns
returns g c =
    let bit : c.args.index % 64 < 64 = omega arith in
    marks_of-set c.self.inside.words.items c.args.self.now c.args.index c.args.word _ true c.self.view_is c.requires.within c.requires.word
    (eq-eqb _ 1 (bit_at_set_same w64 c.args.word (c.args.index % 64) bit)) (λ j small apart. bit_at_set_other w64 c.args.word (c.args.index % 64) bit j apart)
