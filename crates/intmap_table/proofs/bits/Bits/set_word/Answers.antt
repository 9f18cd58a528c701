use Rattle.std.proofs.Common.{◌∙◌, ap, arith, false, get_or, length}
use Rattle.intmap_table.proofs.Tables.BitsLemmas.{below-marks_of, length-marks_of_set, IsWordOf-marks_of_set, marked-marks_of_set}
use Rattle.intmap_table.proofs.bits.Bits.set_word.Goals as goal

pub index_mut-requires : goal.index_mut-requires
index_mut-requires g c = omega (arith, below-marks_of _ _ c.args.index c.self.view_is c.requires, c.self.inside.words.ok.0)

pub returns-clause-word : goal.returns-clause-word
returns-clause-word g c = IsWordOf-marks_of_set _ c.args.index c.args.word (below-marks_of _ _ c.args.index c.self.view_is c.requires)

pub returns-clause-others : goal.returns-clause-others
returns-clause-others g c = λ j apart.
    marked-marks_of_set _ c.args.index c.args.word (below-marks_of _ _ c.args.index c.self.view_is c.requires) j apart ∙ ap (λ marks. get_or marks j false) c.self.view_is

pub returns-clause-len : goal.returns-clause-len
returns-clause-len g c = length-marks_of_set _ c.args.index c.args.word (below-marks_of _ _ c.args.index c.self.view_is c.requires) ∙ ap length c.self.view_is
