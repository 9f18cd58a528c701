use Rattle.intmap.proofs.SumLemmas.{sum_by-write_value}
use Rattle.intmap.proofs.laws.writing_changes_sum.Goals as goal

pub returns : goal.returns
returns g c = λ L k a v once bound. sum_by-write_value g.K.IntKey.number_of (λ n. n) L k a v once bound
