use Rattle.std.proofs.Common.{Some, arith}
use Rattle.intmap.proofs.UpdateSumLemmas.{sum_by-Updates}
use Rattle.intmap.proofs.laws.new_keys_raise_sum.Goals as goal

pub returns : goal.returns
returns g c = λ m n k v is_map absent inserted.
    let number = g.K.IntKey.number_of in
    let change = sum_by-Updates number (λ n. n) m.walk n.walk k (Some v) is_map.distinct inserted.valid.distinct inserted.updates in
    omega (arith, rw absent at change)
