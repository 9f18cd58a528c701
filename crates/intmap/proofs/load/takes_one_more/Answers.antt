use Rattle.std.proofs.Common.{◌+◌, ◌^◌, ap, arith}
use Rattle.std.specs.Prelude.{not}
use Rattle.std.proofs.lemmas.Bool.{lt-ltb, le-ltb}
use Rattle.intmap.proofs.LoadFactorLemmas.{bit_and-four}
use Rattle.intmap.proofs.load.takes_one_more.Goals as goal

pub returns-then-len-ne18446744073709551615-clause-value : goal.returns-then-len-ne18446744073709551615-clause-value
returns-then-len-ne18446744073709551615-clause-value c =
    let fits = c.ranges.len.fits in let apart = c.if-len-ne18446744073709551615.true in
    rw (le-ltb c.args.len c.args.threshold c.if-len-threshold.false, lt-ltb (c.args.len + 1) (2 ^ 64) (omega (arith, fits, apart))) (ap not (bit_and-four (c.args.len + 1)))
