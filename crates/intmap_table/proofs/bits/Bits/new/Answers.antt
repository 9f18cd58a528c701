use Rattle.std.proofs.Common.{◌≡◌, ◌+◌, ◌*◌, ◌/◌, ◌∙◌, ap, arith, replicate, false}
use Rattle.intmap_table.specs.Tables.Bits.{marks_of}
use Rattle.intmap_table.proofs.Tables.BitsLemmas.{marks_of-zeros}
use Rattle.intmap_table.proofs.bits.Bits.new.Goals as goal

pub returns : goal.returns
returns g c =
    let items = c.in_ok-words.ensures.items_if_clones_equal (λ y same. same) in
    let up : c.div_ceil.result ≡ (c.args.indices + 63) / 64 = omega (arith, c.div_ceil.ensures) in
    ap marks_of items ∙ marks_of-zeros c.div_ceil.result ∙ ap (λ n. replicate (64 * n) false) up
