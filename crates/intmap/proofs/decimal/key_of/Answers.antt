-- Text and number meet in three lemmas, one for each way out.
use Rattle.std.proofs.Common.{sym, subst}
use Rattle.intmap.proofs.JsonLemmas.{BeginsAsPrinted, BeginsAsPrinted-IsKeyText, IsKeyText-parsed, IsKeyText-not_parsed}
use Rattle.intmap.proofs.decimal.key_of.Goals as goal

pub returns-then-not-begins_as_printed-clause-none : goal.returns-then-not-begins_as_printed-clause-none
returns-then-not-begins_as_printed-clause-none c k is =
    let begins = c.begins_as_printed.ensures.1 (subst BeginsAsPrinted (sym c.as_bytes.ensures.value) (BeginsAsPrinted-IsKeyText c.args.text.now k is)) in cc

pub returns-clause-some : goal.returns-clause-some
returns-clause-some c =
    let begins = subst BeginsAsPrinted c.as_bytes.ensures.value (c.begins_as_printed.ensures.0 cc) in
    rw c.ok.ensures.value (IsKeyText-parsed c.args.text.now c.parse.result begins c.parse.ensures.value.0)

pub returns-clause-none : goal.returns-clause-none
returns-clause-none c =
    rw c.ok.ensures.value (IsKeyText-not_parsed c.args.text.now c.parse.result c.parse.ensures.value.0)
