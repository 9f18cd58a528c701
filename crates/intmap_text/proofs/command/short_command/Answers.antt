use Rattle.intmap_text.proofs.CommandLemmas.{says_none}
use Rattle.intmap_text.proofs.command.short_command.Goals as goal

pub returns-in-Empty-clause-none : goal.returns-in-Empty-clause-none
returns-in-Empty-clause-none g c =
    let written = rw c.in-Empty.is at c.in_ok-read_numbers.ensures.some in
    says_none c.args.name.now c.args.words _ written c.bare.result c.bare.ensures.none

pub returns-in-One-clause-none : goal.returns-in-One-clause-none
returns-in-One-clause-none g c =
    let written = rw c.in-One.is at c.in_ok-read_numbers.ensures.some in
    says_none c.args.name.now c.args.words _ written c.with_number.result c.with_number.ensures.none

pub returns-in-Two-clause-none : goal.returns-in-Two-clause-none
returns-in-Two-clause-none g c =
    let written = rw c.in-Two.is at c.in_ok-read_numbers.ensures.some in
    says_none c.args.name.now c.args.words _ written c.with_pair.result c.with_pair.ensures.none
