use Rattle.intmap_text.proofs.ServingLemmas.{is_answered}
use Rattle.intmap_text.proofs.session.answer.Goals as goal

pub returns-clause-ok : goal.returns-clause-ok
returns-clause-ok g c =
    let spelled = rw c.as_slice.ensures.value at c.in_ok-commands.ensures.some in
    is_answered c.args.text.items c.in_ok-commands.commands.items c.in-Ok.answers.items _
    c.in_ok-map.map c.run.new.map spelled c.in_ok-map.ensures.state
    c.in-Ok.ensures.ok c.in_ok-print_answers.ensures
