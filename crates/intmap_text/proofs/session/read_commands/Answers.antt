use Rattle.std.proofs.Common.{append_assoc, arith, refl}
use Rattle.std.proofs.lemmas.List.{map-append}
use Rattle.intmap_text.proofs.LineLemmas.{command_more, blank_more, one_more, few_lines, first_unknown}
use Rattle.intmap_text.proofs.session.read_commands.Goals as goal

pub overflow_add-number : goal.overflow_add-number
overflow_add-number g c =
    let loop = c.loop-line in
    let few = few_lines c.args.text.now loop.yielded loop.line-iterator loop.invariant.left in
    omega (arith, few, loop.invariant.counted)

pub loop-line-preserved-in-Blank : goal.loop-line-preserved-in-Blank
loop-line-preserved-in-Blank g c =
    let loop = c.loop-line in
    let line = c.in-Some.line in
    let blank = rw c.in-Blank.is at c.in_ok-read_line.ensures.read in
    record {
      said = blank_more loop.yielded line loop.found.items loop.invariant.said blank;
      left =
          rw c.loop-line.invariant.left (rw c.in-Some.ensures.steps (simp (map-append, append_assoc)));
      counted = one_more loop.yielded line loop.number loop.invariant.counted;
    }

pub loop-line-preserved : goal.loop-line-preserved
loop-line-preserved g c =
    let loop = c.loop-line in
    let line = c.in-Some.line in
    let command = c.in-Command.command in
    let says = rw c.in-Command.is at c.in_ok-read_line.ensures.read in
    record {
      said =
          rw c.in_ok-push-in-Command.ensures.items
          (command_more loop.yielded line loop.found.items command loop.invariant.said says);
      left =
          rw c.loop-line.invariant.left (rw c.in-Some.ensures.steps (simp (map-append, append_assoc)));
      counted = one_more loop.yielded line loop.number loop.invariant.counted;
    }

pub returns-in-Unknown-clause-err : goal.returns-in-Unknown-clause-err
returns-in-Unknown-clause-err g c =
    let loop = c.loop-line in
    first_unknown c.args.text.now loop.yielded c.in-Some.line.now c.next.new.self loop.number
    loop.found.items
    (rw c.loop-line.invariant.left (rw c.in-Some.ensures.steps refl))
    loop.invariant.counted loop.invariant.said
    (rw c.in-Unknown.is at c.in_ok-read_line.ensures.read)
