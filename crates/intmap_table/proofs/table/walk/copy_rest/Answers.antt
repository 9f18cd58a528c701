use Rattle.std.proofs.Common.{rules, ◌≡◌, ◌+◌, drop, sym, ap, ◌∙◌, arith}
use Rattle.std.proofs.lemmas.List.{drop-drop}
use Rattle.intmap_table.specs.Tables.Slots.{joined, count_before}
use Rattle.intmap_table.proofs.CopyingLemmas.{Copying-one}
use Rattle.intmap_table.proofs.table.walk.copy_rest.Goals as goal
use Rattle.intmap_table.proofs.table.walk.copy_rest.Goals.{At-loop-count}

-- what is left to be copied is left behind the cursor
left : (g : _) (c : At-loop-count g) → drop c.loop-count.count (drop (count_before c.args.rest.now.rows c.args.rest.now.at.slot c.args.rest.now.at.place) (joined c.args.rest.now.rows))
    ≡ drop (count_before c.args.rest.now.rows c.loop-count.rest.at.slot c.loop-count.rest.at.place) (joined c.args.rest.now.rows)
left g c =
    drop-drop c.loop-count.count (count_before c.args.rest.now.rows c.args.rest.now.at.slot c.args.rest.now.at.place) (joined c.args.rest.now.rows)
    ∙ ap (λ n. drop n (joined c.args.rest.now.rows)) (sym c.loop-count.invariant.passed)

pub offset_bounds-copies-count : goal.offset_bounds-copies-count
offset_bounds-copies-count g c = let room = c.loop-count.auto.copies in search rules

pub loop-count-preserved : goal.loop-count-preserved
loop-count-preserved g c =
    let loop = c.loop-count.invariant in let R = c.args.rest.now.rows in let L = drop (count_before R c.args.rest.now.at.slot c.args.rest.now.at.place) (joined R) in
    let next = rw loop.rows at c.in-Some.ensures.some in
    let here = rw loop.rows at c.in-Some.ensures.here in
    let made = rw (c.key.ensures.value, c.get.ensures) at c.from.ensures in
    record {
      rows = c.next.ensures.rows ∙ loop.rows;
      copies = Copying-one g.P.From.from_gives L c.args.copies.now c.loop-count.copies c.loop-count.count c.in-Some.pair.now _ c.from.result loop.copies
          (left g (goal.at.loop-count-preserved g c).At-loop-count ∙ next.0) c.loop-count-test.true made;
      passed = next.1 ∙ ap (λ n. n + 1) loop.passed ∙ omega arith;
      here = λ _. (here.0, here.1, here.2);
      stays = λ none. absurd (omega (arith, none));
    }
