use Rattle.std.proofs.Common.{◌∷◌, arith}
use Rattle.std.proofs.lemmas.Grind.{common_steps}
use Rattle.callers.proofs.insertions.bind.Goals as goal

-- which pairs were moved is a list that no search writes: this pair in front of those moved before
pub returns-in_default-clause-moved : goal.returns-in_default-clause-moved
returns-in_default-clause-moved g c came before rest moves = record {
  moved = (c.args.key, c.args.value) ∷ moves.moved;
  none_lost = λ test. let counted = moves.none_lost test in grind (arith, common_steps, counted);
  bound = λ q. let now = c.in_default.ensures.inserted.updates.0 q in let so_far = moves.bound q in grind (arith, now, so_far);
}
