use Rattle.std.proofs.Common.{rules, ◌∙◌, ◌++◌, option_to_list, ◌≡◌, ◌∷◌, [], List, reverse, length, refl, arith, ap}
use Rattle.std.proofs.lemmas.List.{reverse-append, reverse-reverse}
use Rattle.intmap_run.proofs.PlacementLemmas.{RunPlacesFew-run, RunLeavesFewSlots-run}
use Rattle.intmap_run.proofs.RoomLemmas.{KeptSoFar-start, KeptSoFar-step, KeptSoFar-end}
use Rattle.intmap_run.proofs.RunLemmas.{Leads-start, Leads-step, Leads-end}
use Rattle.intmap_run.proofs.runner.run.Goals as goal

pub loop-command-init : goal.loop-command-init
loop-command-init g c = record {
  leads =
      Leads-start g.K.IntKey.number_of (g.J.Judge.sees c.args.judge.now) (g.J.Judge.keeps c.args.judge.now)
      c.args.map.now _ _ _ (ap reverse c.reverse.ensures.items ∙ reverse-reverse c.args.commands.items) c.in-Ok.ensures.items;
  kept =
      KeptSoFar-start g.K.IntKey.number_of c.args.map.now _ _ _ (ap reverse c.reverse.ensures.items ∙ reverse-reverse c.args.commands.items) c.in-Ok.ensures.items;
  map = c.len-len.ensures.valid;
  room = omega (arith, c.in-Ok.ensures.len, c.in-Ok.ensures.exact, c.len.ensures, c.reverse.ensures.len);
}

-- the last item of a list is the first of the reversed list
taken-last : {X : Type 0} → (old new left : List X) (x : X) → old ≡ new ++ x ∷ [] → left ≡ new → reverse old ≡ x ∷ reverse left
taken-last old new left x whole same = rw (whole, same) (reverse-append new (x ∷ []))

pub loop-command-preserved-then-len-saturating_sub : goal.loop-command-preserved-then-len-saturating_sub
loop-command-preserved-then-len-saturating_sub g c = record {
  leads =
      Leads-step g.K.IntKey.number_of (g.J.Judge.sees c.args.judge.now) (g.J.Judge.keeps c.args.judge.now)
      c.args.map.now c.loop-command.map c.apply-answer.new.map _ _ _ _ _ c.in-Some.command c.apply-answer.result
      (taken-last _ _ _ _ (rw c.in-Some.is at c.pop.ensures.items) c.shrink_to_fit.ensures.items) c.in-Ok-push.ensures.items c.apply-answer.ensures.step c.loop-command.invariant.leads;
  kept =
      KeptSoFar-step g.K.IntKey.number_of c.args.map.now c.loop-command.map c.apply-answer.new.map _ _ _ _ _ c.in-Some.command c.apply-answer.result
      (taken-last _ _ _ _ (rw c.in-Some.is at c.pop.ensures.items) c.shrink_to_fit.ensures.items) c.in-Ok-push.ensures.items c.apply-answer.ensures.room c.loop-command.invariant.kept;
  map = c.apply-answer.ensures.valid_after;
  room = omega (arith, c.in-Ok-push.ensures.len, c.in-Ok-push.ensures.capacity, c.loop-command.invariant.room, c.pop.ensures.len, c.shrink_to_fit.ensures.len, ap (λ o. length (option_to_list o)) c.in-Some.is);
}

pub loop-command-preserved : goal.loop-command-preserved
loop-command-preserved g c = record {
  leads =
      Leads-step g.K.IntKey.number_of (g.J.Judge.sees c.args.judge.now) (g.J.Judge.keeps c.args.judge.now)
      c.args.map.now c.loop-command.map c.apply-answer.new.map _ _ _ _ _ c.in-Some.command c.apply-answer.result
      (taken-last _ _ _ _ (rw c.in-Some.is at c.pop.ensures.items) refl) c.in-Ok-push.ensures.items c.apply-answer.ensures.step c.loop-command.invariant.leads;
  kept =
      KeptSoFar-step g.K.IntKey.number_of c.args.map.now c.loop-command.map c.apply-answer.new.map _ _ _ _ _ c.in-Some.command c.apply-answer.result
      (taken-last _ _ _ _ (rw c.in-Some.is at c.pop.ensures.items) refl) c.in-Ok-push.ensures.items c.apply-answer.ensures.room c.loop-command.invariant.kept;
  map = c.apply-answer.ensures.valid_after;
  room = omega (arith, c.in-Ok-push.ensures.len, c.in-Ok-push.ensures.capacity, c.loop-command.invariant.room, c.pop.ensures.len, ap (λ o. length (option_to_list o)) c.in-Some.is);
}

pub returns-clause-ok : goal.returns-clause-ok
returns-clause-ok g c =
    Leads-end g.K.IntKey.number_of (g.J.Judge.sees c.args.judge.now) (g.J.Judge.keeps c.args.judge.now)
    c.args.map.now c.loop-command.map _ _ _ (ap reverse {x = c.loop-command.left.items} {y = []} (search (rules, c.pop.ensures.cases, c.in_default-pop.is))) c.loop-command.invariant.leads

pub returns-clause-few_placements : goal.returns-clause-few_placements
returns-clause-few_placements g c = λ s t run before after.
    RunPlacesFew-run g.K.IntKey.number_of (g.J.Judge.sees c.args.judge.now) (g.J.Judge.keeps c.args.judge.now) s _ _ t run

pub returns-clause-last_capacity : goal.returns-clause-last_capacity
returns-clause-last_capacity g c = λ s t run before after.
    RunLeavesFewSlots-run g.K.IntKey.number_of (g.J.Judge.sees c.args.judge.now) (g.J.Judge.keeps c.args.judge.now) s _ _ t run

pub returns-clause-keeps_room : goal.returns-clause-keeps_room
returns-clause-keeps_room g c =
    KeptSoFar-end g.K.IntKey.number_of c.args.map.now c.loop-command.map _ _ _ (ap reverse {x = c.loop-command.left.items} {y = []} (search (rules, c.pop.ensures.cases, c.in_default-pop.is))) c.loop-command.invariant.kept
