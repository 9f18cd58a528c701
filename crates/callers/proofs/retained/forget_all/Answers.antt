use Rattle.std.proofs.Common.{rules, ◌≡◌, ◌∙◌, ◌++◌, None, append-nil, sym, ap}
use Rattle.std.specs.Prelude.{◌==◌, filter, not}
use Rattle.intmap.proofs.Callers.{Extracts-end, Extracts-filter}
use Rattle.intmap.specs.Extracting.{extracted_map, extract_kept}
use Rattle.intmap.specs.Map.{with_walk}
use Rattle.callers.proofs.retained.forget_all.Goals as goal

pub loop-name-preserved : goal.loop-name-preserved
loop-name-preserved c =
    let steps = c.in-Some.ensures.steps in let held = c.loop-name.invariant in
    let told = Extracts-filter _ (λ f. f.0 ≡ c.args.depth) (λ name. name.1.depth == c.args.depth)
    (λ f p b h q own asked. let same = asked.0 in let shows = asked.1.shows in let leaves = asked.1.leaves in let met = asked.1.called.met in (search rules, search rules, search rules))
    c.loop-name.left c.next.new.self _ held.depth steps in
    record {
      depth = told.2;
      stays = sym told.1 ∙ held.stays;
      map = steps.2 ∙ ap (λ m. with_walk m (extracted_map c.next.new.self).walk) held.map;
      lender = steps.1 ∙ held.lender;
    }

pub returns-clause-walk : goal.returns-clause-walk
returns-clause-walk c =
    let end = Extracts-end _ c.loop-name.left c.next.new.self c.in_default.ensures.steps in
    let told = Extracts-filter _ (λ f. f.0 ≡ c.args.depth) (λ name. name.1.depth == c.args.depth)
    (λ f p b h q own asked. let same = asked.0 in let shows = asked.1.shows in let leaves = asked.1.leaves in let met = asked.1.called.met in (search rules, search rules, search rules))
    c.loop-name.left c.next.new.self None c.loop-name.invariant.depth c.in_default.ensures.steps in
    let all : (extracted_map c.next.new.self).walk ≡ filter (λ name. not (name.1.depth == c.args.depth)) c.args.names.now.walk =
    sym end.1 ∙ sym (append-nil (extract_kept c.next.new.self)) ∙ (λ i. extract_kept c.next.new.self ++ filter (λ name. not (name.1.depth == c.args.depth)) (sym end.0 i)) ∙ sym told.1 ∙ c.loop-name.invariant.stays in
    search (all, rules)
