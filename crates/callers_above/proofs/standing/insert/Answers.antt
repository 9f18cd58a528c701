use Rattle.std.proofs.Common.{arith, ap, length, subst, sym, ◌+◌, ◌<◌, ◌∙◌}
use Rattle.std.specs.Prelude.{unwrap_or}
use Rattle.std.specs.Result.{result_err}
use Rattle.intmap.specs.Bindings.{put_pair, value_of}
use Rattle.intmap.specs.Walk.{walk_of}
use Rattle.intmap.specs.declared.refusal.Cause.TheVariants.{Memory}
use Rattle.intmap_run.proofs.CapacityLemmas.{IsLarger-after}
use Rattle.callers_above.proofs.standing.insert.Goals as goal

-- the map has the walk of its old walk with the pair, and so of the list with it, in no fewer slots
pub returns-in-Ok-clause-list : goal.returns-in-Ok-clause-list
returns-in-Ok-clause-list g c L one =
    let number = g.K.IntKey.number_of in let m = c.args.map.now in let n = c.insert.new.self in let told = c.in-Ok.ensures in
    let put = put_pair number m.walk m.capacity c.args.key c.args.value in
    let larger = IsLarger-after (value_of number m.walk c.args.key) m.capacity (length m.walk + 1) m.factor n.capacity one.capacity told.inserted.fits.capacity told.inserted.fits.in_range in
    let both = c.growth_keeps_standing.ensures m.capacity n.capacity (put_pair number L m.capacity c.args.key c.args.value) put
    (c.insertion_keeps_standing.ensures m.capacity L m.walk c.args.key c.args.value one) larger.capacity larger.more in
    let again = c.walks_grow_as_lists.ensures n.capacity n.capacity put larger.capacity larger.capacity (omega arith) in
    record {
      capacity = larger.capacity;
      walk = both.walk ∙ sym again ∙ sym (ap (λ n'. walk_of number n'.walk n.capacity) told.state);
    }

-- each list has as many keys in the slot as the map
pub returns-in-Err-clause-memory : goal.returns-in-Err-clause-memory
returns-in-Err-clause-memory g c is stays L one =
    let m = c.args.map.now in
    let some = c.in-Err.ensures.refused.memory (ap (λ r. unwrap_or (result_err r) Memory) is) stays in
    subst (λ n. 0 < n) (sym (c.class_sizes_are_the_same.ensures m.capacity L m.walk c.args.key one)) some
