use Rattle.std.proofs.Common.{rules, ◌≡◌}
use Rattle.intmap.proofs.KeepLemmas.{Retains-keep_pairs}
use Rattle.intmap_run.proofs.runner.keep_all.Goals as goal

-- the closure keeps the keeper that it was made with
pub returns-clause-walk : goal.returns-clause-walk
returns-clause-walk g c =
    let told = c.retain.ensures.pairs in
    Retains-keep_pairs _ (λ f. f.0.now ≡ c.args.keeper.now) (g.S.Keeps.stays_at c.args.keeper.now) (λ f pair b f' own asked. let shows = asked.shows in let met = asked.called.met in (search rules, search rules))
    _ told.0 c.args.map.now.walk c.retain.new.self.walk (search rules) told.1
