use Rattle.std.proofs.Common.{refl, rules, sym, subst}
use Rattle.std.specs.Map.{keys_of}
use Rattle.intmap.specs.Retaining.{Retains}
use Rattle.intmap.specs.Taking.{TakesEach}
use Rattle.intmap_set.specs.Retaining.{KeepsKey, TakesKey}
use Rattle.intmap_set.proofs.MemberLemmas.{IsSet-seen}
use Rattle.intmap.proofs.AnsweringLemmas.{Retains-tested}
use Rattle.intmap_set.proofs.RetainLemmas.{Retains-inner, TakesEach-inner, holds-answered, kept-seen}
use Rattle.intmap_set.proofs.set.IntSet.retain.Goals as goal

pub retain-requires : goal.retain-requires
retain-requires g c =
    TakesEach-inner _ (KeepsKey g.F.FnMut) (λ f. f.0) (λ f p b h asked. let shows = asked.shows in let met = asked.called.met in search rules)
    (TakesKey g.F.FnMut) _ (λ f p takes value is. search rules)
    _ c.self.inside.map.walk (subst (λ s. TakesEach (KeepsKey g.F.FnMut) (TakesKey g.F.FnMut) c.args.f s.walk) (sym c.self.view_is) c.requires)

pub returns-clause-keys : goal.returns-clause-keys
returns-clause-keys g c =
    let told = c.retain.ensures.pairs in (
      told.0.0,
      subst (λ s. Retains (KeepsKey g.F.FnMut) c.args.f s.walk (keys_of c.retain.new.self.walk) told.0.0) c.self.view_is
          (Retains-inner _ (KeepsKey g.F.FnMut) (λ f. f.0) (λ f p b h asked. let shows = asked.shows in let met = asked.called.met in search rules) _ told.0 c.self.inside.map.walk c.retain.new.self.walk told.1),
    )

pub returns-clause-by_key : goal.returns-clause-by_key
returns-clause-by_key g c q b each =
    let told = returns-clause-keys g c in holds-answered g.K.IntKey.number_of (KeepsKey g.F.FnMut) c.args.f q b each _ told.0 _ _ refl told.1

pub returns-clause-filtered : goal.returns-clause-filtered
returns-clause-filtered g c test each = let told = returns-clause-keys g c in Retains-tested (KeepsKey g.F.FnMut) c.args.f test each told.0 _ _ told.1

pub returns-clause-updates : goal.returns-clause-updates
returns-clause-updates g c = kept-seen g.K.IntKey.number_of c.self.inside.map c.retain.new.self _ c.self.view_is c.retain.ensures.updates

pub returns-clause-valid : goal.returns-clause-valid
returns-clause-valid g c = IsSet-seen _ _ c.self.inside.map _ c.self.view_is c.self.invariant c.retain.ensures.valid

pub returns-clause-valid_after : goal.returns-clause-valid_after
returns-clause-valid_after g c = IsSet-seen _ _ c.retain.new.self _ refl (search rules) c.retain.ensures.valid_after
