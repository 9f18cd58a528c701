use Rattle.std.proofs.Common.{subst, sym, refl}
use Rattle.intmap_table.specs.Locations.{IsAt}
use Rattle.intmap_table.proofs.WrittenLemmas.{the_key-same}
use Rattle.intmap.proofs.map.IntMap.location.Goals as goal

pub returns-clause-at : goal.returns-clause-at
returns-clause-at g c =
    subst (λ k. IsAt g.K.IntKey.number_of c.args.self.now.walk c.args.self.now.capacity (record { key = k; slot = c.args.slot; place = c.args.place }))
    (sym (the_key-same _ _ refl c.requires.some c.key_at-key.ensures)) c.requires.at
