use Rattle.std.proofs.Common.{refl, sym, ap, ◌∙◌}
use Rattle.intmap_table.specs.Values.{lent_pairs}
use Rattle.intmap.proofs.SameKeysLemmas.{IsMapWalk-same_keys}
use Rattle.intmap_table.proofs.Lending.ValuesLemmas.{keys_of-with_values, length-with_values}
use Rattle.intmap.proofs.map.IntMap.iter_mut.Goals as goal

pub returns : goal.returns
returns g c =
    let holes = c.lend-lent.ensures.holes in
    let walk = c.args.self.now.walk in (
      (refl, λ last. refl),
      record {
        writes_back = tt;
        walk = ap lent_pairs c.pairs.ensures ∙ holes.0;
        keys = keys_of-with_values walk;
        len = length-with_values walk;
        valid = holes.2;
        valid_after = λ vs. IsMapWalk-same_keys g.K.IntKey.number_of g.K.IntKey.is_valid walk _ _ _ (sym (keys_of-with_values walk vs)) holes.2;
      },
    )
