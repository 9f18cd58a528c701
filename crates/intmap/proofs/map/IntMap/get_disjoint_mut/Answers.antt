use Rattle.std.proofs.Common.{map, refl, ap}
use Rattle.intmap_table.specs.Bindings.{value_of}
use Rattle.intmap.proofs.DisjointLemmas.{keys_of-write_each, value_of-write_each, length-write_each, IsMapWalk-write_each}
use Rattle.intmap.proofs.map.IntMap.get_disjoint_mut.Goals as goal

pub returns : goal.returns
returns g c =
    let number = g.K.IntKey.number_of in
    let m = c.args.self.now in
    let ks = c.args.keys.now in
    let holes = c.lend_each-lent.ensures.holes in (
      (refl, λ w. refl),
      record {
        writes_back = tt;
        walk = holes.0;
        capacity = holes.1;
        left = refl;
        value = ap (λ L. map (value_of number L) ks) holes.0;
        updates = λ vs q apart. value_of-write_each number m.walk ks vs q apart;
        keys = λ vs. keys_of-write_each number m.walk ks vs;
        len = λ vs. length-write_each number m.walk ks vs;
        valid = holes.3;
        valid_after = λ vs. IsMapWalk-write_each number g.K.IntKey.is_valid m.walk m.capacity m.factor ks vs holes.3;
      },
    )
