-- What maps are by their keys alone: so are others with these keys.
use Rattle.std.proofs.Common.{◌≡◌, ℕ, ◌<◌, ◌≤◌, ◌^◌, List, sym, ap, ◌∙◌, subst}
use Rattle.std.specs.Prelude.{count_by}
use Rattle.std.specs.Map.{keys_of}
use Rattle.intmap_table.specs.Classes.{same_key}
use Rattle.intmap.specs.Consistency.{IsConsistent}
use Rattle.intmap.specs.Map.{IsMapWalk}
use Rattle.intmap.proofs.LoadFactorLemmas.{IsLoaded}
use Rattle.intmap_table.proofs.MappedLemmas.{count_by-map}
use Rattle.intmap_table.proofs.Tables.SameKeysLemmas.{length-same_keys, All-same_keys, walk_of-same_keys}

module _ {K V : Type 0} (number : K → ℕ) (is_valid : K → Type 0) where
  -- a list with the keys of a map's walk is one
  pub IsMapWalk-same_keys : (L M : List (K × V)) (C F : ℕ) → keys_of L ≡ keys_of M → IsMapWalk number is_valid L C F → IsMapWalk number is_valid M C F
  IsMapWalk-same_keys L M C F same m =
      let len = length-same_keys L M same in
      let count = λ (N : List (K × V)) (k : K). sym (count_by-map (λ (p : K × V). p.0) (same_key number k) N) in
      record {
        capacity = m.capacity;
        own = walk_of-same_keys number L M C same m.own;
        distinct = λ k. subst (λ n. n ≤ 1) (count L k ∙ ap (count_by (same_key number k)) same ∙ sym (count M k)) (m.distinct k);
        keys = All-same_keys is_valid L M same m.keys;
        count = subst (λ n. n < 2 ^ 64) len m.count;
        factor = m.factor;
        load = subst (λ n. IsLoaded C n F) len m.load;
      }

  -- the same of what a map keeps
  pub IsConsistent-same_keys : (W M : List (K × V)) (C F n most R N : ℕ) → keys_of W ≡ keys_of M → IsConsistent number is_valid W C F n most R N → IsConsistent number is_valid M C F n most R N
  IsConsistent-same_keys W M C F n most R N same old = record {
    memory = old.memory;
    map = IsMapWalk-same_keys W M C F same old.map;
    count = old.count ∙ length-same_keys W M same;
    threshold = old.threshold;
  }
