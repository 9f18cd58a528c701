-- Lists with one walk, after a value was written or keys were struck in each.
use Rattle.std.proofs.Common.{◌≡◌, ℕ, List, ap, sym, ◌∙◌}
use Rattle.std.specs.Prelude.{Bool, not}
use Rattle.std.specs.List.{list_any}
use Rattle.intmap_table.specs.Classes.{same_key}
use Rattle.intmap_table.specs.Bindings.{keep_pairs, write_value, strike_keys}
use Rattle.intmap_table.specs.Walk.{walk_of}
use Rattle.intmap_table.proofs.LocationLemmas.{walk_of-write_value}
use Rattle.intmap.proofs.KeepLemmas.{walk_of-keep_pairs}

module _ {K V : Type 0} (number : K → ℕ) (C : ℕ) where
  -- lists with one walk have one after a value was written
  pub walk_of-write_value-same : (L M : List (K × V)) (k : K) (v : V) → walk_of number L C ≡ walk_of number M C → walk_of number (write_value number L k v) C ≡ walk_of number (write_value number M k v) C
  walk_of-write_value-same L M k v same =
      walk_of-write_value number L C k v ∙ ap (λ W. write_value number W k v) same ∙ sym (walk_of-write_value number M C k v)

  -- lists with one walk have one after keys were struck
  pub walk_of-strike_keys-same : (L M : List (K × V)) (ks : List K) → walk_of number L C ≡ walk_of number M C → walk_of number (strike_keys number L ks) C ≡ walk_of number (strike_keys number M ks) C
  walk_of-strike_keys-same L M ks same =
      let keeps : K → V → Bool = λ k v. not (list_any (same_key number k) ks) in
      walk_of-keep_pairs number keeps L C ∙ ap (keep_pairs keeps) same ∙ sym (walk_of-keep_pairs number keeps M C)
