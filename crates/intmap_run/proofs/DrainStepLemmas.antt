-- A drain is one step of every list that stands for the map.
use Rattle.std.proofs.Common.{◌≡◌, inl, ℕ, Bool, refl, ap, ◌∙◌}
use Rattle.std.specs.Prelude.{take, drop}
use Rattle.std.specs.Map.{keys_of}
use Rattle.std.specs.declared.vec.Vec.{Vec}
use Rattle.intmap.specs.Bindings.{strike_keys}
use Rattle.intmap.specs.Map.{MapState, IsMap}
use Rattle.intmap.specs.Map.{with_walk}
use Rattle.intmap.specs.Walk.{walk_of}
use Rattle.intmap.proofs.StrikeLemmas.{strike_keys-first}
use Rattle.intmap_run.specs.declared.command.Command.TheVariants as command
use Rattle.intmap_run.specs.declared.answer.Answer.TheVariants as answer
use Rattle.intmap_run.specs.Steps.{StepsFrom}
use Rattle.intmap_run.proofs.MapStandLemmas.{walk_of-strike_keys-stands}

module _ {K V S A : Type 0} (number : K → ℕ) (is_valid : K → Type 0) (m : MapState K V) (is_map : IsMap number is_valid m) (sees : V → S → Type 0) (keeps : K → V → Bool) (count : ℕ) where
  -- the first pairs were removed
  pub StepsFrom-drain : (n : MapState K V) (pairs : Vec (K × V) A) → IsMap number is_valid n → pairs.items ≡ take count m.walk → n ≡ with_walk m (drop count m.walk)
      → StepsFrom number sees keeps m (command.Drain count) (answer.Pairs pairs) n
  StepsFrom-drain n pairs is_after taken left s stands =
      let struck : strike_keys number m.walk (keys_of pairs.items) ≡ drop count m.walk =
      ap (λ ps. strike_keys number m.walk (keys_of ps)) taken ∙ strike_keys-first number count m.walk is_map.distinct in
      let own : walk_of number (drop count m.walk) m.capacity ≡ drop count m.walk = rw left at is_after.own in (
        record s { pairs = strike_keys number s.pairs (keys_of pairs.items) },
        rw left (record {
          answers = inl (pairs, refl, rw stands.walk taken, refl);
          stands = record {
            walk = walk_of-strike_keys-stands is_map stands (keys_of pairs.items) ∙ ap (λ L. walk_of number L m.capacity) struck ∙ own;
            capacity = stands.capacity;
            factor = stands.factor;
            placed = stands.placed;
            compared = stands.compared;
          };
        }),
      )
