-- A reservation and a new load factor are one step of every list that stands for the map.
use Rattle.std.proofs.Common.{◌≡◌, inl, inr, ℕ, ◌+◌, Bool, length, None, refl, sym, ap, ◌∙◌}
use Rattle.std.specs.Prelude.{Result, Ok, Err, IfErr, OnOk, OnErr, MatchResult}
use Rattle.intmap.specs.Growing.{IsReservation, IsNewFactor, MayRefuseReserve, MayRefuseFactor}
use Rattle.intmap.specs.Map.{MapState, IsMap}
use Rattle.intmap.specs.declared.refusal.Cause.{Cause}
use Rattle.intmap_run.specs.declared.command.Command.TheVariants as command
use Rattle.intmap_run.specs.declared.answer.Answer.{Answer}
use Rattle.intmap_run.specs.declared.answer.Answer.TheVariants as answer
use Rattle.intmap_run.specs.Steps.{StepsFrom}
use Rattle.intmap_run.proofs.CapacityLemmas.{IsLarger-wanted, IsLarger-reserved}
use Rattle.intmap_run.proofs.MapStandLemmas.{length-stands, walk_of-stands}
use Rattle.intmap_run.proofs.StepLemmas.{Step-same}

module _ {K V S A : Type 0} (number : K → ℕ) (is_valid : K → Type 0) (m : MapState K V) (is_map : IsMap number is_valid m) (sees : V → S → Type 0) (keeps : K → V → Bool) where
  -- a reservation that succeeds
  StepsFrom-reserved : (additional : ℕ) (n : MapState K V) → IsReservation number m additional n → StepsFrom {A = A} number sees keeps m (command.Reserve additional) answer.Done n
  StepsFrom-reserved additional n did s stands =
      let larger = IsLarger-reserved m.capacity (length m.walk + additional) n.capacity is_map.capacity did.enough in (
        record s { capacity = n.capacity },
        record {
          answers = inl (refl, record { enough = rw (length-stands is_map stands, stands.capacity) did.enough; after = refl });
          stands = record {
            walk = walk_of-stands is_map stands n.capacity larger ∙ sym (ap (λ x. x.walk) did.state);
            capacity = refl;
            factor = stands.factor ∙ sym (ap (λ x. x.factor) did.state);
            placed = stands.placed ∙ sym (ap (λ x. x.placed) did.state);
            compared = stands.compared ∙ sym (ap (λ x. x.compared) did.state);
          };
        },
      )

  -- a reservation
  pub StepsFrom-reserve : (additional : ℕ) (result : Result (Unit {0}) Cause) (a : Answer K V S A) (n : MapState K V)
      → OnOk result (IsReservation number m additional n) → OnErr result (n ≡ m) → IfErr result (MayRefuseReserve m.capacity (length m.walk + additional))
      → MatchResult result (λ _. a ≡ answer.Done) (λ cause. a ≡ answer.Refused cause None)
      → StepsFrom number sees keeps m (command.Reserve additional) a n
  StepsFrom-reserve additional (Ok u) a n did err due done s stands = rw done (StepsFrom-reserved additional n did s stands)
  StepsFrom-reserve additional (Err cause) a n did err due done s stands =
      rw (done, err) (Step-same number sees keeps m s (command.Reserve additional) (answer.Refused cause None)
      (inr (cause, refl, rw (length-stands is_map stands, stands.capacity) due, refl)) stands)

  -- a load factor that is set
  StepsFrom-set_factor : (factor : ℕ) (n : MapState K V) → IsNewFactor number m factor n → StepsFrom {A = A} number sees keeps m (command.SetLoadFactor factor) answer.Done n
  StepsFrom-set_factor factor n did s stands =
      let larger = IsLarger-wanted m.capacity (length m.walk) factor n.capacity is_map.capacity did.meets.wanted did.meets.in_range in (
        record s { capacity = n.capacity; factor = factor },
        record {
          answers = inl (refl, record { meets = rw (length-stands is_map stands, stands.capacity) did.meets; after = refl });
          stands = record {
            walk = walk_of-stands is_map stands n.capacity larger ∙ sym (ap (λ x. x.walk) did.state);
            capacity = refl;
            factor = sym (ap (λ x. x.factor) did.state);
            placed = stands.placed ∙ sym (ap (λ x. x.placed) did.state);
            compared = stands.compared ∙ sym (ap (λ x. x.compared) did.state);
          };
        },
      )

  -- a load factor
  pub StepsFrom-set_load_factor : (factor : ℕ) (result : Result (Unit {0}) Cause) (a : Answer K V S A) (n : MapState K V)
      → OnOk result (IsNewFactor number m factor n) → OnErr result (n ≡ m) → IfErr result (MayRefuseFactor m.capacity (length m.walk) factor)
      → MatchResult result (λ _. a ≡ answer.Done) (λ cause. a ≡ answer.Refused cause None)
      → StepsFrom number sees keeps m (command.SetLoadFactor factor) a n
  StepsFrom-set_load_factor factor (Ok u) a n did err due done s stands = rw done (StepsFrom-set_factor factor n did s stands)
  StepsFrom-set_load_factor factor (Err cause) a n did err due done s stands =
      rw (done, err) (Step-same number sees keeps m s (command.SetLoadFactor factor) (answer.Refused cause None)
      (inr (cause, refl, rw (length-stands is_map stands, stands.capacity) due, refl)) stands)
