-- How few pairs a run places, and how few slots it leaves.
use Rattle.std.specs.Prelude.{◌≡◌, ◌⊎◌, ℕ, ◌+◌, ◌*◌, ◌≤◌, max, Bool, List, ◌∷◌, length}
use Rattle.intmap.specs.Map.{MapState}
use Rattle.intmap.specs.PlainLists.{PlainList, Stands}
use Rattle.intmap_run.specs.declared.command.Command.{Command}
use Rattle.intmap_run.specs.declared.command.Command.TheVariants as command
use Rattle.intmap_run.specs.declared.answer.Answer.{Answer}
use Rattle.intmap_run.specs.declared.answer.Answer.TheVariants as answer
use Rattle.intmap_run.specs.Runs.{Runs}

module _ {K V S A : Type 0} where
  -- how many load factors a command with this answer set: one or none
  abbrev pub factors_set_by : Command K V A → Answer K V S A → ℕ
  factors_set_by (command.SetLoadFactor f) answer.Done = 1
  factors_set_by other a = 0

  -- how many load factors the commands with these answers set
  abbrev pub factors_set : List (Command K V A) → List (Answer K V S A) → ℕ
  factors_set (c ∷ cs) (a ∷ as') = factors_set_by c a + factors_set cs as'
  factors_set cs as' = 0

  -- the command, with this answer, set the capacity: it is a successful reservation or load factor
  abbrev pub SetsCapacity : Command K V A → Answer K V S A → Type 0
  SetsCapacity (command.Reserve n) answer.Done = Unit {0}
  SetsCapacity (command.SetLoadFactor f) answer.Done = Unit {0}
  SetsCapacity other a = ⊥

module _ {K V S A : Type 0} (number : K → ℕ) (sees : V → S → Type 0) (keeps : K → V → Bool) where
  -- the greatest number of pairs at the start of a run or after one of its commands
  abbrev pub greatest_length : (s : PlainList K V) (cs : List (Command K V A)) (as' : List (Answer K V S A)) (t : PlainList K V) → Runs number sees keeps s cs as' t → ℕ
  greatest_length s (c ∷ cs) (a ∷ as') t run = max (length s.pairs) (greatest_length run.0 cs as' t run.2)
  greatest_length s cs as' t run = length s.pairs

  -- a successful reservation or load factor of the run left this capacity
  abbrev pub WasSet : ℕ → (s : PlainList K V) (cs : List (Command K V A)) (as' : List (Answer K V S A)) (t : PlainList K V) → Runs number sees keeps s cs as' t → Type 0
  WasSet C s (c ∷ cs) (a ∷ as') t run = (SetsCapacity c a × (run.0.capacity ≡ C)) ⊎ WasSet C run.0 cs as' t run.2
  WasSet C s cs as' t run = ⊥

  -- the run places at most 3 * (g + 1) * its greatest length, if it sets g load factors
  abbrev pub RunPlacesFew : (s : PlainList K V) (cs : List (Command K V A)) (as' : List (Answer K V S A)) (t : PlainList K V) → Runs number sees keeps s cs as' t → Type 0
  RunPlacesFew s cs as' t run = t.placed ≤ s.placed + 3 * (factors_set cs as' + 1) * greatest_length s cs as' t run

  -- the last capacity is the first, or one that the run set, or (F + 1) times it is at most 2000 * the greatest length, F being
  -- the last load factor
  abbrev pub RunLeavesFewSlots : (s : PlainList K V) (cs : List (Command K V A)) (as' : List (Answer K V S A)) (t : PlainList K V) → Runs number sees keeps s cs as' t → Type 0
  RunLeavesFewSlots s cs as' t run =
      (t.capacity ≡ s.capacity) ⊎ WasSet t.capacity s cs as' t run
      ⊎ ((t.factor + 1) * t.capacity ≤ 2000 * greatest_length s cs as' t run)

  -- every run from a list that stands for the map before to one that stands for the map after places that few pairs
  abbrev pub PlacesFew : MapState K V → List (Command K V A) → List (Answer K V S A) → MapState K V → Type 0
  PlacesFew m cs as' n =
      (s t : PlainList K V) (run : Runs number sees keeps s cs as' t) → Stands number s m → Stands number t n → RunPlacesFew s cs as' t run

  -- every run from a list that stands for the map before to one that stands for the map after leaves such a capacity
  abbrev pub LeavesFewSlots : MapState K V → List (Command K V A) → List (Answer K V S A) → MapState K V → Type 0
  LeavesFewSlots m cs as' n =
      (s t : PlainList K V) (run : Runs number sees keeps s cs as' t) → Stands number s m → Stands number t n → RunLeavesFewSlots s cs as' t run
