-- One command on a map. No public clause cites this module.
use Rattle.std.specs.Prelude.{ℕ, ◌+◌, Bool}
use Rattle.intmap.specs.Map.{MapState}
use Rattle.intmap.specs.PlainLists.{PlainList, Stands}
use Rattle.intmap.specs.Room.{HasRoom}
use Rattle.intmap_run.specs.declared.command.Command.{Command}
use Rattle.intmap_run.specs.declared.answer.Answer.{Answer}
use Rattle.intmap_run.specs.Room.{IsNoFailedInsertion, LeavesSlots, most_inserted_by}
use Rattle.intmap_run.specs.Runs.{Answers}

module _ {K V S A : Type 0} (number : K → ℕ) (sees : V → S → Type 0) (keeps : K → V → Bool) where
  -- a command leads from the list s to the list t, which stands for the map n
  pub record Step (s : PlainList K V) (c : Command K V A) (a : Answer K V S A) (t : PlainList K V) (n : MapState K V) : Type 0 where
    pub answers : Answers number sees keeps s c a t
    pub stands : Stands number t n

  -- from every list that stands for the map before, a command leads to a list that stands for the map after
  abbrev pub StepsFrom : MapState K V → Command K V A → Answer K V S A → MapState K V → Type 0
  StepsFrom m c a n = (s : PlainList K V) → Stands number s m → (t : PlainList K V) × Step s c a t n

-- a command keeps the room as a run does: if it leaves slots and load factor to insertions and there is room for the keys that it inserts and
-- `left` more, no insertion failed, and there is room for `left`
pub record StepKeepsRoom {K V S A : Type 0} (number : K → ℕ) (m : MapState K V) (c : Command K V A) (a : Answer K V S A) (n : MapState K V) : Type 0 where
  pub kept : (left : ℕ) → LeavesSlots c → HasRoom number m (most_inserted_by c + left) → IsNoFailedInsertion a × HasRoom number n left
