-- How many keys commands insert, and what a run leaves of the room for further pairs.
use Rattle.std.specs.Prelude.{ℕ, ◌+◌, All, List, [], ◌∷◌, length, Some}
use Rattle.intmap.specs.Map.{MapState}
use Rattle.intmap.specs.Room.{HasRoom}
use Rattle.intmap_run.specs.declared.command.Command.{Command}
use Rattle.intmap_run.specs.declared.command.Command.TheVariants as command
use Rattle.intmap_run.specs.declared.answer.Answer.{Answer}
use Rattle.intmap_run.specs.declared.answer.Answer.TheVariants as answer

module _ {K V A : Type 0} where
  -- how many keys the command inserts at most
  abbrev pub most_inserted_by : Command K V A → ℕ
  most_inserted_by (command.Insert k v) = 1
  most_inserted_by (command.InsertChecked k v) = 1
  most_inserted_by (command.EntryInsert k v) = 1
  most_inserted_by (command.Extend pairs) = length pairs.items
  most_inserted_by other = 0

  -- how many keys the commands insert at most
  abbrev pub most_inserted : List (Command K V A) → ℕ
  most_inserted [] = 0
  most_inserted (c ∷ cs) = most_inserted_by c + most_inserted cs

  -- the command is no reservation of slots and sets no load factor
  abbrev pub LeavesSlots : Command K V A → Type 0
  LeavesSlots (command.Reserve n) = ⊥
  LeavesSlots (command.SetLoadFactor f) = ⊥
  LeavesSlots other = Unit {0}

module _ {K V S A : Type 0} where
  -- the answer isn't that an insertion failed: such an answer returns a value, or the pair at which an extension stopped
  abbrev pub IsNoFailedInsertion : Answer K V S A → Type 0
  IsNoFailedInsertion (answer.Refused cause (Some v)) = ⊥
  IsNoFailedInsertion (answer.Stopped refused) = ⊥
  IsNoFailedInsertion other = Unit {0}

  -- if the commands leave slots and load factor to insertions, and the map before has room for all keys that they insert and `left` more,
  -- then no insertion failed, and the map after has room for `left`
  abbrev pub KeepsRoom : (K → ℕ) → MapState K V → List (Command K V A) → List (Answer K V S A) → MapState K V → Type 0
  KeepsRoom number m cs as' n =
      (left : ℕ) → All LeavesSlots cs → HasRoom number m (most_inserted cs + left) → All IsNoFailedInsertion as' × HasRoom number n left
