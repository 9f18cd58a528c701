-- The words of a command: its name, and the numbers behind it.
use Rattle.std.specs.Prelude.{◌≡◌, ℕ, List, [], ◌∷◌, codes}
use Rattle.std.specs.List.{flat_map}
use Rattle.intmap_run.specs.declared.command.Command.{Command}
use Rattle.intmap_run.specs.declared.command.Command.TheVariants as command

-- the word that a command begins with
abbrev pub name_of : {A : Type 0} → Command ℕ ℕ A → List ℕ
name_of (command.Insert k v) = codes "insert"
name_of (command.InsertChecked k v) = codes "insert_checked"
name_of (command.Get k) = codes "get"
name_of (command.GetMut k v) = codes "get_mut"
name_of (command.ContainsKey k) = codes "contains_key"
name_of (command.Remove k) = codes "remove"
name_of command.Clear = codes "clear"
name_of command.Retain = codes "retain"
name_of (command.Reserve additional) = codes "reserve"
name_of (command.SetLoadFactor thousandths) = codes "set_load_factor"
name_of command.GetLoadFactor = codes "get_load_factor"
name_of (command.EntryInsert k v) = codes "entry_insert"
name_of (command.EntryRemove k) = codes "entry_remove"
name_of (command.Extend pairs) = codes "extend"
name_of (command.Drain count) = codes "drain"
name_of command.Len = codes "len"
name_of command.IsEmpty = codes "is_empty"
name_of command.Capacity = codes "capacity"
name_of command.Load = codes "load"
name_of command.LoadRate = codes "load_rate"
name_of command.AssertCount = codes "assert_count"
name_of command.Walk = codes "walk"
name_of command.Keys = codes "keys"
name_of command.Values = codes "values"
name_of command.Collisions = codes "collisions"

-- the keys and values of pairs in turn
abbrev pub keys_and_values : List (ℕ × ℕ) → List ℕ
keys_and_values pairs = flat_map (λ p. p.0 ∷ p.1 ∷ []) pairs

-- the numbers behind the name of a command
abbrev pub numbers_of : {A : Type 0} → Command ℕ ℕ A → List ℕ
numbers_of (command.Insert k v) = k ∷ v ∷ []
numbers_of (command.InsertChecked k v) = k ∷ v ∷ []
numbers_of (command.Get k) = k ∷ []
numbers_of (command.GetMut k v) = k ∷ v ∷ []
numbers_of (command.ContainsKey k) = k ∷ []
numbers_of (command.Remove k) = k ∷ []
numbers_of command.Clear = []
numbers_of command.Retain = []
numbers_of (command.Reserve additional) = additional ∷ []
numbers_of (command.SetLoadFactor thousandths) = thousandths ∷ []
numbers_of command.GetLoadFactor = []
numbers_of (command.EntryInsert k v) = k ∷ v ∷ []
numbers_of (command.EntryRemove k) = k ∷ []
numbers_of (command.Extend pairs) = keys_and_values pairs.items
numbers_of (command.Drain count) = count ∷ []
numbers_of command.Len = []
numbers_of command.IsEmpty = []
numbers_of command.Capacity = []
numbers_of command.Load = []
numbers_of command.LoadRate = []
numbers_of command.AssertCount = []
numbers_of command.Walk = []
numbers_of command.Keys = []
numbers_of command.Values = []
numbers_of command.Collisions = []

-- this name and these numbers are the words of the command
abbrev pub IsSpelled : {A : Type 0} → List ℕ → List ℕ → Command ℕ ℕ A → Type 0
IsSpelled name numbers c = (name ≡ name_of c) × (numbers_of c ≡ numbers)
