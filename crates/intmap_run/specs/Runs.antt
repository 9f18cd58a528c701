-- What one command answers and leaves of a plain list, and what lists of commands do.
use Rattle.std.specs.Prelude.{◌≡◌, ℕ, ◌+◌, ◌==◌, Bool, true, false, is_some, IsSome, IsNone, List, [], ◌∷◌, length, Option, Some, None, ◌⊎◌}
use Rattle.std.specs.List.{AllZip}
use Rattle.std.specs.Map.{keys_of, values_of}
use Rattle.std.specs.declared.vec.Vec.{Vec}
use Rattle.intmap.specs.Bindings.{value_of, take_key, write_value, keep_pairs, strike_keys}
use Rattle.intmap.specs.Walk.{walk_of, first_of_walk}
use Rattle.intmap.specs.Figures.{load_of, rate_of, collisions_of}
use Rattle.intmap.specs.Map.{MapState, first_capacity}
use Rattle.intmap.specs.declared.refusal.Cause.{Cause}
use Rattle.intmap.specs.declared.refusal.Cause.TheVariants.{Memory}
use Rattle.intmap.specs.declared.refusal.RefusedPair.{RefusedPair}
use Rattle.intmap_run.specs.declared.command.Command.{Command}
use Rattle.intmap_run.specs.declared.command.Command.TheVariants as command
use Rattle.intmap_run.specs.declared.answer.Answer.{Answer}
use Rattle.intmap_run.specs.declared.answer.Answer.TheVariants as answer
use Rattle.intmap.specs.Growing.{ListReserves, MayRefuseReserve, ListSetsFactor, MayRefuseFactor}
use Rattle.intmap.specs.PlainLists.{PlainList, empty_list, Stands, looked_up, ListInserts, ListInsertsAll, ListInsertsUpTo, RefusalIsDue}

-- To check by hand what `RunsFrom` says, read these files in this order (Classes, Bindings, Walk, Reach and Figures are of intmap_table):
-- Classes: `multiplier` is odd, a capacity is a power of two from 2 to 2^63, `agrees` compares remainders.
-- Bindings: which pair moves at `take_key`, and that `put_pair` puts the new one last. `Takes` of Removals says the same of a removal
--   without a recursion; the law `removals_fill_the_hole` joins both.
-- Walk: a list stands for a map if its walk is the map's. Reach: the sought key counts.
-- Growth: at which lengths the load is checked, that `MeetsLoad` rounds down, and that `IsWanted` takes the least doubling.
-- Map of intmap: only an absent key is out of range (`IsOutOfRange`); the first capacity is 4, the first load factor 909.
-- PlainLists: what a look-up and an insertion that grows add to the counts. `RefusalIsDue`: an absent key alone; `TooLarge` exactly out of
--   range; never `Memory` if the capacity stays and the slot is empty.
-- Figures: `load_of` counts remainders once each. Growing: a reservation and a load factor change no pair.
-- Here: a failure leaves `t ≡ s`, but for `Extend`, which keeps the pairs before the failed one; the six commands that look up a key to change
--   the map begin at the list `looked_up`; `IsWalkOfInserted` fixes the order of what `Collisions` answers.

-- what a judge sees of a value, if there is one
abbrev pub SeesOption : {V S : Type 0} → (V → S → Type 0) → Option V → Option S → Type 0
SeesOption sees None None = Unit {0}
SeesOption sees (Some v) (Some s) = sees v s
SeesOption sees o p = ⊥

-- what a judge sees of a pair: the key, and what it sees of the value
abbrev pub SeesPair : {K V S : Type 0} → (V → S → Type 0) → K × V → K × S → Type 0
SeesPair sees p q = (q.0 ≡ p.0) × sees p.1 q.1

-- W is the walk of a list into which the pairs were inserted in turn, beginning with no pairs in 4 slots
abbrev pub IsWalkOfInserted : List (ℕ × ℕ) → List (ℕ × ℕ) → Type 0
IsWalkOfInserted ps W =
    (u : PlainList ℕ ℕ) × ListInsertsAll (λ n. n) (empty_list first_capacity) ps u × (W ≡ walk_of (λ n. n) u.pairs u.capacity)

module _ {K V S A : Type 0} (number : K → ℕ) (sees : V → S → Type 0) (keeps : K → V → Bool) where
  -- the command fails with a cause that is due, returns its own value, if it has one, and changes nothing
  abbrev pub Refuses : PlainList K V → (Cause → Type 0) → Option V → Answer K V S A → PlainList K V → Type 0
  Refuses s due own a t = (cause : Cause) × (a ≡ answer.Refused cause own) × due cause × (t ≡ s)

  -- an insertion answers the old value, or fails
  abbrev pub AnswersInsert : PlainList K V → K → V → Answer K V S A → PlainList K V → Type 0
  AnswersInsert s k v a t =
      ((a ≡ answer.Old (value_of number s.pairs k)) × ListInserts number s k v t)
      ⊎ Refuses s (RefusalIsDue number s k) (Some v) a t

  -- a checked insertion of a present key answers false and changes nothing; for a new key it answers true and inserts, or fails
  abbrev pub AnswersInsertChecked : PlainList K V → K → V → Answer K V S A → PlainList K V → Type 0
  AnswersInsertChecked s k v a t =
      ((a ≡ answer.Flag false) × IsSome (value_of number s.pairs k) × (t ≡ s))
      ⊎ ((a ≡ answer.Flag true) × IsNone (value_of number s.pairs k) × ListInserts number s k v t)
      ⊎ Refuses s (RefusalIsDue number s k) (Some v) a t

  -- the value replaces the old value of the key in its place, and the old value is the answer
  abbrev pub AnswersWrite : PlainList K V → K → V → Answer K V S A → PlainList K V → Type 0
  AnswersWrite s k v a t =
      (a ≡ answer.Old (value_of number s.pairs k)) × IsSome (value_of number s.pairs k)
      × (t ≡ record s { pairs = write_value number s.pairs k v })

  -- a value is written if the key is present, and otherwise is returned, and nothing changes
  abbrev pub AnswersGetMut : PlainList K V → K → V → Answer K V S A → PlainList K V → Type 0
  AnswersGetMut s k v a t = AnswersWrite s k v a t ⊎ ((a ≡ answer.Back v) × IsNone (value_of number s.pairs k) × (t ≡ s))

  -- an insertion by an entry writes the value if the key is present; for a new key it answers that it inserts, or fails
  abbrev pub AnswersEntryInsert : PlainList K V → K → V → Answer K V S A → PlainList K V → Type 0
  AnswersEntryInsert s k v a t =
      AnswersWrite s k v a t
      ⊎ ((a ≡ answer.Fresh) × IsNone (value_of number s.pairs k) × ListInserts number s k v t)
      ⊎ Refuses s (RefusalIsDue number s k) (Some v) a t

  -- the value of the key, if there is one, is the answer, and its pair is removed
  abbrev pub AnswersRemove : PlainList K V → K → Answer K V S A → PlainList K V → Type 0
  AnswersRemove s k a t =
      (a ≡ answer.Old (value_of number s.pairs k)) × (t ≡ record s { pairs = take_key number s.pairs s.capacity k })

  -- the pairs are inserted in turn, all or up to the first that fails, which is then the answer
  abbrev pub AnswersExtend : PlainList K V → List (K × V) → Answer K V S A → PlainList K V → Type 0
  AnswersExtend s ps a t =
      ((a ≡ answer.Done) × ListInsertsUpTo number s ps (length ps) None t)
      ⊎ ((refused : RefusedPair K V) × (a ≡ answer.Stopped refused)
      × ListInsertsUpTo number s ps refused.applied (Some ((refused.key, refused.value), refused.cause)) t)

  -- there is no memory, and nothing changes
  abbrev pub LacksMemory : PlainList K V → Answer K V S A → PlainList K V → Type 0
  LacksMemory s a t = (a ≡ answer.Refused Memory None) × (t ≡ s)

  -- the answer is a list of which this holds, and nothing changes, or there is no memory
  abbrev pub AnswersList : {X : Type 0} → PlainList K V → (Vec X A → Answer K V S A) → (List X → Type 0) → Answer K V S A → PlainList K V → Type 0
  AnswersList {X} s kind holds a t = ((list : Vec X A) × (a ≡ kind list) × holds list.items × (t ≡ s)) ⊎ LacksMemory s a t

  -- the answer is the first m pairs of the walk, and their keys are removed, or there is no memory
  abbrev pub AnswersDrain : PlainList K V → ℕ → Answer K V S A → PlainList K V → Type 0
  AnswersDrain s m a t =
      ((pairs : Vec (K × V) A) × (a ≡ answer.Pairs pairs) × (pairs.items ≡ first_of_walk number m s.pairs s.capacity)
      × (t ≡ record s { pairs = strike_keys number s.pairs (keys_of pairs.items) }))
      ⊎ LacksMemory s a t

  -- from the list s a command may answer a and leave the list t; insertions, writes and removals look the key up first
  abbrev pub Answers : PlainList K V → Command K V A → Answer K V S A → PlainList K V → Type 0
  Answers s (command.Insert k v) a t = AnswersInsert (looked_up number s k) k v a t
  Answers s (command.InsertChecked k v) a t = AnswersInsertChecked (looked_up number s k) k v a t
  Answers s (command.Get k) a t =
      ((seen : Option S) × (a ≡ answer.Seen seen) × SeesOption sees (value_of number s.pairs k) seen) × (t ≡ s)
  Answers s (command.GetMut k v) a t = AnswersGetMut (looked_up number s k) k v a t
  Answers s (command.ContainsKey k) a t = (a ≡ answer.Flag (is_some (value_of number s.pairs k))) × (t ≡ s)
  Answers s (command.Remove k) a t = AnswersRemove (looked_up number s k) k a t
  Answers s command.Clear a t = (a ≡ answer.Done) × (t ≡ record s { pairs = [] })
  Answers s command.Retain a t = (a ≡ answer.Done) × (t ≡ record s { pairs = keep_pairs keeps s.pairs })
  Answers s (command.Reserve n) a t =
      ((a ≡ answer.Done) × ListReserves s n t) ⊎ Refuses s (MayRefuseReserve s.capacity (length s.pairs + n)) None a t
  Answers s (command.SetLoadFactor f) a t =
      ((a ≡ answer.Done) × ListSetsFactor s f t) ⊎ Refuses s (MayRefuseFactor s.capacity (length s.pairs) f) None a t
  Answers s command.GetLoadFactor a t = (a ≡ answer.Number s.factor) × (t ≡ s)
  Answers s (command.EntryInsert k v) a t = AnswersEntryInsert (looked_up number s k) k v a t
  Answers s (command.EntryRemove k) a t = AnswersRemove (looked_up number s k) k a t
  Answers s (command.Extend pairs) a t = AnswersExtend s pairs.items a t
  Answers s (command.Drain m) a t = AnswersDrain s m a t
  Answers s command.Len a t = (a ≡ answer.Number (length s.pairs)) × (t ≡ s)
  Answers s command.IsEmpty a t = (a ≡ answer.Flag (length s.pairs == 0)) × (t ≡ s)
  Answers s command.Capacity a t = (a ≡ answer.Number s.capacity) × (t ≡ s)
  Answers s command.Load a t = (a ≡ answer.Number (load_of number s.pairs s.capacity)) × (t ≡ s)
  Answers s command.LoadRate a t = (a ≡ answer.Number (rate_of s.pairs s.capacity)) × (t ≡ s)
  Answers s command.AssertCount a t = (a ≡ answer.Flag true) × (t ≡ s)
  Answers s command.Walk a t = AnswersList s answer.Walk (AllZip (SeesPair sees) (walk_of number s.pairs s.capacity)) a t
  Answers s command.Keys a t = AnswersList s answer.Keys (λ keys. keys ≡ keys_of (walk_of number s.pairs s.capacity)) a t
  Answers s command.Values a t = AnswersList s answer.Values (AllZip sees (values_of (walk_of number s.pairs s.capacity))) a t
  Answers s command.Collisions a t = AnswersList s answer.Sizes (IsWalkOfInserted (collisions_of number s.pairs s.capacity)) a t

  -- the commands in order, each from the list that the one before left, with one answer for each command
  abbrev pub Runs : PlainList K V → List (Command K V A) → List (Answer K V S A) → PlainList K V → Type 0
  Runs s [] [] t = t ≡ s
  Runs s (c ∷ cs) (a ∷ as') t = (m : PlainList K V) × Answers s c a m × Runs m cs as' t
  Runs s cs as' t = ⊥

  -- from every list that stands for the map before, a run leads to a list that stands for the map after
  abbrev pub RunsFrom : MapState K V → List (Command K V A) → List (Answer K V S A) → MapState K V → Type 0
  RunsFrom m cs as' n = (s : PlainList K V) → Stands number s m → (t : PlainList K V) × Runs s cs as' t × Stands number t n
