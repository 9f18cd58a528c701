-- Insertions of several pairs in turn are one step of every list that stands for the map.
use Rattle.std.proofs.Common.{◌≡◌, inl, inr, ℕ, ◌<◌, ◌≤◌, ◌-◌, ◌^◌, Bool, List, [], ◌∷◌, ◌++◌, length, refl, ap, arith}
use Rattle.std.specs.Prelude.{min}
use Rattle.std.specs.declared.vec.Vec.{Vec}
use Rattle.std.proofs.lemmas.List.{length-append}
use Rattle.intmap.specs.Extending.{MapInsertsAll}
use Rattle.intmap.specs.Insertions.{MapInserts}
use Rattle.intmap.specs.Map.{MapState, IsMap, after_search}
use Rattle.intmap.specs.PlainLists.{PlainList, Stands, looked_up, ListInsertsAll, RefusalIsDue, list_of}
use Rattle.intmap.specs.declared.refusal.RefusedPair.{RefusedPair}
use Rattle.intmap_run.specs.declared.command.Command.TheVariants as command
use Rattle.intmap_run.specs.declared.answer.Answer.TheVariants as answer
use Rattle.intmap_run.specs.Steps.{StepsFrom}
use Rattle.intmap_run.proofs.StepLemmas.{accepted, may, with_pair_in, Stands-searched}

module _ {K V : Type 0} (number : K → ℕ) (is_valid : K → Type 0) where
  -- what successful insertions in turn leave of list and map
  pub record AllAccepted (m : MapState K V) (ps : List (K × V)) (n : MapState K V) (s t : PlainList K V) : Type 0 where
    pub inserts : ListInsertsAll number s ps t
    pub stands : Stands number t n
    map : IsMap number is_valid n

  -- they leave a list with the pairs put in
  pub all_accepted : (m : MapState K V) (ps : List (K × V)) (n : MapState K V) → IsMap number is_valid m → MapInsertsAll number is_valid m ps n
      → (s : PlainList K V) → Stands number s m → (t : PlainList K V) × AllAccepted m ps n s t
  all_accepted m [] n is_map is s stands = (
    s,
    rw is (record { inserts = refl; stands = stands; map = is_map }),
  )
  all_accepted m (p ∷ ps) n is_map inserted s stands =
      let l : MapState K V = inserted.0 in
      let one : MapInserts number is_valid m p.0 p.1 l = inserted.1 in
      let t : PlainList K V = with_pair_in number s p.0 p.1 l.capacity in
      let first = accepted number is_valid m is_map p.0 p.1 l one.inserted.fits one.state s stands in
      let rest = all_accepted l ps n one.inserted.valid inserted.2 t first.stands in (
        rest.0,
        record {
          inserts = (t, first.inserts, rest.1.inserts);
          stands = rest.1.stands;
          map = rest.1.map;
        },
      )

module _ {K V S A : Type 0} (number : K → ℕ) (is_valid : K → Type 0) (m : MapState K V) (is_map : IsMap number is_valid m) (sees : V → S → Type 0) (keeps : K → V → Bool) where
  -- all pairs were inserted
  pub StepsFrom-extend : (pairs : Vec (K × V) A) (xs : List (K × V)) (n : MapState K V) → xs ≡ pairs.items → MapInsertsAll number is_valid m xs n
      → StepsFrom number sees keeps m (command.Extend pairs) answer.Done n
  StepsFrom-extend pairs xs n all inserted s stands =
      let left = all_accepted number is_valid m pairs.items n is_map (rw all at inserted) s stands in (
        left.0,
        record {
          answers = inl (refl, (refl, left.1.inserts));
          stands = left.1.stands;
        },
      )

  -- the pairs before a failed one were inserted
  pub StepsFrom-stopped : (pairs : Vec (K × V) A) (xs rest : List (K × V)) (before n : MapState K V) (refused : RefusedPair K V)
      → pairs.items ≡ xs ++ (refused.key, refused.value) ∷ rest → refused.applied ≡ length xs
      → MapInsertsAll number is_valid m xs before → n ≡ after_search number before refused.key
      → RefusalIsDue number (list_of before) refused.key refused.cause
      → StepsFrom number sees keeps m (command.Extend pairs) (answer.Stopped refused) n
  StepsFrom-stopped pairs xs rest before n refused split count inserted searched due s stands =
      let left = all_accepted number is_valid m xs before is_map inserted s stands in
      let t : PlainList K V = left.0 in
      let stands' = left.1.stands in
      let is_map' = left.1.map in
      let refuses = may number is_valid before is_map' refused.key refused.cause due t stands' in (
        looked_up number t refused.key,
        rw searched (record {
          answers = inr (refused, refl, (xs, rest, t, split, count, left.1.inserts, refuses, refl));
          stands = Stands-searched number is_valid before is_map' refused.key t stands';
        }),
      )

-- if a machine has room for a list, the number of pairs before another one of it is counted as it is
pub counted-all : {X : Type 0} (xs ys rest : List X) (x : X) (n len cap : ℕ) → ys ≡ xs ++ x ∷ rest → len ≡ length ys → len ≤ cap → cap < 2 ^ 63 → n ≡ min (length xs) (2 ^ 64 - 1) → n ≡ length xs
counted-all xs ys rest x n len cap split is within small count = omega (arith, ap length split, is, within, small, count, length-append xs (x ∷ rest))
