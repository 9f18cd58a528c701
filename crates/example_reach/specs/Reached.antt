-- What a search through a graph found, and what it has found so far.
use Rattle.std.specs.Prelude.{◌⊎◌, ℕ, Bool, Contains, IsTrue, List, None, Option, Some, []}
use Rattle.std.specs.declared.vec.Vec.{Vec}
use Rattle.intmap.specs.Bindings.{value_of}
use Rattle.intmap_set.specs.Sets.{holds}

module _ {A : Type 0} where
  -- the elements of a vector, or none
  abbrev pub items_of : Option (Vec ℕ A) → List ℕ
  items_of None = []
  items_of (Some targets) = targets.items

  -- the nodes that edges from this node lead to
  abbrev pub targets_of : List (ℕ × Vec ℕ A) → ℕ → List ℕ
  targets_of edges node = items_of (value_of (λ key. key) edges node)

  -- each edge from a node that passes the test leads to one that does
  abbrev pub IsClosed : List (ℕ × Vec ℕ A) → (ℕ → Bool) → Type 0
  IsClosed edges test = (node target : ℕ) → IsTrue (test node) → Contains (targets_of edges node) target → IsTrue (test target)

  -- the start was visited, and so was each target of a visited node; and no other node, since any test of nodes that the start passes, and
  -- with each node its targets, is passed by all that were visited
  pub record IsReached (edges : List (ℕ × Vec ℕ A)) (start : ℕ) (visited : List ℕ) : Type 0 where
    pub start_is : IsTrue (holds (λ key. key) visited start)
    pub closed : IsClosed edges (holds (λ key. key) visited)
    pub least : (test : ℕ → Bool) → IsTrue (test start) → IsClosed edges test → (node : ℕ) → IsTrue (holds (λ key. key) visited node) → IsTrue (test node)

  -- the same where some nodes still wait for their visit
  pub record IsReaching (edges : List (ℕ × Vec ℕ A)) (start : ℕ) (visited waiting : List ℕ) : Type 0 where
    pub start_is : IsTrue (holds (λ key. key) visited start) ⊎ Contains waiting start
    pub closed : (node target : ℕ) → IsTrue (holds (λ key. key) visited node) → Contains (targets_of edges node) target
        → IsTrue (holds (λ key. key) visited target) ⊎ Contains waiting target
    pub least : (test : ℕ → Bool) → IsTrue (test start) → IsClosed edges test
        → ((node : ℕ) → IsTrue (holds (λ key. key) visited node) → IsTrue (test node)) × ((node : ℕ) → Contains waiting node → IsTrue (test node))
