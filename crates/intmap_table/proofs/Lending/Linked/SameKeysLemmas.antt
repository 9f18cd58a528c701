-- What nodes and slots are by their links and keys alone: so are others with these.
use Rattle.std.proofs.Common.{◌≡◌, ℕ, Bool, List, length, map, sym, ap, ◌∙◌, subst}
use Rattle.std.proofs.lemmas.List.{length-map}
use Rattle.intmap_table.specs.Classes.{IsCapacity, slot_number}
use Rattle.intmap_table.specs.Tables.Slots.{AreMarked}
use Rattle.intmap_table.specs.Tables.Nodes.{Node, Pool, rows_in, IsPool, AreLinked}
use Rattle.intmap_table.specs.Tables.Rows.{AreRows}
use Rattle.intmap_table.proofs.Lending.ChosenLemmas.{sizes}
use Rattle.intmap_table.proofs.Lending.Linked.PlacesLemmas.{order}
use Rattle.intmap_table.proofs.Lending.Linked.MappedLemmas.{map_node, map_nodes, map_pool, rows-map, order-map, sizes-map_rows, IsPool-map, IsPool-unmap, AreMarked-map, AreMarked-unmap, AreLinked-map, AreLinked-unmap}

-- the key of a pair
abbrev pub key : {K X : Type 0} → K × X → K
key p = p.0

-- nodes with keys in the place of pairs
abbrev pub node_keys : {K X : Type 0} → List (Node (K × X)) → List (Node K)
node_keys cs = map_nodes key cs

module _ {K X Y : Type 0} where
  -- the same nodes are free
  pub IsPool-same_keys : (cs : List (Node (K × X))) (ds : List (Node (K × Y))) → node_keys cs ≡ node_keys ds → (f n : ℕ) → IsPool cs f n → IsPool ds f n
  IsPool-same_keys cs ds same f n is = IsPool-unmap key ds f n (subst (λ ks. IsPool ks f n) same (IsPool-map key cs f n is))

  module _ (S : List (Node (K × X))) (cs : List (Node (K × X))) (T : List (Node (K × Y))) (ds : List (Node (K × Y)))
      (slots : node_keys S ≡ node_keys T) (nodes : node_keys cs ≡ node_keys ds) where
    -- a walk comes to the same places
    pub order-same_keys : order S cs ≡ order T ds
    order-same_keys = sym (order-map key S cs) ∙ (λ i. order (slots i) (nodes i)) ∙ order-map key T ds

    -- the rows are as long
    pub sizes-same_keys : sizes (rows_in S cs) ≡ sizes (rows_in T ds)
    sizes-same_keys = sym (sizes-map_rows key (rows_in S cs)) ∙ ap sizes (sym (rows-map key S cs)) ∙ (λ i. sizes (rows_in (slots i) (nodes i)))
        ∙ ap sizes (rows-map key T ds) ∙ sizes-map_rows key (rows_in T ds)

    -- the slots lead through their own pairs
    pub AreRows-same_keys : (number : K → ℕ) (held total : ℕ) (marks : List Bool) (mask : ℕ)
        → AreRows number S (record { nodes = cs; held = held; total = total }) marks mask → AreRows number T (record { nodes = ds; held = held; total = total }) marks mask
    AreRows-same_keys number held total marks mask are =
        let long : length S ≡ length T = sym (length-map S (map_node key)) ∙ ap length slots ∙ length-map T (map_node key) in
        let a : Pool (K × X) = record { nodes = cs; held = held; total = total } in
        let b : Pool (K × Y) = record { nodes = ds; held = held; total = total } in
        let pools : ◌≡◌ {A = Pool K} (map_pool key a) (map_pool key b) = λ i. record { nodes = nodes i; held = held; total = total } in
        let home : ℕ → K → ℕ = λ n k. slot_number number k n in
        let linked : AreLinked (home (length T)) (node_keys T) (map_pool key b) =
        subst (λ n. AreLinked (home n) (node_keys T) (map_pool key b)) long (subst (λ ks. AreLinked (home (length S)) ks (map_pool key b)) slots
        (subst (AreLinked (home (length S)) (node_keys S)) pools (AreLinked-map key (home (length S)) S a are.linked))) in
        let rows : map (map key) (rows_in S cs) ≡ map (map key) (rows_in T ds) =
        sym (rows-map key S cs) ∙ (λ i. rows_in (slots i) (nodes i)) ∙ rows-map key T ds in
        record {
          linked = AreLinked-unmap key (home (length T)) T b linked;
          capacity = subst IsCapacity long are.capacity;
          marked = AreMarked-unmap key (rows_in T ds) marks (subst (λ R. AreMarked R marks) rows (AreMarked-map key (rows_in S cs) marks are.marked));
          count = are.count ∙ long;
        }
