-- Slots whose further pairs lie in nodes, whose values are lent in the order of a walk. Assumes `Logic`.
use mathlib.Core.Path.{◌≡◌, refl, sym, ap, ◌∙◌, subst}
use Prim.Native.Nat.{ℕ}
use mathlib.Core.List.{List, [], ◌∷◌, ◌++◌}
use lib.ListN.{length, length-map}
use seplogic.Ra.Ura.{Ura}
use base.Logic.{ent, id⊢}
use base.Fml.{Lft, Incl}
use base.Fraction.{full_share}
use types.Logic.{Logic, sem}
use denote.RattleType.{RattleType}
use denote.Memory.{part_at}
use denote.Model.Fields.{view-Hides, view_owns, view_made, plain_out, Plain-in}
use denote.Param.Laws.{Laws}
use denote.RawPtr.{Ptr}
use Rattle.std.specs.Prelude.{map}
use Rattle.std.specs.Map.{values_of}
use Rattle.std.proofs.lemmas.List.{map-append}
use Rattle.std.proofs.lemmas.Grind.{flat_map-append}
use Rattle.std.specs.declared.alloc.Allocator as allocator
use Rattle.std.specs.declared.cmp.PartialEq as eq
use Rattle.intmap_table.specs.declared.key.IntKey as key
use Rattle.intmap_table.specs.Apart.{contents_of}
use Rattle.intmap_table.specs.Classes.{slot_number}
use Rattle.intmap_table.specs.Tables.Nodes.{Node, Free, Held, rows_in}
use Rattle.intmap_table.specs.Tables.Rows.{Contents}
use Rattle.intmap_table.specs.Tables.Slots.{joined}
use Rattle.intmap_table.specs.Values.{lent_pairs, rows_with}
use Rattle.intmap_table.proofs.Lending.OpensLemmas.{OpensAs, any, seen_as, row_cells_in}
use Rattle.intmap_table.proofs.Lending.ChosenLemmas.{drained}
use Rattle.intmap_table.proofs.Lending.ChosenOpensLemmas.{chosen, whole_if}
use Rattle.intmap_table.proofs.Lending.OpensPairLemmas.{V, Kr, Hr}
use Rattle.intmap_table.proofs.Lending.Linked.PlacesLemmas.{in_node, laid, order, AreOnce}
use Rattle.intmap_table.proofs.Lending.Linked.HomeLemmas.{Linked-once}
use Rattle.intmap_table.proofs.Lending.Linked.MappedLemmas.{map_nodes, rows-map, order-map, laid-map}
use Rattle.intmap_table.proofs.Lending.Linked.SameKeysLemmas.{node_keys, AreRows-same_keys}
use Rattle.intmap_table.proofs.Lending.Linked.WrittenLemmas.{slots_with, nodes_with, values_laid, values-drained, in_memory, written-keys, rows-written}
use Rattle.intmap_table.proofs.Lending.Linked.OpensNodeLemmas.{was}
use Rattle.intmap_table.proofs.Lending.Linked.OpensMemoryLemmas.{Ir, Lr, good, code, view, inside_opens}

joined-cells : {X Y Z : Type 0} (f : Y → List Z) (h : X → Y) (xs : List X) → joined (map f (map h xs)) ≡ row_cells_in (λ x. f (h x)) xs
joined-cells f h [] = refl
joined-cells f h (x ∷ xs) = ap (λ L. f (h x) ++ L) (joined-cells f h xs)

module _ {K V : Type 0} where
  -- what contracts see of slots with other values, in the order of a walk
  abbrev pub contents_with : Contents K V → List V → Contents K V
  contents_with d ws = record d { rows = rows_with d.rows ws }

  -- what contracts see of slots as they were before their values were lent
  abbrev pub lent_contents : Contents K (Ptr × V) → Contents K V
  lent_contents h = record { rows = map lent_pairs h.rows; total = h.total }

  contents-was : (r : List (K × (Ptr × V))) → contents_of (values_of r) ≡ values_of (map was r)
  contents-was [] = refl
  contents-was (h ∷ r) = ap (λ L. h.1.1 ∷ L) (contents-was r)

  -- what was in the cells of rows
  pub contents-were : (R : List (List (K × (Ptr × V)))) → map contents_of (map values_of R) ≡ map values_of (map (map was) R)
  contents-were [] = refl
  contents-were (r ∷ R) = λ i. contents-was r i ∷ contents-were R i

  -- nodes with holes have the links and keys that they had
  pub node_keys-was : (cs : List (Node (K × (Ptr × V)))) → node_keys (map_nodes was cs) ≡ node_keys cs
  node_keys-was [] = refl
  node_keys-was (Free n ∷ cs) = ap (λ L. Free n ∷ L) (node_keys-was cs)
  node_keys-was (Held n h ∷ cs) = ap (λ L. Held n h.0 ∷ L) (node_keys-was cs)

module _ (K' A' : RattleType) (g : key.Ghosts K'.Denot) (e : eq.Ghosts K'.Denot) (a : allocator.Ghosts A'.Denot) (V' : RattleType)
    (LK : Laws K') (LV : Laws V') (LA : Laws A') {M : Type 1} {𝓤 : Ura M} (𝓛 : Logic 𝓤)
    (l : Lft) (ik : Incl l K'.lives) (iv : Incl l V'.lives) (ia : Incl l A'.lives) where
  abbrev pub Kv : RattleType
  Kv = Kr V'

  abbrev pub Hv : RattleType
  Hv = Hr V'

  abbrev pub P : Type 0
  P = K'.Denot × V'.Denot

  -- what contracts see, of values and of holes
  abbrev pub D : Type 0
  D = Contents K'.Denot V'.Denot

  abbrev pub DH : Type 0
  DH = Contents K'.Denot (Ptr × V'.Denot)

  abbrev pub I : Type 0
  I = (Ir K' A' g e a Kv).Denot

  abbrev pub IH : Type 0
  IH = (Ir K' A' g e a Hv).Denot

  abbrev pub IO : OpensAs 𝓛 (V V') (Ir K' A' g e a Kv) (Ir K' A' g e a Hv) l
  IO = inside_opens K' A' g e a V' LK LV LA 𝓛 l ik iv ia

  -- the cells of the holes, place by place
  pub rowed : (h : IH) → joined (values_laid h.slots.items h.pool.nodes) ≡ IO.cells_in h
  rowed h = ap joined (map-append values_of (map in_node h.slots.items) (map in_node h.pool.nodes))
      ∙ flat_map-append (λ s. s) (map values_of (map in_node h.slots.items)) (map values_of (map in_node h.pool.nodes))
      ∙ (λ i. joined-cells values_of in_node h.slots.items i ++ joined-cells values_of in_node h.pool.nodes i)

  -- the values that were in these cells
  pub old : (h : IH) → map contents_of (values_laid h.slots.items h.pool.nodes) ≡ values_laid (IO.fill h).slots.items (IO.fill h).pool.nodes
  old h = contents-were (laid h.slots.items h.pool.nodes) ∙ ap (map values_of) (sym (laid-map was h.slots.items h.pool.nodes))

  pub fills : (h : IH) → lent_contents (view K' A' g e a Hv h) ≡ view K' A' g e a Kv (IO.fill h)
  fills h i = record { rows = sym (rows-map was h.slots.items h.pool.nodes) i; total = h.pool.total }

  module _ (s : I) (ok : good K' A' g e a Kv s) where
    abbrev pub S : List (Node P)
    S = s.slots.items

    abbrev pub cs : List (Node P)
    cs = s.pool.nodes

    pub once : AreOnce (order S cs)
    once = Linked-once (λ p. slot_number g.number_of p.0 (length S)) S s.pool ok.linked

    -- values that are given in the order of a walk, in that of memory
    abbrev pub given : List V'.Denot → List V'.Denot
    given ws = in_memory S cs once ws

    pub puts : (ws : List V'.Denot) → length ws ≡ length (joined (view K' A' g e a Kv s).rows)
        → view K' A' g e a Kv (IO.put s (given ws)) ≡ contents_with (view K' A' g e a Kv s) ws
    puts ws long i = record { rows = rows-written S cs once ws long i; total = s.pool.total }

    -- slots with other values still lead through their own pairs
    pub goods : (us : List V'.Denot) → good K' A' g e a Kv (IO.put s us)
    goods us = let keys = written-keys S cs once us in
        AreRows-same_keys S cs (slots_with S us) (nodes_with S cs us) (sym keys.0) (sym keys.1) g.number_of s.pool.held s.pool.total s.bits s.mask ok

    pub counted : length (drained (order S cs) (values_laid S cs)) ≡ length (joined (view K' A' g e a Kv s).rows)
    counted = ap length (values-drained S cs once) ∙ length-map (joined (rows_in S cs)) (λ p. p.1)

    module _ (h : IH) (k : IO.fill h ≡ s) where
      -- slots with holes do, too
      pub goods_too : good K' A' g e a Hv h
      goods_too = AreRows-same_keys (map_nodes was h.slots.items) (map_nodes was h.pool.nodes) h.slots.items h.pool.nodes
          (node_keys-was h.slots.items) (node_keys-was h.pool.nodes) g.number_of h.pool.held h.pool.total h.bits h.mask
          (subst (good K' A' g e a Kv) (sym k) ok)

      -- the holes are lent in the order of a walk
      pub celled : drained (order S cs) (values_laid h.slots.items h.pool.nodes) ≡ values_of (joined (view K' A' g e a Hv h).rows)
      celled =
          let same : order S cs ≡ order h.slots.items h.pool.nodes =
          ap (λ (z : I). order z.slots.items z.pool.nodes) (sym k) ∙ order-map was h.slots.items h.pool.nodes in
          ap (λ O. drained O (values_laid h.slots.items h.pool.nodes)) same
          ∙ values-drained h.slots.items h.pool.nodes
          (Linked-once (λ p. slot_number g.number_of p.0 (length h.slots.items)) h.slots.items h.pool goods_too.linked)

    pub view_back : (d : D) → view K' A' g e a Kv s ≡ d → (b o : ℕ) (ws : List V'.Denot) → length ws ≡ length (drained (order S cs) (values_laid S cs))
        → ent 𝓤 (sem 𝓛 (part_at (Ir K' A' g e a Kv) full_share (IO.put s (given ws)) b o))
        (sem 𝓛 (part_at (Lr K' A' g e a Kv) full_share (contents_with d ws) b o))
    view_back d is b o ws long =
        let W = Ir K' A' g e a Kv in
        let v = view K' A' g e a Kv in
        Plain-in (Lr K' A' g e a Kv) W (view_owns W D (code K' A' g e a Kv) v (good K' A' g e a Kv)) 𝓛 full_share (contents_with d ws) (IO.put s (given ws))
        (view_made W D (code K' A' g e a Kv) v (good K' A' g e a Kv) 𝓛 (contents_with d ws) (IO.put s (given ws))
        (puts ws (long ∙ counted) ∙ ap (λ z. contents_with z ws) is, goods (given ws))) b o

  -- slots are lent as slots of holes
  abbrev pub linked_opens : OpensAs 𝓛 (V V') (Lr K' A' g e a Kv) (Lr K' A' g e a Hv) l
  linked_opens = record {
    count = λ d. length (joined d.rows);
    put = contents_with;
    fill = lent_contents;
    cells_in = λ h. values_of (joined h.rows);
    opens = λ d b o. any (λ (x : (s : I) × ((view K' A' g e a Kv s ≡ d) × good K' A' g e a Kv s)). part_at (Ir K' A' g e a Kv) full_share x.0 b o) (λ x.
        let T = x.0.slots.items in let ds = x.0.pool.nodes in
        seen_as (whole_if (chosen (IO.opens x.0 b o) (order T ds) (λ h. values_laid h.slots.items h.pool.nodes) rowed (values_laid T ds)
        (λ h k. old h ∙ ap (λ (z : I). values_laid z.slots.items z.pool.nodes) k))
        (λ ws. part_at (Lr K' A' g e a Kv) full_share (contents_with d ws) b o) (view_back x.0 x.1.1 d x.1.0 b o))
        (λ h k. view K' A' g e a Hv h) (id⊢ 𝓤 _) (λ ws. id⊢ 𝓤 _)
        (counted x.0 x.1.1 ∙ ap (λ (z : D). length (joined z.rows)) x.1.0)
        (λ h k. celled x.0 x.1.1 h k) (λ h k. fills h ∙ ap (view K' A' g e a Kv) k ∙ x.1.0)
        (λ h k κ. view-Hides (Ir K' A' g e a Hv) DH (code K' A' g e a Hv) (view K' A' g e a Hv) (good K' A' g e a Hv) M 𝓤 𝓛 (view K' A' g e a Hv h) h
        (refl, goods_too x.0 x.1.1 h k) b o κ))
        (plain_out (Lr K' A' g e a Kv) (Ir K' A' g e a Kv) (view_owns (Ir K' A' g e a Kv) D (code K' A' g e a Kv) (view K' A' g e a Kv) (good K' A' g e a Kv)) 𝓛
        full_share d b o);
  }
