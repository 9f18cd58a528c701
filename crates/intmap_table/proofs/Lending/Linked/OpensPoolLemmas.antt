-- A pool of nodes, whose values are lent in the order of memory. Assumes `Logic`.
use mathlib.Core.Path.{◌≡◌, refl, sym, ap, ◌∙◌, subst}
use Prim.Native.Nat.{ℕ, ◌+◌, ◌-◌}
use native.Mathlib.Omega.{arith}
use mathlib.Core.List.{List, [], ◌∷◌}
use lib.ListN.{take, length-map}
use seplogic.Ra.Ura.{Ura}
use base.Logic.{id⊢}
use base.Fml.{Lft, Incl}
use base.Stored.{Coded}
use types.Logic.{Logic}
use contract.BorrowLft.{⊑_static}
use denote.Builtin.{usize}
use denote.RattleType.{RattleType, lives_all}
use denote.Memory.{part_of, shared_of}
use denote.Model.Fields.{view-Hides}
use denote.Param.{copied}
use denote.Param.Laws.{Laws, copied_laws}
use denote.Param.Lives.{in_all}
use denote.Param.Shared.{copy_shared}
use denote.RawPtr.{Ptr}
use denote.Shares.{Shares, Shares-less}
use denote.Struct.Field.{RawPtr-field, usize-field, row_field, rows}
use denote.Struct.Laws.{usize-copy}
use denote.Struct.Members.{Lone, Member}
use Rattle.std.specs.Map.{values_of}
use Rattle.std.specs.Prelude.{min}
use Rattle.std.proofs.lemmas.List.{append-nil}
use Rattle.std.specs.contracts.vec.Vec as V-type
use Rattle.std.proofs.vec.Vec.TheLaws as V-laws
use Rattle.std.specs.declared.alloc.Allocator as allocator
use Rattle.std.specs.declared.cmp.PartialEq as eq
use Rattle.intmap_table.specs.declared.key.IntKey as key
use Rattle.intmap_table.specs.declared.linked.pool.Pool as declared
use Rattle.intmap_table.specs.contracts.linked.pool.Pool as L-type
use Rattle.intmap_table.specs.contracts.linked.pool.Pool.TheInside as I-type
use Rattle.intmap_table.specs.Tables.Nodes.{Pool, node_limit}
use Rattle.intmap_table.proofs.linked.node.Node.TheLaws as N-laws
use Rattle.intmap_table.proofs.Lending.OpensLemmas.{Cells, OpensAs, length-row_put, row_count, row_put, row_put-append, row_cells_in}
use Rattle.intmap_table.proofs.Lending.OpensVecLemmas.{vec_opens}
use Rattle.intmap_table.proofs.Lending.OpensStructLemmas.{member, IsLaidAs, still_opens, first_part, last_part, struct_opens, view_opens}
use Rattle.intmap_table.proofs.Lending.OpensPairLemmas.{V, Kr, Hr, Pr, pair_laws}
use Rattle.intmap_table.proofs.Lending.Linked.PlacesLemmas.{in_node}
use Rattle.intmap_table.proofs.Lending.Linked.MappedLemmas.{map_nodes, map_pool, IsPool-unmap}
use Rattle.intmap_table.proofs.Lending.Linked.SameKeysLemmas.{IsPool-same_keys}
use Rattle.intmap_table.proofs.Lending.Linked.WrittenLemmas.{node_count, put_nodes, node_keys-put}
use Rattle.intmap_table.proofs.Lending.Linked.OpensNodeLemmas.{was, Nr, node_opens}

abbrev pub A : RattleType → RattleType
A A' = copied 2 A'

-- more values than there are places change nothing
pub row_put-take : {X W : Type 0} (count : X → ℕ) (put : X → List W → X) (xs : List X) (ws : List W)
    → row_put count put xs (take (row_count count xs) ws) ≡ row_put count put xs ws
row_put-take count put xs ws = sym (append-nil (row_put count put xs (take (row_count count xs) ws))) ∙ row_put-append count put xs [] ws
    ∙ ap (λ ys. row_put count put ys ws) (append-nil xs)

module _ (K' A' : RattleType) (g : key.Ghosts K'.Denot) (e : eq.Ghosts K'.Denot) (a : allocator.Ghosts A'.Denot) where
  -- nodes of pairs whose values are of type R, the fields that hold them, and the pool itself
  module _ (R : RattleType) where
    abbrev pub Nvr : RattleType
    Nvr = V-type.the_row (Nr K' g e R) (A A') a

    abbrev pub Ir : RattleType
    Ir = I-type.the_row (Pr K' g e R) (A A') a

    abbrev pub Lr : RattleType
    Lr = L-type.the_row (Pr K' g e R) (A A') a

    abbrev pub good : Ir.Denot → Type 0
    good = L-type.the_invariant (Pr K' g e R) (A A') a

    abbrev pub code : Coded (Pool (K'.Denot × R.Denot))
    code = declared.the_code (Pr K' g e R).Denot A'.Denot (Pr K' g e R).coded A'.coded

    abbrev pub view : Ir.Denot → Pool (K'.Denot × R.Denot)
    view = L-type.the_view (Pr K' g e R) (A A') a

  module _ (V' : RattleType) (LK : Laws K') (LV : Laws V') (LA : Laws A') {M : Type 1} {𝓤 : Ura M} (𝓛 : Logic 𝓤) where
    abbrev pub Kv : RattleType
    Kv = Kr V'

    abbrev pub Hv : RattleType
    Hv = Hr V'

    abbrev pub P : Type 0
    P = K'.Denot × V'.Denot

    abbrev pub H : Type 0
    H = K'.Denot × (Ptr × V'.Denot)

    abbrev pub numbers : List Member
    numbers = member usize ∷ member usize ∷ []

    pub pool_laid : IsLaidAs (Ir Kv) (member (Nvr Kv) ∷ numbers) (λ p. (p.nodes, (p.free, (p.spare, tt))))
    unfolding part_of
    pool_laid p b o = refl

    module _ (l : Lft) (ik : Incl l K'.lives) (iv : Incl l V'.lives) (ia : Incl l A'.lives) where
      pub words_live : Incl l (lives_all (rows (RawPtr-field ∷ usize-field ∷ usize-field ∷ row_field (A A') ∷ [])))
      words_live = in_all l (rows (RawPtr-field ∷ usize-field ∷ usize-field ∷ row_field (A A') ∷ []))
          (⊑_static l, (⊑_static l, (⊑_static l, (ia, tt))))

      pub usize_shares : Shares 𝓛 usize l
      usize_shares = Shares-less 𝓛 usize [] l (⊑_static l) ((copy_shared usize-field usize-copy).shares M 𝓤 𝓛)

      abbrev pub NO : OpensAs 𝓛 (V V') (Nr K' g e Kv) (Nr K' g e Hv) l
      NO = node_opens K' g e V' LK LV 𝓛 l ik iv

      abbrev pub nodes_open : OpensAs 𝓛 (V V') (Nvr Kv) (Nvr Hv) l
      nodes_open = vec_opens 𝓛 (V V') (Nr K' g e Kv) (Nr K' g e Hv) l NO refl tt (A A') a (copied_laws 2 A' LA) words_live

      abbrev pub number_opens : OpensAs 𝓛 (V V') usize usize l
      number_opens = still_opens 𝓛 (V V') usize l usize_shares

      abbrev pub inside_opens : OpensAs 𝓛 (V V') (Ir Kv) (Ir Hv) l
      inside_opens =
          struct_opens 𝓛 (member (Nvr Kv) ∷ numbers) (Ir Kv) (λ p. (p.nodes, (p.free, (p.spare, tt)))) pool_laid (V V') l
          (first_part 𝓛 (V V') l (Nvr Kv) numbers 0 nodes_open
          (first_part 𝓛 (V V') l usize (member usize ∷ []) _ number_opens (last_part 𝓛 (V V') l usize _ number_opens))) (
            (V-laws.the_row_laws (Nr K' g e Kv) (A A') a (N-laws.the_row_laws (Pr K' g e Kv) (pair_laws K' g e V' LK LV)) (copied_laws 2 A' LA)).single,
            ((λ n ws p. subst Lone (sym p.0) tt), ((λ n ws p. subst Lone (sym p.0) tt), tt)),
          ) (λ y. record { nodes = y.0; free = y.1.0; spare = y.1.1.0 })
          (shared_of (Ir Hv)) (λ h. (h.nodes, (h.free, h.spare))) (λ y. record { nodes = y.0; free = y.1.0; spare = y.1.1 })
          (λ p. refl) (λ y. refl) (λ y. refl) (λ y b o κ. id⊢ 𝓤 _)

      -- the pool with other values
      abbrev pub pool_put : Pool P → List V'.Denot → Pool P
      pool_put p ws = record p { nodes = put_nodes p.nodes ws }

      abbrev pub pool_cells : Pool H → Cells (V V')
      pool_cells h = row_cells_in (λ c. values_of (in_node c)) h.nodes

      pub pool_puts : (p : (Ir Kv).Denot) (ws : List V'.Denot) → view Kv (inside_opens.put p ws) ≡ pool_put (view Kv p) ws
      pool_puts p ws i =
          let cs = p.nodes.items in
          let long = length-row_put NO.count NO.put cs (take (row_count NO.count cs) ws) in
          record {
            nodes = row_put-take NO.count NO.put cs ws i;
            held = long i - p.spare;
            total = long i + (min p.nodes.cap node_limit - long i);
          }

      pub pool_goods : (p : (Ir Kv).Denot) (ws : List V'.Denot) → good Kv p → good Kv (inside_opens.put p ws)
      pool_goods p ws ok =
          let us = take (row_count NO.count p.nodes.items) ws in
          IsPool-same_keys p.nodes.items (put_nodes p.nodes.items us) (sym (node_keys-put p.nodes.items us)) p.free p.spare ok

      pub pool_counts : (p : (Ir Kv).Denot) → inside_opens.count p ≡ row_count node_count (view Kv p).nodes
      pool_counts p = let n = row_count node_count p.nodes.items in let e : n + (0 + 0) ≡ n = omega arith in e

      pub pool_fills : (h : (Ir Hv).Denot) → map_pool was (view Hv h) ≡ view Kv (inside_opens.fill h)
      pool_fills h i =
          let long = sym (length-map h.nodes.items NO.fill) in
          record {
            nodes = map_nodes was h.nodes.items;
            held = long i - h.spare;
            total = long i + (min h.nodes.cap node_limit - long i);
          }

      pub pool_celled : (h : (Ir Hv).Denot) → inside_opens.cells_in h ≡ pool_cells (view Hv h)
      pool_celled h = append-nil (pool_cells (view Hv h))

      -- a pool is lent as a pool of holes
      abbrev pub pool_opens : OpensAs 𝓛 (V V') (Lr Kv) (Lr Hv) l
      pool_opens =
          view_opens 𝓛 (V V') (Ir Kv) l inside_opens (Pool P) (code Kv) (view Kv) (good Kv) (shared_of (Lr Hv)) (view Hv)
          pool_put (λ p. row_count node_count p.nodes) (map_pool was) pool_cells pool_puts pool_goods pool_counts pool_fills pool_celled
          (λ h ok. view-Hides (Ir Hv) (Pool H) (code Hv) (view Hv) (good Hv) M 𝓤 𝓛 (view Hv h) h
          (refl, IsPool-unmap was h.nodes.items h.free h.spare ok))
