-- Walks that go on from a cursor: what a step along a link does, and what a step to the next marked slot does.
use Rattle.std.proofs.Common.{◌≡◌, inl, inr, ℕ, ◌+◌, ◌-◌, ◌^◌, ◌<◌, ◌≤◌, Bool, false, List, [], ◌∷◌, length, get_or, drop, min, sym, ap, ◌∙◌, subst, arith}
use Rattle.std.specs.Prelude.{cond, nat_lt}
use Rattle.std.proofs.lemmas.Bool.{cases_lt, lt-ltb, le-ltb}
use Rattle.std.proofs.lemmas.List.{drop_more, get_or_past, get_or-map, get_or_default, length-drop, length-map}
use Rattle.intmap_table.specs.Tables.Bits.{marked, IsNextMark, IsWordFrom}
use Rattle.intmap_table.specs.Tables.Nodes.{node_limit, Node, Free, Held, empty, node_at, chain_of, row_in, rows_in, IsChain, IsSlot}
use Rattle.intmap_table.specs.Tables.Reached.{IsPosition}
use Rattle.intmap_table.specs.Tables.Slots.{joined, count_before, AreMarked, IsNextRow}
use Rattle.intmap_table.specs.declared.table.walk.Cursor.{Cursor}
use Rattle.intmap_table.proofs.Nodes.AlongLemmas.{same_first, same_rest}
use Rattle.intmap_table.proofs.Nodes.NodeLemmas.{Stop}
use Rattle.intmap_table.proofs.Nodes.PathLemmas.{Chain-next, Chain-end, Leads-limit}
use Rattle.intmap_table.proofs.Tables.AroundLemmas.{joined-before}
use Rattle.intmap_table.proofs.Tables.CursorLemmas.{before-here, before-next, before-past, drop-end}
use Rattle.intmap_table.proofs.Tables.FilledLemmas.{next-marked}
use Rattle.intmap_table.proofs.Tables.MarkedLemmas.{row-none}

-- slot i has this row
pub row-slot : {P : Type 0} (slots nodes : List (Node P)) (i : ℕ) (s t : Node P) → i < length slots → get_or slots i s ≡ t → get_or (rows_in slots nodes) i [] ≡ row_in nodes t
row-slot slots nodes i s t below at = get_or-map (row_in nodes) slots i empty [] below ∙ ap (row_in nodes) (sym (get_or_default slots i s empty below) ∙ at)

-- a row is no longer than its nodes and the first pair
slot-limit : {P : Type 0} (nodes : List (Node P)) (s : Node P) → IsSlot nodes s → length (row_in nodes s) ≤ node_limit + 1
slot-limit nodes (Free n) is = omega arith
slot-limit nodes (Held l p) is = let limit = Leads-limit nodes l (chain_of nodes l) is in omega (arith, limit)

pub row-limit : {P : Type 0} (slots nodes : List (Node P)) (i : ℕ) → ((i : ℕ) → i < length slots → IsSlot nodes (get_or slots i empty)) → length (get_or (rows_in slots nodes) i []) ≤ node_limit + 1
row-limit slots nodes i chains = elim (cases_lt i (length slots)) as (λ _. length (get_or (rows_in slots nodes) i []) ≤ node_limit + 1) [
  | inl below ↦
      let row = ap length (get_or-map (row_in nodes) slots i empty [] below) in
      let limit = slot-limit nodes (get_or slots i empty) (chains i below) in
      omega (arith, row, limit)
  | inr beyond ↦
      let len = length-map slots (row_in nodes) in
      let none = ap length (get_or_past (rows_in slots nodes) i [] (omega (arith, beyond, len))) in
      omega (arith, none)
]

module _ {P : Type 0} (slots nodes : List (Node P)) (marks : List Bool) where
  abbrev rows : List (List P)
  rows = rows_in slots nodes

  abbrev row : ℕ → List P
  row i = get_or rows i []

  -- p is the pair at place j of row i
  pub record IsOn (i j : ℕ) (p : P) : Type 0 where
    pub within : j < length (row i)
    pub is : p ≡ get_or (row i) j p

  -- at place j of a row comes p, and then those of a chain
  split : (xs : List P) (j : ℕ) (p : P) (ps : List P) → p ∷ ps ≡ drop j xs → (j < length xs) × (p ≡ get_or xs j p) × (ps ≡ drop (j + 1) xs)
  split xs j p ps e =
      let long = ap length e ∙ length-drop j xs in
      let below : j < length xs = omega (arith, long) in
      let more = e ∙ drop_more xs j p below in
      (below, same_first p (get_or xs j p) ps (drop (j + 1) xs) more, same_rest p (get_or xs j p) ps (drop (j + 1) xs) more)

  module _ (at : Cursor) (link from left_at left : ℕ) (r : IsPosition slots nodes marks at link from left_at left) where
    -- the next pair is that of the node that the link leads to
    pub Position-node : (n : ℕ) (p : P) → node_at nodes link ≡ Held n p → IsOn at.slot at.place p × IsPosition slots nodes marks (record { slot = at.slot; place = at.place + 1 }) n from left_at left
    Position-node n p is =
        let next = Chain-next nodes link n p r.chain is in
        let some = ap length next.pairs in
        let here = split (row at.slot) at.place p (chain_of nodes n) (sym next.pairs ∙ r.here (omega (arith, some))) in
        let one = before-here rows at.slot at.place here.0 in (
          record { within = here.0; is = here.1 },
          record {
            chain = next.is;
            chains = r.chains;
            bits = r.bits;
            here = λ _. here.2;
            next = (let all = r.next in omega (arith, all, some, one));
            word = r.word;
          },
        )

    module _ (stop : Stop nodes link) where
      none : length (chain_of nodes link) ≡ 0
      none = ap length (Chain-end nodes link r.chain stop)

      -- nothing lies between the cursor and the first pairs that are left
      pub before-from : count_before rows from 0 ≡ count_before rows at.slot at.place
      before-from = let all = r.next in omega (arith, all, none)

      -- if no slot is left, no pair is left
      pub Position-end : ((j : ℕ) → from ≤ j → marked marks j ≡ false) → drop (count_before rows at.slot at.place) (joined rows) ≡ []
      Position-end empty =
          ap (λ n. drop n (joined rows)) (sym before-from) ∙ drop-end rows from (λ j le. row-none (row j) (sym (r.bits.own j) ∙ empty j le))

      -- and else the next pair is the first one of the next slot
      module _ (k : ℕ) (next : IsNextMark marks from k) where
        filled : IsNextRow rows from k
        filled = next-marked rows marks r.bits from k next

        pub Position-within : k < length slots
        Position-within = let len = length-map slots (row_in nodes) in omega (arith, filled.within, len)

        pub before-slot : count_before rows k 0 ≡ count_before rows at.slot at.place
        before-slot = before-next rows from k filled ∙ before-from

        pub Position-slot : (s : Node P) (n : ℕ) (p : P) (left_at' left' : ℕ) → get_or slots k s ≡ Held n p → IsWordFrom (marked marks) (k + 1) left_at' left'
            → IsOn k 0 p × IsPosition slots nodes marks (record { slot = k; place = 1 }) n (k + 1) left_at' left'
        Position-slot s n p left_at' left' is word =
            let here : row k ≡ p ∷ chain_of nodes n = row-slot slots nodes k s (Held n p) Position-within is in
            let long = ap length here in
            let behind : get_or slots k empty ≡ Held n p = sym (get_or_default slots k s empty Position-within) ∙ is in
            let past = before-past rows k (length (row k)) (omega arith) in (
              record { within = filled.filled; is = sym (ap (λ ps. get_or ps 0 p) here) },
              record {
                chain = subst (IsSlot nodes) behind (r.chains k Position-within);
                chains = r.chains;
                bits = r.bits;
                here = λ _. sym (ap (drop 1) here);
                next = omega (arith, long, past);
                word = word;
              },
            )

        -- a marked slot holds a pair
        pub Position-filled : (s : Node P) (n : ℕ) → get_or slots k s ≡ Free n → ⊥
        Position-filled s n is =
            let some = filled.filled in let empty_row = ap length (row-slot slots nodes k s (Free n) Position-within is) in omega (arith, some, empty_row)

-- where a walk begins at a cursor
module _ {P : Type 0} (slots nodes : List (Node P)) (marks : List Bool) (at : Cursor) (link from left_at left : ℕ) where
  abbrev all_rows : List (List P)
  all_rows = rows_in slots nodes

  abbrev its_row : List P
  its_row = get_or all_rows at.slot []

  count : length all_rows ≡ length slots
  count = length-map slots (row_in nodes)

  pub Position-start : IsChain nodes link → ((i : ℕ) → i < length slots → IsSlot nodes (get_or slots i empty)) → AreMarked (rows_in slots nodes) marks
      → chain_of nodes link ≡ cond (nat_lt 0 at.place) (drop at.place (get_or (rows_in slots nodes) at.slot [])) []
      → from ≡ cond (nat_lt 0 at.place) (min (at.slot + 1) (2 ^ 64 - 1)) at.slot → length slots ≤ 2 ^ 63
      → IsWordFrom (marked marks) from left_at left → IsPosition slots nodes marks at link from left_at left
  Position-start chain chains are pairs is few word = elim (cases_lt 0 at.place) as (λ _. IsPosition slots nodes marks at link from left_at left) [
    | inl some ↦
        let yes = lt-ltb 0 at.place some in
        let here = pairs ∙ ap (λ b. cond b (drop at.place its_row) []) yes in
        let long = ap length here ∙ length-drop at.place its_row in
        let next_is = is ∙ ap (λ b. cond {A = ℕ} b (min (at.slot + 1) (2 ^ 64 - 1)) at.slot) yes in
        record {
          chain = chain;
          chains = chains;
          bits = are;
          here = λ _. here;
          next = elim (cases_lt at.slot (length slots)) as (λ _. count_before all_rows from 0 ≡ count_before all_rows at.slot at.place + length (chain_of nodes link)) [
            | inl below ↦
                let one : from ≡ at.slot + 1 = omega (arith, next_is, below, few) in
                let past = before-past all_rows at.slot (length its_row) (omega arith) in
                ap (λ i. count_before all_rows i 0) one ∙ omega (arith, past, long)
            | inr beyond ↦
                let none = ap length (get_or_past all_rows at.slot [] (omega (arith, beyond, count))) in
                let all = ap length (joined-before from all_rows (λ k le. get_or_past all_rows k [] (omega (arith, le, next_is, beyond, few, count)))) in
                let both = ap length (joined-before at.slot all_rows (λ k le. get_or_past all_rows k [] (omega (arith, le, beyond, count)))) in
                omega (arith, none, all, both, long)
          ];
          word = word;
        }
    | inr zero ↦
        let no : nat_lt 0 at.place ≡ false = le-ltb 0 at.place zero in
        let none = ap length (pairs ∙ ap (λ b. cond b (drop at.place its_row) []) no) in
        let same = is ∙ ap (λ b. cond {A = ℕ} b (min (at.slot + 1) (2 ^ 64 - 1)) at.slot) no in
        record {
          chain = chain;
          chains = chains;
          bits = are;
          here = λ led. absurd (omega (arith, led, none));
          next = ap (λ i. count_before all_rows i 0) same ∙ omega (arith, zero, none);
          word = word;
        }
  ]
