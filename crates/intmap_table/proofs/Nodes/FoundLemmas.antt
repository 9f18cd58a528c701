-- The pair in the node at which a search of a chain ended.
use Rattle.std.proofs.Common.{◌≡◌, ℕ, List, Some, sym, ap, ◌∙◌}
use Rattle.std.specs.Prelude.{position}
use Rattle.std.proofs.lemmas.Bool.{eqb-true}
use Rattle.std.proofs.lemmas.List.Quantifiers.{position-Some}
use Rattle.intmap_table.specs.Bindings.{value_of}
use Rattle.intmap_table.specs.Classes.{same_key}
use Rattle.intmap_table.specs.Tables.Nodes.{Node, Held, node_at, chain_of, IsNodeAt}
use Rattle.intmap_table.proofs.Nodes.ChainLemmas.{NodeAt-value}
use Rattle.intmap_table.proofs.Nodes.PathLemmas.{NodeAt-some}
use Rattle.intmap_table.proofs.PositionLemmas.{position-within, first_value-position}

module _ {K X : Type 0} (number : K → ℕ) (cs : List (Node (K × X))) (from i c : ℕ) (k : K) (at : IsNodeAt cs from i c)
    (found : position (λ p. same_key number k p.0) (chain_of cs from) ≡ Some i) where
  -- it holds one
  pub Found-some : (n : ℕ) × (p : K × X) × (node_at cs c ≡ Held n p)
  Found-some = NodeAt-some cs from i c at (position-within (λ (p : K × X). same_key number k p.0) (chain_of cs from) i found).1

  module _ (n : ℕ) (p : K × X) (held : node_at cs c ≡ Held n p) where
    -- which has the key's number
    pub Found-number : number p.0 ≡ number k
    Found-number =
        let passes = (position-Some (λ (q : K × X). same_key number k q.0) (chain_of cs from) i p found).1 in
        ap (λ (q : K × X). number q.0) (NodeAt-value cs from i c n p at held) ∙ eqb-true _ _ passes

    -- and its value
    pub Found-value : value_of number (chain_of cs from) k ≡ Some p.1
    Found-value =
        first_value-position (same_key number k) (chain_of cs from) i p found
        ∙ ap (λ (q : K × X). Some q.1) (sym (NodeAt-value cs from i c n p at held))
