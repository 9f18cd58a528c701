use Rattle.std.proofs.Common.{ℕ, ◌≡◌, ◌+◌, ◌∷◌, Bool, true, false, Some, None, sym, ap, ◌∙◌}
use Rattle.std.specs.Prelude.{position}
use Rattle.intmap_table.specs.Classes.{same_key}
use Rattle.intmap_table.specs.Tables.Nodes.{chain_of, row_in}
use Rattle.intmap_table.proofs.Nodes.PassedLemmas.{Passed-start, position-found}
use Rattle.intmap_table.proofs.Nodes.SlotLemmas.{first_was}
use Rattle.intmap_table.proofs.Nodes.TakenLemmas.{Taken-at, Taken-none, Taken-value}
use Rattle.intmap_table.proofs.PositionLemmas.{position-within, position-behind, position-no_more, first_value-none}
use Rattle.intmap_table.proofs.linked.row.removal.remove_of_several.Goals as goal
use Rattle.intmap_table.proofs.linked.row.removal.remove_of_several.Goals.{After-matches}

module _ (g : _) (c : After-matches g) where
  abbrev test : g.row.K.Denot × g.row.X.Denot → Bool
  test p = same_key g.K.IntKey.number_of c.args.key p.0

  -- the first pair and those behind it
  row : row_in c.args.pool.now.nodes c.args.slot.now ≡ c.requires.filled.0 ∷ chain_of c.args.pool.now.nodes c.args.link
  row = ap (row_in c.args.pool.now.nodes) c.requires.filled.1

  -- the first pair is the one that was compared
  compared : test c.requires.filled.0 ≡ c.matches.result
  compared =
      ap test (sym (first_was c.args.slot.now c.args.link c.requires.filled.0 c.in-Some.first.now c.in-Some.field-0-0 c.requires.filled.1 c.in-Some.ensures.some)) ∙ sym c.matches.ensures.same

  -- so it is the one sought
  first : c.matches.result ≡ true → position test (row_in c.args.pool.now.nodes c.args.slot.now) ≡ Some 0
  first passes =
      let pairs = row_in c.args.pool.now.nodes c.args.slot.now in
      position-found test pairs 0 pairs c.requires.filled.0 (chain_of c.args.pool.now.nodes c.args.link) (Passed-start test pairs) row (compared ∙ passes)

  -- or it isn't, and one behind it is, or none
  behind : c.matches.result ≡ false → (i : ℕ) → position test (chain_of c.args.pool.now.nodes c.args.link) ≡ Some i → position test (row_in c.args.pool.now.nodes c.args.slot.now) ≡ Some (i + 1)
  behind fails i found = position-behind test (row_in c.args.pool.now.nodes c.args.slot.now) c.requires.filled.0 (chain_of c.args.pool.now.nodes c.args.link) i row (compared ∙ fails) found

  missing : c.matches.result ≡ false → position test (chain_of c.args.pool.now.nodes c.args.link) ≡ None → position test (row_in c.args.pool.now.nodes c.args.slot.now) ≡ None
  missing fails none = position-no_more test (row_in c.args.pool.now.nodes c.args.slot.now) c.requires.filled.0 (chain_of c.args.pool.now.nodes c.args.link) row (compared ∙ fails) none

pub returns-then-matches-clause-value : goal.returns-then-matches-clause-value
returns-then-matches-clause-value g c =
    let at = (goal.at.returns-then-matches-clause-value g c).After-matches in
    Taken-value (same_key g.K.IntKey.number_of c.args.key) c.args.pool.now c.args.slot.now 0 c.swap_remove_first-value.result c.swap_remove_first-value.new.pool c.swap_remove_first-value.new.slot (first g at c.if-matches.true) c.swap_remove_first-value.ensures.row

pub returns-then-matches-clause-row : goal.returns-then-matches-clause-row
returns-then-matches-clause-row g c =
    let at = (goal.at.returns-then-matches-clause-row g c).After-matches in
    Taken-at (test g at) c.args.pool.now c.args.slot.now 0 c.swap_remove_first-value.result c.swap_remove_first-value.new.pool c.swap_remove_first-value.new.slot (first g at c.if-matches.true) c.swap_remove_first-value.ensures.row

pub returns-in_default-search-clause-value : goal.returns-in_default-search-clause-value
returns-in_default-search-clause-value g c =
    let none = missing g (goal.at.returns-in_default-search-clause-value g c).After-matches c.if-matches.false c.in_default-search.ensures.missing in
    sym (first_value-none (same_key g.K.IntKey.number_of c.args.key) (row_in c.args.pool.now.nodes c.args.slot.now) none)

pub returns-in_default-search-clause-row : goal.returns-in_default-search-clause-row
returns-in_default-search-clause-row g c =
    let at = (goal.at.returns-in_default-search-clause-row g c).After-matches in
    Taken-none (test g at) c.args.pool.now c.args.slot.now (rw c.requires.filled.1 c.requires.leads) (missing g at c.if-matches.false c.in_default-search.ensures.missing)

pub swap_remove_behind-value-requires : goal.swap_remove_behind-value-requires
swap_remove_behind-value-requires g c =
    let at = (goal.at.swap_remove_behind-value-requires g c).After-matches in
    let spot = c.in-Ok.spot in let told = c.in-Ok.ensures in let first = c.requires.filled in
    (c.args.link, spot.place, first.0, first.1, (position-within (test g at) (chain_of c.args.pool.now.nodes c.args.link) spot.place told.place).1, told.found)

pub returns-clause-value : goal.returns-clause-value
returns-clause-value g c =
    let at = (goal.at.returns-clause-value g c).After-matches in
    let spot = c.in-Ok.spot in let told = c.in-Ok.ensures in let p = c.requires.filled in
    Taken-value (same_key g.K.IntKey.number_of c.args.key) c.args.pool.now c.args.slot.now (spot.place + 1) c.swap_remove_behind-value.result c.swap_remove_behind-value.new.pool c.swap_remove_behind-value.new.slot
    (behind g at c.if-matches.false spot.place told.place) (c.swap_remove_behind-value.ensures.row c.args.link spot.place p.0 p.1 told.found)

pub returns-clause-row : goal.returns-clause-row
returns-clause-row g c =
    let at = (goal.at.returns-clause-row g c).After-matches in
    let spot = c.in-Ok.spot in let told = c.in-Ok.ensures in let p = c.requires.filled in
    Taken-at (test g at) c.args.pool.now c.args.slot.now (spot.place + 1) c.swap_remove_behind-value.result c.swap_remove_behind-value.new.pool c.swap_remove_behind-value.new.slot
    (behind g at c.if-matches.false spot.place told.place) (c.swap_remove_behind-value.ensures.row c.args.link spot.place p.0 p.1 told.found)
