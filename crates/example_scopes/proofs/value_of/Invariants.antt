use Rattle.std.proofs.Common.{◌≡◌}
use Rattle.std.specs.Iterator.Adapters.{rev_source}
use Rattle.std.specs.Slice.Iter.{iter_rest}
use Rattle.example_scopes.specs.Scopes.{value_in}
use Rattle.example_scopes.proofs.value_of.Given as goal

-- no scope that was passed defines the symbol
abbrev pub invariant-loop-scope : goal.invariant-loop-scope
invariant-loop-scope l = value_in l.scopes l.symbol ≡ value_in (iter_rest (rev_source l.scope-iterator)) l.symbol
