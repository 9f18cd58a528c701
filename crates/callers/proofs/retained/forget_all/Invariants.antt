use Rattle.std.proofs.Common.{◌≡◌, ◌++◌, length}
use Rattle.std.specs.Prelude.{◌==◌, filter, not}
use Rattle.intmap.specs.Extracting.{extracted_map, extract_kept, extract_lender, extract_rest, extract_test}
use Rattle.intmap.specs.Map.{with_walk}
use Rattle.callers.proofs.retained.forget_all.Given as goal

abbrev pub invariant-loop-name : goal.invariant-loop-name
invariant-loop-name l = record {
  depth : (extract_test l.left).0 ≡ l.fn.depth;
  stays : extract_kept l.left ++ filter (λ name. not (name.1.depth == l.fn.depth)) (extract_rest l.left) ≡ filter (λ name. not (name.1.depth == l.fn.depth)) l.fn.names.walk;
  map : extracted_map l.left ≡ with_walk l.fn.names (extracted_map l.left).walk;
  lender : extract_lender l.left ≡ extract_lender l.initial.left;
}

abbrev pub decreases-loop-name : goal.decreases-loop-name
decreases-loop-name l = length (extract_rest l.left)
