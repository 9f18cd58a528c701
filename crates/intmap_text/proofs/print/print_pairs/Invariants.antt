use Rattle.std.proofs.Common.{◌≡◌, ◌++◌, take, codes, string_bytes}
use Rattle.std.specs.List.{flat_map}
use Rattle.intmap_text.specs.Printing.{pair_text}
use Rattle.intmap_text.proofs.print.print_pairs.Given as goal

-- the pairs so far are written behind the text before the loop
abbrev pub invariant-loop-key : goal.invariant-loop-key
invariant-loop-key g l =
    let more = flat_map (λ p. codes ", " ++ pair_text p) (take l.key-index l.rest) in
    string_bytes l.out ≡ string_bytes l.initial.out ++ more
