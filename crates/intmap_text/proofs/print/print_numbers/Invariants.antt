use Rattle.std.proofs.Common.{◌≡◌, ◌++◌, take, codes, string_bytes}
use Rattle.std.specs.Fmt.{decimal}
use Rattle.std.specs.List.{flat_map}
use Rattle.intmap_text.proofs.print.print_numbers.Given as goal

-- the numbers so far are written behind the text before the loop
abbrev pub invariant-loop-number : goal.invariant-loop-number
invariant-loop-number g l =
    let more = flat_map (λ n. codes ", " ++ decimal n) (take l.number-index l.rest) in
    string_bytes l.out ≡ string_bytes l.initial.out ++ more
