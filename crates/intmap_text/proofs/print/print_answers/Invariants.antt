use Rattle.std.proofs.Common.{◌≡◌, string_bytes}
use Rattle.intmap_text.specs.Printing.{lines_of}
use Rattle.intmap_text.proofs.print.print_answers.Given as goal

-- the lines of the answers so far are written
abbrev pub invariant-loop-answer : goal.invariant-loop-answer
invariant-loop-answer g l = string_bytes l.out ≡ lines_of l.yielded
