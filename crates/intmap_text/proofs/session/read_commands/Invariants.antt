use Rattle.std.proofs.Common.{◌≡◌, ◌++◌, map, length}
use Rattle.intmap_text.specs.Lines.{lines_in}
use Rattle.intmap_text.proofs.LineLemmas.{LinesSay}
use Rattle.intmap_text.proofs.session.read_commands.Given as goal

-- the lines so far are counted, and say what was found and nothing else; the others are left
abbrev pub invariant-loop-line : goal.invariant-loop-line
invariant-loop-line g l = record {
  said : LinesSay (map (λ line. line.now) l.yielded) l.found.items;
  left : lines_in l.text ≡ map (λ line. line.now) l.yielded ++ l.line-iterator;
  counted : l.number ≡ length l.yielded;
}
