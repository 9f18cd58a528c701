-- Why a session ends early.
use Rattle.std.specs.Prelude.{ℕ, List, [], ◌∷◌, ◌++◌, ⊤, codes}
use Rattle.std.specs.Fmt.{decimal}
use Rattle.intmap_text.specs.declared.fault.Fault.{Fault}
use Rattle.intmap_text.specs.declared.fault.Fault.TheVariants as fault
use Rattle.intmap_text.specs.Commands.{SpellsNone, IsFirstUnknown}

-- the exit status
abbrev pub status_of : Fault → ℕ
status_of (fault.NotACommand n) = 2
status_of fault.Memory = 3
status_of fault.Input = 4
status_of fault.Output = 4

-- the line that reports the fault, with the byte 10 at its end
abbrev pub report_of : Fault → List ℕ
report_of (fault.NotACommand n) = codes "line " ++ decimal n ++ codes ": not a command" ++ 10 ∷ []
report_of fault.Memory = codes "no memory" ++ 10 ∷ []
report_of fault.Input = codes "input failed" ++ 10 ∷ []
report_of fault.Output = codes "output failed" ++ 10 ∷ []

-- why a text has no answers: it spells no list of commands, with the number of its first line that is no command, or there is no memory
abbrev pub IsRefused : Type 0 → List ℕ → Fault → Type 0
IsRefused A text (fault.NotACommand n) = SpellsNone A text × IsFirstUnknown A text n
IsRefused A text fault.Memory = ⊤
IsRefused A text fault.Input = ⊥
IsRefused A text fault.Output = ⊥
