-- Words that say no command.
use Rattle.std.proofs.Common.{◌≡◌, ◌≢◌, codes, ℕ, List, [], ◌∷◌, Option, Some, None, IfNone}
use Rattle.std.specs.List.{AllZip}
use Rattle.std.specs.Fmt.{decimal}
use Rattle.std.proofs.lemmas.Fmt.{decimal_injective}
use Rattle.intmap_run.specs.declared.command.Command.{Command}
use Rattle.intmap_text.specs.Words.{numbers_of, IsSpelled}
use Rattle.intmap_text.specs.Commands.{IsNumeral, Says}

-- words write one list of numbers alone
same_numbers : (words : List (List ℕ)) (ms ns : List ℕ) → AllZip IsNumeral words ms
    → AllZip IsNumeral words ns → ms ≡ ns
same_numbers [] [] [] f g = cc
same_numbers [] [] (n ∷ ns) f g = absurd g
same_numbers [] (m ∷ ms) ns f g = absurd f
same_numbers (w ∷ ws) [] ns f g = absurd f
same_numbers (w ∷ ws) (m ∷ ms) [] f g = absurd g
same_numbers (w ∷ ws) (m ∷ ms) (n ∷ ns) f g =
    let written : decimal m ≡ decimal n = let one = f.0.0 in let other = g.0.0 in cc in
    let first = decimal_injective m n f.0.1 g.0.1 written in
    let rest = same_numbers ws ms ns f.1 g.1 in
    cc

-- if no command has this name and the numbers that the words write, they say none
pub says_none : {A : Type 0} (name : List ℕ) (words : List (List ℕ)) (ns : List ℕ) → AllZip IsNumeral words ns
    → (found : Option (Command ℕ ℕ A)) → IfNone found (name ≢ codes "extend" → (c : Command ℕ ℕ A) → ¬ IsSpelled name ns c)
    → IfNone found (name ≢ codes "extend" → (c : Command ℕ ℕ A) → ¬ Says (name ∷ words) c)
says_none name words ns written (Some c) none = tt
says_none name words ns written None none = λ other c said.
    none other c (said.0, same_numbers words (numbers_of c) ns said.1 written)
