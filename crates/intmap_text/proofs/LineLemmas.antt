-- Lines and the commands that they say.
use Rattle.std.proofs.Common.{arith, inl, inr, ◌≡◌, ◌≢◌, ℕ, ◌+◌, ◌≤◌, ◌==◌, Bool, cond, List, [], ◌∷◌, ◌++◌, map, filter, length, refl, ap, sym, ◌∙◌, subst, Bor}
use Rattle.std.specs.List.{AllZip, All}
use Rattle.std.proofs.lemmas.List.{map-append, append-nil, length-append, length-map}
use Rattle.std.proofs.lemmas.List.Elements.{filter-append, All-cons, All-nil}
use Rattle.std.proofs.lemmas.List.Sums.{count_by-le-length}
use Rattle.std.proofs.lemmas.List.Splits.{length-slice_split}
use Rattle.intmap.proofs.CloneLemmas.{AllZip-append}
use Rattle.intmap_run.specs.declared.command.Command.{Command}
use Rattle.intmap_text.specs.Lines.{is_filled, lines_in, words_of, rows_of}
use Rattle.intmap_text.specs.Commands.{Says, SpellsNone, IsUnknown, IsKnown, IsFirstUnknown}

-- the lines say these commands, one for each line that has a word
abbrev pub LinesSay : {A : Type 0} → List (List ℕ) → List (Command ℕ ℕ A) → Type 0
LinesSay lines commands = AllZip Says (rows_of lines) commands

-- the rows of lines, and of more lines behind them
rows_of-append : (xs ys : List (List ℕ)) → rows_of (xs ++ ys) ≡ rows_of xs ++ rows_of ys
rows_of-append xs ys =
    ap (filter is_filled) (map-append words_of xs ys)
    ∙ filter-append is_filled (map words_of xs) (map words_of ys)

-- words that say a command are a row
said_row : {A : Type 0} (words : List (List ℕ)) (c : Command ℕ ℕ A) → Says words c
    → AllZip Says (filter is_filled (words ∷ [])) (c ∷ [])
said_row [] c said = absurd said
said_row (w ∷ ws) c said = (said, tt)

-- one line more, which says a command
pub command_more : {A : Type 0} (lines : List (Bor (List ℕ))) (line : Bor (List ℕ)) (cs : List (Command ℕ ℕ A))
    (c : Command ℕ ℕ A) → LinesSay (map (λ l. l.now) lines) cs → Says (words_of line.now) c
    → LinesSay (map (λ l. l.now) (lines ++ line ∷ [])) (cs ++ c ∷ [])
command_more lines line cs c h said =
    let before = map (λ l. l.now) lines in
    let row = said_row (words_of line.now) c said in
    let both = AllZip-append Says (rows_of before) (rows_of (line.now ∷ [])) cs (c ∷ []) h row in
    let rows = rows_of-append before (line.now ∷ []) in
    let all = ap rows_of (map-append (λ l. l.now) lines (line ∷ [])) ∙ rows in
    subst (λ r. AllZip Says r (cs ++ c ∷ [])) (sym all) both

-- if the first line has words that say none, the lines say no commands
none_here : {A : Type 0} (words : List (List ℕ)) (rows : List (List (List ℕ))) (cs : List (Command ℕ ℕ A))
    → words ≢ [] → ((c : Command ℕ ℕ A) → ¬ Says words c)
    → AllZip Says (cond (is_filled words) (words ∷ rows) rows) cs → ⊥
none_here [] rows cs filled none h = filled refl
none_here (w ∷ ws) rows [] filled none h = h
none_here (w ∷ ws) rows (c ∷ cs) filled none h = none c h.0

-- if the later lines say no commands, no line before them changes that
none_later : {A : Type 0} (words : List (List ℕ)) (rows : List (List (List ℕ))) (cs : List (Command ℕ ℕ A))
    → ((ds : List (Command ℕ ℕ A)) → ¬ AllZip Says rows ds)
    → AllZip Says (cond (is_filled words) (words ∷ rows) rows) cs → ⊥
none_later [] rows cs none h = none cs h
none_later (w ∷ ws) rows [] none h = h
none_later (w ∷ ws) rows (c ∷ cs) none h = none cs h.1

-- lines of which one has words that say no command
none_said : {A : Type 0} (before : List (List ℕ)) (line : List ℕ) (after : List (List ℕ))
    → words_of line ≢ [] → ((c : Command ℕ ℕ A) → ¬ Says (words_of line) c)
    → (cs : List (Command ℕ ℕ A)) → ¬ LinesSay (before ++ line ∷ after) cs
none_said [] line after filled none cs h =
    none_here (words_of line) (rows_of after) cs filled none h
none_said (x ∷ xs) line after filled none cs h =
    let rows = rows_of (xs ++ line ∷ after) in
    none_later (words_of x) rows cs (none_said xs line after filled none) h

-- one line more, which is blank
pub blank_more : {A : Type 0} (lines : List (Bor (List ℕ))) (line : Bor (List ℕ)) (cs : List (Command ℕ ℕ A))
    → LinesSay (map (λ l. l.now) lines) cs → words_of line.now ≡ []
    → LinesSay (map (λ l. l.now) (lines ++ line ∷ [])) cs
blank_more lines line cs h blank =
    let before = map (λ l. l.now) lines in
    let row : rows_of (line.now ∷ []) ≡ [] = rw blank refl in
    let all = ap rows_of (map-append (λ l. l.now) lines (line ∷ [])) ∙ rows_of-append before (line.now ∷ []) in
    let rows = all ∙ ap (λ r. rows_of before ++ r) row ∙ append-nil (rows_of before) in
    subst (λ r. AllZip Says r cs) (sym rows) h

-- each line is blank or says a command
abbrev AreKnown : Type 0 → List (List ℕ) → Type 0
AreKnown A lines = All (λ l. IsKnown A (words_of l)) lines

-- the first of the lines that say commands is blank or says one, and the others say commands
known_first : {A : Type 0} (words : List (List ℕ)) (rows : List (List (List ℕ)))
    (cs : List (Command ℕ ℕ A)) → AllZip Says (cond (is_filled words) (words ∷ rows) rows) cs
    → IsKnown A words × ((ds : List (Command ℕ ℕ A)) × AllZip Says rows ds)
known_first [] rows cs h = (inl refl, (cs, h))
known_first (w ∷ ws) rows [] h = absurd h
known_first (w ∷ ws) rows (c ∷ cs) h = (inr (c, h.0), (cs, h.1))

-- lines that say commands are each blank or say one
known_said : {A : Type 0} (lines : List (List ℕ)) (cs : List (Command ℕ ℕ A)) → LinesSay lines cs
    → AreKnown A lines
known_said {A} [] cs h = All-nil (λ l. IsKnown A (words_of l))
known_said {A} (l ∷ ls) cs h =
    let first = known_first (words_of l) (rows_of ls) cs h in
    All-cons (λ l. IsKnown A (words_of l)) l ls first.0 (known_said ls first.1.0 first.1.1)

-- one more than a list's length is the length with one more
pub one_more : {X : Type 0} (xs : List X) (x : X) (n : ℕ) → n ≡ length xs → n + 1 ≡ length (xs ++ x ∷ [])
one_more xs x n counted = rw (length-append xs (x ∷ [])) (ap (λ m. m + 1) counted)

-- a text has at most one line more than bytes
pub few_lines : (text : List ℕ) (before : List (Bor (List ℕ))) (after : List (List ℕ))
    → lines_in text ≡ map (λ l. l.now) before ++ after → length before ≤ length text + 1
few_lines text before after all =
    let lines = map (λ l. l.now) before in
    let ends : ℕ → Bool = λ b. b == 10 in
    let bytes = count_by-le-length ends text in
    omega (arith, ap length all, length-append lines after, length-map before (λ l. l.now), length-slice_split ends text, bytes)

-- behind lines that are blank or commands, one with words that say none is the first such, and the text spells no commands
pub first_unknown : {A : Type 0} (text : List ℕ) (before : List (Bor (List ℕ))) (line : List ℕ) (after : List (List ℕ)) (n : ℕ)
    (cs : List (Command ℕ ℕ A))
    → lines_in text ≡ map (λ l. l.now) before ++ line ∷ after → n ≡ length before
    → LinesSay (map (λ l. l.now) before) cs → IsUnknown A (words_of line)
    → SpellsNone A text × IsFirstUnknown A text (n + 1)
first_unknown text before line after n cs all counted said unknown =
    let lines = map (λ l. l.now) before in (
      λ ds spelled. none_said lines line after unknown.0 unknown.1 ds (subst (λ ls. LinesSay ls ds) all spelled),
      record {
        before = lines;
        line = line;
        after = after;
        lines = all;
        number = rw (length-map before (λ l. l.now)) (ap (λ m. m + 1) counted);
        known = known_said lines cs said;
        unknown = unknown;
      },
    )
