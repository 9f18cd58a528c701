use Rattle.std.proofs.Common.{rules, arith, ◌≡◌, ◌≤◌, ◌-◌, ℕ, [], ◌∷◌, ◌++◌, List, length, replicate, take, refl, ap, sym, ◌∙◌}
use Rattle.std.proofs.lemmas.List.{length-append, take_all}
use Rattle.std.specs.List.{FoldsTo, AppendsResults}
use Rattle.intmap_table.specs.Tables.Nodes.{empty}
use Rattle.intmap_table.proofs.Tables.MemoryLemmas.{OnOk-at}
use Rattle.intmap_table.proofs.table.slots.add_empty.Goals as goal

-- if each call returns the same, so many of it are there
all_same : {F X : Type 0} {step : F → X → F → Type 0} (f : F) (xs : List X) (last : F) → FoldsTo step f xs last → (z : X) → ((f f' : F) (x : X) → step f x f' → x ≡ z) → xs ≡ replicate (length xs) z
all_same f [] last runs z same = refl
all_same f (x ∷ xs) last runs z same = ap (λ y. y ∷ xs) (same f runs.0 x runs.1) ∙ ap (λ ys. z ∷ ys) (all_same runs.0 xs last runs.2 z same)

-- a longer vector then has them behind its items
added : {F X : Type 0} {step : F → X → F → Type 0} (old new : List X) {f : F} (n : ℕ) → AppendsResults step (take n old) new f → length old ≤ n → length new ≡ n → (z : X) → ((f f' : F) (x : X) → step f x f' → x ≡ z) → new ≡ old ++ replicate (n - length old) z
added old new {f = f} n ran more len z same =
    let all : new ≡ old ++ ran.0 = ran.2 ∙ ap (λ xs. xs ++ ran.0) (take_all n old more) in
    let sum = ap length all ∙ length-append old ran.0 in
    let count : length ran.0 ≡ n - length old = omega (arith, sum, len, more) in
    all ∙ ap (λ xs. old ++ xs) (all_same f ran.0 ran.1 ran.3 z same ∙ ap (λ m. replicate m z) count)

pub returns-clause-items : goal.returns-clause-items
returns-clause-items g c =
    let accepted = sym c.is_err.ensures.value ∙ c.if-is_err.false in
    let ran = OnOk-at c.resize_with.result _ accepted c.resize_with.ensures.items in
    let len = OnOk-at c.resize_with.result _ accepted c.resize_with.ensures.len in
    let items : length c.resize_with.new.self.items ≡ c.args.count = omega (arith, len) in
    added c.args.slots.now.items c.resize_with.new.self.items c.args.count ran c.requires.more items empty (λ f f' x called. search rules)
