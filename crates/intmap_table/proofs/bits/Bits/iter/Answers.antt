use Rattle.std.proofs.Common.{◌≡◌, ◌∷◌, ◌∙◌, sym, ap, refl, [], List, Bool, ℕ, length}
use Rattle.intmap_table.specs.Tables.Bits.{marks_of, marked_indices}
use Rattle.intmap_table.proofs.Tables.BitsLemmas.{marked_indices-none, indices_from-start, indices_from-none}
use Rattle.intmap_table.proofs.bits.Bits.iter.Goals as goal

pub returns-in-Some : goal.returns-in-Some
returns-in-Some g c =
    let whole : c.in-Some.word.now ∷ c.in-Some.words.now ≡ c.self.inside.words.items = sym c.in-Some.ensures.cases.0 ∙ c.deref.ensures.value in
    indices_from-start (c.in-Some.word.now ∷ c.in-Some.words.now) ∙ ap (λ (ws : List ℕ). marked_indices (marks_of ws)) whole ∙ ap (λ (marks : List Bool). marked_indices marks) c.self.view_is

pub returns-in-None : goal.returns-in-None
returns-in-None g c =
    let none = ap (λ (ws : List ℕ). length ws) (sym c.deref.ensures.value) ∙ c.in-None.ensures.cases in
    indices_from-none 0 [] refl ∙ sym (marked_indices-none c.self.inside.words.items none) ∙ ap (λ (marks : List Bool). marked_indices marks) c.self.view_is
