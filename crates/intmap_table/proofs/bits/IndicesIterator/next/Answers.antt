use Rattle.std.proofs.Common.{◌≡◌, ◌∷◌, ◌∙◌, sym, ap, arith, List, ℕ, []}
use Rattle.intmap_table.specs.Tables.Bits.{indices_from}
use Rattle.intmap_table.proofs.Tables.BitsLemmas.{indices_from-word, indices_from-zero, indices_from-none}
use Rattle.intmap_table.proofs.bits.IndicesIterator.next.Goals as goal

pub returns-then-self-ne0-clause-steps : goal.returns-then-self-ne0-clause-steps
returns-then-self-ne0-clause-steps c =
    let inside = c.loop-self.self-inside in
    sym c.loop-self.invariant.left ∙ indices_from-word inside.base inside.word inside.words.now (omega arith) (omega arith)

pub returns-then-self-ne0-clause-goes : goal.returns-then-self-ne0-clause-goes
returns-then-self-ne0-clause-goes c =
    let inside = c.loop-self.self-inside in
    let steps = sym c.loop-self.invariant.left ∙ indices_from-word inside.base inside.word inside.words.now (omega arith) (omega arith) in
    grind (arith, steps)

pub returns-in_default-clause-steps : goal.returns-in_default-clause-steps
returns-in_default-clause-steps c =
    let inside = c.loop-self.self-inside in
    let none : indices_from inside.base (inside.word ∷ inside.words.now) ≡ [] =
    ap (λ (w : ℕ). indices_from inside.base (w ∷ inside.words.now)) c.if-self-ne0.false ∙ indices_from-none inside.base inside.words.now c.in_default.ensures.cases in
    (sym c.loop-self.invariant.left ∙ none, none)

pub loop-self-preserved : goal.loop-self-preserved
loop-self-preserved c =
    let inside = c.loop-self.self-inside in
    record {
      left =
          sym (indices_from-zero inside.base (c.in-Some.word.now ∷ c.in-Some.words.now))
          ∙ ap (λ (ws : List ℕ). indices_from inside.base (0 ∷ ws)) (sym c.in-Some.ensures.cases.0)
          ∙ ap (λ (w : ℕ). indices_from inside.base (w ∷ inside.words.now)) (sym c.if-self-ne0.false)
          ∙ c.loop-self.invariant.left;
      few = let l = c.in-Some.ensures.cases.1 in let f = c.loop-self.invariant.few in omega (arith, l, f);
    }
