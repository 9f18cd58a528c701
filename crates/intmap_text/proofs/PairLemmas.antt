-- Words that write pairs, two words a pair.
use Rattle.std.proofs.Common.{◌≡◌, ℕ, List, [], ◌∷◌, ◌++◌, ap, sym, ◌∙◌, subst, append_assoc}
use Rattle.std.specs.List.{AllZip}
use Rattle.intmap_text.specs.Words.{keys_and_values}
use Rattle.intmap_text.specs.Commands.{IsNumeral}

-- the words write the keys and values of the pairs in turn
abbrev pub SpellsPairs : List (List ℕ) → List (ℕ × ℕ) → Type 0
SpellsPairs words pairs = AllZip IsNumeral words (keys_and_values pairs)

-- the words begin with those that write the pairs, and these are left
pub record HaveRead (words : List (List ℕ)) (pairs : List (ℕ × ℕ)) (left : List (List ℕ)) : Type 0 where
  pub front : List (List ℕ)
  pub split : words ≡ front ++ left
  pub written : SpellsPairs front pairs

-- words that write pairs, and two more words that write one
pairs_more : (front : List (List ℕ)) (pairs : List (ℕ × ℕ)) (key value : List ℕ) (pair : ℕ × ℕ)
    → SpellsPairs front pairs → IsNumeral key pair.0 → IsNumeral value pair.1
    → SpellsPairs (front ++ key ∷ value ∷ []) (pairs ++ pair ∷ [])
pairs_more [] [] key value pair written k v = (k, (v, tt))
pairs_more [] (p ∷ ps) key value pair written k v = absurd written
pairs_more (w ∷ ws) [] key value pair written k v = absurd written
pairs_more (w ∷ []) (p ∷ ps) key value pair written k v = absurd written.1
pairs_more (w ∷ u ∷ ws) (p ∷ ps) key value pair written k v =
    (written.0, (written.1.0, pairs_more ws ps key value pair written.1.1 k v))

-- one pair more
pub pair_read : (words : List (List ℕ)) (pairs : List (ℕ × ℕ)) (left more rest : List (List ℕ))
    (key value : List ℕ) (pair : ℕ × ℕ) → HaveRead words pairs left → left ≡ key ∷ more
    → more ≡ value ∷ rest → IsNumeral key pair.0 → IsNumeral value pair.1
    → HaveRead words (pairs ++ pair ∷ []) rest
pair_read words pairs left more rest key value pair read first second k v =
    let two : left ≡ key ∷ value ∷ rest = cc in
    record {
      front = read.front ++ key ∷ value ∷ [];
      split =
          read.split ∙ ap (λ ws. read.front ++ ws) two
          ∙ sym (append_assoc read.front (key ∷ value ∷ []) rest);
      written = pairs_more read.front pairs key value pair read.written k v;
    }

-- if all words write pairs, and those at the front write some, the others write the rest
left_pairs : (front left : List (List ℕ)) (some all : List (ℕ × ℕ)) → SpellsPairs front some
    → SpellsPairs (front ++ left) all → (rest : List (ℕ × ℕ)) × SpellsPairs left rest
left_pairs [] left [] all written h = (all, h)
left_pairs [] left (p ∷ ps) all written h = absurd written
left_pairs (w ∷ ws) left [] all written h = absurd written
left_pairs (w ∷ []) left (p ∷ ps) all written h = absurd written.1
left_pairs (w ∷ u ∷ ws) left (p ∷ ps) [] written h = absurd h
left_pairs (w ∷ u ∷ ws) left (p ∷ ps) (q ∷ qs) written h =
    left_pairs ws left ps qs written.1.1 h.1.1

-- one word writes no pairs
one_word : (word : List ℕ) (pairs : List (ℕ × ℕ)) → ¬ SpellsPairs (word ∷ []) pairs
one_word word [] h = h
one_word word (p ∷ ps) h = h.1

-- two words of which one writes no number write no pair
no_pair : (key value : List ℕ) (rest : List (List ℕ)) (pairs : List (ℕ × ℕ))
    → ((k v : ℕ) → IsNumeral key k → ¬ IsNumeral value v) → ¬ SpellsPairs (key ∷ value ∷ rest) pairs
no_pair key value rest [] none h = h
no_pair key value rest (p ∷ ps) none h = none p.0 p.1 h.0 h.1.0

-- if only one word is left, the words write no pairs
pub odd_words : (words : List (List ℕ)) (pairs : List (ℕ × ℕ)) (left more : List (List ℕ))
    (key : List ℕ) → HaveRead words pairs left → left ≡ key ∷ more → more ≡ []
    → (all : List (ℕ × ℕ)) → ¬ SpellsPairs words all
odd_words words pairs left more key read first last all h =
    let one : left ≡ key ∷ [] = cc in
    let split = read.split ∙ ap (λ ws. read.front ++ ws) one in
    let whole = subst (λ ws. SpellsPairs ws all) split h in
    let rest = left_pairs read.front (key ∷ []) pairs all read.written whole in
    one_word key rest.0 rest.1

-- if the next two words don't write a pair, the words write no pairs
pub unread_words : (words : List (List ℕ)) (pairs : List (ℕ × ℕ)) (left more rest : List (List ℕ))
    (key value : List ℕ) → HaveRead words pairs left → left ≡ key ∷ more → more ≡ value ∷ rest
    → ((k v : ℕ) → IsNumeral key k → ¬ IsNumeral value v)
    → (all : List (ℕ × ℕ)) → ¬ SpellsPairs words all
unread_words words pairs left more rest key value read first second none all h =
    let two : left ≡ key ∷ value ∷ rest = cc in
    let split = read.split ∙ ap (λ ws. read.front ++ ws) two in
    let whole = subst (λ ws. SpellsPairs ws all) split h in
    let others = left_pairs read.front (key ∷ value ∷ rest) pairs all read.written whole in
    no_pair key value rest others.0 none others.1
