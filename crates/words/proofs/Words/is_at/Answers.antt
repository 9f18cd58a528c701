use Rattle.std.proofs.Common.{rules, ◌≡◌, ◌∙◌, ap, length, option_map, refl, slice_get, string_bytes, Some}
use Rattle.std.proofs.lemmas.Option.{slice_get_read}
use Rattle.std.proofs.lemmas.Slice.Eq.{bytes_eq-Decides}
use Rattle.words.proofs.Words.is_at.Goals as goal

-- the bytes are the same if they compare equal
pub returns : goal.returns
returns c is =
    let at : slice_get c.args.self.now.words.items c.args.id ≡ Some c.in-Some.known.now = slice_get_read c.args.self.now.words.items (length c.args.self.now.words.items) c.args.id c.in-Some.known.now refl (search rules) (search rules) in
    let same : string_bytes c.in-Some.known.now ≡ c.args.word.now = search (is, bytes_eq-Decides, rules) in
    ap (λ o. option_map string_bytes o) at ∙ ap (λ bytes. Some bytes) same
