use Rattle.std.proofs.Common.{◌≡◌, ◌+◌, ◌++◌, [], set, get_or, drop, refl, sym, ap, ◌∙◌, subst, arith, append-nil}
use Rattle.std.proofs.lemmas.List.{drop_all, set-get_or, take_all}
use Rattle.intmap_table.specs.Tables.Slots.{joined, IsNextRow}
use Rattle.intmap_table.proofs.Tables.CursorLemmas.{before-next, before-past, drop-end}
use Rattle.intmap_table.proofs.table.walk.cut_from.Goals as goal
use Rattle.intmap_table.proofs.table.walk.cut_from.Goals.{In_default}

-- no pair was at the cursor, so none was removed
same_rows : (g : _) (c : In_default g) → c.remove_at.new.self.rows ≡ c.args.slots.now.rows
same_rows g c =
    let R = c.args.slots.now.rows in let i = c.args.at.now.slot in let j = c.args.at.now.place in let row = get_or R i [] in
    let past = c.in_default.ensures.none in
    c.remove_at.ensures.rows
    ∙ ap (λ ps. set R i ps) ((λ k. take_all j row past k ++ drop_all (j + 1) row (omega (arith, past)) k) ∙ append-nil row)
    ∙ set-get_or R i []

pub returns-in_default-next_filled-clause-none : goal.returns-in_default-next_filled-clause-none
returns-in_default-next_filled-clause-none g c =
    let R = c.args.slots.now.rows in let i = c.args.at.now.slot in
    let same = same_rows g (goal.at.returns-in_default-next_filled-clause-none g c).In_default in
    let none = c.in_default-next_filled.ensures.none in (
      (λ k. record { rows = same k; total = c.remove_at.ensures.total k }),
      refl,
      ap (λ n. drop n (joined R)) (sym (before-past R i c.args.at.now.place c.in_default.ensures.none))
          ∙ drop-end R (i + 1) (λ k le. ap (λ S. get_or S k []) (sym same) ∙ none k (let from = c.saturating_add.ensures in omega (arith, from, le))),
    )

pub returns-clause-same : goal.returns-clause-same
returns-clause-same g c =
    let R = c.args.slots.now.rows in let i = c.args.at.now.slot in let k = c.in-Some-next_filled.slot in
    let found = subst (λ S. IsNextRow S c.saturating_add.result k) (same_rows g (goal.at.returns-clause-same g c).In_default) c.in-Some-next_filled.ensures.some in let within = found.within in
    let next : IsNextRow R (i + 1) k = subst (λ n. IsNextRow R n k) (let from = c.saturating_add.ensures in omega (arith, from, found.behind, within, c.requires)) found in
    before-next R (i + 1) k next ∙ before-past R i c.args.at.now.place c.in_default.ensures.none
