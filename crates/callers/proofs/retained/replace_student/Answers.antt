use Rattle.std.proofs.Common.{sym, subst}
use Rattle.std.specs.Prelude.{◌≤◌, All}
use Rattle.intmap.proofs.Callers.{all_after_insert, all_after_remove}
use Rattle.callers.proofs.retained.replace_student.Goals as goal
use Rattle.callers.proofs.retained.replace_student.Goals.{After-remove}

-- without the one student no grade is above the bound
left : (g : _) (c : After-remove g) → All (λ pair. pair.1 ≤ c.args.most) c.remove.new.self.walk
left g c = all_after_remove (λ k. k) (λ pair. pair.1 ≤ c.args.most) c.args.grades.now c.remove.new.self c.args.former c.remove.ensures.state c.requires.fit

pub returns-in_err-insert-clause-fit_after : goal.returns-in_err-insert-clause-fit_after
returns-in_err-insert-clause-fit_after g c =
    subst (λ m. All (λ pair. pair.1 ≤ c.args.most) m.walk) (sym c.in_err-insert.ensures.err) (left g (goal.at.returns-in_err-insert-clause-fit_after g c).After-remove)

pub returns-clause-fit_after : goal.returns-clause-fit_after
returns-clause-fit_after g c =
    all_after_insert (λ k. k) (λ pair. pair.1 ≤ c.args.most) c.remove.new.self c.insert.new.self c.args.student c.args.grade c.in_ok-insert.ensures.state
    (left g (goal.at.returns-clause-fit_after g c).After-remove)
    c.requires.fits
