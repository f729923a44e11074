-- `write_judge::unfit_as` meets its contract: by cases on whether the start is the first.
use Rattle.std.proofs.Common.{sym, ◌∙◌}
use Rattle.write_judge.proofs.Starts.{unfit_any, fit_first, fit_later}
use Rattle.write_judge.proofs.unfit_as.Goals as goal

pub returns-then-unfit_start : goal.returns-then-unfit_start
returns-then-unfit_start c =
    c.if-unfit_start.true ∙ unfit_any c.args.first c.args.x (sym c.unfit_start.ensures ∙ c.if-unfit_start.true)

pub returns-then-first : goal.returns-then-first
returns-then-first c = fit_first c.args.first c.args.x c.if-first.true (sym c.unfit_start.ensures ∙ c.if-unfit_start.false)

pub returns-else-first : goal.returns-else-first
returns-else-first c = c.if-first.false ∙ fit_later c.args.first c.args.x c.if-first.false (sym c.unfit_start.ensures ∙ c.if-unfit_start.false)
