-- `judge_edition` meets its contract: one number.
use mathlib.Core.Path.{sym, ap, ◌∙◌}
use Rattle.trace2.specs.Editions.{unknown}
use Rattle.trace2_judge.proofs.Laid.{edition_fault, edition_fine}
use Rattle.trace2_judge.proofs.judge_edition.Goals as goal

pub returns-then-unknown : goal.returns-then-unknown
returns-then-unknown c = edition_fault _ (ap unknown (sym c.number_at.ensures) ∙ sym c.unknown.ensures ∙ c.if-unknown.true)

pub returns : goal.returns
returns c = edition_fine _ (ap unknown (sym c.number_at.ensures) ∙ sym c.unknown.ensures ∙ c.if-unknown.false)
