-- `polyline_read::read_text` meets its contract: TEXT, and where it passes the rest.
use mathlib.Core.Path.{sym, ◌∙◌}
use borrow.Author.Rules.{rules}
use Rattle.polyline.specs.Read.{points_verdict}
use Rattle.polyline_read.proofs.Answers.{text-stray, text-fine}
use Rattle.polyline_read.proofs.read_text.Goals as goal

pub returns-in_err-judge_form : goal.returns-in_err-judge_form
unfolding points_verdict
returns-in_err-judge_form c = text-stray _ _ _ _ _ _ _ (sym c.judge_form.ensures ∙ c.in_err-judge_form.was) (search rules)

pub returns : goal.returns
unfolding points_verdict
returns c = text-fine _ _ _ _ _ _ _ _ (sym c.judge_form.ensures ∙ c.in_ok-judge_form.was) c.read_pairs.ensures
