-- `row_first`: what is above the range is the definition's case.
use mathlib.Core.Path.{ap, sym, ◌∙◌}
use Rattle.ends.specs.Ends.{row_first_by, row_first_of}
use Rattle.ends.proofs.row_first.Goals as goal

pub returns-in-Above : goal.returns-in-Above
unfolding row_first_of
returns-in-Above c = ap row_first_by (sym c.in-Above.is ∙ c.rounded_to_i64.ensures)
