-- `row_past`: a NaN is the definition's case.
use mathlib.Core.Path.{ap, sym, ◌∙◌}
use Rattle.ends.specs.Ends.{row_past_by, row_past_of}
use Rattle.ends.proofs.row_past.Goals as goal

pub returns-in-NotNumber : goal.returns-in-NotNumber
unfolding row_past_of
returns-in-NotNumber c = ap row_past_by (sym c.in-NotNumber.is ∙ c.rounded_to_i64.ensures)
