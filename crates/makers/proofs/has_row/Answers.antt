-- `has_row`: the rows of the segment as a range.
use mathlib.Core.Path.{sym, ap, ◌∙◌}
use Rattle.segments.specs.Ranges.{rows_of}
use Rattle.makers.proofs.Rows.{has_by}
use Rattle.makers.proofs.has_row.Goals as goal

pub returns : goal.returns
returns c = c.contains.ensures ∙ sym (has_by _ _ (c.rows.ensures ∙ ap rows_of c.at.ensures) c.requires.y_bound)
