-- The calls are the definition's operations, last call first.
use Rattle.estimate.specs.Estimate.{log_color_by}
use Rattle.estimate.proofs.Greater.{max-greater, max-greater_swapped}
use Rattle.estimate.proofs.log_color.Goals as goal

pub returns : goal.returns
unfolding log_color_by
returns c =
    rw (c.max-2.ensures, max-greater_swapped, c.ceil_log2.ensures, c.saturating_add.ensures, c.max-max_color.ensures, c.max.ensures, max-greater c.tinted.result, max-greater _ c.tinted-2.result, c.tinted-2.ensures, c.tinted.ensures)
