-- `drawing::thickness` meets its contract: the operations are the definition's.
use Rattle.drawing.specs.Thickness.{hundredths_of}
use Rattle.drawing.proofs.thickness.Goals as goal

pub returns : goal.returns
unfolding hundredths_of
returns c = rw (c.saturating_f32_to_u64.ensures, c.round.ensures, c.abs-width.ensures)
