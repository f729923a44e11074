-- `curve::Turn::last`: the calls promise what the definition says.
use Rattle.curve.proofs.Turn.last.Goals as goal

pub returns : goal.returns
returns c = rw (c.window.ensures, c.reflected.ensures)
