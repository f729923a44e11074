-- `curve::Point::reflected`: the calls promise what the definition says.
use Rattle.curve.proofs.Point.reflected.Goals as goal

pub returns : goal.returns
returns c = rw (c.add.ensures, c.sub.ensures)
