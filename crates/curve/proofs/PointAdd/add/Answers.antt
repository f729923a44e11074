-- `curve::PointAdd::add`: a sum is that of each coordinate.
use mathlib.Core.Path.{refl}
use Rattle.curve.proofs.PointAdd.add.Goals as goal

pub returns : goal.returns
returns c = refl
