-- `curve::PointSub::sub`: a difference is that of each coordinate.
use mathlib.Core.Path.{refl}
use Rattle.curve.proofs.PointSub.sub.Goals as goal

pub returns : goal.returns
returns c = refl
