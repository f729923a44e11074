-- `curve::PointMulF32::mul`: both coordinates are multiplied.
use mathlib.Core.Path.{refl}
use Rattle.curve.proofs.PointMulF32.mul.Goals as goal

pub returns : goal.returns
returns c = refl
