-- `curve::Point::toward`: the calls promise what the definition says.
use Rattle.curve.specs.Windows.{toward}
use Rattle.curve.proofs.Point.toward.Goals as goal

pub returns : goal.returns
unfolding toward
returns c = cc
