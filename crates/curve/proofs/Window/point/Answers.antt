-- `curve::Window::point`: the calls promise what the definition says.
use Rattle.curve.specs.Windows.{window_point}
use Rattle.curve.proofs.Window.point.Goals as goal

pub returns : goal.returns
unfolding window_point
returns c = cc
