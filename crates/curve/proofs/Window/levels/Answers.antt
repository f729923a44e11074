-- `curve::Window::levels`: each point is what the call promises, put in from the last call to the first.
use Rattle.curve.specs.Windows.{levels}
use Rattle.curve.proofs.Window.levels.Goals as goal

pub returns : goal.returns
unfolding levels
returns c =
    rw (
      c.toward.ensures,
      c.toward-b1.ensures,
      c.toward-b0.ensures,
      c.toward-a2.ensures,
      c.toward-a1.ensures,
      c.toward-a0.ensures,
    )
