-- `curve::next_stand`: a walk that was traced can move on.
use Rattle.control_points.proofs.Walks.{walk_moves}
use Rattle.curve.proofs.next_stand.Goals as goal

pub moved-requires : goal.moved-requires
moved-requires c = rw c.of.ensures (walk_moves _ _ _ c.requires.1 c.requires.0)

pub returns : goal.returns
returns c = rw (c.moved.ensures, c.of.ensures)
