-- `curve::first_turn`: the start may be moved by the first double delta, and the stand that it leads to is in the range.
use Rattle.control_points.specs.ControlPoints.{stand_at}
use Rattle.control_points.proofs.Walks.{walk_more}
use Rattle.curve.proofs.first_turn.Goals as goal

pub next_stand-requires : goal.next_stand-requires
next_stand-requires c = (rw c.at.ensures c.requires.0, c.requires.1)

pub first-requires : goal.first-requires
unfolding stand_at
first-requires c =
    (c.requires.0.point, rw (c.next_stand.ensures, c.at.ensures) (walk_more _ _ 0 c.requires.1 c.requires.0).point)

pub returns : goal.returns
returns c = rw (c.first.ensures, c.next_stand.ensures, c.at.ensures)
