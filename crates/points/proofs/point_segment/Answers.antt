-- `point_segment`: three reads, then the calls in turn.
use Rattle.points.specs.Points.{point_segment}
use Rattle.points.proofs.point_segment.Goals as goal

pub returns : goal.returns
unfolding point_segment
returns c = rw (c.add_segment.ensures, c.sums_at-sums.ensures, c.place_of.ensures)
