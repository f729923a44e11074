-- `draw_walk`: by the length, no segments or those of all points.
use Rattle.strand.proofs.Strands.{flat_none, flat_all, none_filled}
use Rattle.strand.proofs.draw_walk.Goals as goal

pub returns-then-walk_length : goal.returns-then-walk_length
returns-then-walk_length c =
    none_filled _ _ _ _ (flat_none c.args.spline c.args.high_precision c.args.walk.now c.length_of-walk_length.ensures c.if-walk_length.true) c.requires.2

pub returns : goal.returns
returns c =
    rw (flat_all c.args.spline c.args.high_precision c.args.walk.now c.length_of-walk_length.ensures c.if-walk_length.false) c.add_segments_from_points.ensures
