-- `polyline_read::put_start` meets its contract: two numbers in range are floats.
use Rattle.std.proofs.Common.{arith}
use Rattle.std.proofs.lemmas.Int.{ints}
use Rattle.control_points.proofs.Pairs.{in_range_mag, point_range}
use Rattle.polyline_read.proofs.put_start.Goals as goal

pub start_of-requires : goal.start_of-requires
start_of-requires c =
    let small = in_range_mag c.args.p.x (point_range c.args.p c.requires.0).0 in
    omega (arith, ints, c.from.ensures)

pub start_of-requires-2 : goal.start_of-requires-2
start_of-requires-2 c =
    let small = in_range_mag c.args.p.y (point_range c.args.p c.requires.0).1 in
    omega (arith, ints, c.from-2.ensures)
