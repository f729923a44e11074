-- `polyline_spline::put_pair` meets its contract: x, a comma, y.
use native.Mathlib.Omega.{arith}
use mir.Syntax.{w32}
use mir.Facts.{to_z-of_z}
use Rattle.control_points.proofs.Pairs.{point_range}
use Rattle.polyline_spline.proofs.Puts.{pair_put}
use Rattle.polyline_spline.proofs.put_pair.Goals as goal

pub put_number-comma-requires : goal.put_number-comma-requires
put_number-comma-requires c = (omega arith, rw (to_z-of_z {w = w32} {z = c.args.p.x} (record { sfits = omega arith })) (point_range c.args.p c.requires.1).0)

pub overflow_add-comma : goal.overflow_add-comma
overflow_add-comma c = omega (arith, c.put_number-comma.ensures.2)

pub put_number-requires : goal.put_number-requires
put_number-requires c = (omega (arith, c.put_number-comma.ensures.2), rw (to_z-of_z {w = w32} {z = c.args.p.y} (record { sfits = omega arith })) (point_range c.args.p c.requires.1).1)

pub returns : goal.returns
returns c = pair_put c.args.p c.args.text.now _ _ _ c.args.at _ _ (rw (to_z-of_z {w = w32} {z = c.args.p.x} (record { sfits = omega arith })) at c.put_number-comma.ensures) c.put.ensures (rw (to_z-of_z {w = w32} {z = c.args.p.y} (record { sfits = omega arith })) at c.put_number.ensures)
