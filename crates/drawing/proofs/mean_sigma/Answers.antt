-- `drawing::mean_sigma` meets its contract: the operations are the definition's.
use Rattle.drawing.specs.Thickness.{mean_sigma}
use Rattle.std.proofs.Common.{to_z-of_z, w32}
use Rattle.drawing.proofs.mean_sigma.Goals as goal

pub returns : goal.returns
unfolding mean_sigma
returns c =
    let e = to_z-of_z {w = w32} {z = c.args.adjustment} c.ranges.adjustment in
    let d = to_z-of_z {w = w32} {z = c.args.sigma} c.ranges.sigma in
    rw (rw d at c.nearest_i32_to_f32.ensures, rw e at c.inv_adjusted_quant-quant.ensures)
