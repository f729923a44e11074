-- `polyline_spline::write_one` meets its contract: a spline that was judged may be gone along again.
use mathlib.Core.Path.{sym, ◌∙◌}
use Rattle.polyline_spline.proofs.One.{one_passes, start_kept}
use Rattle.polyline_spline.proofs.write_one.Goals as goal

pub put_points-requires : goal.put_points-requires
put_points-requires c =
    let e = c.in_ok-start.ensures in
    one_passes c.args.k c.args.deltas.now c.args.x c.args.y c.args.text.now c.args.text.now _ (sym (start_kept _ _ _ e.cases e.variant) ∙ c.begin_at.ensures)
