-- The double deltas were traced, so that their path may be had.
use mathlib.Core.Path.{sym, ◌∙◌}
use Rattle.control_points.proofs.Walks.{traced_walk}
use Rattle.replay_splines.proofs.Agreeing.{path_agrees}
use Rattle.replay_splines.proofs.is_path.Goals as goal

pub curve-requires : goal.curve-requires
curve-requires c = traced_walk _ _ _ _ c.requires (sym c.trace.ensures ∙ c.in-Ok.is)

pub returns-then-k-output : goal.returns-then-k-output
returns-then-k-output c =
    let A = c.args in
    let w = c.curve.ensures in
    λ e. path_agrees A.start A.deltas.now A.output.now w.0 c.in-Some.is w.1 c.if-k-output.true (c.begin_f32.ensures e)
