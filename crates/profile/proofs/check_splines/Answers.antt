use mathlib.Core.Path.{sym, ◌∙◌}
use native.Mathlib.Omega.{arith}
use Rattle.std.proofs.Common.{rules}
use Rattle.profile.proofs.Rules.{spline_kept, spline_broken, splines_end}
use Rattle.profile.proofs.check_splines.Goals as goal

pub returns-in_err-check_spline : goal.returns-in_err-check_spline
returns-in_err-check_spline c =
    let l = c.loop-k in
    rw (l.invariant ∙ spline_broken _ _ _ l.k (omega arith) (sym c.check_spline.ensures ∙ c.in_err-check_spline.was)) (search rules)

pub loop-k-preserved : goal.loop-k-preserved
loop-k-preserved c =
    let l = c.loop-k in
    l.invariant ∙ spline_kept _ _ _ l.k (omega arith) (sym c.check_spline.ensures ∙ c.in_ok-check_spline.was)

pub returns : goal.returns
returns c = sym (c.loop-k.invariant ∙ splines_end _ _ _ c.loop-k.k (omega arith))
