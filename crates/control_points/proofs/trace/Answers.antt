use mathlib.Core.Path.{sym, ◌∙◌}
use Rattle.std.proofs.Common.{rules}
use native.Mathlib.Omega.{arith}
use lib.ListN.{length-drop}
use Rattle.control_points.specs.ControlPoints.{trace_of, run_at}
use Rattle.control_points.proofs.Steps.{step_held, turn_stop, turn_on, trace_done}
use Rattle.control_points.proofs.trace.Goals as goal

pub returns-in_err-run : goal.returns-in_err-run
unfolding trace_of run_at
returns-in_err-run c =
    let l = c.loop-k in
    rw (l.invariant.1 ∙ turn_stop _ l.run _ l.k (omega arith) c.of.ensures c.step.ensures c.in_err-run.was) (search rules)

pub loop-k-preserved : goal.loop-k-preserved
loop-k-preserved c =
    let l = c.loop-k in
    (step_held _ l.run _ _ (sym c.step.ensures ∙ c.in_ok-run.was), l.invariant.1 ∙ turn_on _ l.run _ l.k (omega arith) c.of.ensures c.step.ensures c.in_ok-run.was)

pub returns : goal.returns
unfolding trace_of run_at
returns c = sym (c.loop-k.invariant.1 ∙ trace_done _ c.loop-k.run _ (simp length-drop (omega arith)))
