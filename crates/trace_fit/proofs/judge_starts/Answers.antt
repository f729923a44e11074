use mathlib.Core.Path.{◌≡◌, sym, ◌∙◌}
use Prim.Native.Nat.{suc, ◌+◌}
use native.Mathlib.Omega.{arith}
use lib.Ieee.{nan}
use Rattle.codes.specs.declared.Code.TheVariants.{Coord}
use Rattle.trace.specs.Write.{misfit}
use Rattle.trace.proofs.Checks.{turn_fault, turn_pass, turn_end}
use Rattle.trace_fit.proofs.judge_starts.Goals as goal

pub loop-i-init : goal.loop-i-init
loop-i-init c = let z : c.args.from + 0 ≡ c.args.from = omega arith in rw z

pub returns-then-no_start : goal.returns-then-no_start
returns-then-no_start c =
    let a = c.args in
    let v = c.loop-i in
    sym (v.invariant ∙ turn_fault misfit Coord a.starts.now nan (a.from + v.i) v.i (omega arith) (sym c.no_start.ensures ∙ c.if-no_start.true))

pub loop-i-preserved : goal.loop-i-preserved
loop-i-preserved c =
    let a = c.args in
    let v = c.loop-i in
    let j : suc v.i ≡ v.i + 1 = omega arith in
    let k : suc (a.from + v.i) ≡ a.from + (v.i + 1) = omega arith in
    v.invariant ∙ rw (k, j) at (turn_pass misfit Coord a.starts.now nan (a.from + v.i) v.i (omega arith) (sym c.no_start.ensures ∙ c.if-no_start.false))

pub returns : goal.returns
returns c =
    let a = c.args in
    let v = c.loop-i in
    sym (v.invariant ∙ turn_end misfit Coord a.starts.now (a.from + v.i) v.i (omega arith))
