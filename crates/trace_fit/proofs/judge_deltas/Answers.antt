use mathlib.Core.Path.{◌≡◌, sym, ◌∙◌}
use Prim.Native.Nat.{suc, ◌+◌}
use native.Mathlib.Omega.{arith}
use lib.IntN.{pos}
use Rattle.codes.specs.declared.Code.TheVariants.{Delta}
use Rattle.trace.specs.Trace.{wild}
use Rattle.trace.proofs.Checks.{turn_fault, turn_pass, turn_end}
use Rattle.trace_fit.proofs.judge_deltas.Goals as goal

pub loop-i-init : goal.loop-i-init
loop-i-init c = let z : c.args.from + 0 ≡ c.args.from = omega arith in rw z

pub returns-then-wild_at : goal.returns-then-wild_at
returns-then-wild_at c =
    let a = c.args in
    let v = c.loop-i in
    sym (v.invariant ∙ turn_fault wild Delta a.deltas.now (pos 0) (a.from + v.i) v.i (omega arith) (sym c.wild_at.ensures ∙ c.if-wild_at.true))

pub loop-i-preserved : goal.loop-i-preserved
loop-i-preserved c =
    let a = c.args in
    let v = c.loop-i in
    let j : suc v.i ≡ v.i + 1 = omega arith in
    let k : suc (a.from + v.i) ≡ a.from + (v.i + 1) = omega arith in
    v.invariant ∙ rw (k, j) at (turn_pass wild Delta a.deltas.now (pos 0) (a.from + v.i) v.i (omega arith) (sym c.wild_at.ensures ∙ c.if-wild_at.false))

pub returns : goal.returns
returns c =
    let a = c.args in
    let v = c.loop-i in
    sym (v.invariant ∙ turn_end wild Delta a.deltas.now (a.from + v.i) v.i (omega arith))
