use mathlib.Core.Path.{sym}
use native.Mathlib.Omega.{arith}
use borrow.Author.Tests.{ne_eqb}
use Rattle.shape.specs.Shape.{points_of}
use Rattle.shape.proofs.Shape.{sum_turn, sum_end, sum_left}
use Rattle.shape.proofs.sum_is.Goals as goal

pub returns-then-left-n : goal.returns-then-left-n
returns-then-left-n c =
    let a = c.args in
    let v = c.loop-i in
    sym (ne_eqb (points_of a.counts.now) a.points (λ e. omega (arith, sum_turn a.counts.now v.i (omega arith))))

pub loop-i-preserved : goal.loop-i-preserved
loop-i-preserved c =
    let a = c.args in
    let v = c.loop-i in
    omega (arith, sum_turn a.counts.now v.i (omega arith))

pub returns : goal.returns
returns c =
    let a = c.args in
    let v = c.loop-i in
    sum_left a.counts.now a.points v.left v.invariant.0 (rw (sum_end a.counts.now v.i (omega arith)) at v.invariant.1)
