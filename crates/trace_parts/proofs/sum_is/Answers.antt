use mathlib.Core.Path.{sym}
use native.Mathlib.Omega.{arith}
use borrow.Author.Tests.{ne_eqb}
use Rattle.shape.specs.Shape.{points_of}
use Rattle.shape.proofs.Shape.{sum_turn, sum_end, sum_left}
use Rattle.little.specs.Little.{numbers_in}
use Rattle.little.proofs.Little.{numbers_length}
use Rattle.trace_parts.proofs.sum_is.Goals as goal

pub returns-then-left-count : goal.returns-then-left-count
returns-then-left-count c =
    let a = c.args in
    let v = c.loop-i in
    let ns = numbers_in a.part.now in
    let k = numbers_length a.part.now in
    let n = sym c.number_at-count.ensures in
    sym (ne_eqb (points_of ns) a.points (λ e. omega (arith, sum_turn ns v.i (omega arith), v.invariant.1, n)))

pub loop-i-preserved : goal.loop-i-preserved
loop-i-preserved c =
    let a = c.args in
    let v = c.loop-i in
    let ns = numbers_in a.part.now in
    let k = numbers_length a.part.now in
    let n = sym c.number_at-count.ensures in
    omega (arith, sum_turn ns v.i (omega arith), v.invariant.1, n)

pub returns : goal.returns
returns c =
    let a = c.args in
    let v = c.loop-i in
    let ns = numbers_in a.part.now in
    let k = numbers_length a.part.now in
    sum_left ns a.points v.left v.invariant.0 (rw (sum_end ns v.i (omega arith)) at v.invariant.1)
