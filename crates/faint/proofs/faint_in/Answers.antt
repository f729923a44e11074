use mathlib.Core.Path.{refl}
use Prim.Native.Nat.{◌+◌}
use native.Mathlib.Omega.{arith}
use Rattle.faint.specs.Faint.{faint_in}
use Rattle.faint.proofs.Counts.{faint_most, faint_more}
use Rattle.faint.proofs.faint_in.Goals as goal

pub loop-i-init : goal.loop-i-init
unfolding faint_in
loop-i-init c = (c.requires.0, c.requires.1, omega arith, refl)

pub overflow_add-found : goal.overflow_add-found
overflow_add-found c =
    let l = c.loop-i in
    omega (arith, faint_more c.args.segments.now l.i l.found c.one_if_nan-found.result l.invariant.3 c.one_if_nan-found.ensures, faint_most c.args.segments.now (l.i + 1))

pub loop-i-preserved : goal.loop-i-preserved
loop-i-preserved c =
    let l = c.loop-i in
    let e = faint_more c.args.segments.now l.i l.found c.one_if_nan-found.result l.invariant.3 c.one_if_nan-found.ensures in
    (l.invariant.0, l.invariant.1, omega (arith, e, faint_most c.args.segments.now (l.i + 1)), e)
