use mathlib.Core.Path.{◌≡◌, refl}
use Prim.Native.Nat.{◌+◌}
use native.Mathlib.Omega.{arith}
use Rattle.buffers.proofs.Fronts.{sets_more}
use Rattle.curve.specs.Windows.{window_point}
use Rattle.curve.specs.Curve.{interpolated, flat}
use Rattle.curve.proofs.Paths.{two, interpolated_more, length_flat_interpolated}
use Rattle.curve.proofs.put_interpolated.Goals as goal

pub loop-i-init : goal.loop-i-init
unfolding interpolated flat
loop-i-init c = (refl, refl)

pub loop-i-preserved : goal.loop-i-preserved
loop-i-preserved c =
    let l = c.loop-i in
    let a = c.args in (
      omega (arith, c.put.auto.out),
      rw (c.put.ensures, l.invariant.1, c.point-p.ensures, interpolated_more)
          (sets_more (flat (interpolated a.w l.i)) (two (window_point a.w (l.i + 1))) _ a.k _ (omega (arith, length_flat_interpolated a.w l.i))),
    )

pub returns : goal.returns
returns c =
    let e : c.loop-i.i ≡ 15 = omega arith in
    rw e at c.loop-i.invariant.1
