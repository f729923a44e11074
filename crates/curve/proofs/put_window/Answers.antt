-- `curve::put_window`: a run of stores after a run of stores.
use mathlib.Core.Path.{refl}
use Prim.Native.Nat.{◌+◌}
use Rattle.buffers.proofs.Fronts.{sets_more}
use Rattle.curve.specs.Curve.{interpolated, flat}
use Rattle.curve.proofs.Paths.{two, window_flat}
use Rattle.curve.proofs.put_window.Goals as goal

pub returns : goal.returns
returns c =
    let a = c.args in
    rw (c.put_interpolated.ensures, c.put.ensures, window_flat)
    (sets_more (two a.w.p1) (flat (interpolated a.w 15)) a.out.now a.k (a.k + 2) refl)
