-- `draw_path`: no room for the walk, or the segments of the walk on the buffer's front.
use mathlib.Core.Path.{sym}
use Prim.Native.Nat.{◌*◌, ◌≤◌}
use native.Mathlib.Omega.{arith}
use lib.ListN.{length}
use lib.Seq.{length-take-le}
use Rattle.strand.proofs.Strands.{walk_taken, taken_segments}
use Rattle.strand.proofs.draw_path.Goals as goal

pub overflow_mul-n : goal.overflow_mul-n
overflow_mul-n c = omega (arith, (walk_taken _ _ _ _ _ c.in_ok-n.was c.walk.ensures).fits)

pub slice_bounds-draw_walk-end : goal.slice_bounds-draw_walk-end
slice_bounds-draw_walk-end c = omega (arith, (walk_taken _ _ _ _ _ c.in_ok-n.was c.walk.ensures).fits, c.walk.auto.out)

pub slice_bounds-draw_walk-end-2 : goal.slice_bounds-draw_walk-end-2
slice_bounds-draw_walk-end-2 c =
    let t = walk_taken _ _ _ _ _ c.in_ok-n.was c.walk.ensures in
    sym (length-take-le _ _ (omega (arith, t.fits, c.walk.auto.out)))

pub draw_walk-requires : goal.draw_walk-requires
draw_walk-requires c =
    let t = walk_taken _ _ _ _ _ c.in_ok-n.was c.walk.ensures in
    let fits : 3 * c.in_ok-n.n ≤ length c.walk.new.out = omega (arith, t.fits, c.walk.auto.out) in
    let l = length-take-le (3 * c.in_ok-n.n) c.walk.new.out fits in
    (omega (arith, l, t.two), omega (arith, l, t.fits), c.requires.1)

pub returns : goal.returns
returns c =
    rw (← taken_segments c.args.spline c.args.high_precision _ _ _ _ (walk_taken _ _ _ _ _ c.in_ok-n.was c.walk.ensures)) c.draw_walk.ensures
