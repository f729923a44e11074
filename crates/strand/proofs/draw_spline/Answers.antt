-- `draw_spline`: no room for the path, or what the path on the buffer's front gives.
use mathlib.Core.Path.{refl, sym, ◌∙◌}
use Prim.Native.Nat.{◌*◌, ◌≤◌}
use native.Mathlib.Omega.{arith}
use lib.ListN.{length}
use lib.Seq.{length-take-le}
use Rattle.curve.specs.Curve.{path_room}
use Rattle.curve.proofs.Paths.{length_path}
use Rattle.curve.proofs.Answers.{curved-none}
use Rattle.walk.specs.Walk.{walk_room}
use Rattle.strand.proofs.Strands.{path_taken, strand_none, strand_drawn}
use Rattle.strand.proofs.draw_spline.Goals as goal

pub overflow_mul-n : goal.overflow_mul-n
overflow_mul-n c = omega (arith, (path_taken _ _ _ _ _ c.in_ok-n.was c.curve.ensures).fits)

pub slice_bounds-draw_path-end : goal.slice_bounds-draw_path-end
slice_bounds-draw_path-end c = omega (arith, (path_taken _ _ _ _ _ c.in_ok-n.was c.curve.ensures).fits, c.curve.auto.out)

pub slice_bounds-draw_path-end-2 : goal.slice_bounds-draw_path-end-2
slice_bounds-draw_path-end-2 c =
    let t = path_taken _ _ _ _ _ c.in_ok-n.was c.curve.ensures in
    sym (length-take-le _ _ (omega (arith, t.fits, c.curve.auto.out)))

pub draw_path-requires : goal.draw_path-requires
draw_path-requires c =
    let t = path_taken _ _ _ _ _ c.in_ok-n.was c.curve.ensures in
    let fits : 2 * c.in_ok-n.n ≤ length c.curve.new.out = omega (arith, t.fits, c.curve.auto.out) in
    let l = length-take-le (2 * c.in_ok-n.n) c.curve.new.out fits in
    (omega (arith, l, t.count, length_path c.args.start c.args.deltas.now), c.requires.1)

pub returns-in_err-n : goal.returns-in_err-n
returns-in_err-n c =
    let s = c.args in
    let h = curved-none _ _ (sym c.in_err-n.was ∙ c.curve.ensures.0) in
    rw (c.from_residual.ensures, strand_none _ (walk_room (length s.walk.now)) _ _ s.spline s.high_precision h) (refl, tt)

pub returns : goal.returns
returns c =
    let s = c.args in
    let t = path_taken _ _ _ _ _ c.in_ok-n.was c.curve.ensures in
    rw (← strand_drawn (path_room (length s.path.now)) (walk_room (length s.walk.now)) s.start s.deltas.now s.spline s.high_precision (omega (arith, t.count, t.fits)) t.front)
    c.draw_path.ensures
