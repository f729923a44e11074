use mathlib.Core.Path.{refl, ◌∙◌}
use native.Mathlib.Omega.{arith}
use Rattle.points.proofs.Adding.{adding_none, adding_all, adding_more, adding_full}
use Rattle.points.proofs.add_segments_from_points.Goals as goal

pub loop-i-init : goal.loop-i-init
loop-i-init c = (refl, c.requires.1, adding_none _ _ _ _ _ _ _ c.requires.1)

pub returns-in_err-count : goal.returns-in_err-count
returns-in_err-count c =
    let l = c.loop-i in
    let f = rw l.invariant.0 at c.put_made.ensures.0 in
    rw c.from_residual.ensures (adding_full _ _ _ _ _ _ _ l.out l.i l.count l.invariant.2 (omega arith) c.point_segment-made.ensures f c.in_err-count.was, tt)

pub loop-i-preserved : goal.loop-i-preserved
loop-i-preserved c =
    let l = c.loop-i in
    let p = c.put_made in
    let f = rw l.invariant.0 at p.ensures.0 in
    let a = adding_more _ _ _ _ _ _ _ l.out l.i l.count l.invariant.2 (omega arith) c.point_segment-made.ensures f _ p.ensures.1 c.in_ok-count.was in
    (p.auto.out ∙ l.invariant.0, a.fits, a)

pub returns : goal.returns
returns c =
    let l = c.loop-i in
    adding_all _ _ _ _ _ _ _ l.out l.i l.count l.invariant.2 (omega arith)
