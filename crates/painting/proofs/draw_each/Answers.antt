use mathlib.Core.Path.{◌≡◌, refl, sym, ap, ◌∙◌}
use mathlib.Core.Bool.{Bool}
use mathlib.Core.List.{List}
use Prim.Native.Nat.{ℕ, ◌+◌, ◌-◌, ◌*◌, ◌<◌, ◌≤◌}
use lib.Ieee.{Float}
use native.Mathlib.Omega.{arith}
use lib.ListN.{length, replicate, get_or, take, drop}
use lib.Seq.{sets}
use Rattle.dequantize.specs.declared.Given.{Given}
use Rattle.dequantize.specs.Judge.{Description, description_in, Shaped, deltas_at, start_x, start_y, coefficients_of, spline_of}
use Rattle.dequantize.proofs.Judging.{deltas_fit}
use Rattle.dequantize.proofs.Judgement.{fine_accepted}
use Rattle.curve.specs.Curve.{path_room}
use Rattle.walk.specs.Walk.{walk_room}
use Rattle.points.specs.Points.{segment_room, FilledOn}
use Rattle.points.specs.Filled.{Filled}
use Rattle.strand_at.specs.Strands.{strand_here, Fills}
use Rattle.strand.specs.Strand.{strand_filled, segments_of}
use Rattle.painting.specs.Segmented as Segmented
use Rattle.painting.specs.Painting.{strand_of_spline}
use Rattle.painting.proofs.Painting.{painting_none, painting_all, painting_room, painting_fits, painting_more, part_is}
use Rattle.painting.proofs.draw_each.Goals as goal

-- the double deltas of the spline are all there
there : (d : Description) (k at : ℕ) → Shaped d → k < length d.counts → at ≡ deltas_at d k → at + 2 * get_or d.counts k 0 ≤ length d.deltas
there d k at s h u = omega (arith, deltas_fit d k h s, u)

-- what the spline answered, in terms of the description
answer : (d : Description) (g : Given) (high : Bool) (k at count : ℕ) (path walk path₀ walk₀ n : ℕ) (r : Filled) (o e : List Float) → at ≡ deltas_at d k
    → path ≡ path₀ → walk ≡ walk₀ → length o ≡ n
    → Fills count (strand_here d.starts (take (at + 2 * get_or d.counts k 0 - at) (drop at d.deltas)) d.coefficients k g high path walk) r o e
    → (r ≡ strand_filled (segment_room n) count (strand_of_spline d g high (path_room path₀) (walk_room walk₀) k)) × FilledOn r count (segments_of (strand_of_spline d g high (path_room path₀) (walk_room walk₀) k)) o e
unfolding strand_of_spline start_x start_y spline_of coefficients_of
answer d g high k at count path walk path₀ walk₀ n r o e u p q l f = rw (part_is d k at (get_or d.counts k 0) refl u, p, q, l) at f

pub loop-k-init : goal.loop-k-init
loop-k-init c = (omega arith, refl, refl, refl, refl, painting_none _ _ _ _ _ _ _ _)

pub overflow_mul-end : goal.overflow_mul-end
overflow_mul-end c = omega (arith, there (description_in c.args.description.now) c.loop-k.k c.loop-k.at c.requires.0 (omega arith) c.loop-k.invariant.5.used)

pub overflow_add-end : goal.overflow_add-end
overflow_add-end c = omega (arith, there (description_in c.args.description.now) c.loop-k.k c.loop-k.at c.requires.0 (omega arith) c.loop-k.invariant.5.used)

pub slice_bounds-deltas-end : goal.slice_bounds-deltas-end
slice_bounds-deltas-end c = there (description_in c.args.description.now) c.loop-k.k c.loop-k.at c.requires.0 (omega arith) c.loop-k.invariant.5.used

pub draw_one-drawn-requires : goal.draw_one-drawn-requires
unfolding start_x start_y coefficients_of
draw_one-drawn-requires c =
    let l = c.loop-k in
    let s = c.requires.0 in
    let p = c.requires.1 in
    let d = description_in c.args.description.now in (
      omega (arith, s.starts),
      omega (arith, s.coefficients),
      omega (arith, l.invariant.5.fits, l.invariant.3),
      rw (part_is d l.k l.at (get_or d.counts l.k 0) refl l.invariant.5.used) (fine_accepted d c.args.given p.total p.fine l.k (omega arith)),
    )

pub returns-in_default : goal.returns-in_default
returns-in_default c =
    let l = c.loop-k in
    let v = l.invariant in
    let f = answer (description_in c.args.description.now) c.args.given c.args.high_precision l.k l.at l.count _ _ _ _ _ _ l.out c.draw_one-drawn.new.out v.5.used v.1 v.2 v.3 c.draw_one-drawn.ensures in
    rw (painting_room _ _ _ _ _ _ _ _ l.out l.owners l.k l.at l.count v.5 (omega arith) f.0 c.in_default.is) (refl, tt)

pub fill-requires : goal.fill-requires
fill-requires c =
    let l = c.loop-k in
    let v = l.invariant in
    let f = answer (description_in c.args.description.now) c.args.given c.args.high_precision l.k l.at l.count _ _ _ _ _ _ l.out c.draw_one-drawn.new.out v.5.used v.1 v.2 v.3 c.draw_one-drawn.ensures in
    let g = painting_fits _ _ _ _ _ _ _ _ l.out l.owners l.k l.at l.count v.5 (omega arith) f.0 c.in-Some.more c.in-Some.is in
    (omega (arith, g.0), omega (arith, g.1, v.4, c.requires.2))

pub loop-k-preserved : goal.loop-k-preserved
loop-k-preserved c =
    let l = c.loop-k in
    let v = l.invariant in
    let n = c.in-Some.more in
    let d = description_in c.args.description.now in
    let f = answer d c.args.given c.args.high_precision l.k l.at l.count _ _ _ _ _ _ l.out c.draw_one-drawn.new.out v.5.used v.1 v.2 v.3 c.draw_one-drawn.ensures in
    let own : c.fill.new.owners ≡ sets l.owners l.count (replicate (n - l.count) l.k) = c.fill.ensures in (
      there d l.k l.at c.requires.0 (omega arith) v.5.used,
      c.draw_one-drawn.auto.path ∙ v.1,
      c.draw_one-drawn.auto.walk ∙ v.2,
      c.draw_one-drawn.auto.out ∙ v.3,
      c.fill.auto.owners ∙ v.4,
      painting_more _ _ _ _ _ _ _ _ l.out l.owners l.k l.at l.count v.5 (omega arith) f.0 n f.1 own c.in-Some.is,
    )

pub returns : goal.returns
returns c =
    let l = c.loop-k in
    let a = l.invariant.5 in
    rw (painting_all _ _ _ _ _ _ _ _ l.out l.owners l.k l.at l.count a (omega arith)) (ap Segmented.Count (sym a.size), (a.buffer, a.numbers, omega (arith, a.size, a.fits), a.owned ∙ sym a.size))
