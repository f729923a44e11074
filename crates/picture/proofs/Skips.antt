-- A spline that is skipped makes no segment; and a spline with no double delta is skipped: its walk goes nowhere, since a whole number less itself is 0 in f32.
use mathlib.Core.Path.{◌≡◌, refl, sym, ap, subst, ◌∙◌}
use mathlib.Core.Bool.{Bool, true, false, not}
use mathlib.Core.List.{List, [], ◌∷◌}
use Prim.Native.Nat.{ℕ, suc, ◌-◌, ◌*◌, ◌<◌}
use native.Mathlib.Nat.{mul-pos}
use native.Mathlib.Omega.{arith}
use lib.Dec.{lit<}
use lib.IntN.{ℤ, pos, negsuc}
use lib.Signed.{mag}
use lib.ListN.{length, get_or}
use lib.Ieee.{Float, nan, inf, fin, binary32, up, down, round, sum, add, sub, mul, neg, le, of_int, of_bits}
use lib.Ieee.Exact.{HasValue}
use lib.Ieee.Back.{round_whole}
use lib.Ieee.Scale.{round_same}
use lib.Ieee.Fits.{down_pos}
use borrow.Author.Tests.{le-ltb}
use Rattle.numbers.specs.Arith.{f, 1·0}
use Rattle.roots.specs.Root.{sqrt_of}
use Rattle.dequantize.specs.declared.Given.{Given}
use Rattle.control_points.specs.declared.Pair.{Pair}
use Rattle.control_points.specs.Answers.{At}
use Rattle.control_points.specs.ControlPoints.{stand_at, later_points, control_points}
use Rattle.dequantize.specs.Judge.{Description, deltas_of, total_of}
use Rattle.dequantize.specs.Refusals.{AllPass}
use Rattle.dequantize.proofs.Refusals.{all_fine}
use Rattle.dequantize.proofs.Judgement.{fine_accepted}
use Rattle.control_points.proofs.Pairs.{in_range_mag, point_range}
use Rattle.segments.specs.declared.Segment.{Segment}
use Rattle.curve.specs.declared.Point.{Point}
use Rattle.curve.specs.Curve as Curve
use Rattle.curve.specs.Curve.{point_of, path_of}
use Rattle.walk.specs.Walk.{Ended, to_draw, Walks, walk_in, walk_from, stretch_of, stretch_in, point_at, distance_of, walk_length, last_multiplier}
use Rattle.walk.proofs.Fuel.{walk_one}
use Rattle.strand.specs.Strand.{walk_segments}
use Rattle.painting.specs.Segments.{SplineMakes}
use Rattle.picture.specs.Owners.{Skipped}

abbrev o : Float
o = fin false 0 (pos 0)

-- ---- a whole number less itself

nothing : (c : ℕ) → 0 < c → round binary32 false 0 c ≡ o
unfolding round
nothing c h = round_same binary32 false 0 c 0 1 h (lit< tt) (omega arith)

-- equal sizes with unlike signs
cancels : (s : Bool) (a c : ℕ) → 0 < c → sum binary32 s a (not s) a c ≡ o
unfolding sum
cancels true a c h = let z : a - a ≡ 0 = omega arith in rw (le-ltb a a (omega arith), z) (nothing c h)
cancels false a c h = let z : a - a ≡ 0 = omega arith in rw (le-ltb a a (omega arith), z) (nothing c h)

less_itself : (x : Float) (s : Bool) (n : ℕ) → HasValue x s n 1 → sub binary32 x x ≡ o
unfolding sub add neg
less_itself nan s n v = absurd v
less_itself (inf t) s n v = absurd v
less_itself (fin t m e) s n v = cancels t (m * up e * down e) (down e * down e) (mul-pos (down_pos e) (down_pos e))

whole_less_itself : (z : ℤ) → mag z < 8388608 → sub binary32 (of_int binary32 z) (of_int binary32 z) ≡ o
unfolding of_int
whole_less_itself (pos n) h = less_itself (round binary32 false n 1) false n (round_whole binary32 false n (omega arith))
whole_less_itself (negsuc n) h = less_itself (round binary32 true (suc n) 1) true (suc n) (round_whole binary32 true (suc n) (omega arith))

-- ---- one control point

-- the walk stays where it begins
stays : (x y : Float) → sub binary32 x x ≡ o → sub binary32 y y ≡ o
    → walk_in 2 (x ∷ y ∷ []) ≡ Ended (to_draw (record { x = x; y = y }) 1·0 ∷ to_draw (record { x = x; y = y }) o ∷ [])
unfolding walk_in walk_from stretch_of stretch_in point_at distance_of sqrt_of add mul le of_bits
stays x y a b = rw (a, b)

path_of_one : (start : Pair) → Curve.flat (path_of start []) ≡ (point_of start).x ∷ (point_of start).y ∷ []
unfolding Curve.flat path_of Curve.draw_centripetal_catmull_rom_spline Curve.as_points control_points later_points
path_of_one start = refl

no_length : (p : Point) → le (walk_length 2 (last_multiplier (to_draw p 1·0 ∷ to_draw p o ∷ []))) (f 0) ≡ true
unfolding walk_length last_multiplier add mul of_int of_bits le
no_length p = refl

-- ---- skipped splines

module _ (d : Description) (g : Given) (high : Bool) (k : ℕ) where
  pub skipped_makes_none : (own : List Segment) → Skipped d k → SplineMakes d g high k own → own ≡ []
  unfolding walk_segments
  skipped_makes_none own s m =
      let q : At m.start ≡ At s.start = sym m.begins ∙ s.begins in
      let e : m.start ≡ s.start = cc in
      let v : Walks (Curve.flat (path_of s.start (deltas_of d k))) m.points = subst (λ (p : Pair). Walks (Curve.flat (path_of p (deltas_of d k))) m.points) e m.walks in
      let w = walk_one (Curve.flat (path_of s.start (deltas_of d k))) m.points s.points v s.walks in
      m.are ∙ rw (w, s.no_length)

  no_deltas : get_or d.counts k 0 ≡ 0 → deltas_of d k ≡ []
  unfolding deltas_of
  no_deltas e = rw e

  pub no_deltas_skipped : AllPass d g → k < length d.counts → get_or d.counts k 0 ≡ 0 → Skipped d k
  unfolding stand_at
  no_deltas_skipped p h e =
      let a = fine_accepted d g (total_of d g (length d.counts)) (all_fine d g p) k h in
      let r = point_range a.start a.walk.point in
      let x = (point_of a.start).x in
      let y = (point_of a.start).y in
      let path : Curve.flat (path_of a.start (deltas_of d k)) ≡ x ∷ y ∷ [] = ap (λ (ds : List ℤ). Curve.flat (path_of a.start ds)) (no_deltas e) ∙ path_of_one a.start in
      let walk = stays x y (whole_less_itself a.start.x (in_range_mag a.start.x r.0)) (whole_less_itself a.start.y (in_range_mag a.start.y r.1)) in
      record {
        start = a.start;
        begins = a.begins;
        points = to_draw (point_of a.start) 1·0 ∷ to_draw (point_of a.start) o ∷ [];
        walks = record { most = 2; ended = ap (walk_in 2) path ∙ walk };
        no_length = no_length (point_of a.start);
      }

-- Assumes nothing.
