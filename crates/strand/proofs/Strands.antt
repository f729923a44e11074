-- A walk on the front of a buffer has the segments of its points, and the steps of a spline are put together.
use mathlib.Core.Path.{◌≡◌, sym, ap, ◌∙◌}
use Rattle.std.specs.Prelude.{Some}
use mathlib.Core.Bool.{Bool, true, false}
use mathlib.Core.List.{List, []}
use Prim.Native.Nat.{ℕ, ◌-◌, ◌*◌, ◌/◌, ◌≤◌, ◌<◌}
use native.Mathlib.Omega.{arith}
use lib.ListN.{length, take, get_or}
use lib.Seq.{get_or-take}
use lib.IntN.{ℤ}
use lib.Ieee.{Float, nan, le}
use borrow.Author.Tests.{le-leb, lt-leb}
use Rattle.numbers.specs.Arith.{f}
use Rattle.control_points.specs.declared.Pair.{Pair}
use Rattle.dequantize.specs.declared.Spline.{Spline}
use Rattle.curve.specs.Curve as Curve
use Rattle.curve.specs.Curve.{path_of, curved_of, curved_on}
use Rattle.curve.specs.Curved.{Curved}
use Rattle.curve.specs.declared.Point.{Point}
use Rattle.curve.proofs.Answers.{OnFront, curved-got}
use Rattle.walk.specs.Walk.{walk_in, walk_length, last_multiplier, walked_of, WalkedOn}
use Rattle.walk.specs.Walked.{Walked}
use Rattle.walk.proofs.Answers.{Taken, taken-last, walked-got}
use Rattle.walk.proofs.Walking.{length_flat}
use Rattle.points.specs.Points.{add_segments_from_points, filled_of, FilledOn}
use Rattle.points.specs.Filled.{Count}
use Rattle.points.proofs.Adding.{made_none}
use Rattle.segments.specs.declared.Segment.{Segment}
use Rattle.strand.specs.Strand.{walk_segments, flat_segments, after_walk, strand_of, NoRoom, Segments}

-- ---- what the steps answer

-- a path that had room, and a walk that had room
pub path_taken : (room : ℕ) (path : List Point) (o e : List Float) (n : ℕ) {a : Curved} → a ≡ Some n → (a ≡ curved_of room path) × (e ≡ curved_on room path o) → OnFront room path e n
path_taken room path o e n q w = curved-got room path o e n (sym q ∙ w.0) w.1

pub walk_taken : (room : ℕ) (path o e : List Float) (n : ℕ) {a : Walked} → a ≡ Some n → (a ≡ walked_of (walk_in room path)) × WalkedOn (walk_in room path) o e → Taken room path e n
walk_taken room path o e n q w = walked-got room path o e n (sym q ∙ w.0) w.1

-- ---- a walk

-- by the length: none, or all
pub flat_none : (s : Spline) (high : Bool) (walk : List Float) {l : Float} → l ≡ walk_length (length walk / 3) (get_or walk (3 * (length walk / 3) - 1) nan) → le l (f 0) ≡ true → flat_segments s high walk ≡ []
unfolding flat_segments
flat_none s high walk e t = rw (← e, t)

pub flat_all : (s : Spline) (high : Bool) (walk : List Float) {l : Float} → l ≡ walk_length (length walk / 3) (get_or walk (3 * (length walk / 3) - 1) nan) → le l (f 0) ≡ false
    → flat_segments s high walk ≡ add_segments_from_points s walk l high
unfolding flat_segments
flat_all s high walk e t = rw (← e, t)

-- nothing added
pub none_filled : (room from : ℕ) (segs : List Segment) (o : List Float) → segs ≡ [] → from ≤ room → (Count from ≡ filled_of room from segs) × FilledOn (Count from) from segs o o
none_filled room from segs o e h = rw e (made_none room from o h)

-- a walk that was taken, as a list of its own
pub taken_segments : (s : Spline) (high : Bool) (room : ℕ) (path e : List Float) (n : ℕ) → (t : Taken room path e n)
    → Segments (flat_segments s high (take (3 * n) e)) ≡ after_walk s high (walk_in room path)
unfolding flat_segments walk_segments
taken_segments s high room path e n t =
    let k : length (take (3 * n) e) / 3 ≡ n = omega (arith, ap length t.front, length_flat t.points, t.count) in
    let m : get_or (take (3 * n) e) (3 * n - 1) nan ≡ last_multiplier t.points = get_or-take (3 * n) e (3 * n - 1) nan (omega (arith, t.two)) ∙ taken-last room path e n t in
    rw (t.ended, k, m, t.front, t.count)

-- ---- a spline

module _ (path_room walk_room : ℕ) (start : Pair) (ds : List ℤ) (s : Spline) (high : Bool) where
  pub strand_none : path_room < length (path_of start ds) → strand_of path_room walk_room start ds s high ≡ NoRoom
  unfolding strand_of
  strand_none h = rw (lt-leb (length (path_of start ds)) path_room h)

  pub strand_drawn : {p : List Float} → length (path_of start ds) ≤ path_room → p ≡ Curve.flat (path_of start ds) → after_walk s high (walk_in walk_room p) ≡ strand_of path_room walk_room start ds s high
  unfolding strand_of
  strand_drawn h e = rw (le-leb (length (path_of start ds)) path_room h, e)

-- Assumes nothing.
