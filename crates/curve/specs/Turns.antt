-- What the inner functions of the curve promise one another. Definitions only.
use Rattle.std.specs.Prelude.{List, ℕ, ℤ, Float}
use Rattle.std.specs.Float.{binary32}
use Rattle.roots.specs.Root.{sqrt_of}
use Rattle.roots.specs.Length.{length_of}
use Rattle.control_points.specs.ControlPoints.{pair_at, moved_of}
use Rattle.control_points.specs.declared.Pair.{Pair}
use Rattle.control_points.specs.declared.Stand.{Stand}
use Rattle.curve.specs.declared.Point.{Point}
use Rattle.curve.specs.declared.Window.{Window}
use Rattle.curve.specs.declared.Turn.{Turn}
use Rattle.curve.specs.Curve.{point_of, reflected}

-- the root of a delta's length
unfoldable pub root_length : Pair → Float
root_length d = sqrt_of binary32 (length_of d.x d.y)

-- the stand one double delta on
abbrev pub next_stand : Stand → List ℤ → ℕ → Stand
next_stand p ds k = moved_of p (pair_at ds k)

-- at the start, which is followed by a stand; before it stands its reflection
unfoldable pub first_turn : Pair → Stand → Turn
first_turn start stand =
    let q = point_of start in
    let r = point_of stand.point in
    let d = root_length stand.delta in
    record { p = reflected q r; q = q; r = r; stand = stand; d0 = d; d1 = d }

-- one stand on
unfoldable pub next_turn : Turn → Stand → Turn
next_turn t stand = record {
  p = t.q;
  q = t.r;
  r = point_of stand.point;
  stand = stand;
  d0 = t.d1;
  d1 = root_length stand.delta;
}

-- a turn's three points and a fourth
abbrev pub turn_window : Turn → Point → Float → Window
turn_window t s d = record { p0 = t.p; p1 = t.q; p2 = t.r; p3 = s; d0 = t.d0; d1 = t.d1; d2 = d }

-- behind the last point stands its reflection, as far away as the one before it
abbrev pub last_window : Turn → Window
last_window t = turn_window t (reflected t.r t.q) t.d1
