-- `draw_centripetal_catmull_rom_spline`: the path through the control points, and what a lent buffer then holds. Definitions only.
use Rattle.std.specs.Prelude.{◌≡◌, cond, List, [], ◌∷◌, ◌++◌, ℕ, zero, suc, ◌+◌, ◌-◌, ◌*◌, ◌/◌, min, leb, ℤ, length, Float}
use Rattle.std.specs.Float.{binary32}
use Rattle.std.specs.Float.Ieee.{of_int}
use Rattle.roots.specs.Root.{sqrt_of}
use Rattle.buffers.specs.Onto.{onto}
use Rattle.control_points.specs.ControlPoints.{control_points}
use Rattle.control_points.specs.declared.Pair.{Pair}
use Rattle.curve.specs.declared.Point.{Point}
use Rattle.curve.specs.declared.Window.{Window}
use Rattle.curve.specs.Curved.{Curved, Points, Room}
use Rattle.curve.specs.Points.{add_point, sub_point, abs_point}
use Rattle.curve.specs.Windows.{window_point}

-- ---- control points

-- Point::new(current_x as f32, current_y as f32)
abbrev pub point_of : Pair → Point
point_of p = record { x = of_int binary32 p.x; y = of_int binary32 p.y }

unfoldable pub as_points : List Pair → List Point
as_points [] = []
as_points (p ∷ l) = point_of p ∷ as_points l

-- ---- windows

-- p + (p - q)
abbrev pub reflected : Point → Point → Point
reflected p q = add_point p (sub_point p q)

-- what follows p and q: the points l, and behind the last of all its reflection
unfoldable pub closing : Point → Point → List Point → List Point
closing p q [] = reflected q p ∷ []
closing p q (r ∷ l) = r ∷ closing q r l

-- (q - p).abs().sqrt()
unfoldable pub root_distance : Point → Point → Float
root_distance p q = sqrt_of binary32 (abs_point (sub_point q p))

-- each point but the last is paired with the root of its distance to the next
unfoldable pub window_of : Point → Point → Point → Point → Window
window_of p q r s = record {
  p0 = p;
  p1 = q;
  p2 = r;
  p3 = s;
  d0 = root_distance p q;
  d1 = root_distance q r;
  d2 = root_distance r s;
}

-- each four points that follow one another, of p, q, r and l
unfoldable pub windows_from : Point → Point → Point → List Point → List Window
windows_from p q r [] = []
windows_from p q r (s ∷ l) = window_of p q r s ∷ windows_from q r s l

-- the windows of p, q and l, with one point more at either end
unfoldable pub windows_of : Point → Point → List Point → List Window
windows_of p q l = windows_from (reflected p q) p q (closing p q l)

-- ---- the path

-- the first i points after a window's second point
unfoldable pub interpolated : Window → ℕ → List Point
interpolated w zero = []
interpolated w (suc i) = interpolated w i ++ (window_point w (suc i) ∷ [])

unfoldable pub window_points : Window → List Point
window_points w = w.p1 ∷ interpolated w 15

unfoldable pub all_points : List Window → List Point
all_points [] = []
all_points (w ∷ l) = window_points w ++ all_points l

unfoldable pub last_of : Point → List Point → Point
last_of p [] = p
last_of p (q ∷ l) = last_of q l

unfoldable pub draw_centripetal_catmull_rom_spline : List Point → List Point
draw_centripetal_catmull_rom_spline [] = []
draw_centripetal_catmull_rom_spline (p ∷ []) = p ∷ []
draw_centripetal_catmull_rom_spline (p ∷ q ∷ l) = all_points (windows_of p q l) ++ (last_of q l ∷ [])

-- the path of the spline that begins at start and has the double deltas ds
unfoldable pub path_of : Pair → List ℤ → List Point
path_of start ds = draw_centripetal_catmull_rom_spline (as_points (control_points start ds))

-- 16(n - 1) + 1 points for n control points: 1 for one
abbrev pub PathLength : Type 0
PathLength = (start : Pair) (ds : List ℤ) → length (path_of start ds) ≡ 16 * (length (control_points start ds) - 1) + 1

-- ---- in a lent buffer

-- two numbers a point
unfoldable pub flat : List Point → List Float
flat [] = []
flat (p ∷ l) = p.x ∷ p.y ∷ flat l

-- how many points a buffer of n numbers has room for
abbrev pub path_room : ℕ → ℕ
path_room n = min (n / 2) 8388608

unfoldable pub curved_of : ℕ → List Point → Curved
curved_of room path = cond (leb (length path) room) (Points (length path)) Room

-- the buffer after; o is the buffer before
unfoldable pub curved_on : ℕ → List Point → List Float → List Float
curved_on room path o = cond (leb (length path) room) (onto (flat path) o) o
