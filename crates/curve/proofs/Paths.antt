-- The path window by window, as a list of numbers: what is still to come after each window, and how long the whole is.
use mathlib.Core.Path.{◌≡◌, refl, ap, ◌∙◌}
use mathlib.Core.List.{List, [], ◌∷◌, ◌++◌, append_assoc}
use Prim.Native.Nat.{ℕ, zero, suc, ◌+◌, ◌*◌, ◌/◌, ◌≤◌, ◌<◌}
use native.Mathlib.Omega.{arith}
use native.Mathlib.Numerals.{add-one}
use borrow.Author.Tests.{le-leb, lt-leb}
use lib.IntN.{ℤ}
use lib.ListN.{length, length-append}
use lib.Ieee.{Float}
use Rattle.buffers.specs.Onto.{onto}
use Rattle.control_points.specs.ControlPoints.{stand_at, later_points, control_points}
use Rattle.control_points.specs.declared.Pair.{Pair}
use Rattle.control_points.proofs.Walks.{points_length, points_done}
use Rattle.curve.specs.declared.Point.{Point}
use Rattle.curve.specs.declared.Window.{Window}
use Rattle.curve.specs.Curved.{Points, Room}
use Rattle.curve.specs.Windows.{window_point}
use Rattle.curve.specs.Curve.{point_of, as_points, reflected, closing, window_of, windows_from, windows_of, interpolated, window_points, all_points, last_of, draw_centripetal_catmull_rom_spline, path_of, PathLength, flat, curved_of, curved_on}

-- ---- two numbers a point

abbrev pub two : Point → List Float
two p = p.x ∷ p.y ∷ []

pub flat_append : (l k : List Point) → flat (l ++ k) ≡ flat l ++ flat k
unfolding flat
flat_append [] k = refl
flat_append (p ∷ l) k = ap (λ (t : List Float). p.x ∷ p.y ∷ t) (flat_append l k)

pub length_flat : (l : List Point) → length (flat l) ≡ 2 * length l
unfolding flat
length_flat [] = refl
length_flat (p ∷ l) = omega (arith, length_flat l)

-- ---- one window

pub interpolated_more : (w : Window) (i : ℕ) → flat (interpolated w (i + 1)) ≡ flat (interpolated w i) ++ two (window_point w (i + 1))
unfolding interpolated flat
interpolated_more w i = rw add-one (flat_append (interpolated w i) (window_point w (suc i) ∷ []))

length_interpolated : (w : Window) (i : ℕ) → length (interpolated w i) ≡ i
unfolding interpolated
length_interpolated w zero = refl
length_interpolated w (suc i) = simp length-append (omega (arith, length_interpolated w i))

pub length_flat_interpolated : (w : Window) (i : ℕ) → length (flat (interpolated w i)) ≡ 2 * i
length_flat_interpolated w i = length_flat (interpolated w i) ∙ ap (λ (n : ℕ). 2 * n) (length_interpolated w i)

pub window_flat : (w : Window) → flat (window_points w) ≡ two w.p1 ++ flat (interpolated w 15)
unfolding window_points flat
window_flat w = refl

length_window : (w : Window) → length (window_points w) ≡ 16
unfolding window_points
length_window w = ap suc (length_interpolated w 15)

pub length_flat_window : (w : Window) → length (flat (window_points w)) ≡ 32
length_flat_window w = length_flat (window_points w) ∙ ap (λ (n : ℕ). 2 * n) (length_window w)

-- ---- what is still to come

-- the path from q on, where p stands before q, and r and l follow
unfoldable pub rest_path : Point → Point → Point → List Point → List Float
rest_path p q r l = flat (all_points (windows_from p q r (closing q r l)) ++ (last_of r l ∷ []))

pub rest_last : (p q r : Point) → rest_path p q r [] ≡ flat (window_points (window_of p q r (reflected r q))) ++ two r
unfolding rest_path closing windows_from all_points last_of flat
rest_last p q r =
    let w = window_points (window_of p q r (reflected r q)) in
    flat_append (w ++ []) (r ∷ []) ∙ ap (λ (t : List Float). t ++ two r) (flat_append w [] ∙ end (flat w))
  where
    end : (t : List Float) → t ++ [] ≡ t
    end [] = refl
    end (a ∷ t) = ap (λ (u : List Float). a ∷ u) (end t)

pub rest_more : (p q r s : Point) (l : List Point) → rest_path p q r (s ∷ l) ≡ flat (window_points (window_of p q r s)) ++ rest_path q r s l
unfolding rest_path closing windows_from all_points last_of
rest_more p q r s l =
    let w = window_points (window_of p q r s) in
    let k = all_points (windows_from q r s (closing r s l)) in
    ap flat (append_assoc w k (last_of s l ∷ [])) ∙ flat_append w (k ++ (last_of s l ∷ []))

pub path_flat : (p q : Point) (l : List Point) → flat (draw_centripetal_catmull_rom_spline (p ∷ q ∷ l)) ≡ rest_path (reflected p q) p q l
unfolding draw_centripetal_catmull_rom_spline windows_of rest_path
path_flat p q l = refl

-- ---- its length

length_closing : (p q : Point) (l : List Point) → length (closing p q l) ≡ length l + 1
unfolding closing
length_closing p q [] = refl
length_closing p q (r ∷ l) = omega (arith, length_closing q r l)

length_all : (p q r : Point) (l : List Point) → length (all_points (windows_from p q r l)) ≡ 16 * length l
unfolding all_points windows_from
length_all p q r [] = refl
length_all p q r (s ∷ l) =
    length-append (window_points (window_of p q r s)) (all_points (windows_from q r s l)) ∙ omega (arith, length_window (window_of p q r s), length_all q r s l)

length_drawn : (p : Point) (l : List Point) → length (draw_centripetal_catmull_rom_spline (p ∷ l)) ≡ 16 * length l + 1
unfolding draw_centripetal_catmull_rom_spline windows_of
length_drawn p [] = refl
length_drawn p (q ∷ l) =
    length-append (all_points (windows_from (reflected p q) p q (closing p q l))) (last_of q l ∷ [])
    ∙ omega (arith, length_all (reflected p q) p q (closing p q l), length_closing p q l)

length_points : (l : List Pair) → length (as_points l) ≡ length l
unfolding as_points
length_points [] = refl
length_points (p ∷ l) = ap suc (length_points l)

-- 16 points for each double delta, and one
pub length_path : (start : Pair) (ds : List ℤ) → length (path_of start ds) ≡ 16 * (length ds / 2) + 1
unfolding path_of control_points as_points
length_path start ds =
    length_drawn (point_of start) (as_points (later_points (stand_at start) ds))
    ∙ omega (arith, length_points (later_points (stand_at start) ds), points_length (stand_at start) ds)

pub path_length : PathLength
unfolding control_points
path_length start ds = omega (arith, length_path start ds, points_length (stand_at start) ds)

-- the start alone
pub path_one : (start : Pair) (ds : List ℤ) → length ds < 2 → flat (path_of start ds) ≡ two (point_of start)
unfolding path_of control_points as_points draw_centripetal_catmull_rom_spline flat
path_one start ds h = rw (points_done (stand_at start) ds h)

-- ---- the answer and the buffer

pub curved_room : (room : ℕ) (path : List Point) (o : List Float) → room < length path → (Room ≡ curved_of room path) × (o ≡ curved_on room path o)
unfolding curved_of curved_on
curved_room room path o h = (rw (lt-leb (length path) room h), rw (lt-leb (length path) room h))

pub curved_points : (room : ℕ) (path : List Point) (o e : List Float) (n : ℕ) → n ≡ length path → length path ≤ room → e ≡ onto (flat path) o
    → (Points n ≡ curved_of room path) × (e ≡ curved_on room path o)
unfolding curved_of curved_on
curved_points room path o e n is h g = (rw (le-leb (length path) room h, is), rw (le-leb (length path) room h) g)

-- Assumes nothing.
