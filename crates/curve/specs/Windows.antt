-- One window of `draw_centripetal_catmull_rom_spline`: its points after the first, in three levels. Definitions only.
use Rattle.std.specs.Prelude.{ℕ, pos, Float}
use Rattle.std.specs.Float.{binary32}
use Rattle.std.specs.Float.Ieee.{of_int}
use Rattle.numbers.specs.Arith.{f, 0·0, ◌⊕◌, ◌⊖◌, ◌⊗◌, ◌⊘◌}
use Rattle.curve.specs.declared.Point.{Point}
use Rattle.curve.specs.declared.Window.{Window}
use Rattle.curve.specs.Points.{add_point, sub_point, mul_point}

abbrev 16·0 : Float
16·0 = f 0x41800000

-- p + (q - p) * ((tt - t) / d)
unfoldable pub toward : Point → Point → Float → Float → Float → Point
toward p q tt t d = add_point p (mul_point (sub_point q p) ((tt ⊖ t) ⊘ d))

-- tt of point i: d[0] + (i / 16) * d[1]
unfoldable pub time : Window → ℕ → Float
time w i = w.d0 ⊕ of_int binary32 (pos i) ⊘ 16·0 ⊗ w.d1

-- the levels a, b and the point at tt; t[1] and t[2] are where the second and the third point lie
unfoldable pub levels : Window → Float → Float → Float → Point
unfolding toward
levels w tt t1 t2 =
    let t0 = 0·0 in
    let a0 = toward w.p0 w.p1 tt t0 w.d0 in
    let a1 = toward w.p1 w.p2 tt t1 w.d1 in
    let a2 = toward w.p2 w.p3 tt t2 w.d2 in
    let b0 = toward a0 a1 tt t0 (w.d0 ⊕ w.d1) in
    let b1 = toward a1 a2 tt t1 (w.d1 ⊕ w.d2) in
    toward b0 b1 tt t1 w.d1

-- t[0] = 0 and t[k + 1] = t[k] + d[k]
unfoldable pub window_point : Window → ℕ → Point
unfolding levels time
window_point w i =
    let t1 = 0·0 ⊕ w.d0 in
    let t2 = t1 ⊕ w.d1 in
    levels w (time w i) t1 t2
