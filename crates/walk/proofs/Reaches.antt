-- One turn of the inner loop, by what the code makes of the point i: each law opens `stretch_in` once.
use mathlib.Core.Path.{◌≡◌}
use mathlib.Core.Bool.{true, false}
use mathlib.Core.List.{List}
use Prim.Native.Nat.{ℕ, suc, ◌+◌, ◌-◌, ◌≤◌, ◌<◌}
use native.Mathlib.Omega.{arith}
use lib.Ieee.{Float, le}
use Rattle.numbers.specs.Arith.{1·0, ◌⊕◌, ◌⊖◌, ◌⊘◌}
use Rattle.curve.specs.declared.Point.{Point}
use Rattle.curve.specs.Points.{add_point, sub_point, mul_point}
use Rattle.walk.specs.declared.Stretch.TheVariants.{Ends, Emits}
use Rattle.walk.specs.Walk.{distance_of, point_at, stretch_in}

module _ (path : List Float) (n i : ℕ) (p : Point) (d : Float) where
  pub reach_end : n ≤ i → stretch_in (n - i) path i p d ≡ Ends p d
  unfolding stretch_in
  reach_end h = let e : n - i ≡ 0 = omega arith in rw e

  one_more : i < n → n - i ≡ suc (n - (i + 1))
  one_more h = omega arith

  -- q, v and l are what the code makes of the point i
  module _ {q v : Point} {l : Float} (eq : q ≡ point_at path i) (ev : v ≡ sub_point q p) (el : l ≡ distance_of v) (h : i < n) where
    pub reach_emit : {u r : Point} → u ≡ mul_point v ((1·0 ⊖ d) ⊘ l) → r ≡ add_point p u → le 1·0 (d ⊕ l) ≡ true → stretch_in (n - i) path i p d ≡ Emits r i
    unfolding stretch_in
    reach_emit eu er t = rw (one_more h, er, eu, el, ev, eq, rw (el, ev, eq) at t)

    pub reach_pass : le 1·0 (d ⊕ l) ≡ false → stretch_in (n - i) path i p d ≡ stretch_in (n - (i + 1)) path (i + 1) q (d ⊕ l)
    unfolding stretch_in
    reach_pass t = rw (one_more h, el, ev, eq, rw (el, ev, eq) at t)

-- Assumes nothing.
