-- The turns of the curve: every point and every difference of two is a whole number that is exact in f32, so the roots of distances are those of the deltas' lengths.
use mathlib.Core.Path.{◌≡◌, refl, sym, ap, ◌∙◌}
use mathlib.Core.Bool.{Bool, true, false, cond}
use mathlib.Core.List.{List, [], ◌++◌}
use Prim.Native.Nat.{ℕ, zero, suc, ◌+◌, ◌-◌, ◌*◌, ◌≤◌, ◌<◌}
use native.Mathlib.Omega.{arith}
use lib.Dec.{ltb}
use lib.IntN.{ℤ, pos, negsuc, neg_ℤ, nat_abs, ◌+ℤ◌, ◌-ℤ◌, +ℤ_comm, +ℤ_assoc, +ℤ_idl, +ℤ_invr, neg_ℤ-+ℤ, +ℤ-neg_ℤ_cancel, -ℤ-+ℤ_cancel}
use lib.ListN.{length, drop, length-drop}
use lib.Seq.{sets}
use lib.Ieee.{Float, binary32, add, sub, of_int}
use Rattle.roots.specs.Root.{sqrt_of}
use Rattle.roots.specs.Length.{hypot_of}
use Rattle.ieee754.proofs.Hypot.{hypot_is_length}
use Rattle.buffers.specs.Onto.{onto}
use Rattle.buffers.proofs.Filling.{Filled, filled_more, filled_all}
use Rattle.control_points.specs.ControlPoints.{valid_point_pos, plus_of, stand_at, moved_of, later_points, control_points}
use Rattle.control_points.specs.Asked.{Passable}
use Rattle.control_points.specs.declared.Pair.{Pair}
use Rattle.control_points.proofs.Pairs.{in_range_mag, point_range, abs_mag}
use Rattle.control_points.proofs.Walks.{walk_more, points_more, points_done}
use Rattle.curve.specs.declared.Point.{Point}
use Rattle.curve.specs.declared.Window.{Window}
use Rattle.curve.specs.declared.Turn.{Turn}
use Rattle.curve.specs.Points.{abs_point}
use Rattle.curve.specs.Curve.{point_of, as_points, reflected, root_distance, window_of, window_points, path_of, flat}
use Rattle.curve.specs.Turns.{root_length, next_stand, first_turn, next_turn, turn_window, last_window}
use Rattle.curve.proofs.Wholes.{add_wholes, sub_wholes}
use Rattle.curve.proofs.Paths.{two, length_flat_window, rest_path, rest_last, rest_more, path_flat}

-- ---- magnitudes

abs_sum : (x y : ℤ) → nat_abs (x +ℤ y) ≤ nat_abs x + nat_abs y
abs_sum (pos a) (pos b) = omega arith
abs_sum (pos a) (negsuc b) = go (ltb a (suc b))
  where
    go : (t : Bool) → nat_abs (cond t (negsuc (suc b - suc a)) (pos (a - suc b))) ≤ a + suc b
    go true = omega arith
    go false = omega arith
abs_sum (negsuc a) (pos b) = go (ltb b (suc a))
  where
    go : (t : Bool) → nat_abs (cond t (negsuc (suc a - suc b)) (pos (b - suc a))) ≤ suc a + b
    go true = omega arith
    go false = omega arith
abs_sum (negsuc a) (negsuc b) = omega arith

abs_neg : (x : ℤ) → nat_abs (neg_ℤ x) ≤ nat_abs x
abs_neg (pos zero) = omega arith
abs_neg (pos (suc n)) = omega arith
abs_neg (negsuc n) = omega arith

-- exact in f32
record Exact (p : Pair) : Type 0 where
  x : nat_abs p.x ≤ 16777216
  y : nat_abs p.y ≤ 16777216

-- half of that, so that a sum of two is exact
record Half (p : Pair) : Type 0 where
  x : nat_abs p.x ≤ 8388608
  y : nat_abs p.y ≤ 8388608

half : (p : Pair) → valid_point_pos p ≡ true → Half p
half p h =
    let b = point_range p h in
    record { x = omega (arith, in_range_mag p.x b.0, abs_mag p.x); y = omega (arith, in_range_mag p.y b.1, abs_mag p.y) }

exact : (p : Pair) → Half p → Exact p
exact p h = record { x = omega arith; y = omega arith }

abbrev minus_of : Pair → Pair → Pair
minus_of p q = record { x = p.x -ℤ q.x; y = p.y -ℤ q.y }

exact_plus : (p q : Pair) → Half p → Half q → Exact (plus_of p q)
unfolding plus_of
exact_plus p q g h = record { x = omega (arith, abs_sum p.x q.x); y = omega (arith, abs_sum p.y q.y) }

exact_minus : (p q : Pair) → Half p → Half q → Exact (minus_of p q)
exact_minus p q g h = record {
  x = omega (arith, abs_sum p.x (neg_ℤ q.x), abs_neg q.x);
  y = omega (arith, abs_sum p.y (neg_ℤ q.y), abs_neg q.y);
}

-- ---- one coordinate

module _ (a d : ℤ) (g : nat_abs a ≤ 16777216) (s : nat_abs (a +ℤ d) ≤ 16777216) where
  ahead : sub binary32 (of_int binary32 (a +ℤ d)) (of_int binary32 a) ≡ of_int binary32 d
  ahead = sub_wholes binary32 (a +ℤ d) a s g ∙ ap (of_int binary32) (ap (λ (z : ℤ). z -ℤ a) (+ℤ_comm a d) ∙ +ℤ-neg_ℤ_cancel d a)

  behind : sub binary32 (of_int binary32 a) (of_int binary32 (a +ℤ d)) ≡ of_int binary32 (neg_ℤ d)
  behind =
      sub_wholes binary32 a (a +ℤ d) g s
      ∙ ap (of_int binary32)
      (ap (λ (z : ℤ). a +ℤ z) (neg_ℤ-+ℤ a d)
      ∙ sym (+ℤ_assoc a (neg_ℤ a) (neg_ℤ d))
      ∙ ap (λ (z : ℤ). z +ℤ neg_ℤ d) (+ℤ_invr a)
      ∙ +ℤ_idl (neg_ℤ d))

-- ---- points

point_is : {a b c d : Float} → a ≡ b → c ≡ d → ◌≡◌ {A = Point} (record { x = a; y = c }) (record { x = b; y = d })
point_is p q = rw (p, q)

pair_is : {a b c d : ℤ} → a ≡ b → c ≡ d → ◌≡◌ {A = Pair} (record { x = a; y = c }) (record { x = b; y = d })
pair_is p q = rw (p, q)

-- from p to p + d
apart : (p d : Pair) → Exact p → Exact d → Exact (plus_of p d) → root_distance (point_of p) (point_of (plus_of p d)) ≡ root_length d
unfolding root_distance abs_point root_length plus_of
apart p d g h s =
    ap (sqrt_of binary32)
    (ap (λ (v : Point). hypot_of binary32 v.x v.y) (point_is (ahead p.x d.x g.x s.x) (ahead p.y d.y g.y s.y))
    ∙ hypot_is_length d.x d.y h.x h.y)

module _ (p d : Pair) (g : Half p) (h : Half d) where
  -- the other side of p + d is p + d + d
  reflect_ahead : Exact (plus_of p d) → reflected (point_of (plus_of p d)) (point_of p) ≡ point_of (plus_of (plus_of p d) d)
  unfolding plus_of
  reflect_ahead s =
      point_is
      (ap (add binary32 (of_int binary32 (p.x +ℤ d.x))) (ahead p.x d.x (omega arith) s.x) ∙ add_wholes binary32 (p.x +ℤ d.x) d.x s.x (omega arith))
      (ap (add binary32 (of_int binary32 (p.y +ℤ d.y))) (ahead p.y d.y (omega arith) s.y) ∙ add_wholes binary32 (p.y +ℤ d.y) d.y s.y (omega arith))

  -- the other side of p is p - d
  reflect_behind : Exact (plus_of p d) → reflected (point_of p) (point_of (plus_of p d)) ≡ point_of (minus_of p d)
  unfolding plus_of
  reflect_behind s =
      point_is
      (ap (add binary32 (of_int binary32 p.x)) (behind p.x d.x (omega arith) s.x) ∙ add_wholes binary32 p.x (neg_ℤ d.x) (omega arith) (omega (arith, abs_neg d.x)))
      (ap (add binary32 (of_int binary32 p.y)) (behind p.y d.y (omega arith) s.y) ∙ add_wholes binary32 p.y (neg_ℤ d.y) (omega arith) (omega (arith, abs_neg d.y)))

  and_back : plus_of (minus_of p d) d ≡ p
  unfolding plus_of
  and_back = pair_is (-ℤ-+ℤ_cancel p.x d.x) (-ℤ-+ℤ_cancel p.y d.y)

  -- the reflected point before p is as far away as p + d
  reflected_apart : root_distance (reflected (point_of p) (point_of (plus_of p d))) (point_of p) ≡ root_length d
  reflected_apart =
      ap (λ (v : Point). root_distance v (point_of p)) (reflect_behind (exact_plus p d g h))
      ∙ ap (λ (v : Pair). root_distance (point_of (minus_of p d)) (point_of v)) (sym and_back)
      ∙ apart (minus_of p d) d (exact_minus p d g h) (exact d h) (rw and_back (exact p g))

-- ---- turns

-- A turn before the pair k of a walk that was traced: all its points but the first are control points, and its roots are those of the distances.
pub record Under (t : Turn) (ds : List ℤ) (k : ℕ) : Type 0 where
  pub from : Pair
  pub valid : valid_point_pos from ≡ true
  pub led : t.stand.point ≡ plus_of from t.stand.delta
  pub q : t.q ≡ point_of from
  pub r : t.r ≡ point_of t.stand.point
  pub d0 : t.d0 ≡ root_distance t.p t.q
  pub d1 : t.d1 ≡ root_length t.stand.delta
  pub walk : Passable t.stand (drop (2 * k) ds)

module _ (t : Turn) (ds : List ℤ) (k : ℕ) (u : Under t ds k) where
  delta_half : Half t.stand.delta
  delta_half = half t.stand.delta u.walk.delta

  point_half : Half t.stand.point
  point_half = half t.stand.point u.walk.point

  second : t.d1 ≡ root_distance t.q t.r
  second =
      let d = t.stand.delta in
      let a = half u.from u.valid in
      u.d1
      ∙ sym (apart u.from d (exact u.from a) (exact d delta_half) (exact_plus u.from d a delta_half))
      ∙ rw (u.q, u.r, u.led)

  third : t.d1 ≡ root_distance t.r (reflected t.r t.q)
  third =
      let b = t.stand.point in
      let d = t.stand.delta in
      let a = half u.from u.valid in
      let s : Exact (plus_of u.from d) = rw u.led at (exact b point_half) in
      let e : reflected t.r t.q ≡ point_of (plus_of b d) = rw (u.r, u.q, u.led) (reflect_ahead u.from d a delta_half s) in
      u.d1 ∙ sym (apart b d (exact b point_half) (exact d delta_half) (exact_plus b d point_half delta_half)) ∙ rw (e, u.r)

window_is : {p q r s : Point} {a b c d e f : Float} → a ≡ d → b ≡ e → c ≡ f
    → ◌≡◌ {A = Window} (record { p0 = p; p1 = q; p2 = r; p3 = s; d0 = a; d1 = b; d2 = c }) (record { p0 = p; p1 = q; p2 = r; p3 = s; d0 = d; d1 = e; d2 = f })
window_is g h i = rw (g, h, i)

pub first_under : (start : Pair) (ds : List ℤ) → Passable (stand_at start) ds → 2 ≤ length ds → Under (first_turn start (next_stand (stand_at start) ds 0)) ds 1
unfolding first_turn moved_of stand_at
first_under start ds w h =
    let m = walk_more (stand_at start) ds 0 h w in
    let d = (next_stand (stand_at start) ds 0).delta in
    record {
      from = start;
      valid = w.point;
      led = refl;
      q = refl;
      r = refl;
      d0 = sym (reflected_apart start d (half start w.point) (half d m.delta));
      d1 = refl;
      walk = m;
    }

module _ (t : Turn) (ds : List ℤ) (k : ℕ) (u : Under t ds k) where
  pub next_under : 2 * k + 2 ≤ length ds → Under (next_turn t (next_stand t.stand ds k)) ds (k + 1)
  unfolding next_turn moved_of
  next_under h = record {
    from = t.stand.point;
    valid = u.walk.point;
    led = refl;
    q = u.r;
    r = refl;
    d0 = second t ds k u;
    d1 = refl;
    walk = walk_more t.stand ds k h u.walk;
  }

  turn_window_lem : (h : 2 * k + 2 ≤ length ds) → let n = next_turn t (next_stand t.stand ds k) in turn_window t n.r n.d1 ≡ window_of t.p t.q t.r n.r
  unfolding window_of next_turn
  turn_window_lem h = window_is u.d0 (second t ds k u) (second (next_turn t (next_stand t.stand ds k)) ds (k + 1) (next_under h))

  last_window_lem : last_window t ≡ window_of t.p t.q t.r (reflected t.r t.q)
  unfolding window_of
  last_window_lem = window_is u.d0 (second t ds k u) (third t ds k u)

-- ---- the path, turn by turn

-- what is still to come of the path at a turn before the pair k
unfoldable pub turn_path : Turn → List ℤ → ℕ → List Float
turn_path t ds k = rest_path t.p t.q t.r (as_points (later_points t.stand (drop (2 * k) ds)))

pub path_begin : (start : Pair) (ds : List ℤ) → 2 ≤ length ds → flat (path_of start ds) ≡ turn_path (first_turn start (next_stand (stand_at start) ds 0)) ds 1
unfolding path_of control_points as_points first_turn turn_path
path_begin start ds h =
    let l = later_points (next_stand (stand_at start) ds 0) (drop 2 ds) in
    rw (points_more (stand_at start) ds 0 h) (path_flat (point_of start) (point_of (next_stand (stand_at start) ds 0).point) (as_points l))

module _ (t : Turn) (ds : List ℤ) (k : ℕ) (u : Under t ds k) where
  path_step : 2 * k + 2 ≤ length ds → let n = next_turn t (next_stand t.stand ds k) in turn_path t ds k ≡ flat (window_points (turn_window t n.r n.d1)) ++ turn_path n ds (k + 1)
  unfolding turn_path as_points next_turn
  path_step h =
      let n = next_stand t.stand ds k in
      rw (turn_window_lem t ds k u h, points_more t.stand ds k h)
      (rest_more t.p t.q t.r (point_of n.point) (as_points (later_points n (drop (2 * (k + 1)) ds))))

  path_last : length ds < 2 * k + 2 → turn_path t ds k ≡ flat (window_points (last_window t)) ++ two t.r
  unfolding turn_path as_points
  path_last h =
      let e : later_points t.stand (drop (2 * k) ds) ≡ [] = points_done t.stand (drop (2 * k) ds) (rw length-drop (omega arith)) in
      rw (last_window_lem t ds k u, e) (rest_last t.p t.q t.r)

  -- a window is stored
  pub filled_turn : {whole o₀ : List Float} {c : ℕ} (o : List Float) → Filled whole o₀ o (turn_path t ds k) c → 2 * k + 2 ≤ length ds → c + 32 ≤ length o₀
      → let n = next_turn t (next_stand t.stand ds k) in Filled whole o₀ (sets o c (flat (window_points (turn_window t n.r n.d1)))) (turn_path n ds (k + 1)) (c + 32)
  filled_turn {whole} {o₀} {c} o f h g =
      let n = next_turn t (next_stand t.stand ds k) in
      let w = turn_window t n.r n.d1 in
      let l : length (flat (window_points w)) ≡ 32 = length_flat_window w in
      filled_more (flat (window_points w)) (turn_path n ds (k + 1)) (rw (path_step h) at f) (omega arith) (c + 32) (omega arith)

  -- the last window and the last point are stored
  pub filled_last : {whole o₀ : List Float} {c : ℕ} (o : List Float) → Filled whole o₀ o (turn_path t ds k) c → length ds < 2 * k + 2 → c + 34 ≤ length o₀
      → sets (sets o c (flat (window_points (last_window t)))) (c + 32) (two t.r) ≡ onto whole o₀
  filled_last {whole} {o₀} {c} o f h g =
      let w = last_window t in
      let l : length (flat (window_points w)) ≡ 32 = length_flat_window w in
      let e : Filled whole o₀ (sets o c (flat (window_points w))) (two t.r) (c + 32) =
      filled_more (flat (window_points w)) (two t.r) (rw (path_last h) at f) (omega arith) (c + 32) (omega arith) in
      filled_all (filled_more (two t.r) [] e (omega arith) (c + 34) (omega arith))

-- Assumes nothing.
