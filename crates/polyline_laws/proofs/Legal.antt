-- Points that pass pair by pair are the control points of a start and double deltas that building finds legal, and the reverse: the double deltas of the pairs lead from point to point.
use mathlib.Core.Path.{◌≡◌, refl, sym, ap, ◌∙◌}
use mathlib.Core.Bool.{Bool, true, false, cond}
use mathlib.Core.List.{List, [], ◌∷◌}
use Prim.Native.Nat.{ℕ, zero, suc, ◌+◌, ◌-◌, ◌*◌, ◌/◌, ◌^◌, ◌≤◌, ◌<◌}
use native.Mathlib.Nat.{mul-one, mul_left_comm, mul-add-div_right, div-eq_of_lt}
use native.Mathlib.Omega.{arith}
use lib.Dec.{ltb, leb, le→leb, lt→ltb}
use lib.IntN.{ℤ, pos, negsuc, neg_ℤ, nat_abs, ◌+ℤ◌, ◌-ℤ◌, +ℤ_comm, +ℤ-neg_ℤ_cancel, -ℤ-+ℤ_cancel}
use lib.Signed.{mag}
use lib.Ieee.{Float, nan, inf, fin, binary32, up, down, round, of_int, to_signed, in_float, is_nan}
use lib.Ieee.Exact.{HasValue}
use lib.Ieee.Back.{round_whole, positive_back, negative_back}
use lib.Ieee.Fits.{down_pos}
use lib.ListN.{length}
use Rattle.codes.specs.declared.Code.{Code}
use Rattle.codes.specs.declared.Code.TheVariants.{Delta, Position, Distance}
use Rattle.list.specs.Steps.{f32_of}
use Rattle.wholes.specs.Whole.{half, whole_by, round_of}
use Rattle.control_points.specs.ControlPoints.{in_range, or_stop, onward, step_of, trace_from, trace_of, run_at, plus_of, manhattan_of, rounded_of, starting_point, stand_at, moved_of, valid_double_delta, valid_point_pos}
use Rattle.control_points.specs.Refusals.{sum_up_to, delta_at, far_at, PairRefusal, delta_large, delta_outside, too_far, point_outside}
use Rattle.control_points.specs.declared.Pair.{Pair}
use Rattle.control_points.specs.declared.Stand.{Stand}
use Rattle.control_points.specs.declared.Run.{Run}
use Rattle.control_points.specs.Answers.{Traced, At}
use Rattle.control_points.specs.Answers as traced
use Rattle.control_points.proofs.ByKind.{start_by_kind}
use Rattle.control_points.proofs.Pairs.{in_range_mag, point_range, abs_mag}
use Rattle.control_points.proofs.Ranges.{double_delta_decides}
use Rattle.control_points.proofs.Steps.{onto}
use Rattle.control_points.proofs.Coincide.{control_of, coincides}
use Rattle.control_points.proofs.Tracing.{trace_stops}
use Rattle.polyline.specs.Gone.{Gone}
use Rattle.polyline.specs.Gone as gone
use Rattle.polyline.specs.Read.{minus_of, double_delta}
use Rattle.polyline.specs.Write.{gone_by, gone_from, gone_of}
use Rattle.polyline.specs.Write as writing
use Rattle.polyline_laws.specs.Refusals.{Legal}

-- ---- a whole number in range, as a float, begins there

half_whole : (m n d : ℕ) → 0 < d → m * 1 ≡ n * d → half m d ≡ n
half_whole m n d h e =
    let k : m ≡ n * d = sym (mul-one m) ∙ e in
    let i : 2 * m + d ≡ n * (2 * d) + d = rw (k, mul_left_comm n 2 d) in
    let z : n + 0 ≡ n = omega arith in
    ap (λ (a : ℕ). a / (2 * d)) i ∙ mul-add-div_right (omega arith) n d ∙ rw (div-eq_of_lt {n = d} {m = 2 * d} (omega arith)) z

round_same : (x : Float) (s : Bool) (n : ℕ) → HasValue x s n 1 → round_of binary32 x ≡ round binary32 s n 1
unfolding whole_by
round_same nan s n v = absurd v
round_same (inf t) s n v = absurd v
round_same (fin t m e) s n v = rw (v.0, half_whole (m * up e) n (down e) (down_pos e) v.1)

whole_number : (x : Float) (s : Bool) (n : ℕ) → HasValue x s n 1 → is_nan x ≡ false
unfolding is_nan
whole_number nan s n v = absurd v
whole_number (inf t) s n v = absurd v
whole_number (fin t m e) s n v = refl

record Float-back (z : ℤ) : Type 0 where
  number : is_nan (f32_of z) ≡ false
  round : round_of binary32 (f32_of z) ≡ f32_of z
  is : to_signed 31 (f32_of z) ≡ z

float_back : (z : ℤ) → mag z < 8388608 → Float-back z
unfolding f32_of of_int in_float
float_back (pos n) h =
    let v = round_whole binary32 false n (omega arith) in
    record { number = whole_number (round binary32 false n 1) false n v; round = round_same (round binary32 false n 1) false n v; is = (positive_back binary32 31 n (le→leb n (2 ^ 24) (omega arith)) (omega arith)).1 }
float_back (negsuc n) h =
    let v = round_whole binary32 true (suc n) (omega arith) in
    record { number = whole_number (round binary32 true (suc n) 1) true (suc n) v; round = round_same (round binary32 true (suc n) 1) true (suc n) v; is = (negative_back binary32 31 n (lt→ltb n (2 ^ 24) (omega arith)) (omega arith)).1 }

rounded_back : (z : ℤ) → in_range z ≡ true → rounded_of (f32_of z) ≡ At z
rounded_back z h = let b = float_back z (in_range_mag z h) in start_by_kind (f32_of z) ∙ rw (b.number, b.round, b.is, h)

pub start_back : (p : Pair) → valid_point_pos p ≡ true → starting_point (f32_of p.x) (f32_of p.y) ≡ At p
unfolding starting_point
start_back p h = let r = point_range p h in rw (rounded_back p.x r.0, rounded_back p.y r.1)

-- ---- differences

pub pair_is : (p q : Pair) → p.x ≡ q.x → p.y ≡ q.y → p ≡ q
pair_is p q a b = rw (a, b)

plus_less : (a b : ℤ) → a +ℤ (b -ℤ a) ≡ b
plus_less a b = +ℤ_comm a (b -ℤ a) ∙ -ℤ-+ℤ_cancel b a

less_plus : (a b : ℤ) → (a +ℤ b) -ℤ a ≡ b
less_plus a b = ap (λ (c : ℤ). c -ℤ a) (+ℤ_comm a b) ∙ +ℤ-neg_ℤ_cancel b a

plus_minus : (a b : Pair) → plus_of a (minus_of b a) ≡ b
unfolding plus_of minus_of
plus_minus a b = pair_is _ b (plus_less a.x b.x) (plus_less a.y b.y)

minus_plus : (a b : Pair) → minus_of (plus_of a b) a ≡ b
unfolding plus_of minus_of
minus_plus a b = pair_is _ b (less_plus a.x b.x) (less_plus a.y b.y)

-- a double delta leads to its pair
pub moved_double : (p : Stand) (q : Pair) → moved_of p (double_delta p q) ≡ record { delta = minus_of q p.point; point = q }
unfolding moved_of double_delta
moved_double p q = rw (plus_minus p.delta (minus_of q p.point), plus_minus p.point q)

-- and is the double delta of where it leads to
pub double_moved : (p : Stand) (dd : Pair) → double_delta p (moved_of p dd).point ≡ dd
unfolding moved_of double_delta
double_moved p dd = rw (minus_plus p.point (plus_of p.delta dd), minus_plus p.delta dd)

pub delta_moved : (p : Stand) (dd : Pair) → minus_of (moved_of p dd).point p.point ≡ (moved_of p dd).delta
unfolding moved_of
delta_moved p dd = minus_plus p.point (plus_of p.delta dd)

-- ---- the difference of two deltas in range is below 2^30

mag_sub : (a b : ℕ) (t : Bool) → mag (cond t (negsuc (b - suc a)) (pos (a - b))) ≤ a + b
mag_sub a b true = omega arith
mag_sub a b false = omega arith

mag_sum : (x y : ℤ) → mag (x +ℤ y) ≤ mag x + mag y + 1
mag_sum (pos a) (pos b) = omega arith
mag_sum (pos a) (negsuc b) = omega (arith, mag_sub a (suc b) (ltb a (suc b)))
mag_sum (negsuc a) (pos b) = omega (arith, mag_sub b (suc a) (ltb b (suc a)))
mag_sum (negsuc a) (negsuc b) = omega arith

mag_neg : (y : ℤ) → mag (neg_ℤ y) ≤ mag y + 1
mag_neg (pos zero) = omega arith
mag_neg (pos (suc n)) = omega arith
mag_neg (negsuc n) = omega arith

less_small : (a b : ℤ) → in_range a ≡ true → in_range b ≡ true → nat_abs (a -ℤ b) < 2 ^ 30
less_small a b g h = omega (arith, in_range_mag a g, in_range_mag b h, abs_mag (a -ℤ b), mag_sum a (neg_ℤ b), mag_neg b)

pub double_small : (a b : Pair) → valid_point_pos a ≡ true → valid_point_pos b ≡ true → valid_double_delta (minus_of a b) ≡ true
unfolding minus_of
double_small a b g h =
    let r = point_range a g in
    let s = point_range b h in
    (double_delta_decides _).passes (less_small a.x b.x r.0 s.0, less_small a.y b.y r.1 s.1)

-- ---- going along a spline is building's trace but for DISTANCE

abbrev pub untraced : Traced → Gone
untraced (traced.On r) = gone.On (control_of r) r.coincide
untraced (traced.Stop c) = gone.Stop c

step_untraced : (limit : ℕ) (r : Run) (dd : Pair) → (step_of limit r dd ≡ traced.Stop Distance → ⊥) → gone_by (control_of r) r.coincide dd ≡ untraced (step_of limit r dd)
unfolding gone_by step_of moved_of
step_untraced limit r dd h =
    go (valid_double_delta dd) (valid_point_pos (plus_of r.delta dd)) (leb (r.manhattan + manhattan_of (plus_of r.delta dd)) limit) (valid_point_pos (plus_of r.point (plus_of r.delta dd))) h
  where
    go : (a b m p : Bool) → (or_stop a Delta (or_stop b Position (or_stop m Distance (or_stop p Position (traced.On (onto r dd))))) ≡ traced.Stop Distance → ⊥)
        → cond a (cond b (cond p (gone.On (control_of (onto r dd)) (onto r dd).coincide) (gone.Stop Position)) (gone.Stop Position)) (gone.Stop Delta)
        ≡ untraced (or_stop a Delta (or_stop b Position (or_stop m Distance (or_stop p Position (traced.On (onto r dd))))))
    go false b m p h = refl
    go true false m p h = refl
    go true true false p h = absurd (h refl)
    go true true true false h = refl
    go true true true true h = refl

pub gone_traced : (limit : ℕ) (ds : List ℤ) (r : Run) → (trace_from limit r ds ≡ traced.Stop Distance → ⊥) → gone_from (control_of r) r.coincide ds ≡ untraced (trace_from limit r ds)
unfolding gone_from trace_from
gone_traced limit [] r h = refl
gone_traced limit (a ∷ []) r h = refl
gone_traced limit (a ∷ b ∷ ds) r h = go (step_of limit r (record { x = a; y = b })) refl h (λ s. gone_traced limit ds s)
  where
    go : (t : Traced) → step_of limit r (record { x = a; y = b }) ≡ t → (onward t (λ s. trace_from limit s ds) ≡ traced.Stop Distance → ⊥)
        → ((s : Run) → (trace_from limit s ds ≡ traced.Stop Distance → ⊥) → gone_from (control_of s) s.coincide ds ≡ untraced (trace_from limit s ds))
        → writing.onward (gone_by (control_of r) r.coincide (record { x = a; y = b })) (λ q m. gone_from q m ds) ≡ untraced (onward t (λ s. trace_from limit s ds))
    go (traced.On s) e h ih = rw (step_untraced limit r (record { x = a; y = b }) (λ w. let z : ◌≡◌ {A = ℕ} 0 1 = cc in omega arith), e) (ih s h)
    go (traced.Stop c) e h ih = rw (step_untraced limit r (record { x = a; y = b }) (λ w. h (sym e ∙ w)), e)

-- a limit that no sum of a spline passes
far_grows : (f : ℕ → ℕ) (m k : ℕ) → sum_up_to f m ≤ sum_up_to f (m + k)
unfolding sum_up_to
far_grows f m zero = let e : m + 0 ≡ m = omega arith in rw e (omega arith)
far_grows f m (suc k) = let e : m + suc k ≡ suc (m + k) = omega arith in rw e (omega (arith, far_grows f m k))

abbrev pub wide_limit : List ℤ → ℕ
wide_limit ds = sum_up_to (λ i. manhattan_of (delta_at ds i)) (length ds)

pub far_within : (ds : List ℤ) (j : ℕ) → 2 * j + 2 ≤ length ds → far_at ds j ≤ wide_limit ds
unfolding far_at
far_within ds j h =
    let e : suc j + (length ds - suc j) ≡ length ds = omega arith in
    rw (← e) (far_grows (λ i. manhattan_of (delta_at ds i)) (suc j) (length ds - suc j))

pub never_far : (start : Pair) (ds : List ℤ) → trace_of (wide_limit ds) start ds ≡ traced.Stop Distance → ⊥
never_far start ds e = let s = trace_stops (wide_limit ds) start ds Distance e in go s.j s.inside Distance refl s.why
  where
    go : (j : ℕ) → 2 * j + 2 ≤ length ds → (c : Code) → c ≡ Distance → PairRefusal (wide_limit ds) start ds j c → ⊥
    go j h c e (delta_large a) = let z : ◌≡◌ {A = ℕ} 0 1 = cc in omega arith
    go j h c e (delta_outside a b) = let z : ◌≡◌ {A = ℕ} 0 1 = cc in omega arith
    go j h c e (too_far a b m) = omega (arith, m, far_within ds j h)
    go j h c e (point_outside a b m p) = let z : ◌≡◌ {A = ℕ} 0 1 = cc in omega arith

pub gone_is : (start : Pair) (ds : List ℤ) → gone_of start ds ≡ untraced (trace_of (wide_limit ds) start ds)
unfolding gone_of trace_of run_at stand_at
gone_is start ds = gone_traced (wide_limit ds) ds (run_at start) (never_far start ds)

-- ---- legal

pub gone_legal : (start : Pair) (ds : List ℤ) (q : Stand) → valid_point_pos start ≡ true → gone_of start ds ≡ gone.On q false → Legal start ds
gone_legal start ds q v e = go (trace_of (wide_limit ds) start ds) refl (sym (gone_is start ds) ∙ e)
  where
    go : (t : Traced) → trace_of (wide_limit ds) start ds ≡ t → untraced t ≡ gone.On q false → Legal start ds
    go (traced.On r) h g =
        let pair : ◌≡◌ {A = Stand × Bool} (control_of r, r.coincide) (q, false) = cc in
        let f : r.coincide ≡ false = ap (λ (o : Stand × Bool). o.1) pair in
        record { begins = start_back start v; limit = wide_limit ds; run = r; traced = h; apart = sym (coincides (wide_limit ds) start ds r h) ∙ f }
    go (traced.Stop c) h g = cc

pub legal_gone : (start : Pair) (ds : List ℤ) (l : Legal start ds) → gone_of start ds ≡ gone.On (control_of l.run) false
unfolding gone_of stand_at trace_of run_at
legal_gone start ds l =
    let c : l.run.coincide ≡ false = coincides l.limit start ds l.run l.traced ∙ l.apart in
    gone_traced l.limit ds (run_at start) (λ w. let z : ◌≡◌ {A = ℕ} 0 1 = cc in omega arith) ∙ rw (l.traced, c)

-- Assumes nothing.
