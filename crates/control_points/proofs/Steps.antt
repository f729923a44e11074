-- One step, and the list of double deltas two at a time: a step that went on shows that each check passed, and a step that stopped which one did not.
use mathlib.Core.Path.{◌≡◌, refl, subst, ◌∙◌}
use mathlib.Core.Bool.{Bool, true, false, cond}
use mathlib.Core.List.{List, [], ◌∷◌}
use Prim.Native.Nat.{ℕ, suc, ◌+◌, ◌*◌, ◌<◌, ◌≤◌}
use native.Mathlib.Numerals.{add-one}
use native.Mathlib.Omega.{arith}
use lib.Dec.{leb}
use lib.IntN.{ℤ, pos}
use lib.ListN.{length, drop}
use lib.Seq.{drop-cons}
use borrow.Author.Tests.{leb-true}
use Rattle.codes.specs.declared.Code.{Code}
use Rattle.codes.specs.declared.Code.TheVariants.{Delta, Position, Distance}
use Rattle.control_points.specs.ControlPoints.{or_stop, onward, step_of, trace_from, pair_at, plus_of, manhattan_of, valid_double_delta, valid_point_pos, same_point}
use Rattle.control_points.specs.Asked.{Held}
use Rattle.control_points.specs.declared.Pair.{Pair}
use Rattle.control_points.specs.declared.Run.{Run}
use Rattle.control_points.specs.Answers.{Traced, On, Stop}
use Rattle.control_points.proofs.Pairs.{point_fine}

-- what a step that went on leads to
abbrev pub onto : Run → Pair → Run
onto r dd =
    let delta = plus_of r.delta dd in
    let point = plus_of r.point delta in
    record { delta = delta; point = point; manhattan = r.manhattan + manhattan_of delta; coincide = cond r.coincide true (same_point r.point point) }

pub record Went (limit : ℕ) (r : Run) (dd : Pair) (s : Run) : Type 0 where
  pub is : onto r dd ≡ s
  pub small : valid_double_delta dd ≡ true
  pub delta : valid_point_pos (plus_of r.delta dd) ≡ true
  pub manhattan : leb (r.manhattan + manhattan_of (plus_of r.delta dd)) limit ≡ true
  pub point : valid_point_pos (plus_of r.point (plus_of r.delta dd)) ≡ true

went : (b : Bool) (code : Code) (t : Traced) (s : Run) → or_stop b code t ≡ On s → (b ≡ true) × (t ≡ On s)
went true code t s h = (refl, h)
went false code t s h = absurd (let z : ◌≡◌ {A = ℕ} 0 1 = cc in omega arith)

pub step_went : (limit : ℕ) (r : Run) (dd : Pair) (s : Run) → step_of limit r dd ≡ On s → Went limit r dd s
unfolding step_of
step_went limit r dd s h =
    let delta = plus_of r.delta dd in
    let point = plus_of r.point delta in
    let near = leb (r.manhattan + manhattan_of delta) limit in
    let d = went (valid_double_delta dd) Delta (or_stop (valid_point_pos delta) Position (or_stop near Distance (or_stop (valid_point_pos point) Position (On (onto r dd))))) s h in
    let e = went (valid_point_pos delta) Position (or_stop near Distance (or_stop (valid_point_pos point) Position (On (onto r dd)))) s d.1 in
    let m = went near Distance (or_stop (valid_point_pos point) Position (On (onto r dd))) s e.1 in
    let p = went (valid_point_pos point) Position (On (onto r dd)) s m.1 in
    record { is = cc p.1; small = d.0; delta = e.0; manhattan = m.0; point = p.0 }

pub step_held : (limit : ℕ) (r : Run) (dd : Pair) (s : Run) → step_of limit r dd ≡ On s → Held s limit
step_held limit r dd s h =
    let w = step_went limit r dd s h in
    let delta = plus_of r.delta dd in
    subst (λ (y : Run). Held y limit) w.is
    (record { delta = point_fine delta w.delta; point = w.point; manhattan = leb-true (r.manhattan + manhattan_of delta) limit w.manhattan })

-- ---- two numbers at a time

pub pair_drop : (ds : List ℤ) (k : ℕ) → 2 * k + 2 ≤ length ds → drop (2 * k) ds ≡ (pair_at ds k).x ∷ (pair_at ds k).y ∷ drop (2 * (k + 1)) ds
unfolding pair_at
pair_drop ds k h =
    let e : 2 * (k + 1) ≡ suc (2 * k + 1) = omega arith in
    let a : 2 * k < length ds = omega arith in
    let b : 2 * k + 1 < length ds = omega arith in
    rw (e, drop-cons ds (2 * k) (pos 0) a, ← add-one (2 * k), drop-cons ds (2 * k + 1) (pos 0) b)

pub trace_more : (limit : ℕ) (r : Run) (ds : List ℤ) (k : ℕ) → 2 * k + 2 ≤ length ds
    → trace_from limit r (drop (2 * k) ds) ≡ onward (step_of limit r (pair_at ds k)) (λ s. trace_from limit s (drop (2 * (k + 1)) ds))
unfolding trace_from
trace_more limit r ds k h = rw (pair_drop ds k h)

pub trace_done : (limit : ℕ) (r : Run) (ds : List ℤ) → length ds < 2 → trace_from limit r ds ≡ On r
unfolding trace_from
trace_done limit r [] h = refl
trace_done limit r (a ∷ []) h = refl
trace_done limit r (a ∷ b ∷ ds) h = absurd (omega arith)

-- a turn of the loop: the run r at the pair k, whose step gave t
module _ (limit : ℕ) (r : Run) (ds : List ℤ) (k : ℕ) (h : 2 * k + 2 ≤ length ds) {p : Pair} (o : p ≡ pair_at ds k) {t : Traced} (e : t ≡ step_of limit r p) where
  pub turn_stop : {code : Code} → t ≡ Stop code → trace_from limit r (drop (2 * k) ds) ≡ Stop code
  turn_stop g = trace_more limit r ds k h ∙ rw (← o, ← e, g)

  pub turn_on : {s : Run} → t ≡ On s → trace_from limit r (drop (2 * k) ds) ≡ trace_from limit s (drop (2 * (k + 1)) ds)
  turn_on g = trace_more limit r ds k h ∙ rw (← o, ← e, g)

-- Assumes nothing.
