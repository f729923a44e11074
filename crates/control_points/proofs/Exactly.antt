-- Each code of a spline is given exactly when its own check is the first that fails, and a spline that no check stopped has every part in its place.
use mathlib.Core.Path.{◌≡◌, refl, ap, ◌∙◌}
use mathlib.Core.Bool.{Bool, true, false}
use mathlib.Core.List.{List, [], ◌∷◌}
use mathlib.Core.Logic.{◌↔◌, ◌⊎◌, inl, inr}
use Prim.Native.Nat.{ℕ, zero, suc, ◌+◌, ◌*◌, ◌≤◌, ◌<◌}
use native.Mathlib.Omega.{arith}
use lib.Dec.{leb}
use lib.IntN.{ℤ}
use lib.ListN.{length, take, drop}
use borrow.Author.Tests.{leb-false, lt-leb}
use Rattle.codes.specs.declared.Code.{Code}
use Rattle.codes.specs.declared.Code.TheVariants.{Delta, Position, Distance}
use Rattle.control_points.specs.ControlPoints.{or_stop, onward, step_of, trace_from, trace_of, run_at, pair_at, plus_of, manhattan_of, valid_double_delta, valid_point_pos}
use Rattle.control_points.specs.declared.Pair.{Pair}
use Rattle.control_points.specs.declared.Run.{Run}
use Rattle.control_points.specs.Answers.{Traced, On, Stop}
use Rattle.control_points.proofs.Steps.{onto, turn_stop}

-- ---- one step

-- the four tests of a step, and what it leads to
abbrev checked : Bool → Bool → Bool → Bool → Run → Traced
checked a b m p r = or_stop a Delta (or_stop b Position (or_stop m Distance (or_stop p Position (On r))))

checked_delta : (a b m p : Bool) (r : Run) → checked a b m p r ≡ Stop Delta → a ≡ false
checked_delta false b m p r h = refl
checked_delta true false m p r h = absurd (let z : ◌≡◌ {A = ℕ} 0 1 = cc in omega arith)
checked_delta true true false p r h = absurd (let z : ◌≡◌ {A = ℕ} 0 1 = cc in omega arith)
checked_delta true true true false r h = absurd (let z : ◌≡◌ {A = ℕ} 0 1 = cc in omega arith)
checked_delta true true true true r h = absurd (let z : ◌≡◌ {A = ℕ} 0 1 = cc in omega arith)

checked_distance : (a b m p : Bool) (r : Run) → checked a b m p r ≡ Stop Distance → (a ≡ true) × (b ≡ true) × (m ≡ false)
checked_distance false b m p r h = absurd (let z : ◌≡◌ {A = ℕ} 0 1 = cc in omega arith)
checked_distance true false m p r h = absurd (let z : ◌≡◌ {A = ℕ} 0 1 = cc in omega arith)
checked_distance true true false p r h = (refl, refl, refl)
checked_distance true true true false r h = absurd (let z : ◌≡◌ {A = ℕ} 0 1 = cc in omega arith)
checked_distance true true true true r h = absurd (let z : ◌≡◌ {A = ℕ} 0 1 = cc in omega arith)

checked_position : (a b m p : Bool) (r : Run) → checked a b m p r ≡ Stop Position → (a ≡ true) × ((b ≡ false) ⊎ ((b ≡ true) × (m ≡ true) × (p ≡ false)))
checked_position false b m p r h = absurd (let z : ◌≡◌ {A = ℕ} 0 1 = cc in omega arith)
checked_position true false m p r h = (refl, inl refl)
checked_position true true false p r h = absurd (let z : ◌≡◌ {A = ℕ} 0 1 = cc in omega arith)
checked_position true true true false r h = (refl, inr (refl, refl, refl))
checked_position true true true true r h = absurd (let z : ◌≡◌ {A = ℕ} 0 1 = cc in omega arith)

module _ (limit : ℕ) (r : Run) (dd : Pair) where
  -- the delta, the Manhattan sum and the point that the step would lead to
  abbrev pub delta : Pair
  delta = plus_of r.delta dd

  abbrev pub far : ℕ
  far = r.manhattan + manhattan_of (plus_of r.delta dd)

  abbrev pub point : Pair
  point = plus_of r.point (plus_of r.delta dd)

  pub delta_exactly : (step_of limit r dd ≡ Stop Delta) ↔ (valid_double_delta dd ≡ false)
  unfolding step_of
  delta_exactly = (
    λ h. checked_delta (valid_double_delta dd) (valid_point_pos delta) (leb far limit) (valid_point_pos point) (onto r dd) h,
    λ e. rw e,
  )

  pub distance_exactly : (step_of limit r dd ≡ Stop Distance) ↔ ((valid_double_delta dd ≡ true) × (valid_point_pos delta ≡ true) × (limit < far))
  unfolding step_of
  distance_exactly = (
    λ h. let k = checked_distance (valid_double_delta dd) (valid_point_pos delta) (leb far limit) (valid_point_pos point) (onto r dd) h in
        (k.0, k.1, leb-false far limit k.2),
    λ k. rw (k.0, k.1, lt-leb far limit k.2),
  )

  pub position_exactly : (step_of limit r dd ≡ Stop Position) ↔ ((valid_double_delta dd ≡ true) × ((valid_point_pos delta ≡ false) ⊎ ((valid_point_pos delta ≡ true) × (leb far limit ≡ true) × (valid_point_pos point ≡ false))))
  unfolding step_of
  position_exactly = (
    λ h. checked_position (valid_double_delta dd) (valid_point_pos delta) (leb far limit) (valid_point_pos point) (onto r dd) h,
    λ k. back k.0 k.1,
  )
    where
      back : valid_double_delta dd ≡ true → (valid_point_pos delta ≡ false) ⊎ ((valid_point_pos delta ≡ true) × (leb far limit ≡ true) × (valid_point_pos point ≡ false)) → step_of limit r dd ≡ Stop Position
      back a (inl b) = rw (a, b)
      back a (inr (b, m, p)) = rw (a, b, m, p)

-- ---- all steps

-- the pairs before k pass, and the pair k stops with the code
pub record Stopped (limit : ℕ) (r : Run) (ds : List ℤ) (code : Code) : Type 0 where
  pub k : ℕ
  pub run : Run
  pub inside : 2 * k + 2 ≤ length ds
  pub passed : trace_from limit r (take (2 * k) ds) ≡ On run
  pub stops : step_of limit run (pair_at ds k) ≡ Stop code

twice : (k : ℕ) → 2 * suc k ≡ suc (suc (2 * k))
twice k = omega arith

pair_later : (a b : ℤ) (ds : List ℤ) (k : ℕ) → pair_at (a ∷ b ∷ ds) (suc k) ≡ pair_at ds k
unfolding pair_at
pair_later a b ds k = let e : 2 * suc k + 1 ≡ suc (suc (2 * k + 1)) = omega arith in rw (e, twice k)

stopped_at : (limit : ℕ) (r : Run) (a b : ℤ) (ds : List ℤ) (code : Code)
    → ((t : Run) → trace_from limit t ds ≡ Stop code → Stopped limit t ds code)
    → (q : Traced) → step_of limit r (record { x = a; y = b }) ≡ q → onward q (λ t. trace_from limit t ds) ≡ Stop code → Stopped limit r (a ∷ b ∷ ds) code
unfolding trace_from pair_at
stopped_at limit r a b ds code rest (Stop other) e h = record { k = 0; run = r; inside = omega arith; passed = refl; stops = e ∙ h }
stopped_at limit r a b ds code rest (On t) e h =
    let s = rest t h in
    record {
      k = suc s.k;
      run = s.run;
      inside = omega (arith, s.inside);
      passed = rw (twice s.k, e) s.passed;
      stops = ap (step_of limit s.run) (pair_later a b ds s.k) ∙ s.stops;
    }

stopped : (limit : ℕ) (r : Run) (ds : List ℤ) (code : Code) → trace_from limit r ds ≡ Stop code → Stopped limit r ds code
unfolding trace_from
stopped limit r [] code h = absurd (let z : ◌≡◌ {A = ℕ} 0 1 = cc in omega arith)
stopped limit r (a ∷ []) code h = absurd (let z : ◌≡◌ {A = ℕ} 0 1 = cc in omega arith)
stopped limit r (a ∷ b ∷ ds) code h =
    stopped_at limit r a b ds code (λ t. stopped limit t ds code) (step_of limit r (record { x = a; y = b })) refl h

through_at : (limit : ℕ) (r : Run) (a b : ℤ) (ds : List ℤ) (k : ℕ) (s : Run)
    → ((t : Run) → trace_from limit t (take (2 * k) ds) ≡ On s → trace_from limit t ds ≡ trace_from limit s (drop (2 * k) ds))
    → (q : Traced) → step_of limit r (record { x = a; y = b }) ≡ q → onward q (λ t. trace_from limit t (take (2 * k) ds)) ≡ On s
    → onward q (λ t. trace_from limit t ds) ≡ trace_from limit s (drop (2 * k) ds)
through_at limit r a b ds k s rest (Stop other) e h = absurd (let z : ◌≡◌ {A = ℕ} 0 1 = cc in omega arith)
through_at limit r a b ds k s rest (On t) e h = rest t h

-- a trace that the first k pairs pass goes on from there
pub through : (limit : ℕ) (r : Run) (ds : List ℤ) (k : ℕ) (s : Run) → 2 * k ≤ length ds → trace_from limit r (take (2 * k) ds) ≡ On s
    → trace_from limit r ds ≡ trace_from limit s (drop (2 * k) ds)
unfolding trace_from
through limit r ds zero s g h = let e : r ≡ s = cc in ap (λ (t : Run). trace_from limit t ds) e
through limit r [] (suc k) s g h = absurd (omega arith)
through limit r (a ∷ []) (suc k) s g h = absurd (omega arith)
through limit r (a ∷ b ∷ ds) (suc k) s g h =
    rw (twice k)
    (through_at limit r a b ds k s (λ t. through limit t ds k s (omega arith)) (step_of limit r (record { x = a; y = b })) refl (rw (twice k) at h))

pub stopped_exactly : (limit : ℕ) (r : Run) (ds : List ℤ) (code : Code) → (trace_from limit r ds ≡ Stop code) ↔ Stopped limit r ds code
stopped_exactly limit r ds code = (
  stopped limit r ds code,
  λ s. through limit r ds s.k s.run (omega (arith, s.inside)) s.passed ∙ turn_stop limit s.run ds s.k s.inside refl refl s.stops,
)

-- ---- the codes that a trace may stop with

abbrev pub OfTrace : Code → Type 0
OfTrace code = (code ≡ Delta) ⊎ ((code ≡ Position) ⊎ (code ≡ Distance))

checked_code : (a b m p : Bool) (r : Run) (code : Code) → checked a b m p r ≡ Stop code → OfTrace code
checked_code false b m p r code h = inl cc
checked_code true false m p r code h = inr (inl cc)
checked_code true true false p r code h = inr (inr cc)
checked_code true true true false r code h = inr (inl cc)
checked_code true true true true r code h = absurd (let z : ◌≡◌ {A = ℕ} 0 1 = cc in omega arith)

pub trace_code : (limit : ℕ) (start : Pair) (ds : List ℤ) (code : Code) → trace_of limit start ds ≡ Stop code → OfTrace code
unfolding trace_of step_of
trace_code limit start ds code h =
    let s = stopped limit (run_at start) ds code h in
    let r = s.run in
    let dd = pair_at ds s.k in
    checked_code (valid_double_delta dd) (valid_point_pos (plus_of r.delta dd)) (leb (r.manhattan + manhattan_of (plus_of r.delta dd)) limit) (valid_point_pos (plus_of r.point (plus_of r.delta dd))) (onto r dd) code s.stops

-- Assumes nothing.
