-- A trace by its pairs: a run after j pairs holds the sums up to there, so a pair's four tests are the statements on those sums; the first pair that is refused stops the trace.
use mathlib.Core.Path.{◌≡◌, refl, ap, subst, ◌∙◌}
use mathlib.Core.Bool.{Bool, true, false}
use mathlib.Core.List.{List}
use mathlib.Core.Logic.{◌⊎◌, inl, inr}
use Prim.Native.Nat.{ℕ, zero, suc, ◌+◌, ◌*◌, ◌/◌, ◌≤◌, ◌<◌}
use native.Mathlib.Nat.{eq-or-lt_of_le}
use native.Mathlib.Numerals.{add-one}
use native.Mathlib.Omega.{arith}
use lib.Dec.{leb}
use lib.IntN.{ℤ}
use lib.ListN.{length, get_or, drop, length-drop}
use borrow.Author.Tests.{leb-true, leb-false}
use Rattle.codes.specs.declared.Code.{Code}
use Rattle.codes.specs.declared.Code.TheVariants.{Delta, Position, Distance}
use Rattle.control_points.specs.ControlPoints.{or_stop, onward, step_of, trace_from, trace_of, run_at, pair_at, plus_of, manhattan_of, stand_at, moved_of, later_points, control_points, valid_double_delta, valid_point_pos}
use Rattle.control_points.specs.Refusals.{Inside, Outside, Small, Large, nowhere, plus_up_to, sum_up_to, delta_at, control_point_at, far_at, far_of, PointsAre, PairPasses, PairRefusal, delta_large, delta_outside, too_far, point_outside}
use Rattle.control_points.specs.declared.Pair.{Pair}
use Rattle.control_points.specs.declared.Stand.{Stand}
use Rattle.control_points.specs.declared.Run.{Run}
use Rattle.control_points.specs.Answers.{Traced, On, Stop}
use Rattle.control_points.proofs.Steps.{onto, step_went, trace_more, trace_done}
use Rattle.control_points.proofs.Walks.{points_more}
use Rattle.codes.proofs.Decides.{Decides, at_most}
use Rattle.control_points.proofs.Ranges.{point_decides, double_delta_decides}

module _ (limit : ℕ) (start : Pair) (ds : List ℤ) where
  -- ---- a run

  -- the run r after j pairs
  record Ran (j : ℕ) (r : Run) : Type 0 where
    delta : r.delta ≡ plus_up_to nowhere (pair_at ds) j
    point : r.point ≡ plus_up_to start (delta_at ds) j
    far : r.manhattan ≡ sum_up_to (λ i. manhattan_of (delta_at ds i)) j

  ran_none : Ran 0 (run_at start)
  unfolding run_at plus_up_to sum_up_to
  ran_none = record { delta = refl; point = refl; far = refl }

  module _ (j : ℕ) (r : Run) (ran : Ran j r) where
    delta_is : plus_of r.delta (pair_at ds j) ≡ delta_at ds j
    unfolding delta_at plus_up_to
    delta_is = rw ran.delta

    point_is : plus_of r.point (plus_of r.delta (pair_at ds j)) ≡ control_point_at start ds j
    unfolding control_point_at plus_up_to
    point_is = rw (delta_is, ran.point)

    far_is : r.manhattan + manhattan_of (plus_of r.delta (pair_at ds j)) ≡ far_at ds j
    unfolding far_at sum_up_to
    far_is = rw (delta_is, ran.far)

    ran_more : Ran (j + 1) (onto r (pair_at ds j))
    unfolding delta_at control_point_at far_at plus_up_to sum_up_to
    ran_more = rw (add-one j) (record { delta = delta_is; point = point_is; far = far_is })

    -- ---- one step

    small : Decides (valid_double_delta (pair_at ds j)) (Small (pair_at ds j)) (Large (pair_at ds j))
    small = double_delta_decides (pair_at ds j)

    delta : Decides (valid_point_pos (plus_of r.delta (pair_at ds j))) (Inside (delta_at ds j)) (Outside (delta_at ds j))
    delta = rw delta_is (point_decides (delta_at ds j))

    near : Decides (leb (r.manhattan + manhattan_of (plus_of r.delta (pair_at ds j))) limit) (far_at ds j ≤ limit) (limit < far_at ds j)
    near = rw far_is (at_most (far_at ds j) limit)

    point : Decides (valid_point_pos (plus_of r.point (plus_of r.delta (pair_at ds j)))) (Inside (control_point_at start ds j)) (Outside (control_point_at start ds j))
    point = rw point_is (point_decides (control_point_at start ds j))

    step_passes : PairPasses limit start ds j → step_of limit r (pair_at ds j) ≡ On (onto r (pair_at ds j))
    unfolding step_of
    step_passes p = rw (small.passes p.small, delta.passes p.delta, near.passes p.near, point.passes p.point)

    step_refuses : {c : Code} → PairRefusal limit start ds j c → step_of limit r (pair_at ds j) ≡ Stop c
    unfolding step_of
    step_refuses (delta_large a) = rw (small.fails a)
    step_refuses (delta_outside a b) = rw (small.passes a, delta.fails b)
    step_refuses (too_far a b m) = rw (small.passes a, delta.passes b, near.fails m)
    step_refuses (point_outside a b m p) = rw (small.passes a, delta.passes b, near.passes m, point.fails p)

    step_passed : (s : Run) → step_of limit r (pair_at ds j) ≡ On s → PairPasses limit start ds j
    step_passed s h =
        let w = step_went limit r (pair_at ds j) s h in
        record { small = small.passed w.small; delta = delta.passed w.delta; near = near.passed w.manhattan; point = point.passed w.point }

    ran_on : (s : Run) → step_of limit r (pair_at ds j) ≡ On s → Ran (j + 1) s
    ran_on s h = subst (Ran (j + 1)) (step_went limit r (pair_at ds j) s h).is ran_more

    step_refused : (c : Code) → step_of limit r (pair_at ds j) ≡ Stop c → PairRefusal limit start ds j c
    unfolding step_of
    step_refused c h =
        go (valid_double_delta (pair_at ds j)) (valid_point_pos (plus_of r.delta (pair_at ds j))) (leb (r.manhattan + manhattan_of (plus_of r.delta (pair_at ds j))) limit)
        (valid_point_pos (plus_of r.point (plus_of r.delta (pair_at ds j)))) small delta near point (onto r (pair_at ds j)) h
      where
        go : (a b m p : Bool) → Decides a (Small (pair_at ds j)) (Large (pair_at ds j)) → Decides b (Inside (delta_at ds j)) (Outside (delta_at ds j))
            → Decides m (far_at ds j ≤ limit) (limit < far_at ds j) → Decides p (Inside (control_point_at start ds j)) (Outside (control_point_at start ds j))
            → (s : Run) → or_stop a Delta (or_stop b Position (or_stop m Distance (or_stop p Position (On s)))) ≡ Stop c → PairRefusal limit start ds j c
        go false b m p da db dm dp s h = let e : Delta ≡ c = cc in subst (PairRefusal limit start ds j) e (delta_large (da.failed refl))
        go true false m p da db dm dp s h = let e : Position ≡ c = cc in subst (PairRefusal limit start ds j) e (delta_outside (da.passed refl) (db.failed refl))
        go true true false p da db dm dp s h = let e : Distance ≡ c = cc in subst (PairRefusal limit start ds j) e (too_far (da.passed refl) (db.passed refl) (dm.failed refl))
        go true true true false da db dm dp s h =
            let e : Position ≡ c = cc in
            subst (PairRefusal limit start ds j) e (point_outside (da.passed refl) (db.passed refl) (dm.passed refl) (dp.failed refl))
        go true true true true da db dm dp s h = absurd (let z : ◌≡◌ {A = ℕ} 0 1 = cc in omega arith)

  -- ---- all steps

  short : (k : ℕ) → length ds < 2 * k + 2 → length (drop (2 * k) ds) < 2
  short k h = omega (arith, length-drop (2 * k) ds)

  -- pairs pass from k up to but not including j
  abbrev Pass : ℕ → ℕ → Type 0
  Pass k j = (i : ℕ) → k ≤ i → i < j → PairPasses limit start ds i

  one_more : (k j : ℕ) → PairPasses limit start ds k → Pass (k + 1) j → Pass k j
  one_more k j p rest i a b = go (eq-or-lt_of_le a)
    where
      go : (k ≡ i) ⊎ (k < i) → PairPasses limit start ds i
      go (inl q) = subst (PairPasses limit start ds) q p
      go (inr l) = rest i (omega arith) b

  -- what a trace from the pair k on comes to: all pass, or a first one is refused
  record AllPassed (k : ℕ) : Type 0 where
    each : (i : ℕ) → k ≤ i → 2 * i + 2 ≤ length ds → PairPasses limit start ds i

  record FirstStop (k : ℕ) (c : Code) : Type 0 where
    j : ℕ
    from : k ≤ j
    inside : 2 * j + 2 ≤ length ds
    before : Pass k j
    why : PairRefusal limit start ds j c

  abbrev Ends : ℕ → Traced → Type 0
  Ends k (On s) = AllPassed k
  Ends k (Stop c) = FirstStop k c

  later_ends : (k : ℕ) (t : Traced) → PairPasses limit start ds k → Ends (k + 1) t → Ends k t
  later_ends k (On s) p e = record { each = λ i a b. one_more k (i + 1) p (λ n c d. e.each n c (omega arith)) i a (omega arith) }
  later_ends k (Stop c) p e = record { j = e.j; from = omega (arith, e.from); inside = e.inside; before = one_more k e.j p e.before; why = e.why }

  ends : (m k : ℕ) (r : Run) → length ds < 2 * (k + m) + 2 → Ran k r → Ends k (trace_from limit r (drop (2 * k) ds))
  ends zero k r h ran = rw (trace_done limit r (drop (2 * k) ds) (short k (omega arith))) (record { each = λ i a b. absurd (omega arith) })
  ends (suc m) k r h ran = go (leb (2 * k + 2) (length ds)) refl (λ s q. ends m (k + 1) s (omega arith) q)
    where
      stepped : (t : Traced) → step_of limit r (pair_at ds k) ≡ t → ((s : Run) → Ran (k + 1) s → Ends (k + 1) (trace_from limit s (drop (2 * (k + 1)) ds)))
          → 2 * k + 2 ≤ length ds → Ends k (onward t (λ s. trace_from limit s (drop (2 * (k + 1)) ds)))
      stepped (Stop c) e ih l = record { j = k; from = omega arith; inside = l; before = λ i a b. absurd (omega arith); why = step_refused k r ran c e }
      stepped (On s) e ih l = later_ends k (trace_from limit s (drop (2 * (k + 1)) ds)) (step_passed k r ran s e) (ih s (ran_on k r ran s e))

      go : (b : Bool) → leb (2 * k + 2) (length ds) ≡ b → ((s : Run) → Ran (k + 1) s → Ends (k + 1) (trace_from limit s (drop (2 * (k + 1)) ds)))
          → Ends k (trace_from limit r (drop (2 * k) ds))
      go false e ih =
          let l : length ds < 2 * k + 2 = leb-false (2 * k + 2) (length ds) e in
          rw (trace_done limit r (drop (2 * k) ds) (short k l)) (record { each = λ i a b. absurd (omega arith) })
      go true e ih =
          let l : 2 * k + 2 ≤ length ds = leb-true (2 * k + 2) (length ds) e in
          rw (trace_more limit r ds k l) (stepped (step_of limit r (pair_at ds k)) refl ih l)

  trace_ends : Ends 0 (trace_of limit start ds)
  unfolding trace_of
  trace_ends = ends (length ds) 0 (run_at start) (omega arith) ran_none

  pub trace_passed : (s : Run) → trace_of limit start ds ≡ On s → (j : ℕ) → 2 * j + 2 ≤ length ds → PairPasses limit start ds j
  trace_passed s h j b = (subst (Ends 0) h trace_ends).each j (omega arith) b

  -- the first pair that is refused
  pub record StopsAt (c : Code) : Type 0 where
    pub j : ℕ
    pub inside : 2 * j + 2 ≤ length ds
    pub before : (i : ℕ) → i < j → PairPasses limit start ds i
    pub why : PairRefusal limit start ds j c

  pub trace_stops : (c : Code) → trace_of limit start ds ≡ Stop c → StopsAt c
  trace_stops c h =
      let f : FirstStop 0 c = subst (Ends 0) h trace_ends in
      record { j = f.j; inside = f.inside; before = λ i b. f.before i (omega arith) b; why = f.why }

  -- ---- and back

  -- where the pairs from k up to but not including k + m pass, the rest decides
  record Through (k m : ℕ) (r : Run) : Type 0 where
    run : Run
    ran : Ran (k + m) run
    same : trace_from limit r (drop (2 * k) ds) ≡ trace_from limit run (drop (2 * (k + m)) ds)

  through : (m k : ℕ) (r : Run) → 2 * (k + m) ≤ length ds → Ran k r → Pass k (k + m) → Through k m r
  through zero k r h ran p = let e : k + 0 ≡ k = omega arith in record { run = r; ran = rw e ran; same = rw e }
  through (suc m) k r h ran p =
      let s = onto r (pair_at ds k) in
      let t = through m (k + 1) s (omega arith) (ran_more k r ran) (λ i a b. p i (omega arith) (omega arith)) in
      let e : k + suc m ≡ k + 1 + m = omega arith in
      record {
        run = t.run;
        ran = rw e t.ran;
        same = trace_more limit r ds k (omega arith) ∙ rw (step_passes k r ran (p k (omega arith) (omega arith)), e) t.same;
      }

  from_start : (m : ℕ) → 2 * m ≤ length ds → ((i : ℕ) → i < m → PairPasses limit start ds i) → Through 0 m (run_at start)
  from_start m h p = through m 0 (run_at start) (omega arith) ran_none (λ i a b. p i (omega arith))

  pub refused_stops : (c : Code) (j : ℕ) → 2 * j + 2 ≤ length ds → ((i : ℕ) → i < j → PairPasses limit start ds i) → PairRefusal limit start ds j c → trace_of limit start ds ≡ Stop c
  unfolding trace_of
  refused_stops c j h p w =
      let t = from_start j (omega arith) p in
      let z : 0 + j ≡ j = omega arith in
      let ran : Ran j t.run = subst (λ (n : ℕ). Ran n t.run) z t.ran in
      t.same ∙ rw z (trace_more limit t.run ds j h ∙ rw (step_refuses j t.run ran w))

  pub record Traced-on : Type 0 where
    pub run : Run
    pub is : trace_of limit start ds ≡ On run
    pub far : run.manhattan ≡ far_of ds

  pub passed_traces : ((j : ℕ) → 2 * j + 2 ≤ length ds → PairPasses limit start ds j) → Traced-on
  unfolding trace_of far_of
  passed_traces p =
      let n = length ds / 2 in
      let t = from_start n (omega arith) (λ i b. p i (omega arith)) in
      let z : 0 + n ≡ n = omega arith in
      record { run = t.run; is = t.same ∙ rw z (trace_done limit t.run (drop (2 * n) ds) (short n (omega arith))); far = (subst (λ (m : ℕ). Ran m t.run) z t.ran).far }

-- ---- the control points

module _ (start : Pair) (ds : List ℤ) where
  later_at : (m k : ℕ) (p : Stand) → p.delta ≡ plus_up_to nowhere (pair_at ds) k → p.point ≡ plus_up_to start (delta_at ds) k → 2 * (k + m) + 2 ≤ length ds
      → get_or (later_points p (drop (2 * k) ds)) m nowhere ≡ control_point_at start ds (k + m)
  unfolding moved_of delta_at control_point_at plus_up_to
  later_at zero k p a b h = let e : k + 0 ≡ k = omega arith in rw (e, points_more p ds k (omega arith), a, b)
  later_at (suc m) k p a b h =
      let e : k + suc m ≡ k + 1 + m = omega arith in
      let q = moved_of p (pair_at ds k) in
      rw (e, points_more p ds k (omega arith)) (later_at m (k + 1) q (rw (add-one k, a)) (rw (add-one k, a, b)) (omega arith))

pub points_are : PointsAre
unfolding control_points stand_at plus_up_to
points_are start ds j h = later_at start ds j 0 (stand_at start) refl refl (omega arith) ∙ (let e : 0 + j ≡ j = omega arith in ap (control_point_at start ds) e)

-- Assumes nothing.
