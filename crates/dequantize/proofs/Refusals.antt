-- The codes of judging exactly when: a spline passes where its statements hold, and is refused by the first that fails; all splines pass, or one is the first refused.
use Rattle.std.proofs.Common.{◌≡◌, Ok, ℕ, zero, suc, ◌<◌, ◌≤◌, Bool, true, false, cond, leb, ◌↔◌, List, [], ◌∷◌, length, get_or, sym, refl, ◌∙◌, subst, true≢false, arith, leb-false, leb-true}
use Rattle.codes.specs.declared.Code.{Code}
use Rattle.codes.specs.declared.Code.TheVariants.{Area, Coincide}
use Rattle.control_points.specs.ControlPoints.{starting_point, trace_of, control_points, valid_point_pos, same_point, coincide_from, adjacent_coincide}
use Rattle.dequantize.specs.Dequantize.{finished_of, dequantize_of}
use Rattle.numbers.specs.Saturating.{sat_add}
use Rattle.dequantize.specs.Judge.{Description, start_x, start_y, deltas_of, coefficients_of, answer_of, spline_of, total_of, settle_of, judge_of}
use Rattle.control_points.specs.Refusals.{nowhere, Adjacent}
use Rattle.dequantize.specs.Refusals.{Traces, SplinePasses, SplineRefusal, start_strays, pair_refused, area_above, points_meet, AllPass, FirstRefused, EstimateIs}
use Rattle.dequantize.specs.declared.Given.{Given}
use Rattle.control_points.specs.declared.Pair.{Pair}
use Rattle.control_points.specs.declared.Run.{Run}
use Rattle.control_points.specs.Answers.{Start, At, Out, Traced}
use Rattle.control_points.specs.Answers as T
use Rattle.dequantize.specs.Answers.{Total, Stop, Fine, Refused}
use Rattle.codes.proofs.Decides.{both}
use Rattle.control_points.proofs.Coincide.{same_point_lem}
use Rattle.control_points.proofs.Walks.{all_in_range, points_in_range}
use Rattle.dequantize.proofs.Accepted.{start_refused, trace_refused, trace_accepted, accepted_exactly}
use Rattle.dequantize.proofs.Judgement.{area_exactly, coincide_exactly, total_exactly, settled_done, Passes, total_more, fine_exactly, refused_exactly}
use Rattle.control_points.proofs.Ranges.{starts_at, starting_at, starts_out, starting_out}
use Rattle.control_points.proofs.Tracing.{trace_passed, trace_stops, refused_stops, passed_traces}

-- ---- two adjacent points

in_range_lem : (p : Pair) (l : List Pair) → all_in_range (p ∷ l) ≡ true → (valid_point_pos p ≡ true) × (all_in_range l ≡ true)
unfolding all_in_range
in_range_lem p l v = both (valid_point_pos p) (all_in_range l) v

meets : (p : Pair) (l : List Pair) → all_in_range (p ∷ l) ≡ true → coincide_from p l ≡ true → Adjacent (p ∷ l)
unfolding coincide_from
meets p [] v h = absurd (true≢false (sym h))
meets p (q ∷ l) v h = go (same_point p q) refl h (meets q l (in_range_lem p (q ∷ l) v).1)
  where
    go : (t : Bool) → same_point p q ≡ t → cond t true (coincide_from q l) ≡ true → (coincide_from q l ≡ true → Adjacent (q ∷ l)) → Adjacent (p ∷ q ∷ l)
    go true e h ih =
        let a = in_range_lem p (q ∷ l) v in
        let b = in_range_lem q l a.1 in
        record { j = 0; inside = omega arith; equal = (same_point_lem p q a.0 b.0).0 e }
    go false e h ih = let r = ih h in record { j = suc r.j; inside = omega (arith, r.inside); equal = r.equal }

meeting : (p : Pair) (l : List Pair) (j : ℕ) → all_in_range (p ∷ l) ≡ true → suc j < length (p ∷ l) → get_or (p ∷ l) j nowhere ≡ get_or (p ∷ l) (suc j) nowhere → coincide_from p l ≡ true
unfolding coincide_from
meeting p [] j v h e = absurd (omega arith)
meeting p (q ∷ l) zero v h e =
    let a = in_range_lem p (q ∷ l) v in
    let b = in_range_lem q l a.1 in
    rw ((same_point_lem p q a.0 b.0).1 e)
meeting p (q ∷ l) (suc j) v h e = go (same_point p q) (meeting q l j (in_range_lem p (q ∷ l) v).1 (omega arith) e)
  where
    go : (t : Bool) → coincide_from q l ≡ true → cond t true (coincide_from q l) ≡ true
    go true r = refl
    go false r = r

-- ---- one spline

module _ (d : Description) (g : Given) (k : ℕ) where
  -- what settles a spline that was not refused
  module _ (done : answer_of d g k ≡ Ok (spline_of d g k)) where
    area_at : (settle_of (total_of d g k) (answer_of d g k) g.limit ≡ Stop Area) ↔ (g.limit < sat_add (total_of d g k) (spline_of d g k).estimate)
    area_at = rw done (area_exactly (total_of d g k) (spline_of d g k) g.limit)

    coincide_at : (settle_of (total_of d g k) (answer_of d g k) g.limit ≡ Stop Coincide) ↔ ((sat_add (total_of d g k) (spline_of d g k).estimate ≤ g.limit) × ((spline_of d g k).coincide ≡ true))
    coincide_at = rw done (coincide_exactly (total_of d g k) (spline_of d g k) g.limit)

    total_at : (n : ℕ) → (settle_of (total_of d g k) (answer_of d g k) g.limit ≡ Total n) ↔ ((sat_add (total_of d g k) (spline_of d g k).estimate ≤ g.limit) × ((spline_of d g k).coincide ≡ false) × (sat_add (total_of d g k) (spline_of d g k).estimate ≡ n))
    total_at n = rw done (total_exactly (total_of d g k) (spline_of d g k) g.limit n)

  -- what is known of a spline whose start is a place and whose trace ends well
  record Known (start : Pair) : Type 0 where
    done : answer_of d g k ≡ Ok (spline_of d g k)
    meet : (spline_of d g k).coincide ≡ true → Adjacent (control_points start (deltas_of d k))
    met : Adjacent (control_points start (deltas_of d k)) → (spline_of d g k).coincide ≡ true

  known : (start : Pair) → starting_point (start_x d k) (start_y d k) ≡ At start → (run : Run) → trace_of g.limit start (deltas_of d k) ≡ T.On run → Known start
  unfolding spline_of control_points adjacent_coincide
  known start b run t =
      let a = trace_accepted (start_x d k) (start_y d k) (deltas_of d k) (coefficients_of d k) g start b run t in
      let q : At a.start ≡ At start = sym a.begins ∙ b in
      let s : a.start ≡ start = cc in
      let v : all_in_range (control_points start (deltas_of d k)) ≡ true =
      subst (λ (p : Pair). all_in_range (control_points p (deltas_of d k)) ≡ true) s (points_in_range a.start (deltas_of d k) a.walk) in
      let f : (spline_of d g k).coincide ≡ adjacent_coincide (control_points start (deltas_of d k)) = subst (λ (p : Pair). (spline_of d g k).coincide ≡ adjacent_coincide (control_points p (deltas_of d k))) s a.coincide in
      record {
        done = (accepted_exactly (start_x d k) (start_y d k) (deltas_of d k) (coefficients_of d k) g).1 a;
        meet = λ h. meets start _ v (sym f ∙ h);
        met = λ m. f ∙ meeting start _ m.j v m.inside m.equal;
      }

  traces_known : (t : Traces d g k) → Known t.start
  traces_known t =
      let r = passed_traces g.limit t.start (deltas_of d k) t.pairs in
      known t.start (starting_at (start_x d k) (start_y d k) t.start t.x t.y) r.run r.is

  traced : (start : Pair) → starting_point (start_x d k) (start_y d k) ≡ At start → (run : Run) → trace_of g.limit start (deltas_of d k) ≡ T.On run → Traces d g k
  traced start b run t =
      let s = starts_at (start_x d k) (start_y d k) start b in
      record { start = start; x = s.0; y = s.1; pairs = trace_passed g.limit start (deltas_of d k) run t }

  -- ---- it passes

  abbrev Settles : Code → Type 0
  Settles c = settle_of (total_of d g k) (answer_of d g k) g.limit ≡ Stop c

  pub passes_is : SplinePasses d g k → Passes d g k
  passes_is p =
      let w = traces_known p.traces in
      (total_at w.done (total_of d g (suc k))).1
      (rw (← total_more d g k) p.area, not_true (spline_of d g k).coincide (λ h. p.apart (w.meet h)), sym (total_more d g k))
    where
      not_true : (b : Bool) → (b ≡ true → ⊥) → b ≡ false
      not_true true n = absurd (n refl)
      not_true false n = refl

  pub is_passes : Passes d g k → SplinePasses d g k
  unfolding spline_of
  is_passes h =
      let done = settled_done (total_of d g k) (answer_of d g k) g.limit (total_of d g (suc k)) h in
      let a = (accepted_exactly (start_x d k) (start_y d k) (deltas_of d k) (coefficients_of d k) g).0 done in
      let e = (total_at done (total_of d g (suc k))).0 h in
      let w = known a.start a.begins a.run a.traced in
      record {
        traces = record {
          start = a.start;
          x = (starts_at (start_x d k) (start_y d k) a.start a.begins).0;
          y = (starts_at (start_x d k) (start_y d k) a.start a.begins).1;
          pairs = trace_passed g.limit a.start (deltas_of d k) a.run a.traced;
        };
        area = subst (λ (n : ℕ). n ≤ g.limit) e.2 e.0;
        apart = λ m. true≢false (sym (w.met m) ∙ e.1);
      }

  -- ---- it is refused

  pub refusal_is : {c : Code} → SplineRefusal d g k c → Settles c
  unfolding settle_of
  refusal_is (start_strays s) =
      rw (start_refused (start_x d k) (start_y d k) (deltas_of d k) (coefficients_of d k) g (starting_out (start_x d k) (start_y d k) s))
  refusal_is (pair_refused {c = c} start x y j h p w) =
      let b = starting_at (start_x d k) (start_y d k) start x y in
      let t = refused_stops g.limit start (deltas_of d k) c j h p w in
      rw (trace_refused (start_x d k) (start_y d k) (deltas_of d k) (coefficients_of d k) g start b c t)
  refusal_is (area_above t h) =
      (area_at (traces_known t).done).1 (rw (← total_more d g k) h)
  refusal_is (points_meet t h m) =
      (coincide_at (traces_known t).done).1 (rw (← total_more d g k) h, (traces_known t).met m)

  same_code : {a b : Code} → Stop a ≡ Stop b → a ≡ b
  same_code e = cc

  module _ (c : Code) (h : Settles c) where
    -- by the estimate and the points
    settled_late : Traces d g k → (m t : Bool) → leb (total_of d g (suc k)) g.limit ≡ m → (spline_of d g k).coincide ≡ t → SplineRefusal d g k c
    settled_late r false t p q =
        let l : g.limit < total_of d g (suc k) = leb-false (total_of d g (suc k)) g.limit p in
        subst (SplineRefusal d g k) (same_code (sym (refusal_is (area_above r l)) ∙ h)) (area_above r l)
    settled_late r true true p q =
        let l : total_of d g (suc k) ≤ g.limit = leb-true (total_of d g (suc k)) g.limit p in
        let m = (traces_known r).meet q in
        subst (SplineRefusal d g k) (same_code (sym (refusal_is (points_meet r l m)) ∙ h)) (points_meet r l m)
    settled_late r true false p q =
        let l : total_of d g (suc k) ≤ g.limit = leb-true (total_of d g (suc k)) g.limit p in
        let w = traces_known r in
        let e = (total_at w.done (total_of d g (suc k))).1 (rw (← total_more d g k) l, q, sym (total_more d g k)) in
        absurd (let z : ◌≡◌ {A = ℕ} 0 1 = cc (sym e ∙ h) in omega arith)

    settled_trace : (start : Pair) → starting_point (start_x d k) (start_y d k) ≡ At start → (t : Traced) → trace_of g.limit start (deltas_of d k) ≡ t → SplineRefusal d g k c
    settled_trace start b (T.On run) t = settled_late (traced start b run t) (leb (total_of d g (suc k)) g.limit) (spline_of d g k).coincide refl refl
    settled_trace start b (T.Stop other) t =
        let s = starts_at (start_x d k) (start_y d k) start b in
        let w = trace_stops g.limit start (deltas_of d k) other t in
        let r : SplineRefusal d g k other = pair_refused start s.0 s.1 w.j w.inside w.before w.why in
        subst (SplineRefusal d g k) (same_code (sym (refusal_is r) ∙ h)) r

    settled_start : (b : Start) → starting_point (start_x d k) (start_y d k) ≡ b → SplineRefusal d g k c
    settled_start Out b =
        let r = start_strays (starts_out (start_x d k) (start_y d k) b) in
        subst (SplineRefusal d g k) (same_code (sym (refusal_is r) ∙ h)) r
    settled_start (At start) b = settled_trace start b (trace_of g.limit start (deltas_of d k)) refl

    pub is_refusal : SplineRefusal d g k c
    is_refusal = settled_start (starting_point (start_x d k) (start_y d k)) refl

-- ---- the estimate

pub estimate_is : EstimateIs
unfolding spline_of dequantize_of finished_of
estimate_is d g k t =
    let r = passed_traces g.limit t.start (deltas_of d k) t.pairs in
    rw (starting_at (start_x d k) (start_y d k) t.start t.x t.y, r.is, r.far)

-- ---- all splines

module _ (d : Description) (g : Given) where
  -- all splines pass exactly where judging is done, with the sum of all estimates
  pub fine_all : (t : ℕ) → judge_of d g ≡ Fine t → AllPass d g × (total_of d g (length d.counts) ≡ t)
  fine_all t h = let f = (fine_exactly d g t).0 h in (record { each = λ k b. is_passes d g k (f.0 k b) }, f.1)

  pub all_fine : AllPass d g → judge_of d g ≡ Fine (total_of d g (length d.counts))
  all_fine p = (fine_exactly d g (total_of d g (length d.counts))).1 (λ k b. passes_is d g k (p.each k b), refl)

  -- a code is given for the spline k exactly when that is the first that is refused, by that code
  pub judged_exactly : (c : Code) (k : ℕ) → (judge_of d g ≡ Refused c k) ↔ FirstRefused d g c k
  judged_exactly c k = (
    λ h. let r = (refused_exactly d g c k).0 h in
        record { is_there = r.inside; before = λ i b. is_passes d g i (r.before i b); why = is_refusal d g k c r.stops },
    λ f. (refused_exactly d g c k).1 (record { inside = f.is_there; before = λ i b. passes_is d g i (f.before i b); stops = refusal_is d g k f.why }),
  )

-- Assumes nothing.
