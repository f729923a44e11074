-- Each code of writing a text of points is given exactly when the table gives it: a spline is judged as building traces it under a limit that no sum passes.
use mathlib.Core.Path.{◌≡◌, refl, sym, ap, subst, ◌∙◌}
use mathlib.Core.Bool.{Bool, true, false, not, cond, ◌||◌, true≢false}
use mathlib.Core.List.{List, [], ◌∷◌, ◌++◌}
use mathlib.Core.Logic.{◌↔◌, ◌⊎◌}
use Prim.Native.Nat.{ℕ, zero, suc, ◌+◌, ◌-◌, ◌*◌, ◌≤◌, ◌<◌}
use native.Mathlib.Omega.{arith}
use lib.Dec.{ltb, leb}
use lib.ListN.{length, get_or, replicate}
use lib.IntN.{ℤ}
use lib.Ieee.{Float}
use Rattle.codes.proofs.Refusals.{same_refusal}
use Rattle.codes.specs.declared.Code.{Code}
use Rattle.codes.specs.declared.Code.TheVariants.{Room, Shape, Position, Coincide}
use Rattle.codes.proofs.Decides.{both, Decides, at_most, less_than}
use Rattle.shape.specs.Shape.{shaped}
use Rattle.shape.proofs.Shape.{is_shaped, shaped_is}
use Rattle.writer.specs.Write.{misshapen, WriteOutcome, leaves}
use Rattle.writer.specs.Write as writing
use Rattle.write_judge.specs.Verdict.{Verdict}
use Rattle.write_judge.specs.Verdict.{Fine, Fault}
use Rattle.control_points.specs.ControlPoints.{starting_point, control_points, valid_point_pos, same_point, coincide_from, adjacent_coincide, trace_of}
use Rattle.dequantize.specs.Judge.{Description, description_of, start_x, start_y, deltas_of}
use Rattle.control_points.specs.Refusals.{Inside, Outside, Small, Large, RoundsTo, Strays, nowhere, delta_at, control_point_at, Adjacent, PairPasses, PairRefusal}
use Rattle.control_points.specs.Refusals as building
use Rattle.control_points.specs.declared.Pair.{Pair}
use Rattle.control_points.specs.declared.Run.{Run}
use Rattle.control_points.specs.Answers.{Start}
use Rattle.control_points.specs.Answers as S
use Rattle.control_points.specs.Answers.{Traced}
use Rattle.control_points.specs.Answers.{On, Stop}
use Rattle.control_points.proofs.Coincide.{same_point_lem, coincides}
use Rattle.control_points.proofs.Ranges.{starts_at, starting_at, starts_out, starting_out}
use Rattle.control_points.proofs.Starts.{start_valid}
use Rattle.control_points.proofs.Tracing.{trace_passed, trace_stops, refused_stops, passed_traces}
use Rattle.control_points.proofs.Walks.{all_in_range, points_in_range, traced_walk}
use Rattle.polyline.specs.Read.{and_then}
use Rattle.polyline.specs.Write.{points_text, settled, begun, spline_verdict, spline_text, no_spline, write_verdict, write_points_of}
use Rattle.polyline_laws.specs.Refusals.{StepPasses, StepRefusal, delta_large, delta_outside, point_outside, There, Goes, points_by, PointsWriteRefusal, shape, start, pair, coincide, room, PointsWritten}
use Rattle.polyline_laws.proofs.Answers.{wrote}
use Rattle.polyline_laws.proofs.Legal.{wide_limit, far_within, untraced, gone_is}
use Rattle.writer.specs.WriteAnswer.{Done, Refused}

-- ---- two adjacent points

in_range_lem : (p : Pair) (l : List Pair) → all_in_range (p ∷ l) ≡ true → (valid_point_pos p ≡ true) × (all_in_range l ≡ true)
unfolding all_in_range
in_range_lem p l v = both (valid_point_pos p) (all_in_range l) v

meets : (p : Pair) (l : List Pair) → all_in_range (p ∷ l) ≡ true → coincide_from p l ≡ true → Adjacent (p ∷ l)
unfolding coincide_from
meets p [] v h = absurd (true≢false (sym h))
meets p (q ∷ l) v h = go (same_point p q) refl h (meets q l (in_range_lem p (q ∷ l) v).1)
  where
    go : (t : Bool) → same_point p q ≡ t → cond t true (coincide_from q l) ≡ true → (coincide_from q l ≡ true → Adjacent (q ∷ l)) → Adjacent (p ∷ q ∷ l)
    go true e h ih =
        let a = in_range_lem p (q ∷ l) v in
        let b = in_range_lem q l a.1 in
        record { j = 0; inside = omega arith; equal = (same_point_lem p q a.0 b.0).0 e }
    go false e h ih = let r = ih h in record { j = suc r.j; inside = omega (arith, r.inside); equal = r.equal }

meeting : (p : Pair) (l : List Pair) (j : ℕ) → all_in_range (p ∷ l) ≡ true → suc j < length (p ∷ l) → get_or (p ∷ l) j nowhere ≡ get_or (p ∷ l) (suc j) nowhere → coincide_from p l ≡ true
unfolding coincide_from
meeting p [] j v h e = absurd (omega arith)
meeting p (q ∷ l) zero v h e =
    let a = in_range_lem p (q ∷ l) v in
    let b = in_range_lem q l a.1 in
    rw ((same_point_lem p q a.0 b.0).1 e)
meeting p (q ∷ l) (suc j) v h e = go (same_point p q) (meeting q l j (in_range_lem p (q ∷ l) v).1 (omega arith) e)
  where
    go : (t : Bool) → coincide_from q l ≡ true → cond t true (coincide_from q l) ≡ true
    go true r = refl
    go false r = r

-- ---- the pairs of a spline

module _ (first : Pair) (ds : List ℤ) where
  abbrev limit : ℕ
  limit = wide_limit ds

  -- building's statements on a pair under the wide limit are those without DISTANCE
  pair_on : (j : ℕ) → PairPasses limit first ds j → StepPasses first ds j
  pair_on j p = record { small = p.small; delta = p.delta; point = p.point }

  pair_off : (j : ℕ) → 2 * j + 2 ≤ length ds → StepPasses first ds j → PairPasses limit first ds j
  pair_off j h p = record { small = p.small; delta = p.delta; near = far_within ds j h; point = p.point }

  why_on : (j : ℕ) → 2 * j + 2 ≤ length ds → (c : Code) → PairRefusal limit first ds j c → StepRefusal first ds j c
  why_on j h c (building.delta_large a) = delta_large a
  why_on j h c (building.delta_outside a b) = delta_outside a b
  why_on j h c (building.too_far a b m) = absurd (omega (arith, m, far_within ds j h))
  why_on j h c (building.point_outside a b m p) = point_outside a b p

  why_off : (j : ℕ) → 2 * j + 2 ≤ length ds → (c : Code) → StepRefusal first ds j c → PairRefusal limit first ds j c
  why_off j h c (delta_large a) = building.delta_large a
  why_off j h c (delta_outside a b) = building.delta_outside a b
  why_off j h c (point_outside a b p) = building.point_outside a b (far_within ds j h) p

  module _ (v : valid_point_pos first ≡ true) (r : Run) (t : trace_of limit first ds ≡ On r) where
    ranged : all_in_range (control_points first ds) ≡ true
    ranged = points_in_range first ds (traced_walk limit first ds r v t)

    meet : r.coincide ≡ true → Adjacent (control_points first ds)
    unfolding control_points adjacent_coincide
    meet h = meets first _ ranged (sym (coincides limit first ds r t) ∙ h)

    met : Adjacent (control_points first ds) → r.coincide ≡ true
    unfolding control_points adjacent_coincide
    met a = coincides limit first ds r t ∙ meeting first _ a.j ranged a.inside a.equal

-- ---- the spline k

module _ (d : Description) (k : ℕ) where
  abbrev own : List ℤ
  own = deltas_of d k

  -- the first check that a spline fails, or that it passes all
  pub data Fails : Code → Type 0 where
    strays : Strays (start_x d k) ⊎ Strays (start_y d k) → Fails Position
    refuses : (c : Code) (p : Pair) → RoundsTo (start_x d k) p.x → RoundsTo (start_y d k) p.y → (j : ℕ) → 2 * j + 2 ≤ length own
        → ((i : ℕ) → i < j → StepPasses p own i) → StepRefusal p own j c → Fails c
    adjacent : (g : Goes d k) → Adjacent (points_by d k g) → Fails Coincide

  pub record Holds : Type 0 where
    pub goes : Goes d k
    pub apart : Adjacent (points_by d k goes) → ⊥
    pub text : spline_text d k ≡ points_text (points_by d k goes)

  abbrev pub Verdicted : Verdict → Type 0
  Verdicted Fine = Holds
  Verdicted (Fault c p) = Fails c × (p ≡ k)

  abbrev goes_by : (p : Pair) → starting_point (start_x d k) (start_y d k) ≡ S.At p → (r : Run) → trace_of (wide_limit own) p own ≡ On r → Goes d k
  goes_by p e r t =
      let s = starts_at (start_x d k) (start_y d k) p e in
      record { start = p; x = s.0; y = s.1; pairs = λ j h. pair_on p own j (trace_passed (wide_limit own) p own r t j h) }

  pub text_by : (p : Pair) → starting_point (start_x d k) (start_y d k) ≡ S.At p → spline_text d k ≡ points_text (control_points p own)
  unfolding spline_text
  text_by p e = rw e

  pub spline_verdict_lem : Verdicted (spline_verdict d k)
  unfolding spline_verdict
  spline_verdict_lem = go (starting_point (start_x d k) (start_y d k)) refl
    where
      ends : (p : Pair) → starting_point (start_x d k) (start_y d k) ≡ S.At p → (t : Traced) → trace_of (wide_limit own) p own ≡ t → Verdicted (settled k (untraced t))
      ends p e (Stop c) t =
          let s = trace_stops (wide_limit own) p own c t in
          let b = starts_at (start_x d k) (start_y d k) p e in
          (refuses c p b.0 b.1 s.j s.inside (λ i l. pair_on p own i (s.before i l)) (why_on p own s.j s.inside c s.why), refl)
      ends p e (On r) t = met_or r.coincide refl
        where
          met_or : (m : Bool) → r.coincide ≡ m → Verdicted (cond m (Fault Coincide k) Fine)
          met_or true h = (adjacent (goes_by p e r t) (meet p own (start_valid (start_x d k) (start_y d k) p e) r t h), refl)
          met_or false h = record {
            goes = goes_by p e r t;
            apart = λ a. true≢false (sym (met p own (start_valid (start_x d k) (start_y d k) p e) r t a) ∙ h);
            text = text_by p e;
          }

      go : (s : Start) → starting_point (start_x d k) (start_y d k) ≡ s → Verdicted (begun k own s)
      go S.Out e = (strays (starts_out (start_x d k) (start_y d k) e), refl)
      go (S.At p) e = rw (gone_is p own) (ends p e (trace_of (wide_limit own) p own) refl)

  -- and back
  module _ (g : Goes d k) where
    pub begins : starting_point (start_x d k) (start_y d k) ≡ S.At g.start
    begins = starting_at (start_x d k) (start_y d k) g.start g.x g.y

    pub goes_text : spline_text d k ≡ points_text (points_by d k g)
    goes_text = text_by g.start begins

    goes_verdict : (b : Bool) → ((r : Run) → trace_of (wide_limit own) g.start own ≡ On r → r.coincide ≡ b) → spline_verdict d k ≡ cond b (Fault Coincide k) Fine
    unfolding spline_verdict
    goes_verdict b h =
        let t = passed_traces (wide_limit own) g.start own (λ j l. pair_off g.start own j l (g.pairs j l)) in
        rw (begins, gone_is g.start own, t.is, h t.run t.is)

    pub goes_fine : (Adjacent (points_by d k g) → ⊥) → spline_verdict d k ≡ Fine
    goes_fine n = goes_verdict false (λ r t. apart r t r.coincide refl)
      where
        apart : (r : Run) → trace_of (wide_limit own) g.start own ≡ On r → (b : Bool) → r.coincide ≡ b → r.coincide ≡ false
        apart r t false e = e
        apart r t true e = absurd (n (meet g.start own (start_valid (start_x d k) (start_y d k) g.start begins) r t e))

    pub goes_meets : Adjacent (points_by d k g) → spline_verdict d k ≡ Fault Coincide k
    goes_meets a = goes_verdict true (λ r t. met g.start own (start_valid (start_x d k) (start_y d k) g.start begins) r t a)

  pub fails_verdict : (c : Code) → Fails c → spline_verdict d k ≡ Fault c k
  unfolding spline_verdict
  fails_verdict c (strays s) = rw (starting_out (start_x d k) (start_y d k) s)
  fails_verdict c (refuses c' p x y j h b w) =
      rw (starting_at (start_x d k) (start_y d k) p x y, gone_is p own, refused_stops (wide_limit own) p own c' j h (λ i l. pair_off p own i (omega arith) (b i l)) (why_off p own j h c' w))
  fails_verdict c (adjacent g a) = goes_meets g a

-- ---- the answer

module _ (ns : List ℕ) (ss : List Float) (ds cs : List ℤ) (k room' : ℕ) where
  abbrev all : Description
  all = description_of ns ss ds cs

  shaped_decides : (t : Bool) → shaped ns ss ds cs ≡ t → (u : Bool) → leb (length ns) k ≡ u → Decides (not t || u) (There ns ss ds cs k → ⊥) (There ns ss ds cs k)
  shaped_decides true e true l =
      let h : length ns ≤ k = (at_most (length ns) k).passed l in
      record { passed = λ q t. omega (arith, t.inside); passes = λ n. refl; failed = λ q. absurd (true≢false q); fails = λ t. absurd (omega (arith, t.inside)) }
  shaped_decides true e false l =
      let h : k < length ns = (at_most (length ns) k).failed l in
      let t : There ns ss ds cs k = record { shaped = shaped_is ns ss ds cs e; inside = h } in
      record { passed = λ q. absurd (true≢false (sym q)); passes = λ n. absurd (n t); failed = λ q. t; fails = λ t. refl }
  shaped_decides false e u l = record {
    passed = λ q t. true≢false (sym (is_shaped ns ss ds cs t.shaped) ∙ e);
    passes = λ n. refl;
    failed = λ q. absurd (true≢false q);
    fails = λ t. absurd (true≢false (sym (is_shaped ns ss ds cs t.shaped) ∙ e));
  }

  there_decides : Decides (no_spline ns ss ds cs k) (There ns ss ds cs k → ⊥) (There ns ss ds cs k)
  unfolding no_spline misshapen
  there_decides = shaped_decides (shaped ns ss ds cs) refl (leb (length ns) k) refl

  -- the verdict of a spline that is there
  pub there_verdict : There ns ss ds cs k → write_verdict ns ss ds cs k room' ≡ and_then (spline_verdict all k) (cond (ltb room' (length (spline_text all k))) (Fault Room k) Fine)
  unfolding write_verdict
  there_verdict t = rw (there_decides.fails t)

  table_of : There ns ss ds cs k → (c : Code) → Fails all k c → PointsWriteRefusal ns ss ds cs k room' c k
  table_of t c (strays s) = start t s
  table_of t c (refuses c' p x y j h b w) = pair c' t p x y j h b w
  table_of t c (adjacent g a) = coincide t g a

  refused_there : There ns ss ds cs k → (c : Code) (p : ℕ) → and_then (spline_verdict all k) (cond (ltb room' (length (spline_text all k))) (Fault Room k) Fine) ≡ Fault c p
      → PointsWriteRefusal ns ss ds cs k room' c p
  refused_there t c p e = go (spline_verdict all k) (spline_verdict_lem all k) e
    where
      short : Holds all k → (b : Bool) → ltb room' (length (spline_text all k)) ≡ b → cond b (Fault Room k) Fine ≡ Fault c p → PointsWriteRefusal ns ss ds cs k room' c p
      short h true l e =
          let x : Room ≡ c = (same_refusal e).0 in
          let y : k ≡ p = (same_refusal e).1 in
          let r : room' < length (points_text (points_by all k h.goes)) = subst (λ (t : List ℕ). room' < length t) h.text ((less_than room' (length (spline_text all k))).passed l) in
          subst (λ (m : ℕ). PointsWriteRefusal ns ss ds cs k room' c m) y (subst (λ (m : Code). PointsWriteRefusal ns ss ds cs k room' m k) x (room t h.goes h.apart r))
      short h false l e = cc

      go : (v : Verdict) → Verdicted all k v → and_then v (cond (ltb room' (length (spline_text all k))) (Fault Room k) Fine) ≡ Fault c p → PointsWriteRefusal ns ss ds cs k room' c p
      go Fine h e = short h (ltb room' (length (spline_text all k))) refl e
      go (Fault c' q) h e =
          let x : c' ≡ c = (same_refusal e).0 in
          let y : q ≡ p = (same_refusal e).1 in
          subst (λ (m : ℕ). PointsWriteRefusal ns ss ds cs k room' c m) (sym h.1 ∙ y) (subst (λ (m : Code). PointsWriteRefusal ns ss ds cs k room' m k) x (table_of t c' h.0))

  nowhere_verdict : no_spline ns ss ds cs k ≡ true → write_verdict ns ss ds cs k room' ≡ Fault Shape 0
  unfolding write_verdict
  nowhere_verdict e = rw e

  refused_so : (c : Code) (p : ℕ) → write_verdict ns ss ds cs k room' ≡ Fault c p → PointsWriteRefusal ns ss ds cs k room' c p
  refused_so c p e = go (no_spline ns ss ds cs k) refl
    where
      go : (b : Bool) → no_spline ns ss ds cs k ≡ b → PointsWriteRefusal ns ss ds cs k room' c p
      go true x =
          let f : Fault Shape 0 ≡ Fault c p = sym (nowhere_verdict x) ∙ e in
          let y : Shape ≡ c = (same_refusal f).0 in
          let z : 0 ≡ p = (same_refusal f).1 in
          subst (λ (m : ℕ). PointsWriteRefusal ns ss ds cs k room' c m) z (subst (λ (m : Code). PointsWriteRefusal ns ss ds cs k room' m 0) y (shape (there_decides.passed x)))
      go false x = let t = there_decides.failed x in refused_there t c p (sym (there_verdict t) ∙ e)

  -- the table gives the verdict
  given : There ns ss ds cs k → (c : Code) → Fails all k c → write_verdict ns ss ds cs k room' ≡ Fault c k
  given t c f = there_verdict t ∙ rw (fails_verdict all k c f)

  refusal_given : (c : Code) (p : ℕ) → PointsWriteRefusal ns ss ds cs k room' c p → write_verdict ns ss ds cs k room' ≡ Fault c p
  refusal_given c p (shape n) = nowhere_verdict (there_decides.passes n)
  refusal_given c p (start t s) = given t Position (strays s)
  refusal_given c p (pair c' t q x y j h b w) = given t c' (refuses c' q x y j h b w)
  refusal_given c p (coincide t g a) = given t Coincide (adjacent g a)
  refusal_given c p (room t g n l) = there_verdict t ∙ rw (goes_fine all k g n, goes_text all k g, (less_than room' (length (points_text (points_by all k g)))).passes l)

  pub write_exactly : (c : Code) (p : ℕ) → ((write_points_of ns ss ds cs k room').answer ≡ Refused c p) ↔ PointsWriteRefusal ns ss ds cs k room' c p
  unfolding write_points_of
  write_exactly c p = (
    λ e. refused_so c p (wrote room' (spline_text all k) (write_verdict ns ss ds cs k room') c p e),
    λ r. rw (refusal_given c p r),
  )

  -- ---- done

  -- what is written of a spline that holds
  pub written_leaves : There ns ss ds cs k → (g : Goes all k) → (Adjacent (points_by all k g) → ⊥) → (text : List ℕ) → text ≡ points_text (points_by all k g) → length text ≤ room'
      → write_points_of ns ss ds cs k room' ≡ leaves (Done (length text)) (text ++ replicate (room' - length text) 0)
  unfolding write_points_of
  written_leaves t g n text is h =
      let w : spline_text all k ≡ text = goes_text all k g ∙ sym is in
      let l : ltb room' (length text) ≡ false = (less_than room' (length text)).fails h in
      let v : write_verdict ns ss ds cs k room' ≡ Fine = there_verdict t ∙ rw (goes_fine all k g n, w, l) in
      rw (v, w)

  fine_held : (v : Verdict) → Verdicted all k v → (b : Bool) → ltb room' (length (spline_text all k)) ≡ b → and_then v (cond b (Fault Room k) Fine) ≡ Fine → Holds all k × (length (spline_text all k) ≤ room')
  fine_held Fine h false l e = (h, (less_than room' (length (spline_text all k))).failed l)
  fine_held Fine h true l e = cc
  fine_held (Fault c p) h b l e = cc

  fine_done : (v : Verdict) (text : List ℕ) (n : ℕ) → (writing.outcome room' text v).answer ≡ Done n → (v ≡ Fine) × (n ≡ length text)
  fine_done Fine text n e = (refl, cc)
  fine_done (Fault c p) text n e = cc

  written : (n : ℕ) → (write_points_of ns ss ds cs k room').answer ≡ Done n → PointsWritten ns ss ds cs k room' n
  unfolding write_points_of
  written n e = go (no_spline ns ss ds cs k) refl
    where
      go : (b : Bool) → no_spline ns ss ds cs k ≡ b → PointsWritten ns ss ds cs k room' n
      go true x =
          let f = fine_done (write_verdict ns ss ds cs k room') (spline_text all k) n e in
          let g : Fault Shape 0 ≡ Fine = sym (nowhere_verdict x) ∙ f.0 in
          let z : ◌≡◌ {A = ℕ} 0 1 = cc in
          absurd (omega arith)
      go false x =
          let f = fine_done (write_verdict ns ss ds cs k room') (spline_text all k) n e in
          let t = there_decides.failed x in
          let h = fine_held (spline_verdict all k) (spline_verdict_lem all k) (ltb room' (length (spline_text all k))) refl (sym (there_verdict t) ∙ f.0) in
          let w = h.0 in
          record {
            there = t;
            goes = w.goes;
            apart = w.apart;
            held = subst (λ (l : List ℕ). length l ≤ room') w.text h.1;
            all = f.1 ∙ ap length w.text;
          }

  pub written_exactly : (n : ℕ) → ((write_points_of ns ss ds cs k room').answer ≡ Done n) ↔ PointsWritten ns ss ds cs k room' n
  written_exactly n = (
    written n,
    λ w. ap (λ (o : WriteOutcome). o.answer) (written_leaves w.there w.goes w.apart (points_text (points_by all k w.goes)) refl w.held) ∙ ap Done (sym w.all),
  )

-- Assumes nothing.
