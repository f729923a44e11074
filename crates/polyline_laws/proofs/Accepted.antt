-- A text is read exactly if its points are control points that building finds legal, and there is room; its start and double deltas are then left.
use mathlib.Core.Path.{◌≡◌, refl, sym, ap, subst, ◌∙◌}
use mathlib.Core.Bool.{Bool, true, false, cond, ◌||◌}
use mathlib.Core.List.{List, [], ◌∷◌, ◌++◌}
use mathlib.Core.Logic.{◌↔◌}
use Prim.Native.Nat.{ℕ, zero, suc, ◌+◌, ◌-◌, ◌*◌, ◌≤◌, ◌<◌}
use native.Mathlib.Omega.{arith}
use lib.Dec.{ltb}
use lib.ListN.{length, replicate}
use lib.IntN.{ℤ, pos}
use lib.Ieee.{Float}
use Rattle.codes.specs.declared.Code.TheVariants.{Room}
use Rattle.codes.proofs.Decides.{both}
use Rattle.list.specs.Steps.{f32_of, zero_f32}
use Rattle.write_judge.specs.Verdict.{Verdict}
use Rattle.write_judge.specs.Verdict.{Fine, Fault}
use Rattle.control_points.specs.ControlPoints.{stand_at, moved_of, later_points, control_points, valid_double_delta, valid_point_pos, same_point, coincide_from, adjacent_coincide}
use Rattle.control_points.specs.Asked.{passes}
use Rattle.control_points.specs.Refusals.{Inside}
use Rattle.control_points.specs.declared.Pair.{Pair}
use Rattle.control_points.specs.declared.Stand.{Stand}
use Rattle.control_points.proofs.Coincide.{same_point_lem}
use Rattle.control_points.proofs.Ranges.{point_decides}
use Rattle.control_points.proofs.Starts.{start_valid}
use Rattle.control_points.proofs.Walks.{traced_walk, points_length}
use Rattle.polyline.specs.Gone as gone
use Rattle.polyline.specs.declared.Spot.{Spot}
use Rattle.polyline.specs.Tracked.{Empty, At}
use Rattle.polyline.specs.Form.{PointsForm}
use Rattle.polyline.specs.Stages.{text_of}
use Rattle.polyline.specs.Spots.{spots_of}
use Rattle.polyline.specs.Read.{minus_of, double_delta, step_deltas, track_to, deltas_from, later_of, track_from, track_verdict, and_then, pairs_verdict, points_verdict, PointsOutcome, leaves, outcome, read_points_of}
use Rattle.polyline.proofs.Tracks.{deltas_length}
use Rattle.polyline.specs.Write.{pair_text, points_text, gone_by, gone_from, gone_of}
use Rattle.polyline_laws.specs.Says.{Says}
use Rattle.polyline_laws.specs.Refusals.{Passes, Before, Legal, PointsAccepted}
use Rattle.polyline_laws.proofs.Places.{form_judged}
use Rattle.polyline_laws.proofs.Says.{form_says, spots_by, spots_said, spots_length}
use Rattle.polyline_laws.proofs.Legal.{moved_double, double_moved, delta_moved, double_small, gone_legal}
use Rattle.polyline_laws.proofs.ReadWhen.{AllPass, passes_valid, walk_says, walk_fine, Says-so, lacks_decides, verdict_said}
use Rattle.writer.specs.WriteAnswer.{Done}

-- ---- pairs that pass, and their double deltas

-- the double deltas of ps behind a place
abbrev deltas_by : ℕ → Stand → Pair → List Pair → List ℤ
deltas_by at p start ps = deltas_from (At p start) (spots_by at ps)

record Leads (at : ℕ) (p : Stand) (start : Pair) (ps : List Pair) : Type 0 where
  end : Stand
  goes : gone_from p false (deltas_by at p start ps) ≡ gone.On end false
  points : later_points p (deltas_by at p start ps) ≡ ps

module _ (p : Stand) (q : Pair) (ps : List Pair) (d : valid_point_pos p.delta ≡ true) (v : valid_point_pos p.point ≡ true) (h : Passes (p.point ∷ q ∷ ps) 1) where
  delta_valid : valid_point_pos (minus_of q p.point) ≡ true
  delta_valid = (point_decides (minus_of q p.point)).passes h.placed.0

  apart : same_point p.point q ≡ false
  apart = go (same_point p.point q) refl
    where
      go : (t : Bool) → same_point p.point q ≡ t → t ≡ false
      go false e = refl
      go true e = absurd (h.apart ((same_point_lem p.point q v (passes_valid p.point q ps h)).0 e))

  small : valid_double_delta (double_delta p q) ≡ true
  unfolding double_delta
  small = double_small (minus_of q p.point) p.delta delta_valid d

  gone_double : gone_by p false (double_delta p q) ≡ gone.On (record { delta = minus_of q p.point; point = q }) false
  unfolding gone_by
  gone_double = rw (small, moved_double p q, delta_valid, passes_valid p.point q ps h, apart)

leads : (ps : List Pair) (at : ℕ) (p : Stand) (start : Pair) → valid_point_pos p.delta ≡ true → valid_point_pos p.point ≡ true → AllPass p.point ps → Leads at p start ps
unfolding deltas_from step_deltas track_to gone_from later_points
leads [] at p start d v h = record { end = p; goes = refl; points = refl }
leads (q ∷ ps) at p start d v h =
    let f = h.each 0 (omega arith) in
    let n : Stand = record { delta = minus_of q p.point; point = q } in
    let l = leads ps (suc (at + length (pair_text q))) n start ((point_decides (minus_of q p.point)).passes f.placed.0) (passes_valid p.point q ps f)
    (record { each = λ i m. let e = h.each (suc i) (omega arith) in record { placed = e.placed; apart = e.apart } }) in
    record {
      end = l.end;
      goes = rw (gone_double p q ps d v f) l.goes;
      points = rw (moved_double p q) (ap (λ (k : List Pair). q ∷ k) l.points);
    }

-- the double deltas of a whole text of points
abbrev deltas_in : List Pair → List ℤ
deltas_in ps = deltas_from Empty (spots_by 0 ps)

record Found (first : Pair) (ps : List Pair) : Type 0 where
  legal : Legal first (deltas_in (first ∷ ps))
  points : control_points first (deltas_in (first ∷ ps)) ≡ first ∷ ps

found : (first : Pair) (ps : List Pair) → Before (first ∷ ps) (suc (length ps)) → Found first ps
unfolding deltas_from step_deltas track_to control_points gone_of stand_at valid_point_pos
found first ps b =
    let v = (point_decides first).passes (b 0 (omega arith)).placed in
    let l = leads ps (suc (0 + length (pair_text first))) (stand_at first) first refl v (record { each = λ i m. b (suc i) (omega arith) }) in
    record { legal = gone_legal first (deltas_in (first ∷ ps)) l.end v l.goes; points = ap (λ (k : List Pair). first ∷ k) l.points }

-- ---- and back: the pairs of legal points pass, and their double deltas are those

module _ (p : Stand) (dd : Pair) (ps : List Pair) (v : valid_point_pos p.point ≡ true) (d : valid_point_pos (moved_of p dd).delta ≡ true) (q : valid_point_pos (moved_of p dd).point ≡ true)
    (a : same_point p.point (moved_of p dd).point ≡ false) where
  moved_passes : Passes (p.point ∷ (moved_of p dd).point ∷ ps) 1
  moved_passes = record {
    placed = (rw (delta_moved p dd) ((point_decides (moved_of p dd).delta).passed d), (point_decides (moved_of p dd).point).passed q);
    apart = λ e. let w : ◌≡◌ {A = Bool} false true = sym a ∙ (same_point_lem p.point (moved_of p dd).point v q).1 e in let k : ◌≡◌ {A = ℕ} 0 1 = cc in omega arith;
  }

record Comes (at : ℕ) (p : Stand) (start : Pair) (ds : List ℤ) : Type 0 where
  pass : AllPass p.point (later_points p ds)
  back : deltas_by at p start (later_points p ds) ≡ ds

neither : (a b : Bool) → cond a true b ≡ false → (a ≡ false) × (b ≡ false)
neither false b e = (refl, e)
neither true b e = let k : ◌≡◌ {A = ℕ} 0 1 = cc in absurd (omega arith)

comes : (ds : List ℤ) (n at : ℕ) (p : Stand) (start : Pair) → length ds ≡ 2 * n → valid_point_pos p.point ≡ true → passes p ds ≡ true → coincide_from p.point (later_points p ds) ≡ false → Comes at p start ds
unfolding passes later_points coincide_from deltas_from step_deltas track_to
comes [] n at p start l v h c = record { pass = record { each = λ i m. absurd (omega arith) }; back = refl }
comes (a ∷ []) n at p start l v h c = absurd (omega arith)
comes (a ∷ b ∷ ds) n at p start l v h c =
    let dd : Pair = record { x = a; y = b } in
    let q = moved_of p dd in
    let d = both (valid_double_delta dd) _ h in
    let e = both (valid_point_pos q.delta) _ d.1 in
    let g = both (valid_point_pos q.point) _ e.1 in
    let m = neither (same_point p.point q.point) _ c in
    let r = comes ds (n - 1) (suc (at + length (pair_text q.point))) q start (omega arith) g.0 g.1 m.1 in
    record {
      pass = record { each = each (moved_of p dd).point (later_points q ds) (moved_passes p dd (later_points q ds) v e.0 g.0 m.0) r.pass };
      back = rw (double_moved p dd, delta_moved p dd) (ap (λ (k : List ℤ). a ∷ b ∷ k) r.back);
    }
  where
    each : (q : Pair) (ps : List Pair) → Passes (p.point ∷ q ∷ ps) 1 → AllPass q ps → (i : ℕ) → i < suc (length ps) → Passes (p.point ∷ q ∷ ps) (suc i)
    each q ps h r zero m = h
    each q ps h r (suc i) m = let w = r.each i (omega arith) in record { placed = w.placed; apart = w.apart }

record Legally (first : Pair) (ds : List ℤ) : Type 0 where
  all : Before (control_points first ds) (length (control_points first ds))
  back : deltas_in (control_points first ds) ≡ ds

legally : (first : Pair) (ds : List ℤ) (n : ℕ) → length ds ≡ 2 * n → Legal first ds → Legally first ds
unfolding control_points adjacent_coincide stand_at deltas_from step_deltas track_to
legally first ds n l g =
    let v = start_valid (f32_of first.x) (f32_of first.y) first g.begins in
    let w = traced_walk g.limit first ds g.run v g.traced in
    let c = comes ds n (suc (0 + length (pair_text first))) (stand_at first) first l v w.rest g.apart in
    record { all = all ((point_decides first).passed v) c.pass; back = c.back }
  where
    all : Inside first → AllPass first (later_points (stand_at first) ds) → Before (first ∷ later_points (stand_at first) ds) (suc (length (later_points (stand_at first) ds)))
    all h r zero m = record { placed = h; apart = λ e. e }
    all h r (suc i) m = r.each i (omega arith)

-- ---- what is left

-- the start and double deltas, with zeros behind
abbrev pub start_left : ℕ → Pair → List Float
start_left start p = (f32_of p.x ∷ f32_of p.y ∷ []) ++ replicate (start - 2) zero_f32

abbrev pub deltas_left : ℕ → ℕ → List ℤ → List ℤ
deltas_left deltas n ds = ds ++ replicate (deltas - 2 * n) (pos 0)

pub read_says : (text : List ℕ) (start deltas n : ℕ) (first : Pair) (ds : List ℤ) → text ≡ points_text (control_points first ds) → length ds ≡ 2 * n → Legal first ds → 2 ≤ start → 2 * n ≤ deltas
    → read_points_of start deltas text ≡ leaves (Done n) (start_left start first) (deltas_left deltas n ds)
unfolding read_points_of control_points
read_says text start deltas n first ds is l g r t =
    let ps = later_points (stand_at first) ds in
    let s : Says text (first ∷ ps) = record { some = omega arith; is = is } in
    let k = legally first ds n l g in
    let m : length ps ≡ n = omega (arith, points_length (stand_at first) ds) in
    let z : suc (length ps) - 1 ≡ n = omega arith in
    let w : (ltb start 2 || ltb deltas (2 * (suc (length ps) - 1))) ≡ false = (lacks_decides start deltas (first ∷ ps)).fails (r, rw z t) in
    let f : points_verdict start deltas text ≡ Fine = verdict_said text start deltas (first ∷ ps) s ∙ rw (walk_fine first ps k.all, w) in
    let i : suc (length (spots_by (suc (0 + length (pair_text first))) ps)) - 1 ≡ n = rw (spots_length ps (suc (0 + length (pair_text first)))) z in
    rw (f, spots_said text (first ∷ ps) s, i, k.back)

-- ---- read exactly so

fine_done : (start deltas : ℕ) (ss : List Spot) (v : Verdict) (n : ℕ) → (outcome start deltas ss v).answer ≡ Done n → (v ≡ Fine) × (later_of ss ≡ n)
fine_done start deltas ss Fine n e = (refl, cc)
fine_done start deltas ss (Fault c p) n e = cc

first_fine : (v w : Verdict) → and_then v w ≡ Fine → (v ≡ Fine) × (w ≡ Fine)
first_fine Fine w e = (refl, e)
first_fine (Fault c p) w e = cc

module _ (text : List ℕ) (start deltas : ℕ) where
  roomy : (short : Bool) → cond short (Fault Room 0) Fine ≡ Fine → short ≡ false
  roomy false e = refl
  roomy true e = cc

  -- the points of a text that is read
  by_points : (n : ℕ) → PointsForm text → (ps : List Pair) → Says text ps → points_verdict start deltas text ≡ Fine → later_of (spots_of text) ≡ n → PointsAccepted text start deltas n
  by_points n form [] s e l = absurd (omega (arith, s.some))
  by_points n form (p ∷ ps) s e l =
      let w = first_fine (track_verdict (track_from Empty (spots_by 0 (p ∷ ps)))) _ (sym (verdict_said text start deltas (p ∷ ps) s) ∙ e) in
      let f = found p ps (subst (Says-so (p ∷ ps)) w.0 (walk_says p ps)) in
      let r = (lacks_decides start deltas (p ∷ ps)).failed (roomy _ w.1) in
      let k : later_of (spots_by 0 (p ∷ ps)) ≡ n = subst (λ (ss : List Spot). later_of ss ≡ n) (spots_said text (p ∷ ps) s) l in
      let m : length (spots_by 0 (p ∷ ps)) ≡ length (p ∷ ps) = spots_length (p ∷ ps) 0 in
      record {
        form = form;
        first = p;
        ds = deltas_in (p ∷ ps);
        says = s.is ∙ ap points_text (sym f.points);
        pairs = deltas_length (spots_by 0 (p ∷ ps)) ∙ ap (λ (j : ℕ). 2 * j) k;
        legal = f.legal;
        start_room = r.0;
        deltas_room = omega (arith, r.1);
      }

  done_accepted : (n : ℕ) → (read_points_of start deltas text).answer ≡ Done n → PointsAccepted text start deltas n
  unfolding read_points_of points_verdict
  done_accepted n e =
      let d = fine_done start deltas (spots_of text) (points_verdict start deltas text) n e in
      let form = (form_judged text).1 (first_fine (text_of text) (pairs_verdict start deltas (spots_of text)) d.0).0 in
      let s = (form_says text).0 form in
      by_points n form s.points s.says d.0 d.1

  -- what an accepted text leaves
  pub accepted_leaves : (n : ℕ) (a : PointsAccepted text start deltas n) → read_points_of start deltas text ≡ leaves (Done n) (start_left start a.first) (deltas_left deltas n a.ds)
  accepted_leaves n a = read_says text start deltas n a.first a.ds a.says a.pairs a.legal a.start_room a.deltas_room

  pub accepted_exactly : (n : ℕ) → ((read_points_of start deltas text).answer ≡ Done n) ↔ PointsAccepted text start deltas n
  accepted_exactly n = (done_accepted n, λ a. ap (λ (o : PointsOutcome). o.answer) (accepted_leaves n a))

-- Assumes nothing.
