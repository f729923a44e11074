-- Each code of reading a text of points is given exactly when the table gives it: the first pair that does not pass stops, at its first byte.
use mathlib.Core.Path.{◌≡◌, refl, sym, ap, subst, ◌∙◌}
use mathlib.Core.Bool.{Bool, true, false, cond, ◌||◌}
use mathlib.Core.List.{List, [], ◌∷◌}
use mathlib.Core.Logic.{◌↔◌, inl, inr}
use Prim.Native.Nat.{ℕ, zero, suc, ◌+◌, ◌-◌, ◌*◌, ◌≤◌, ◌<◌}
use native.Mathlib.Omega.{arith}
use lib.Dec.{ltb}
use lib.ListN.{length}
use Rattle.codes.proofs.Refusals.{same_refusal}
use Rattle.codes.specs.declared.Code.{Code}
use Rattle.codes.specs.declared.Code.TheVariants.{Text, Position, Coincide, Room}
use Rattle.codes.proofs.Decides.{Decides, less_than, either_decides}
use Rattle.write_judge.specs.Verdict.{Verdict}
use Rattle.write_judge.specs.Verdict.{Fine, Fault}
use Rattle.control_points.specs.ControlPoints.{valid_point_pos, same_point, stand_at}
use Rattle.control_points.specs.Refusals.{Inside}
use Rattle.control_points.specs.declared.Pair.{Pair}
use Rattle.control_points.specs.declared.Stand.{Stand}
use Rattle.control_points.proofs.Ranges.{point_decides}
use Rattle.control_points.proofs.Coincide.{same_point_lem}
use Rattle.std.specs.Prelude.{Some}
use Rattle.polyline.specs.Tracked.{Empty, At}
use Rattle.polyline.specs.Judged.{Judged, On, Stop}
use Rattle.polyline.specs.Tracked.{Tracked, Came, Halt}
use Rattle.polyline.specs.Stages.{text_of}
use Rattle.polyline.specs.Spots.{spots_of}
use Rattle.polyline.specs.Read.{minus_of, placeable, meets, track_to, judged_of, after_pair, track_from, track_verdict, and_then, pairs_verdict, points_verdict, read_points_of}
use Rattle.polyline.specs.Write.{pair_text}
use Rattle.polyline.proofs.Tracks.{judged_passes, unplaceable}
use Rattle.polyline_laws.specs.Begins.{FirstBad}
use Rattle.polyline_laws.specs.Says.{Says, first_byte}
use Rattle.polyline_laws.specs.Refusals.{Placed, Misplaced, Again, Passes, Before, PointsLack, PointsReadRefusal, bad, position, coincide, room}
use Rattle.polyline_laws.proofs.Places.{form_judged}
use Rattle.polyline_laws.proofs.Answers.{said, bad-said, bad-there, text-exactly}
use Rattle.polyline_laws.proofs.Says.{form_says, spots_by, spots_said, spots_length}
use Rattle.writer.specs.WriteAnswer.{Refused}

-- why pair j does not pass
pub data Why (ps : List Pair) (j : ℕ) : Code → Type 0 where
  misplaced : Misplaced ps j → Why ps j Position
  again : Placed ps j → Again ps j → Why ps j Coincide

-- ---- a pair behind a place

module _ (p : Stand) (start q : Pair) (ps : List Pair) (v : valid_point_pos p.point ≡ true) where
  -- the place's point, the pair, and those behind it
  abbrev Points : List Pair
  Points = p.point ∷ q ∷ ps

  pub later_passes : Passes Points 1 → judged_of (At p start) q ≡ On (track_to (At p start) q)
  unfolding placeable meets
  later_passes h = judged_passes (At p start) q placed apart
    where
      delta : valid_point_pos (minus_of q p.point) ≡ true
      delta = (point_decides (minus_of q p.point)).passes h.placed.0

      point : valid_point_pos q ≡ true
      point = (point_decides q).passes h.placed.1

      placed : cond (valid_point_pos (minus_of q p.point)) (valid_point_pos q) false ≡ true
      placed = rw (delta, point)

      apart : same_point p.point q ≡ false
      apart = go (same_point p.point q) refl
        where
          go : (t : Bool) → same_point p.point q ≡ t → t ≡ false
          go false e = refl
          go true e = absurd (h.apart ((same_point_lem p.point q v point).0 e))

  pub later_stops : (c : Code) → Why Points 1 c → judged_of (At p start) q ≡ Stop c
  unfolding judged_of placeable meets
  later_stops c (misplaced (inl o)) = rw ((point_decides (minus_of q p.point)).fails o)
  later_stops c (misplaced (inr o)) = unplaceable (At p start) q ((point_decides q).fails o)
  later_stops c (again h e) =
      let point = (point_decides q).passes h.1 in
      rw ((point_decides (minus_of q p.point)).passes h.0, point, (same_point_lem p.point q v point).1 e)

  -- what judging it comes to
  pub data Verdicted : Judged → Type 0 where
    passed : Passes Points 1 → Verdicted (On (track_to (At p start) q))
    stopped : {c : Code} → Why Points 1 c → Verdicted (Stop c)

  pub later_verdict : Verdicted (judged_of (At p start) q)
  unfolding judged_of placeable meets
  later_verdict = go (valid_point_pos (minus_of q p.point)) (valid_point_pos q) (same_point p.point q) refl refl refl
    where
      go : (a b m : Bool) → valid_point_pos (minus_of q p.point) ≡ a → valid_point_pos q ≡ b → same_point p.point q ≡ m
          → Verdicted (cond (cond a b false) (cond m (Stop Coincide) (On (track_to (At p start) q))) (Stop Position))
      go false b m x y z = stopped (misplaced (inl ((point_decides (minus_of q p.point)).failed x)))
      go true false m x y z = stopped (misplaced (inr ((point_decides q).failed y)))
      go true true true x y z =
          stopped (again ((point_decides (minus_of q p.point)).passed x, (point_decides q).passed y) ((same_point_lem p.point q v y).0 z))
      go true true false x y z =
          passed (record { placed = ((point_decides (minus_of q p.point)).passed x, (point_decides q).passed y); apart = λ e. let w : ◌≡◌ {A = Bool} false true = sym z ∙ (same_point_lem p.point q v y).1 e in let k : ◌≡◌ {A = ℕ} 0 1 = cc in omega arith })

-- ---- pairs behind a place, and one more before them

module _ (x : Pair) (qs : List Pair) (j : ℕ) where
  one_on : Passes qs (suc j) → Passes (x ∷ qs) (suc (suc j))
  one_on h = record { placed = h.placed; apart = h.apart }

  one_off : Passes (x ∷ qs) (suc (suc j)) → Passes qs (suc j)
  one_off h = record { placed = h.placed; apart = h.apart }

  why_on : {c : Code} → Why qs (suc j) c → Why (x ∷ qs) (suc (suc j)) c
  why_on (misplaced h) = misplaced h
  why_on (again h e) = again h e

  why_off : {c : Code} → Why (x ∷ qs) (suc (suc j)) c → Why qs (suc j) c
  why_off (misplaced h) = misplaced h
  why_off (again h e) = again h e

-- all of ps pass behind x, or a first one does not, whose first byte is b where ps begin at a byte
pub record AllPass (x : Pair) (ps : List Pair) : Type 0 where
  pub each : (i : ℕ) → i < length ps → Passes (x ∷ ps) (suc i)

record FirstStop (at : ℕ) (x : Pair) (ps : List Pair) (c : Code) (b : ℕ) : Type 0 where
  j : ℕ
  inside : j < length ps
  before : (i : ℕ) → i < j → Passes (x ∷ ps) (suc i)
  why : Why (x ∷ ps) (suc j) c
  place : b ≡ at + first_byte ps j

abbrev Ends : ℕ → Pair → List Pair → Tracked → Type 0
Ends at x ps (Came t) = AllPass x ps
Ends at x ps (Halt c b) = FirstStop at x ps c b

module _ (at : ℕ) (x q : Pair) (ps : List Pair) where
  abbrev next : ℕ
  next = suc (at + length (pair_text q))

  first_passes : (n : ℕ) → Passes (x ∷ q ∷ ps) 1 → ((i : ℕ) → i < n → Passes (q ∷ ps) (suc i)) → (i : ℕ) → i < suc n → Passes (x ∷ q ∷ ps) (suc i)
  first_passes n h rest zero l = h
  first_passes n h rest (suc i) l = one_on x (q ∷ ps) i (rest i (omega arith))

  ends_on : Passes (x ∷ q ∷ ps) 1 → (w : Tracked) → Ends next q ps w → Ends at x (q ∷ ps) w
  ends_on h (Came t) e = record { each = first_passes (length ps) h e.each }
  ends_on h (Halt c b) e = record {
    j = suc e.j;
    inside = omega (arith, e.inside);
    before = first_passes e.j h e.before;
    why = why_on x (q ∷ ps) e.j e.why;
    place = omega (arith, e.place);
  }

pub passes_valid : (p q : Pair) (ps : List Pair) → Passes (p ∷ q ∷ ps) 1 → valid_point_pos q ≡ true
passes_valid p q ps h = (point_decides q).passes h.placed.1

ends : (ps : List Pair) (at : ℕ) (p : Stand) (start : Pair) → valid_point_pos p.point ≡ true → Ends at p.point ps (track_from (At p start) (spots_by at ps))
unfolding track_from track_to
ends [] at p start v = record { each = λ i l. absurd (omega arith) }
ends (q ∷ ps) at p start v = go (judged_of (At p start) q) (later_verdict p start q ps v) (λ r. ends ps (suc (at + length (pair_text q))) r start)
  where
    go : (w : Judged) → Verdicted p start q ps v w
        → ((r : Stand) → valid_point_pos r.point ≡ true → Ends (suc (at + length (pair_text q))) r.point ps (track_from (At r start) (spots_by (suc (at + length (pair_text q))) ps)))
        → Ends at p.point (q ∷ ps) (after_pair w at (λ u. track_from u (spots_by (suc (at + length (pair_text q))) ps)))
    go w (passed h) ih =
        ends_on at p.point q ps h (track_from (Some (track_to (At p start) q)) (spots_by (suc (at + length (pair_text q))) ps))
        (ih (record { delta = minus_of q p.point; point = q }) (passes_valid p.point q ps h))
    go w (stopped y) ih = record { j = 0; inside = omega arith; before = λ i l. absurd (omega arith); why = y; place = omega arith }

-- and back
walks_on : (ps : List Pair) (at : ℕ) (p : Stand) (start : Pair) → valid_point_pos p.point ≡ true → AllPass p.point ps → track_verdict (track_from (At p start) (spots_by at ps)) ≡ Fine
unfolding track_from track_to
walks_on [] at p start v h = refl
walks_on (q ∷ ps) at p start v h =
    rw (later_passes p start q ps v (h.each 0 (omega arith)))
    (walks_on ps (suc (at + length (pair_text q))) (record { delta = minus_of q p.point; point = q }) start (passes_valid p.point q ps (h.each 0 (omega arith)))
    (record { each = λ i l. one_off p.point (q ∷ ps) i (h.each (suc i) (omega arith)) }))

walks_to : (ps : List Pair) (at : ℕ) (p : Stand) (start : Pair) → valid_point_pos p.point ≡ true → (c : Code) (j : ℕ) → j < length ps
    → ((i : ℕ) → i < j → Passes (p.point ∷ ps) (suc i)) → Why (p.point ∷ ps) (suc j) c → track_verdict (track_from (At p start) (spots_by at ps)) ≡ Fault c (at + first_byte ps j)
unfolding track_from track_to
walks_to [] at p start v c j l b y = absurd (omega arith)
walks_to (q ∷ ps) at p start v c zero l b y =
    let e : at ≡ at + 0 = omega arith in
    rw (later_stops p start q ps v c y) (ap (λ (k : ℕ). Fault c k) e)
walks_to (q ∷ ps) at p start v c (suc j) l b y =
    let e : suc (at + length (pair_text q)) + first_byte ps j ≡ at + suc (length (pair_text q) + first_byte ps j) = omega arith in
    rw (later_passes p start q ps v (b 0 (omega arith)))
    (walks_to ps (suc (at + length (pair_text q))) (record { delta = minus_of q p.point; point = q }) start (passes_valid p.point q ps (b 0 (omega arith))) c j (omega arith)
    (λ i m. one_off p.point (q ∷ ps) i (b (suc i) (omega arith))) (why_off p.point (q ∷ ps) j y) ∙ ap (λ (k : ℕ). Fault c k) e)

-- ---- all pairs

pub record Stopped (ps : List Pair) (c : Code) (b : ℕ) : Type 0 where
  pub j : ℕ
  pub inside : j < length ps
  pub before : Before ps j
  pub why : Why ps j c
  pub place : b ≡ first_byte ps j

-- what the verdict on all pairs says
abbrev pub Says-so : List Pair → Verdict → Type 0
Says-so ps Fine = Before ps (length ps)
Says-so ps (Fault c b) = Stopped ps c b

module _ (p : Pair) (ps : List Pair) where
  abbrev behind : ℕ
  behind = suc (0 + length (pair_text p))

  -- the first pair and the others
  all_before : (n : ℕ) → Inside p → ((i : ℕ) → i < n → Passes (p ∷ ps) (suc i)) → Before (p ∷ ps) (suc n)
  all_before n h rest zero l = record { placed = h; apart = λ e. e }
  all_before n h rest (suc i) l = rest i (omega arith)

  first_says : (w : Tracked) → Inside p → Ends behind p ps w → Says-so (p ∷ ps) (track_verdict w)
  first_says (Came t) h e = all_before (length ps) h e.each
  first_says (Halt c b) h e = record { j = suc e.j; inside = omega (arith, e.inside); before = all_before e.j h e.before; why = e.why; place = omega (arith, e.place) }

  pub walk_says : Says-so (p ∷ ps) (track_verdict (track_from Empty (spots_by 0 (p ∷ ps))))
  unfolding track_from judged_of placeable meets track_to stand_at
  walk_says = go (valid_point_pos p) refl
    where
      go : (t : Bool) → valid_point_pos p ≡ t
          → Says-so (p ∷ ps) (track_verdict (after_pair (cond t (On (record { place = stand_at p; start = p })) (Stop Position)) 0 (λ u. track_from u (spots_by behind ps))))
      go true e = first_says (track_from (At (stand_at p) p) (spots_by behind ps)) ((point_decides p).passed e) (ends ps behind (stand_at p) p e)
      go false e = record { j = 0; inside = omega arith; before = λ i l. absurd (omega arith); why = misplaced ((point_decides p).failed e); place = refl }

  pub walk_fine : Before (p ∷ ps) (suc (length ps)) → track_verdict (track_from Empty (spots_by 0 (p ∷ ps))) ≡ Fine
  unfolding track_from judged_of placeable meets track_to stand_at
  walk_fine b =
      let v = (point_decides p).passes (b 0 (omega arith)).placed in
      rw v (walks_on ps behind (stand_at p) p v (record { each = λ i l. b (suc i) (omega arith) }))

  pub walk_stops : (c : Code) (j : ℕ) → j < suc (length ps) → Before (p ∷ ps) j → Why (p ∷ ps) j c → track_verdict (track_from Empty (spots_by 0 (p ∷ ps))) ≡ Fault c (first_byte (p ∷ ps) j)
  unfolding track_from judged_of placeable meets track_to stand_at
  walk_stops c zero l b (misplaced o) = rw ((point_decides p).fails o)
  walk_stops c zero l b (again h e) = absurd e
  walk_stops c (suc j) l b y =
      let v = (point_decides p).passes (b 0 (omega arith)).placed in
      let e : behind + first_byte ps j ≡ suc (length (pair_text p) + first_byte ps j) = omega arith in
      rw v (walks_to ps behind (stand_at p) p v c j (omega arith) (λ i m. b (suc i) (omega arith)) y ∙ ap (λ (k : ℕ). Fault c k) e)

-- ---- the room

pub lacks_decides : (start deltas : ℕ) (ps : List Pair) → Decides (ltb start 2 || ltb deltas (2 * (length ps - 1))) (PointsLack start deltas ps) ((2 ≤ start) × (2 * (length ps - 1) ≤ deltas))
lacks_decides start deltas ps = either_decides (less_than start 2) (less_than deltas (2 * (length ps - 1)))

-- ---- the answer

module _ (text : List ℕ) (start deltas : ℕ) where
  -- a text that says points is judged by them
  pub verdict_said : (ps : List Pair) → Says text ps
      → points_verdict start deltas text ≡ and_then (track_verdict (track_from Empty (spots_by 0 ps))) (cond (ltb start 2 || ltb deltas (2 * (length ps - 1))) (Fault Room 0) Fine)
  unfolding points_verdict pairs_verdict
  verdict_said ps s = rw ((form_judged text).0 ((form_says text).1 (record { points = ps; says = s })), spots_said text ps s, spots_length ps 0)

  refused_said : (ps : List Pair) → Says text ps → (c : Code) (p : ℕ) → points_verdict start deltas text ≡ Fault c p → PointsReadRefusal text start deltas c p
  refused_said [] s c p e = absurd (omega (arith, s.some))
  refused_said (q ∷ ps) s c p e = go (track_verdict (track_from Empty (spots_by 0 (q ∷ ps)))) (walk_says q ps) (sym (verdict_said (q ∷ ps) s) ∙ e)
    where
      by : (c : Code) (j : ℕ) → j < length (q ∷ ps) → Before (q ∷ ps) j → Why (q ∷ ps) j c → PointsReadRefusal text start deltas c (first_byte (q ∷ ps) j)
      by c j l b (misplaced o) = position (q ∷ ps) s j l b o
      by c j l b (again h a) = coincide (q ∷ ps) s j l b h a

      lacks : Before (q ∷ ps) (length (q ∷ ps)) → (t : Bool) → Decides t (PointsLack start deltas (q ∷ ps)) ((2 ≤ start) × (2 * (length (q ∷ ps) - 1) ≤ deltas)) → cond t (Fault Room 0) Fine ≡ Fault c p
          → PointsReadRefusal text start deltas c p
      lacks b true d e =
          let x : Room ≡ c = (same_refusal e).0 in
          let y : 0 ≡ p = (same_refusal e).1 in
          subst (λ (k : ℕ). PointsReadRefusal text start deltas c k) y (subst (λ (k : Code). PointsReadRefusal text start deltas k 0) x (room (q ∷ ps) s b (d.passed refl)))
      lacks b false d e = cc

      go : (v : Verdict) → Says-so (q ∷ ps) v → and_then v (cond (ltb start 2 || ltb deltas (2 * (length (q ∷ ps) - 1))) (Fault Room 0) Fine) ≡ Fault c p → PointsReadRefusal text start deltas c p
      go Fine b e = lacks b (ltb start 2 || ltb deltas (2 * (length (q ∷ ps) - 1))) (lacks_decides start deltas (q ∷ ps)) e
      go (Fault d b) w e =
          let x : d ≡ c = (same_refusal e).0 in
          let y : b ≡ p = (same_refusal e).1 in
          subst (λ (k : ℕ). PointsReadRefusal text start deltas c k) (sym w.place ∙ y)
          (subst (λ (k : Code). PointsReadRefusal text start deltas k (first_byte (q ∷ ps) w.j)) x (by d w.j w.inside w.before w.why))

  refused_so : (c : Code) (p : ℕ) → points_verdict start deltas text ≡ Fault c p → PointsReadRefusal text start deltas c p
  unfolding points_verdict
  refused_so c p e = go (text_of text) refl e
    where
      go : (v : Verdict) → text_of text ≡ v → and_then v (pairs_verdict start deltas (spots_of text)) ≡ Fault c p → PointsReadRefusal text start deltas c p
      go Fine x e = let s = (form_says text).0 ((form_judged text).1 x) in refused_said s.points s.says c p (rw x e)
      go (Fault d q) x e =
          let f : FirstBad text q = bad-there text d q x in
          let i : Fault Text q ≡ Fault c p = sym (bad-said text q f) ∙ x ∙ e in
          let k : Text ≡ c = (same_refusal i).0 in
          let l : q ≡ p = (same_refusal i).1 in
          subst (λ (m : ℕ). PointsReadRefusal text start deltas c m) l (subst (λ (m : Code). PointsReadRefusal text start deltas m q) k (bad q f))

  -- the table gives the verdict
  refusal_given : (c : Code) (p : ℕ) → PointsReadRefusal text start deltas c p → points_verdict start deltas text ≡ Fault c p
  unfolding read_points_of
  refusal_given c p (bad q f) = said start deltas (spots_of text) (points_verdict start deltas text) Text q ((text-exactly start deltas text q).1 f)
  refusal_given c p (position [] s j l b o) = absurd (omega arith)
  refusal_given c p (position (q ∷ ps) s j l b o) = verdict_said (q ∷ ps) s ∙ rw (walk_stops q ps Position j l b (misplaced o))
  refusal_given c p (coincide [] s j l b h a) = absurd (omega arith)
  refusal_given c p (coincide (q ∷ ps) s j l b h a) = verdict_said (q ∷ ps) s ∙ rw (walk_stops q ps Coincide j l b (again h a))
  refusal_given c p (room [] s b k) = absurd (omega (arith, s.some))
  refusal_given c p (room (q ∷ ps) s b k) = verdict_said (q ∷ ps) s ∙ rw (walk_fine q ps b, (lacks_decides start deltas (q ∷ ps)).passes k)

  pub read_exactly : (c : Code) (p : ℕ) → ((read_points_of start deltas text).answer ≡ Refused c p) ↔ PointsReadRefusal text start deltas c p
  unfolding read_points_of
  read_exactly c p = (
    λ e. refused_so c p (said start deltas (spots_of text) (points_verdict start deltas text) c p e),
    λ r. rw (refusal_given c p r),
  )

-- Assumes nothing.
