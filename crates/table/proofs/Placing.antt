-- From the drawn segments to the table: the segments stand on the front of their buffer, and what stands behind them does not matter.
use mathlib.Core.Path.{◌≡◌, ap, ◌∙◌}
use mathlib.Core.List.{List, ◌++◌}
use Prim.Native.Nat.{ℕ, ◌*◌, ◌≤◌, ◌^◌}
use native.Mathlib.Omega.{arith}
use lib.ListN.{length, take, drop}
use lib.Seq.{sets, take_at}
use lib.Ieee.{Float}
use Rattle.codes.specs.declared.Code.{Code}
use Rattle.buffers.specs.Onto.{onto}
use Rattle.buffers.proofs.Fronts.{sets_front}
use Rattle.dequantize.specs.declared.Given.{Given}
use Rattle.dequantize.specs.Answers.{Judged}
use Rattle.dequantize.specs.Answers as Judged
use Rattle.dequantize.specs.Judge.{Description}
use Rattle.curve.specs.Curve.{path_room}
use Rattle.walk.specs.Walk.{walk_room}
use Rattle.points.specs.Points.{eights}
use Rattle.points.proofs.Adding.{length_eights}
use Rattle.owners.specs.Owners.{owned_room}
use Rattle.painting.specs.Painting.{Painted, All, NoRoomAt, drawn_of, DrawnOn, paint_of}
use Rattle.painting.specs.Segmented as Segmented
use Rattle.rows.specs.Rows.{in_row, listed_rows}
use Rattle.rows.proofs.Table.{rest_same}
use Rattle.table.specs.Table.{BuildRooms, BuildOutcome, Setting, rooms_of, given_of, refused_with, after_rows, after_paint, build_of}
use Rattle.verdict.specs.Verdict.{verdict_of}

-- ---- the drawn segments

-- on the fronts of the buffers
front : {A : Type 0} (xs o e : List A) → e ≡ sets o 0 xs → length xs ≤ length o → e ≡ xs ++ drop (length xs) o
unfolding onto
front xs o e h l = h ∙ sets_front xs o l

abbrev On : Painted → List Float → List Float → List ℕ → List ℕ → Type 0
On p o e u v = DrawnOn p (owned_room (length o) (length u)) o e u v

pub painted_fits : (o e : List Float) (u v : List ℕ) (p : Painted) → On p o e u v → (n : ℕ) → drawn_of p ≡ Segmented.Count n → (8 * n ≤ length o) × (n ≤ length u) × (n ≤ 2 ^ 24)
painted_fits o e u v (NoRoomAt k) h n q = absurd (let z : ◌≡◌ {A = ℕ} 0 1 = cc in omega arith)
painted_fits o e u v (All segs owners) h n q = let m : length segs ≡ n = cc in omega (arith, h.2)

module _ (r : BuildRooms) (height estimate : ℕ) where
  pub painted_none : (p : Painted) (k : ℕ) → drawn_of p ≡ Segmented.Room k → refused_with r Code.Room k ≡ after_paint r height estimate p
  painted_none (NoRoomAt j) k q = let m : k ≡ j = cc in ap (refused_with r Code.Room) m
  painted_none (All segs owners) k q = absurd (let z : ◌≡◌ {A = ℕ} 0 1 = cc in omega arith)

  pub painted_all : (o e : List Float) (u v : List ℕ) (p : Painted) → On p o e u v → (n : ℕ) → drawn_of p ≡ Segmented.Count n
      → after_rows r estimate n (take (8 * n) e) (take n v) (listed_rows (in_row e) n height r.starts r.entries) ≡ after_paint r height estimate p
  painted_all o e u v (NoRoomAt k) h n q = absurd (let z : ◌≡◌ {A = ℕ} 0 1 = cc in omega arith)
  painted_all o e u v (All segs owners) h n q =
      let m : n ≡ length segs = cc in
      let rest = drop (length (eights segs)) o in
      let w : take (length segs) (owners ++ drop (length owners) u) ≡ owners = take_at owners (drop (length owners) u) (length segs) h.3 in
      let t : take (8 * length segs) (eights segs ++ rest) ≡ eights segs = take_at (eights segs) rest (8 * length segs) (length_eights segs) in
      let s = rest_same (eights segs) rest (length segs) height r.starts r.entries (omega (arith, length_eights segs)) in
      rw (
        m,
        front (eights segs) o e h.0 (omega (arith, h.2, length_eights segs)),
        front owners u v h.1 (omega (arith, h.2, h.3)),
        t,
        w,
        s,
      )

-- the same, said of what the call before left: its buffers are as long as they were
module _ (path walk segments : List Float) (owners starts entries : List ℕ) (path' walk' segments' : List Float) (owners' : List ℕ) (a : length path' ≡ length path) (b : length walk' ≡ length walk) (c : length segments' ≡ length segments) (d : length owners' ≡ length owners)
    (height estimate : ℕ) (p : Painted) {x : BuildOutcome} where
  pub refused_none : (k : ℕ) → x ≡ refused_with (rooms_of path' walk' segments' owners' starts entries) Code.Room k → drawn_of p ≡ Segmented.Room k → x ≡ after_paint (rooms_of path walk segments owners starts entries) height estimate p
  refused_none k e q = (rw (a, b, c, d) at e) ∙ painted_none (rooms_of path walk segments owners starts entries) height estimate p k q

  pub listed_all : (n : ℕ) → x ≡ after_rows (rooms_of path' walk' segments' owners' starts entries) estimate n (take (8 * n) segments') (take n owners') (listed_rows (in_row segments') n height (length starts) (length entries)) → On p segments segments' owners owners' → drawn_of p ≡ Segmented.Count n
      → x ≡ after_paint (rooms_of path walk segments owners starts entries) height estimate p
  listed_all n e h q = (rw (a, b, c, d) at e) ∙ painted_all (rooms_of path walk segments owners starts entries) height estimate segments segments' owners owners' p h n q

-- ---- the whole build

module _ (d : Description) (i : Setting) (r : BuildRooms) {g : Given} {v : Judged} (given : g ≡ given_of i) (e : v ≡ verdict_of d g i.width i.height r.starts) where
  pub build_refused : {code : Code} {k : ℕ} → v ≡ Judged.Refused code k → refused_with r code k ≡ build_of d i r
  unfolding build_of
  build_refused q = rw (← given, ← e, q)

  pub build_painted : {estimate : ℕ} → v ≡ Judged.Fine estimate
      → after_paint r i.height estimate (paint_of d g i.high (path_room r.path) (walk_room r.walk) (owned_room r.segments r.owners)) ≡ build_of d i r
  unfolding build_of
  build_painted q = rw (← given, ← e, q)

-- Assumes nothing.
