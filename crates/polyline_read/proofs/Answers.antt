-- Laws of the answers of reading: the pairs as they are, the room, and what is left after each.
use mathlib.Core.Path.{◌≡◌, refl, sym, ap, ◌∙◌}
use mathlib.Core.Bool.{Bool, true, false, cond, ◌||◌}
use mathlib.Core.Logic.{◌⊎◌, inl, inr}
use Rattle.std.specs.Prelude.{Option, Some, Err}
use Rattle.std.specs.Result.{is_err}
use Rattle.codes.specs.Refusal.{Refusal}
use mathlib.Core.List.{List, ◌++◌}
use Prim.Native.Nat.{ℕ, zero, suc, ◌+◌, ◌-◌, ◌*◌, ◌<◌, ◌≤◌}
use native.Mathlib.Omega.{arith}
use lib.Dec.{ltb}
use lib.IntN.{ℤ, pos}
use lib.Ieee.{Float}
use lib.ListN.{length, drop, replicate, length-replicate}
use lib.Seq.{sets, sets-eq}
use borrow.Author.Tests.{lt-ltb, le-ltb, ltb-false}
use Rattle.codes.specs.declared.Code.TheVariants.{Room}
use Rattle.list.specs.Steps.{zero_f32}
use Rattle.write_judge.specs.Verdict.{Verdict}
use Rattle.write_judge.specs.Verdict.{Fine, Fault}
use Rattle.writer.specs.WriteAnswer.{WriteAnswer, Done}
use Rattle.write_judge.proofs.Checks.{neither}
use Rattle.control_points.specs.ControlPoints.{valid_point_pos}
use Rattle.polyline.specs.declared.Spot.{Spot}
use Rattle.polyline.specs.declared.Track.{Track}
use Rattle.polyline.specs.Tracked.{Empty}
use Rattle.polyline.specs.Tracked.{Tracked, Came, Halt}
use Rattle.polyline.specs.Stages.{text_of}
use Rattle.polyline.specs.Spots.{figure_at, uncapped, spots_of, capped_spots}
use Rattle.polyline.specs.Read.{track_from, deltas_from, first_point, start_of, later_of, and_then, track_verdict, pairs_verdict, points_verdict, leaves, outcome, read_points_of}
use Rattle.polyline.proofs.Tracks.{First, walk_first, deltas_length, spots_some}
use Rattle.polyline.proofs.Capped.{capped_is, walk_capped, came_same}
use Rattle.polyline_scan.specs.declared.Run.{Run}
use Rattle.polyline_scan.specs.Turned.{On}
use Rattle.polyline_scan.specs.Steps.{ScanLeaves}
use Rattle.polyline_read.specs.Steps.{TextLeaves}

-- ---- the pairs as they are

walk_is : (text : List ℕ) → track_from Empty (capped_spots text) ≡ track_from Empty (spots_of text)
walk_is text = ap (track_from Empty) (capped_is text) ∙ walk_capped (spots_of text) Empty

-- a text whose pairs all pass, gone through
pub record Scanned (text : List ℕ) (run : Run) (d d' : List ℤ) : Type 0 where
  pub walk : track_from Empty (spots_of text) ≡ Came run.track
  pub held : run.held ≡ 2 * later_of (spots_of text)
  pub stored : d' ≡ sets d 0 (deltas_from Empty (spots_of text))
  pub first : First (spots_of text) run.track

some : (text : List ℕ) → 0 < length (spots_of text)
unfolding spots_of
some text = spots_some uncapped text (figure_at 0) 0

pub scanned : (text : List ℕ) (run : Run) (d d' : List ℤ) → ScanLeaves (capped_spots text) (On run) d d' → Scanned text run d d'
scanned text run d d' l =
    let w = sym (walk_is text) ∙ l.leaves.0 in
    let same : capped_spots text ≡ spots_of text = capped_is text ∙ came_same (spots_of text) Empty run.track w in
    record {
      walk = w;
      held = rw same at l.leaves.1 ∙ deltas_length (spots_of text);
      stored = rw same at l.leaves.2;
      first = walk_first (spots_of text) run.track (some text) w;
    }

module _ (text : List ℕ) (run : Run) (d d' : List ℤ) (g : Scanned text run d d') where
  pub never-empty : run.track ≡ Empty → ⊥
  never-empty e = let k = g.first.keeps.is in cc

  pub first_is : (t : Track) → run.track ≡ Some t → t.start ≡ first_point (spots_of text)
  first_is t e = let k = g.first.keeps.is in let same : t ≡ record { place = g.first.keeps.place; start = first_point (spots_of text) } = cc in ap (λ (u : Track). u.start) same

  pub first-valid : (t : Track) → run.track ≡ Some t → valid_point_pos t.start ≡ true
  first-valid t e = rw (first_is t e) g.first.valid

-- ---- the verdict

module _ (ls ld : ℕ) (text : List ℕ) where
  pub halted : (f : Refusal) (d d' : List ℤ) → ScanLeaves (capped_spots text) (Err f) d d' → pairs_verdict ls ld (spots_of text) ≡ Err f
  unfolding pairs_verdict
  halted (code, place) d d' l = rw (sym (walk_is text) ∙ l.leaves)

  module _ (t : Option Track) (came : track_from Empty (spots_of text) ≡ Came t) where
    pub room-lacks : (held n : ℕ) → held ≡ 2 * later_of (spots_of text) → n ≡ ld → (ls < 2) ⊎ ((2 ≤ ls) × (n < held)) → pairs_verdict ls ld (spots_of text) ≡ Fault Room 0
    unfolding pairs_verdict
    room-lacks held n e is (inl h) = rw (came, lt-ltb ls 2 h)
    room-lacks held n e is (inr g) = rw (came, le-ltb ls 2 g.0, lt-ltb ld (2 * later_of (spots_of text)) (omega (arith, g.1)))

    pub all-fits : 2 ≤ ls → (held : ℕ) → held ≡ 2 * later_of (spots_of text) → held ≤ ld → pairs_verdict ls ld (spots_of text) ≡ Fine
    unfolding pairs_verdict
    all-fits h held e g = rw (came, le-ltb ls 2 h, le-ltb ld (2 * later_of (spots_of text)) (omega arith))

  -- no fault: there is room
  pub roomy : points_verdict ls ld text ≡ Fine → (2 ≤ ls) × (2 * later_of (spots_of text) ≤ ld)
  unfolding points_verdict pairs_verdict
  roomy e = go (text_of text) (track_from Empty (spots_of text)) (ltb ls 2 || ltb ld (2 * later_of (spots_of text))) refl e
    where
      go : (v : Verdict) (w : Tracked) (b : Bool) → (ltb ls 2 || ltb ld (2 * later_of (spots_of text))) ≡ b
          → and_then v (and_then (track_verdict w) (cond b (Fault Room 0) Fine)) ≡ Fine → (2 ≤ ls) × (2 * later_of (spots_of text) ≤ ld)
      go (Fault c p) w b x e = cc
      go Fine (Halt c p) b x e = cc
      go Fine (Came t) true x e = cc
      go Fine (Came t) false x e =
          let n = neither (ltb ls 2) (ltb ld (2 * later_of (spots_of text))) x in
          (ltb-false ls 2 n.0, ltb-false ld (2 * later_of (spots_of text)) n.1)

-- ---- what is left

pub text-refused : (ss : List Spot) (v : Verdict) (f : Refusal) (r : WriteAnswer) (s : List Float) (d d' : List ℤ) → v ≡ Err f → r ≡ Err f → TextLeaves ss v r s s d d'
text-refused ss v (code, place) r s d d' e is = rw (e, is) (record { leaves = (refl, refl) })

pub text-done : (ss : List Spot) (v : Verdict) (n : ℕ) (s s' : List Float) (d d' : List ℤ) → v ≡ Fine → n ≡ later_of ss → s' ≡ sets s 0 (start_of ss)
    → d' ≡ sets d 0 (deltas_from Empty ss) → TextLeaves ss v (Done n) s s' d d'
text-done ss v n s s' d d' e is x y = rw e (record { leaves = (ap Done is, x, y) })

-- TEXT decides
pub text-stray : (ss : List Spot) (v w : Verdict) (f : Refusal) (r : WriteAnswer) (s : List Float) (d : List ℤ) → v ≡ Err f → r ≡ Err f → TextLeaves ss (and_then v w) r s s d d
text-stray ss v w (code, place) r s d e is = rw (e, is) (record { leaves = (refl, refl) })

-- TEXT passed: the rest decides
pub text-fine : (ss : List Spot) (v w : Verdict) (r : WriteAnswer) (s s' : List Float) (d d' : List ℤ) → v ≡ Fine → TextLeaves ss w r s s' d d' → TextLeaves ss (and_then v w) r s s' d d'
text-fine ss v w r s s' d d' e l = rw e l

-- ---- zeros behind

drop-same : {A : Type 0} (a : A) (n k : ℕ) → drop k (replicate n a) ≡ replicate (n - k) a
drop-same a zero zero = refl
drop-same a zero (suc k) = rw (none (suc k))
  where
    none : (k : ℕ) → 0 - k ≡ 0
    none k = omega arith
drop-same a (suc n) zero =
    let e : suc n - 0 ≡ suc n = omega arith in
    rw e
drop-same a (suc n) (suc k) =
    let e : suc n - suc k ≡ n - k = omega arith in
    rw e (drop-same a n k)

front : {A : Type 0} (a : A) (room : ℕ) (vs : List A) → length vs ≤ room → sets (replicate room a) 0 vs ≡ vs ++ replicate (room - length vs) a
front {A} a room vs h =
    let z : length (replicate room a) ≡ room = length-replicate room a in
    sets-eq vs (replicate room a) 0 (omega arith) ∙ rw (drop-same a room (0 + length vs)) (ap (λ (k : ℕ). vs ++ replicate (room - k) a) (omega arith))

-- ---- the whole call

module _ (text : List ℕ) (ls ld : ℕ) (s s' : List Float) (d d' : List ℤ) (zs : s ≡ replicate ls zero_f32) (zd : d ≡ replicate ld (pos 0)) (r : WriteAnswer)
    (l₀ : TextLeaves (spots_of text) (points_verdict (length s) (length d) text) r s s' d d') where
  start-length : length s ≡ ls
  start-length = ap length zs ∙ length-replicate ls zero_f32

  deltas_room : length d ≡ ld
  deltas_room = ap length zd ∙ length-replicate ld (pos 0)

  l : TextLeaves (spots_of text) (points_verdict ls ld text) r s s' d d'
  l = rw (start-length, deltas_room) at l₀

  pub call-done : is_err r ≡ false → leaves r s' d' ≡ read_points_of ls ld text
  unfolding read_points_of
  call-done good = go (points_verdict ls ld text) refl l
    where
      go : (v : Verdict) → points_verdict ls ld text ≡ v → TextLeaves (spots_of text) v r s s' d d' → leaves r s' d' ≡ outcome ls ld (spots_of text) v
      go Fine x l =
          let h = roomy ls ld text x in
          let a : s' ≡ start_of (spots_of text) ++ replicate (ls - 2) zero_f32 = l.leaves.1 ∙ rw (zs) (front zero_f32 ls (start_of (spots_of text)) h.0) in
          let b : d' ≡ deltas_from Empty (spots_of text) ++ replicate (ld - 2 * later_of (spots_of text)) (pos 0) =
          l.leaves.2 ∙ rw (zd) (rw (deltas_length (spots_of text)) at (front (pos 0) ld (deltas_from Empty (spots_of text)) (omega (arith, h.1, deltas_length (spots_of text))))) in
          rw (l.leaves.0, a, b)
      go (Fault c p) x l = let bad = rw l.leaves.0 at good in cc

  pub call-refused : (d'' : List ℤ) → is_err r ≡ true → d'' ≡ replicate (length d') (pos 0) → length d' ≡ length d → leaves r s' d'' ≡ read_points_of ls ld text
  unfolding read_points_of
  call-refused d'' bad z k = go (points_verdict ls ld text) l
    where
      go : (v : Verdict) → TextLeaves (spots_of text) v r s s' d d' → leaves r s' d'' ≡ outcome ls ld (spots_of text) v
      go Fine l = let good = rw l.leaves.0 at bad in cc
      go (Fault c p) l = rw (l.leaves.0, l.leaves.1, zs, z, k ∙ deltas_room)

-- Assumes nothing.
