-- Laws of the room, of a file with no fault, and of the whole.
use mathlib.Core.Path.{◌≡◌, refl, sym, ap, ◌∙◌}
use mathlib.Core.Bool.{Bool, true, false, ◌||◌}
use mathlib.Core.List.{List, [], ◌∷◌}
use Prim.Native.Nat.{ℕ, ◌*◌, ◌≤◌}
use native.Mathlib.Omega.{arith}
use lib.Dec.{ltb}
use lib.ListN.{length, replicate, length-replicate}
use lib.IntN.{ℤ, pos}
use lib.Ieee.{Float}
use borrow.Author.Tests.{ltb-false, eqb-true, not-false}
use Rattle.codes.specs.declared.Code.{Code}
use Rattle.codes.specs.declared.Code.TheVariants.{Short, Coord, Room, Shape, Header}
use Rattle.shape.specs.Shape.{points_of}
use Rattle.list.specs.List.{ListRooms, got, stop, Described, described, lacking}
use Rattle.list.specs.Steps.{zero_f32}
use Rattle.reader.specs.Read.{leaves, rooms_of, outcome}
use Rattle.reader.specs.Rest.{ListLeft, Wiped}
use Rattle.std.specs.Prelude.{Ok}
use Rattle.codes.specs.Refusal.{refused}
use Rattle.read_list.specs.Answer.{ReadAnswer}
use Rattle.reader.proofs.Whole.{read_all}
use Rattle.writer.specs.Write.{Check, check, first_fault}
use Rattle.write_judge.specs.Verdict.{Fine, Fault}
use Rattle.write_judge.proofs.Checks.{neither, fails, passes, passed, faults_before, fine_before, both_fine}
use Rattle.little.specs.Little.{numbers_in}
use Rattle.trace.specs.Trace.{version1, starts_from, numbers_of, part, number_checks}
use Rattle.trace.specs.Read.{splines_in, points_in, version_checks, offset_checks, length_checks, misplaced, part_checks, body_checks, read_checks, tight, whole_checks, described_in, judged, read_trace}
use Rattle.trace_judge.proofs.Faults.{length_due}
use Rattle.trace_load.specs.Steps.{Loadable}
use Rattle.trace_read.specs.Steps.{rooms_from, read_by}

-- ---- the room

-- the value of `s || t`, where a test takes one of two ways
pub or_then : {v s : Bool} (t : Bool) → s ≡ true → v ≡ s → v ≡ s || t
or_then {v} {s} t p q = rw (q, p)

pub or_else : {v t s : Bool} → s ≡ false → v ≡ t → v ≡ s || t
or_else {v} {t} {s} p q = rw (p, q)

or_assoc : (s t u : Bool) → (s || t) || u ≡ s || (t || u)
or_assoc true t u = refl
or_assoc false t u = refl

module _ (a b d e s p : ℕ) where
  abbrev Rooms : ListRooms
  Rooms = rooms_from a b d e

  -- the tests of the cells, of which each stands on those before it
  module _ (v w : Bool) (first : v ≡ ltb a s || ltb b (2 * s)) (second : w ≡ v || ltb e (128 * s)) where
    cells : w ≡ lacking Rooms s
    cells = second ∙ rw first (or_assoc (ltb a s) (ltb b (2 * s)) (ltb e (128 * s)))

    pub tight_cells : w ≡ true → w ≡ tight Rooms s p
    unfolding tight
    tight_cells h = h ∙ sym (ap (λ (t : Bool). t || ltb d (2 * p)) (sym cells ∙ h))

    pub tight_deltas : w ≡ false → ltb d (2 * p) ≡ tight Rooms s p
    unfolding tight
    tight_deltas h = sym (ap (λ (t : Bool). t || ltb d (2 * p)) (sym cells ∙ h))

  pub roomy : tight Rooms s p ≡ false → (s ≤ a) × (2 * s ≤ b) × (128 * s ≤ e) × (2 * p ≤ d)
  unfolding tight
  roomy h =
      let u = neither (lacking Rooms s) (ltb d (2 * p)) h in
      let v = neither (ltb a s) (ltb b (2 * s) || ltb e (128 * s)) u.0 in
      let w = neither (ltb b (2 * s)) (ltb e (128 * s)) v.1 in
      (ltb-false a s v.0, ltb-false b (2 * s) w.0, ltb-false e (128 * s) w.1, ltb-false d (2 * p) u.1)

-- ---- the whole file

-- no fault was found behind a header of h numbers
pub record Sound (h : ℕ) (bytes : List ℕ) : Type 0 where
  pub whole : length bytes ≡ 4 * numbers_of h (splines_in (numbers_in bytes)) (points_in (numbers_in bytes))
  pub sums : points_of (part h (splines_in (numbers_in bytes)) (numbers_in bytes)) ≡ points_in (numbers_in bytes)
  pub placed : first_fault (number_checks misplaced Coord (starts_from h (splines_in (numbers_in bytes))) (part (starts_from h (splines_in (numbers_in bytes))) (2 * splines_in (numbers_in bytes)) (numbers_in bytes))) ≡ Fine

pub sound_body : (h : ℕ) (bytes : List ℕ) → first_fault (body_checks h (length bytes) (numbers_in bytes)) ≡ Fine → Sound h bytes
unfolding body_checks part_checks
sound_body h bytes e =
    let ns = numbers_in bytes in
    let n = length bytes in
    let g = both_fine (length_checks n (4 * numbers_of h (splines_in ns) (points_in ns))) (part_checks h (splines_in ns) (points_in ns) ns) e in
    let k = passed _ Shape 0 _ g.1 in
    let i = both_fine (number_checks misplaced Coord (starts_from h (splines_in ns)) (part (starts_from h (splines_in ns)) (2 * splines_in ns) ns)) _ k.1 in
    record {
      whole = length_due n (4 * numbers_of h (splines_in ns) (points_in ns)) g.0;
      sums = eqb-true (points_of (part h (splines_in ns) ns)) (points_in ns) (not-false _ k.0);
      placed = i.0;
    }

-- so behind the header of a file of version 1 in which none was found but for the room
pub body_fine : (bytes : List ℕ) → first_fault (read_checks version1 (length bytes) (numbers_in bytes)) ≡ Fine → first_fault (body_checks 8 (length bytes) (numbers_in bytes)) ≡ Fine
unfolding read_checks version_checks
body_fine bytes e =
    let ns = numbers_in bytes in
    let n = length bytes in
    let a = passed (ltb n 32) Short n _ e in
    let b = passed _ Header 0 _ a.1 in
    (both_fine (offset_checks 8 ns) (body_checks 8 n ns) b.1).1

-- with room for it, it can be loaded
pub sound_loadable : (h : ℕ) (rooms : ListRooms) (bytes : List ℕ) (u v : ℕ) → Sound h bytes → u ≡ splines_in (numbers_in bytes) → v ≡ points_in (numbers_in bytes) → tight rooms u v ≡ false
    → Loadable bytes h (splines_in (numbers_in bytes)) (points_in (numbers_in bytes)) rooms
sound_loadable h rooms bytes u v k is ip f =
    let ns = numbers_in bytes in
    let t = rw (is, ip) at f in
    let r = roomy rooms.counts rooms.starts rooms.deltas rooms.coefficients (splines_in ns) (points_in ns) t in
    record { whole = k.whole; sums = k.sums; placed = k.placed; counts = r.0; starts = r.1; deltas = r.3; coefficients = r.2 }

module _ (rooms : ListRooms) (bytes : List ℕ) where
  abbrev Content : List Check
  Content = read_checks version1 (length bytes) (numbers_in bytes)

  pub whole_fault : (c : Code) (q : ℕ) → first_fault Content ≡ Fault c q → Fault c q ≡ first_fault (whole_checks rooms bytes)
  unfolding whole_checks
  whole_fault c q e = sym (faults_before Content _ c q e)

  module _ (fine : first_fault Content ≡ Fine) (s p : ℕ) (is : s ≡ splines_in (numbers_in bytes)) (ip : p ≡ points_in (numbers_in bytes)) where
    pub whole_room : tight rooms s p ≡ true → Fault Room 0 ≡ first_fault (whole_checks rooms bytes)
    unfolding whole_checks
    whole_room e = rw (← is, ← ip) (sym (fine_before Content _ fine ∙ fails (tight rooms s p) Room 0 [] e))

    pub whole_fine : tight rooms s p ≡ false → Fine ≡ first_fault (whole_checks rooms bytes)
    unfolding whole_checks first_fault
    whole_fine e = rw (← is, ← ip) (sym (fine_before Content (check (tight rooms s p) Room 0 ∷ []) fine ∙ rw e))

  pub judged_fine : first_fault (whole_checks rooms bytes) ≡ Fine → read_trace rooms bytes ≡ got (described_in 8 (numbers_in bytes)) []
  unfolding read_trace
  judged_fine e = rw e

  pub judged_fault : (c : Code) (q : ℕ) → first_fault (whole_checks rooms bytes) ≡ Fault c q → read_trace rooms bytes ≡ stop c q
  unfolding read_trace
  judged_fault c q e = rw e

left_done : (x : Described) (rooms : ListRooms) (r : ReadAnswer) (n' : List ℕ) (s' : List Float) (d' c' : List ℤ)
    → ListLeft (got x []) r (replicate rooms.counts 0) n' (replicate rooms.starts zero_f32) s' (replicate rooms.deltas (pos 0)) d' (replicate rooms.coefficients (pos 0)) c'
    → leaves r n' s' d' c' ≡ outcome rooms (got x [])
left_done x rooms (Ok r) n' s' d' c' h = read_all (got x []) r.splines r.points r.adjustment n' s' d' c' rooms h
left_done (described b zs ns ds cs) rooms (refused k p) n' s' d' c' h = let z : ◌≡◌ {A = ℕ} 0 1 = cc h.0 in absurd (omega arith)

module _ (n wn : List ℕ) (s ws : List Float) (d wd c wc : List ℤ) (w : Wiped n wn s ws d wd c wc) where
  -- clearing keeps the lengths
  pub same_rooms : rooms_of wn ws wd wc ≡ rooms_of n s d c
  same_rooms =
      rw (
        ap length w.counts ∙ length-replicate {A = ℕ} (length n) 0,
        ap length w.starts ∙ length-replicate (length s) zero_f32,
        ap length w.deltas ∙ length-replicate (length d) (pos 0),
        ap length w.coefficients ∙ length-replicate (length c) (pos 0),
      )

  -- what a call that clears its buffers first leaves, whatever it reads
  pub wiped_refused : (k : Code) (q : ℕ) → leaves (refused k q) wn ws wd wc ≡ outcome (rooms_of n s d c) (stop k q)
  wiped_refused k q = rw (w.counts, w.starts, w.deltas, w.coefficients)

  pub wiped_done : (x : Described) (r : ReadAnswer) (n' : List ℕ) (s' : List Float) (d' c' : List ℤ) → ListLeft (got x []) r wn n' ws s' wd d' wc c'
      → leaves r n' s' d' c' ≡ outcome (rooms_of n s d c) (got x [])
  wiped_done x r n' s' d' c' h = left_done x (rooms_of n s d c) r n' s' d' c' (rw (w.counts, w.starts, w.deltas, w.coefficients) at h)

-- ---- what is left, by the checks before that of the room

none_found : first_fault [] ≡ Fine
unfolding first_fault
none_found = refl

module _ (h : ℕ) (checks : List Check) (rooms : ListRooms) (bytes : List ℕ) where
  abbrev Tight : Bool
  Tight = tight rooms (splines_in (numbers_in bytes)) (points_in (numbers_in bytes))

  abbrev Last : List Check
  Last = check Tight Room 0 ∷ []

  fault_by : (k : Code) (q : ℕ) → first_fault checks ≡ Fault k q → read_by checks h rooms bytes ≡ stop k q
  fault_by k q e = ap (judged (described_in h (numbers_in bytes))) (faults_before checks Last k q e)

  module _ (fine : first_fault checks ≡ Fine) (u v : ℕ) (is : u ≡ splines_in (numbers_in bytes)) (ip : v ≡ points_in (numbers_in bytes)) where
    room_by : tight rooms u v ≡ true → read_by checks h rooms bytes ≡ stop Room 0
    room_by e = ap (judged (described_in h (numbers_in bytes))) (fine_before checks Last fine ∙ fails Tight Room 0 [] (rw (is, ip) at e))

    all_by : tight rooms u v ≡ false → read_by checks h rooms bytes ≡ got (described_in h (numbers_in bytes)) []
    all_by e = ap (judged (described_in h (numbers_in bytes))) (fine_before checks Last fine ∙ passes Tight Room 0 [] (rw (is, ip) at e) ∙ none_found)

module _ (h : ℕ) (checks : List Check) (bytes n wn : List ℕ) (s ws : List Float) (d wd c wc : List ℤ) (w : Wiped n wn s ws d wd c wc) where
  abbrev Lent : ListRooms
  Lent = rooms_of n s d c

  pub left_fault : (k : Code) (q : ℕ) → first_fault checks ≡ Fault k q → leaves (refused k q) wn ws wd wc ≡ outcome Lent (read_by checks h Lent bytes)
  left_fault k q e = wiped_refused n wn s ws d wd c wc w k q ∙ sym (ap (outcome Lent) (fault_by h checks Lent bytes k q e))

  module _ (fine : first_fault checks ≡ Fine) (u v : ℕ) (is : u ≡ splines_in (numbers_in bytes)) (ip : v ≡ points_in (numbers_in bytes)) where
    pub left_room : tight (rooms_of wn ws wd wc) u v ≡ true → leaves (refused Room 0) wn ws wd wc ≡ outcome Lent (read_by checks h Lent bytes)
    left_room e =
        wiped_refused n wn s ws d wd c wc w Room 0
        ∙ sym (ap (outcome Lent) (room_by h checks Lent bytes fine u v is ip (rw (same_rooms n wn s ws d wd c wc w) at e)))

    pub left_all : (r : ReadAnswer) (n' : List ℕ) (s' : List Float) (d' c' : List ℤ) → tight (rooms_of wn ws wd wc) u v ≡ false
        → ListLeft (got (described_in h (numbers_in bytes)) []) r wn n' ws s' wd d' wc c'
        → leaves r n' s' d' c' ≡ outcome Lent (read_by checks h Lent bytes)
    left_all r n' s' d' c' e g =
        wiped_done n wn s ws d wd c wc w (described_in h (numbers_in bytes)) r n' s' d' c' g
        ∙ sym (ap (outcome Lent) (all_by h checks Lent bytes fine u v is ip (rw (same_rooms n wn s ws d wd c wc w) at e)))

-- Assumes nothing.
