-- Writing and reading undo each other: any outcome that the contract of one call allows, fed to any outcome that the contract of the other allows.
-- A contract is an equation, so each theorem takes its outcomes by their equations.
use mathlib.Core.Path.{◌≡◌, refl, sym, ap, ◌∙◌}
use mathlib.Core.List.{List, [], ◌∷◌, ◌++◌, map}
use Prim.Native.Nat.{ℕ, ◌+◌, ◌-◌, ◌*◌, ◌^◌, ◌≤◌, ◌<◌}
use native.Mathlib.Omega.{arith}
use lib.Dec.{ltb}
use lib.ListN.{length, take, replicate}
use lib.Seq.{take_at}
use lib.IntN.{ℤ, pos}
use lib.Signed.{mag}
use lib.Ieee.{Float}
use borrow.Author.Tests.{le-ltb}
use Rattle.buffers.specs.Padded.{padded}
use Rattle.codes.specs.declared.Code.TheVariants.{Room}
use Rattle.shape.specs.Shape.{points_of}
use Rattle.list.specs.List.{ListRooms, got, stop, described}
use Rattle.list.specs.Steps.{f32_of, zero_f32}
use Rattle.reader.specs.Read.{ReadOutcome}
use Rattle.reader.specs.Read as reading
use Rattle.codes.specs.Refusal.{refused}
use Rattle.read_list.specs.Answer.{done}
use Rattle.writer.specs.Write.{Check, check, first_fault, whole_of, WriteOutcome, leaves, outcome}
use Rattle.write_judge.specs.Verdict.{Verdict}
use Rattle.write_judge.specs.Verdict.{Fine, Fault}
use Rattle.writer.specs.WriteAnswer.{Done}
use Rattle.write_judge.proofs.Checks.{passes, fine_before, both_fine}
use Rattle.write_laws.specs.Floats.{Floats}
use Rattle.roundtrip.specs.Enough.{Enough}
use Rattle.little.specs.Little.{numbers_in, Bytes, Numbers, Signeds}
use Rattle.trace.specs.Trace.{version1, numbers_of, file_of}
use Rattle.trace.specs.Read.{whole_checks, described_in, read_trace_of}
use Rattle.trace.specs.Write.{write_checks, write_trace_of}
use Rattle.trace_read.proofs.Loads.{judged_fine, judged_fault}
use Rattle.trace_write.proofs.Puts.{judged, file_size_lem}
use Rattle.trace_laws.proofs.Back.{starts_back, file_is_read, ns_in, zs_in, ds_in, cs_in, again_fine, taken, found_first}

-- ---- what an accepted call leaves, by the checks of its content, its file, and how long that is

pub record Left (content : List Check) (file : List ℕ) (room n : ℕ) (bytes : List ℕ) : Type 0 where
  pub fine : first_fault content ≡ Fine
  pub size : n ≡ length file
  pub is : bytes ≡ file ++ replicate (room - n) 0

module _ (content : List Check) (file : List ℕ) (due room : ℕ) where
  abbrev Last : List Check
  Last = check (ltb room due) Room 0 ∷ []

  -- an answer of success tells all
  pub done_left : (o : WriteOutcome) (n : ℕ) → o ≡ outcome room file (first_fault (content ++ Last)) → o.answer ≡ Done n → Left content file room n o.list
  done_left o n p e = go (first_fault (content ++ Last)) refl (sym (ap (λ (u : WriteOutcome). u.answer) p) ∙ e) (ap (λ (u : WriteOutcome). u.list) p)
    where
      go : (v : Verdict) → first_fault (content ++ Last) ≡ v → (outcome room file v).answer ≡ Done n → o.list ≡ (outcome room file v).list
          → Left content file room n o.list
      go (Fault c q) f e l = let z : ◌≡◌ {A = ℕ} 0 1 = cc in absurd (omega arith)
      go Fine f e l =
          let k : length file ≡ n = cc in
          record { fine = (both_fine content Last f).0; size = sym k; is = l ∙ ap (λ (m : ℕ). file ++ replicate (room - m) 0) k }

  -- what is accepted, with room for its file
  pub accepted_left : first_fault content ≡ Fine → length file ≡ due → due ≤ room
      → outcome room file (first_fault (content ++ Last)) ≡ leaves (Done (length file)) (file ++ replicate (room - length file) 0)
  unfolding first_fault
  accepted_left f size h = rw (fine_before content Last f, passes (ltb room due) Room 0 [] (le-ltb room due h))

-- version 1
module _ (ns : List ℕ) (ss : List Float) (ds cs : List ℤ) (a : ℤ) (room : ℕ) where
  abbrev File : List ℕ
  File = file_of version1 [] (described a (map whole_of ss) ns ds cs)

  done_written : (o : WriteOutcome) (n : ℕ) → o ≡ write_trace_of ns ss ds cs a room → o.answer ≡ Done n → Left (write_checks 8 ns ss ds cs) File room n o.list
  unfolding write_trace_of
  done_written = done_left (write_checks 8 ns ss ds cs) File (4 * numbers_of 8 (length ns) (points_of ns)) room

  accepted : first_fault (write_checks 8 ns ss ds cs) ≡ Fine → length File ≤ room
      → write_trace_of ns ss ds cs a room ≡ leaves (Done (length File)) (File ++ replicate (room - length File) 0)
  unfolding write_trace_of
  accepted f h =
      let j = judged 8 ns ss ds cs f in
      let size = file_size_lem version1 [] ns ss ds cs a refl j.pairs j.points j.rows in
      accepted_left (write_checks 8 ns ss ds cs) File (4 * numbers_of 8 (length ns) (points_of ns)) room f size (omega arith)

-- ---- what is written is read

-- the description that a file was written from is read from it, every number, with rooms exact or larger
pub file_then_read : (ns : List ℕ) (ss : List Float) (ds cs : List ℤ) (a : ℤ) (room : ℕ) (o : WriteOutcome) (n : ℕ)
    → Numbers ns → Floats ss → Signeds cs → mag a < 2 ^ 31 → o ≡ write_trace_of ns ss ds cs a room → o.answer ≡ Done n
    → (rooms : ListRooms) → Enough rooms ns ss ds cs → (q : ReadOutcome) → q ≡ read_trace_of rooms (take n o.list)
    → q ≡ reading.leaves (done (length ns) (points_of ns) a) (padded rooms.counts 0 ns) (padded rooms.starts zero_f32 ss)
    (padded rooms.deltas (pos 0) ds) (padded rooms.coefficients (pos 0) cs)
unfolding read_trace_of
file_then_read ns ss ds cs a room o n nn f nc na p e rooms h q r =
    let w = done_written ns ss ds cs a room o n p e in
    let file = file_of version1 [] (described a (map whole_of ss) ns ds cs) in
    let bytes : take n o.list ≡ file = ap (take n) w.is ∙ take_at file (replicate (room - n) 0) n (sym w.size) in
    let got_it = file_is_read ns ss ds cs a w.fine nn nc na rooms h in
    let back = starts_back _ ss f (judged 8 ns ss ds cs w.fine).fit in
    r ∙ rw (bytes, got_it, back)

-- ---- what is read is written

pub record DoneRead (rooms : ListRooms) (bytes : List ℕ) (q : ReadOutcome) (s p : ℕ) (a : ℤ) : Type 0 where
  pub fine : first_fault (whole_checks rooms bytes) ≡ Fine
  pub is : q ≡ reading.outcome rooms (got (described_in 8 (numbers_in bytes)) [])

pub done_read : (rooms : ListRooms) (bytes : List ℕ) (q : ReadOutcome) (s p : ℕ) (a : ℤ) → q ≡ read_trace_of rooms bytes → q.answer ≡ done s p a → DoneRead rooms bytes q s p a
unfolding read_trace_of
done_read rooms bytes q s p a r e = go (first_fault (whole_checks rooms bytes)) refl
  where
    go : (v : Verdict) → first_fault (whole_checks rooms bytes) ≡ v → DoneRead rooms bytes q s p a
    go Fine f = record { fine = f; is = r ∙ ap (reading.outcome rooms) (judged_fine rooms bytes f) }
    go (Fault c k) f =
        let x : q ≡ reading.outcome rooms (stop c k) = r ∙ ap (reading.outcome rooms) (judged_fault rooms bytes c k f) in
        let y : refused c k ≡ done s p a = sym (ap (λ (u : ReadOutcome). u.answer) x) ∙ e in
        let z : ◌≡◌ {A = ℕ} 0 1 = cc in absurd (omega arith)

-- the file that a description was read from is written from it, every byte, and zeros after it
pub read_then_file : (rooms : ListRooms) (bytes : List ℕ) (q : ReadOutcome) (s p : ℕ) (a : ℤ) → Bytes bytes → q ≡ read_trace_of rooms bytes → q.answer ≡ done s p a
    → (room : ℕ) → length bytes ≤ room → (o : WriteOutcome)
    → o ≡ write_trace_of (take s q.counts) (take (2 * s) q.starts) (take (2 * p) q.deltas) (take (128 * s) q.coefficients) a room
    → o ≡ leaves (Done (length bytes)) (bytes ++ replicate (room - length bytes) 0)
read_then_file rooms bytes q s p a b r e room h o w =
    let t = done_read rooms bytes q s p a r e in
    let found = found_first rooms bytes t.fine in
    let k = taken version1 [] bytes _ _ found b rooms q s p a t.is e in
    let file = k.file in
    let written = accepted (ns_in 8 bytes) (map f32_of (zs_in 8 bytes)) (ds_in 8 bytes) (cs_in 8 bytes) a room (again_fine version1 [] bytes _ _ found b) (omega (arith, ap length file)) in
    w ∙ rw (k.counts, k.starts, k.deltas, k.coefficients) (written ∙ ap (λ (l : List ℕ). leaves (Done (length l)) (l ++ replicate (room - length l) 0)) file)

-- ---- one file a description

pub same_front : (xs ys : List ℕ) (us vs : List ℕ) → length xs ≡ length ys → xs ++ us ≡ ys ++ vs → xs ≡ ys
same_front xs ys us vs h e = sym (take_at xs us (length xs) refl) ∙ ap (take (length xs)) e ∙ take_at ys vs (length xs) (sym h)

-- two files that are read as one description are the same bytes
pub same_file : (rooms : ListRooms) (bytes bytes' : List ℕ) (q : ReadOutcome) (s p : ℕ) (a : ℤ) → Bytes bytes → Bytes bytes' → q ≡ read_trace_of rooms bytes → q ≡ read_trace_of rooms bytes'
    → q.answer ≡ done s p a → bytes ≡ bytes'
same_file rooms bytes bytes' q s p a b b' r r' e =
    let room = length bytes + length bytes' in
    let o = write_trace_of (take s q.counts) (take (2 * s) q.starts) (take (2 * p) q.deltas) (take (128 * s) q.coefficients) a room in
    let x = read_then_file rooms bytes q s p a b r e room (omega arith) o refl in
    let y = read_then_file rooms bytes' q s p a b' r' e room (omega arith) o refl in
    let z = sym x ∙ y in
    let w : Done (length bytes) ≡ Done (length bytes') = ap (λ (u : WriteOutcome). u.answer) z in
    let k : length bytes ≡ length bytes' = cc in
    same_front bytes bytes' _ _ k (ap (λ (u : WriteOutcome). u.list) z)

-- Assumes nothing.
