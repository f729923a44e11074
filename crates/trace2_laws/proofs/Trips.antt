-- One file a version: what is written is read, what is read is written as the same bytes; and a reader of version 1 says HEADER to version 2.
-- A contract is an equation, so each theorem takes its outcomes by their equations.
use mathlib.Core.Path.{◌≡◌, refl, sym, ap, subst, ◌∙◌}
use mathlib.Core.Bool.{false}
use mathlib.Core.Logic.{inl, inr}
use mathlib.Core.List.{List, [], ◌∷◌, ◌++◌, map}
use Prim.Native.Nat.{ℕ, ◌+◌, ◌-◌, ◌*◌, ◌^◌, ◌≤◌, ◌<◌}
use native.Mathlib.Omega.{arith}
use lib.ListN.{length, take, drop, get_or, replicate}
use lib.Seq.{take_at, drop-cons}
use lib.IntN.{ℤ, pos}
use lib.Signed.{mag}
use lib.Ieee.{Float}
use borrow.Author.Tests.{le-ltb}
use Rattle.buffers.specs.Padded.{padded}
use Rattle.codes.specs.declared.Code.TheVariants.{Short, Room, Shape, Header, Edition}
use Rattle.shape.specs.Shape.{points_of}
use Rattle.list.specs.List.{ListRooms, got, stop, Described, described}
use Rattle.list.specs.Steps.{f32_of, zero_f32}
use Rattle.reader.specs.Read.{ReadOutcome}
use Rattle.reader.specs.Read as reading
use Rattle.read_list.specs.Answer.{done}
use Rattle.writer.specs.Write.{check, first_fault, whole_of, WriteOutcome, leaves}
use Rattle.write_judge.specs.Verdict.{Fine}
use Rattle.writer.specs.WriteAnswer.{Done}
use Rattle.write_judge.proofs.Checks.{passes, passed, fine_before, both_fine}
use Rattle.write_laws.specs.Floats.{Floats}
use Rattle.roundtrip.specs.Enough.{Enough}
use Rattle.little.specs.Little.{bytes_of, numbers_in, Bytes, Numbers, Signeds}
use Rattle.little.proofs.Little.{numbers_length}
use Rattle.trace.specs.Trace.{numbers_of, file_numbers, file_of}
use Rattle.trace.specs.Read.{offset_checks, tight, described_in, read_trace_of}
use Rattle.trace.specs.Write.{write_checks, write_trace_of}
use Rattle.trace_read.proofs.Loads as loads
use Rattle.trace_write.proofs.Puts.{judged, file_size_lem}
use Rattle.trace_laws.specs.Behind.{number, TamedBy}
use Rattle.trace_laws.specs.Refusals as first-version
use Rattle.trace_laws.proofs.ReadWhen as first_read
use Rattle.trace_laws.proofs.Back.{starts_back, numbers_are, offsets_so, body_so, described_so, roomy, ns_in, zs_in, ds_in, cs_in, FileFound, again_fine, taken, found_first}
use Rattle.trace_laws.proofs.Trips.{Left, done_left, accepted_left, file_then_read, done_read, read_then_file, same_front}
use Rattle.trace2.specs.Editions.{unknown, version2, header_long, edition_in}
use Rattle.trace2.specs.Read.{laid_checks, file_checks, whole_checks2, read_file, FileOutcome, with_edition, read_file_of}
use Rattle.trace2.specs.Write.{write_checks2, write_file_of}
use Rattle.trace2.proofs.Editions.{two_known, known_is, barred_other, free_known}
use Rattle.trace2.proofs.Versions.{other_as_before, nine_so, ninth_so, write_as_before}
use Rattle.trace2_write.proofs.Seconds.{found_none}
use Rattle.trace2_laws.specs.Refusals.{Known, Says, Editioned, Holds, FileAccepted}
use Rattle.trace2_laws.specs.Refusals as told
use Rattle.trace2_laws.proofs.ReadWhen.{known_told, file_clean, judged_fine, done_fine}
use Rattle.trace2_laws.proofs.WriteWhen.{write_done}

-- ---- a reader of version 1

pub older_header : (rooms : ListRooms) (bytes : List ℕ) → 32 ≤ length bytes → number bytes 0 ≡ 2 → read_trace_of rooms bytes ≡ reading.outcome rooms (stop Header 0)
unfolding read_trace_of
older_header rooms bytes l v =
    ap (reading.outcome rooms) (loads.judged_fault rooms bytes Header 0 (first_read.told_fault rooms bytes Header 0 (first-version.version l (λ o. omega (arith, o, v)))))

-- ---- a file of version 2 is read as what it was written from

-- a version that is written holds its edition
pub record Held (v e : ℕ) : Type 0 where
  pub header : ℕ
  pub holds : Holds v e header

pub written_holds : (ns : List ℕ) (ss : List Float) (ds cs : List ℤ) (a : ℤ) (v e room : ℕ) (o : WriteOutcome) (n : ℕ) → o ≡ write_file_of ns ss ds cs a v e room → o.answer ≡ Done n → Held v e
written_holds ns ss ds cs a v e room o n p d =
    let t = (write_done ns ss ds cs v e room a n).0 (sym (ap (λ (u : WriteOutcome). u.answer) p) ∙ d) in
    record { header = t.header; holds = t.writable.fitting.headable.shaped.holds }

module _ (ns : List ℕ) (ss : List Float) (ds cs : List ℤ) (a : ℤ) (e : ℕ) where
  abbrev Whole : Described
  Whole = described a (map whole_of ss) ns ds cs

  abbrev File : List ℕ
  File = file_of version2 (e ∷ []) Whole

  abbrev Nums : List ℕ
  Nums = file_numbers version2 (e ∷ []) Whole

  done_second : (room : ℕ) (o : WriteOutcome) (n : ℕ) → o ≡ write_file_of ns ss ds cs a 2 e room → o.answer ≡ Done n → Left (write_checks2 2 e ns ss ds cs) File room n o.list
  unfolding write_file_of
  done_second room = done_left (write_checks2 2 e ns ss ds cs) File (4 * numbers_of 9 (length ns) (points_of ns)) room

  -- its first number is the version
  pub says_two : number File 0 ≡ 2
  unfolding file_of bytes_of numbers_in
  says_two = refl

  module _ (checked : first_fault (write_checks2 2 e ns ss ds cs) ≡ Fine) where
    fine : first_fault (write_checks 9 ns ss ds cs) ≡ Fine
    fine = (found_none 2 e ns ss ds cs checked).2

    known : unknown e ≡ false
    known = free_known 2 e (found_none 2 e ns ss ds cs checked).1

    two_small : 2 < 2 ^ 32
    two_small = omega arith

    edition_small : e < 2 ^ 32
    edition_small = go (known_is e known)
      where
        go : Known e → e < 2 ^ 32
        go (inl i) = omega arith
        go (inr i) = omega arith

    second_size : length File ≡ 4 * numbers_of 9 (length ns) (points_of ns)
    second_size = let j = judged 9 ns ss ds cs fine in file_size_lem version2 (e ∷ []) ns ss ds cs a refl j.pairs j.points j.rows

    module _ (nn : Numbers ns) (nc : Signeds cs) (na : mag a < 2 ^ 31) where
      numbers_so : numbers_in File ≡ Nums
      numbers_so = numbers_are version2 (e ∷ []) ns ss ds cs a refl fine two_small (edition_small, tt) nn nc na

      file_fine : first_fault (file_checks (length File) Nums) ≡ Fine
      unfolding file_checks laid_checks
      file_fine =
          let z = second_size in
          passes _ Short (length File) _ (le-ltb (length File) 32 (omega arith)) ∙ passes _ Header 0 _ (sym (two_known 2 refl)) ∙ passes _ Short (length File) _ (le-ltb (length File) 36 (omega arith))
          ∙ fine_before (offset_checks 9 Nums) _ (offsets_so version2 (e ∷ []) ns ss ds cs a refl fine two_small (edition_small, tt) nn nc na)
          ∙ passes _ Edition 32 _ known ∙ body_so version2 (e ∷ []) ns ss ds cs a refl fine two_small (edition_small, tt) nn nc na

      whole_fine : (rooms : ListRooms) → Enough rooms ns ss ds cs → first_fault (whole_checks2 rooms File) ≡ Fine
      unfolding whole_checks2 first_fault
      whole_fine rooms h =
          rw numbers_so
          (fine_before (file_checks (length File) Nums) (check (tight rooms (length ns) (points_of ns)) Room 0 ∷ []) file_fine
          ∙ passes (tight rooms (length ns) (points_of ns)) Room 0 [] (roomy version2 (e ∷ []) ns ss ds cs a refl fine two_small (edition_small, tt) nn nc na rooms h))

      second_read : (rooms : ListRooms) → Enough rooms ns ss ds cs → read_file_of rooms File ≡ record { read = reading.outcome rooms (got Whole []); edition = e }
      unfolding read_file_of
      second_read rooms h =
          let d = described_so version2 (e ∷ []) ns ss ds cs a refl fine two_small (edition_small, tt) nn nc na in
          let x : read_file rooms File ≡ got Whole []
          = judged_fine rooms File (whole_fine rooms h) ∙ ap (λ (l : List ℕ). got (described_in (header_long (get_or l 0 0)) l) []) numbers_so ∙ ap (λ (w : Described). got w []) d in
          rw (x, numbers_so)

-- ---- what is written is read, in either version

-- a file whose description `trace_read` reads says version 1
says_one : (rooms : ListRooms) (bytes : List ℕ) (s p : ℕ) (a : ℤ) → (read_trace_of rooms bytes).answer ≡ done s p a → number bytes 0 ≡ 2 → ⊥
says_one rooms bytes s p a d v =
    let t = done_read rooms bytes (read_trace_of rooms bytes) s p a refl d in
    let k = (found_first rooms bytes t.fine).version in
    omega (arith, k, v)

module _ (ns : List ℕ) (ss : List Float) (ds cs : List ℤ) (a : ℤ) (v e room : ℕ) (o : WriteOutcome) (n : ℕ) (nn : Numbers ns) (f : Floats ss) (nc : Signeds cs) (na : mag a < 2 ^ 31)
    (p : o ≡ write_file_of ns ss ds cs a v e room) (d : o.answer ≡ Done n) (rooms : ListRooms) (h : Enough rooms ns ss ds cs) where
  abbrev Back : FileOutcome
  Back = record {
    read = reading.leaves (done (length ns) (points_of ns) a) (padded rooms.counts 0 ns) (padded rooms.starts zero_f32 ss) (padded rooms.deltas (pos 0) ds) (padded rooms.coefficients (pos 0) cs);
    edition = e;
  }

  pub written_then_read : (q : FileOutcome) → q ≡ read_file_of rooms (take n o.list) → q ≡ Back
  written_then_read q r = let k = written_holds ns ss ds cs a v e room o n p d in r ∙ go k.header k.holds
    where
      go : (l : ℕ) → Holds v e l → read_file_of rooms (take n o.list) ≡ Back
      go l (told.Holds.first x y) =
          let p' : o ≡ write_trace_of ns ss ds cs a room = (rw (x, y) at p) ∙ write_as_before ns ss ds cs a room in
          let t = file_then_read ns ss ds cs a room o n nn f nc na p' d rooms h (read_trace_of rooms (take n o.list)) refl in
          other_as_before rooms (take n o.list) (says_one rooms (take n o.list) _ _ a (ap (λ (u : ReadOutcome). u.answer) t)) ∙ rw (t, y)
      go l (told.Holds.second x y) =
          let w = done_second ns ss ds cs a e room o n (rw x at p) d in
          let file = file_of version2 (e ∷ []) (described a (map whole_of ss) ns ds cs) in
          let is : take n o.list ≡ file = ap (take n) w.is ∙ take_at file (replicate (room - n) 0) n (sym w.size) in
          let back = starts_back _ ss f (judged 9 ns ss ds cs (fine ns ss ds cs a e w.fine)).fit in
          let z : read_file_of rooms (take n o.list) ≡ record { read = reading.outcome rooms (got (described a (map whole_of ss) ns ds cs) []); edition = e }
          = rw is (second_read ns ss ds cs a e w.fine nn nc na rooms h) in
          z ∙ rw back

-- what is written at version 2 is HEADER to a reader of version 1
pub written_older : (ns : List ℕ) (ss : List Float) (ds cs : List ℤ) (a : ℤ) (e room : ℕ) (o : WriteOutcome) (n : ℕ) → o ≡ write_file_of ns ss ds cs a 2 e room → o.answer ≡ Done n
    → (rooms : ListRooms) → read_trace_of rooms (take n o.list) ≡ reading.outcome rooms (stop Header 0)
written_older ns ss ds cs a e room o n p d rooms =
    let w = done_second ns ss ds cs a e room o n p d in
    let file = file_of version2 (e ∷ []) (described a (map whole_of ss) ns ds cs) in
    let is : take n o.list ≡ file = ap (take n) w.is ∙ take_at file (replicate (room - n) 0) n (sym w.size) in
    let z = second_size ns ss ds cs a e w.fine in
    rw is (older_header rooms file (omega arith) (says_two ns ss ds cs a e))

-- ---- what is read is written

-- a description that was judged for version 2, with its edition
second_checked : (e : ℕ) (ns : List ℕ) (ss : List Float) (ds cs : List ℤ) → Known e → first_fault (write_checks 9 ns ss ds cs) ≡ Fine → first_fault (write_checks2 2 e ns ss ds cs) ≡ Fine
unfolding write_checks2 write_checks
second_checked e ns ss ds cs k f =
    let a = passed _ Shape 0 _ f in
    passes _ Shape 0 _ a.0 ∙ passes _ Edition 32 _ (sym (barred_other 2 e (known_told e k) (λ t. omega (arith, t)))) ∙ passes _ Header 0 _ (sym (two_known 2 refl)) ∙ a.1

-- what a call that reads leaves where nothing was found
pub read_so : (rooms : ListRooms) (bytes : List ℕ) → first_fault (whole_checks2 rooms bytes) ≡ Fine
    → read_file_of rooms bytes ≡ record { read = reading.outcome rooms (got (described_in (header_long (number bytes 0)) (numbers_in bytes)) []); edition = edition_in (numbers_in bytes) }
unfolding read_file_of described_in
read_so rooms bytes f = rw (judged_fine rooms bytes f)

accepted_second : (e : ℕ) (ns : List ℕ) (ss : List Float) (ds cs : List ℤ) (a : ℤ) (room : ℕ) → first_fault (write_checks2 2 e ns ss ds cs) ≡ Fine → length (file_of version2 (e ∷ []) (described a (map whole_of ss) ns ds cs)) ≤ room
    → write_file_of ns ss ds cs a 2 e room
    ≡ leaves (Done (length (file_of version2 (e ∷ []) (described a (map whole_of ss) ns ds cs))))
    (file_of version2 (e ∷ []) (described a (map whole_of ss) ns ds cs) ++ replicate (room - length (file_of version2 (e ∷ []) (described a (map whole_of ss) ns ds cs))) 0)
unfolding write_file_of
accepted_second e ns ss ds cs a room f h =
    let z = second_size ns ss ds cs a e f in
    accepted_left (write_checks2 2 e ns ss ds cs) (file_of version2 (e ∷ []) (described a (map whole_of ss) ns ds cs)) (4 * numbers_of 9 (length ns) (points_of ns)) room f z (omega arith)

module _ (rooms : ListRooms) (bytes : List ℕ) (q : FileOutcome) (s p : ℕ) (a : ℤ) (b : Bytes bytes) (r : q ≡ read_file_of rooms bytes) (d : q.read.answer ≡ done s p a) (room : ℕ) (h : length bytes ≤ room) where
  abbrev Again : ℕ → WriteOutcome
  Again v = write_file_of (take s q.read.counts) (take (2 * s) q.read.starts) (take (2 * p) q.read.deltas) (take (128 * s) q.read.coefficients) a v q.edition room

  abbrev Same : WriteOutcome
  Same = leaves (Done (length bytes)) (bytes ++ replicate (room - length bytes) 0)

  nothing_found : first_fault (whole_checks2 rooms bytes) ≡ Fine
  nothing_found = done_fine rooms bytes s p a (sym (ap (λ (u : FileOutcome). u.read.answer) r) ∙ d)

  first_again : number bytes 0 ≡ 1 → Again 1 ≡ Same
  first_again v =
      let i : q ≡ with_edition 1 (read_trace_of rooms bytes) = r ∙ other_as_before rooms bytes (λ t. omega (arith, t, v)) in
      let x : q.read ≡ read_trace_of rooms bytes = ap (λ (u : FileOutcome). u.read) i in
      let f = read_so rooms bytes nothing_found in
      let y : q.edition ≡ 1 = ap (λ (u : FileOutcome). u.edition) (r ∙ f) ∙ rw v in
      rw y
      (write_as_before (take s q.read.counts) (take (2 * s) q.read.starts) (take (2 * p) q.read.deltas) (take (128 * s) q.read.coefficients) a room
      ∙ read_then_file rooms bytes q.read s p a b x d room h _ refl)

  second_again : 36 ≤ length bytes → number bytes 0 ≡ 2 → Known (number bytes 8) → FileFound version2 (number bytes 8 ∷ []) bytes (Says bytes 9 (number bytes 8)) (Editioned bytes 9 (number bytes 8)) → Again 2 ≡ Same
  second_again l v known-edition found =
      let e = number bytes 8 in
      let f = read_so rooms bytes nothing_found in
      let y : q.edition ≡ e = ap (λ (u : FileOutcome). u.edition) (r ∙ f) ∙ ninth_so (length bytes) (numbers_in bytes) (omega arith) v in
      let x : q.read ≡ reading.outcome rooms (got (described_in 9 (numbers_in bytes)) [])
      = ap (λ (u : FileOutcome). u.read) (r ∙ f) ∙ ap (λ (t : ℕ). reading.outcome rooms (got (described_in t (numbers_in bytes)) [])) (nine_so (length bytes) (numbers_in bytes) (omega arith) v) in
      let t = taken version2 (e ∷ []) bytes _ _ found b rooms q.read s p a x d in
      let g = second_checked e (ns_in 9 bytes) (map f32_of (zs_in 9 bytes)) (ds_in 9 bytes) (cs_in 9 bytes) known-edition (again_fine version2 (e ∷ []) bytes _ _ found b) in
      let file = t.file in
      let z = accepted_second e (ns_in 9 bytes) (map f32_of (zs_in 9 bytes)) (ds_in 9 bytes) (cs_in 9 bytes) a room g (omega (arith, ap length file)) in
      rw (y, t.counts, t.starts, t.deltas, t.coefficients) (z ∙ ap (λ (w : List ℕ). leaves (Done (length w)) (w ++ replicate (room - length w) 0)) file)

  -- the ninth number stands behind the eight
  ninth_front : 36 ≤ length bytes → drop 8 (numbers_in bytes) ≡ (number bytes 8 ∷ []) ++ drop 9 (numbers_in bytes)
  ninth_front l = drop-cons (numbers_in bytes) 8 0 (omega (arith, numbers_length bytes))

  pub read_then_written : (v : ℕ) → number bytes 0 ≡ v → (o : WriteOutcome) → o ≡ Again v → o ≡ Same
  unfolding whole_checks2
  read_then_written v is o w =
      let k = file_clean bytes (both_fine (file_checks (length bytes) (numbers_in bytes)) _ nothing_found).0 in
      w ∙ subst (λ (t : ℕ). Again t ≡ Same) is (go k.header k.edition k.says k.tamed)
    where
      go : (l e : ℕ) → Says bytes l e → TamedBy l (Editioned bytes l e) bytes → Again (number bytes 0) ≡ Same
      go l e (told.Says.first x y) t = rw y (first_again y)
      go l e (told.Says.second x y) t =
          let headed = t.placed.summed.laid in
          rw y (second_again x y headed.known (record { version = y; eight = omega arith; little = omega arith; front = ninth_front x; laid = headed.laid; tamed = t }))

-- ---- one file a version

-- two files of one version that are read as one description with one edition are the same bytes
pub same_file : (rooms : ListRooms) (bytes bytes' : List ℕ) (q : FileOutcome) (s p : ℕ) (a : ℤ) → Bytes bytes → Bytes bytes' → q ≡ read_file_of rooms bytes → q ≡ read_file_of rooms bytes'
    → q.read.answer ≡ done s p a → number bytes 0 ≡ number bytes' 0 → bytes ≡ bytes'
same_file rooms bytes bytes' q s p a b b' r r' d v =
    let room = length bytes + length bytes' in
    let o = write_file_of (take s q.read.counts) (take (2 * s) q.read.starts) (take (2 * p) q.read.deltas) (take (128 * s) q.read.coefficients) a (number bytes' 0) q.edition room in
    let x = read_then_written rooms bytes q s p a b r d room (omega arith) (number bytes' 0) v o refl in
    let y = read_then_written rooms bytes' q s p a b' r' d room (omega arith) (number bytes' 0) refl o refl in
    let z = sym x ∙ y in
    let w : Done (length bytes) ≡ Done (length bytes') = ap (λ (u : WriteOutcome). u.answer) z in
    let k : length bytes ≡ length bytes' = cc in
    same_front bytes bytes' _ _ k (ap (λ (u : WriteOutcome). u.list) z)

-- Assumes nothing.
