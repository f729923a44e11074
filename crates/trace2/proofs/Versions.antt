-- A file that does not say version 2 is read as `trace_read` reads it, with edition 1; one that does has a header of nine numbers. Writing version 1 with edition 1 is `trace_write`.
use mathlib.Core.Path.{◌≡◌, refl, sym, ap, ◌∙◌}
use mathlib.Core.Bool.{Bool, true, false, not}
use mathlib.Core.List.{List, [], ◌∷◌, ◌++◌, map}
use Prim.Native.Nat.{ℕ, ◌*◌, ◌≤◌, ◌<◌}
use lib.Dec.{eqb, ltb}
use lib.ListN.{length, get_or}
use lib.IntN.{ℤ}
use lib.Ieee.{Float}
use borrow.Author.Tests.{lt-ltb, le-ltb, eq-eqb, ne_eqb, eqb-true, eqb-false}
use Rattle.codes.specs.declared.Code.{Code}
use Rattle.codes.specs.declared.Code.TheVariants.{Short, Room, Shape, Header, Edition}
use Rattle.shape.specs.Shape.{points_of}
use Rattle.list.specs.List.{ListRooms, described}
use Rattle.writer.specs.Write.{Check, check, first_fault, misshapen, whole_of, WriteOutcome}
use Rattle.writer.specs.Write as writing
use Rattle.write_judge.specs.Verdict.{Verdict}
use Rattle.write_judge.specs.Verdict.{Fine, Fault}
use Rattle.write_judge.proofs.Checks.{fails, passes, faults_before, fine_before}
use Rattle.little.specs.Little.{numbers_in}
use Rattle.trace.specs.Trace.{version1, numbers_of, file_of}
use Rattle.trace.specs.Read.{splines_in, points_in, version_checks, offset_checks, body_checks, read_checks, tight, whole_checks, read_trace, read_trace_of}
use Rattle.trace.specs.Write.{header_checks, value_checks, write_checks, write_trace_of}
use Rattle.trace2.specs.Editions.{unknown, header_long, edition_in}
use Rattle.trace2.specs.Read.{laid_checks, file_checks, whole_checks2, read_file, with_edition, read_file_of}
use Rattle.trace2.specs.Write.{barred, write_checks2, write_file_of}
use Rattle.trace2.proofs.Editions.{one_known, two_known, neither_known, barred_first}

-- ---- checks among others

-- a check that passes says nothing between others
pub passes_between : (xs : List Check) (b : Bool) (c : Code) (p : ℕ) (ys : List Check) → b ≡ false → first_fault (xs ++ (check b c p ∷ ys)) ≡ first_fault (xs ++ ys)
passes_between xs b c p ys e = go (first_fault xs) refl
  where
    go : (v : Verdict) → first_fault xs ≡ v → first_fault (xs ++ (check b c p ∷ ys)) ≡ first_fault (xs ++ ys)
    go Fine f = fine_before xs (check b c p ∷ ys) f ∙ passes b c p ys e ∙ sym (fine_before xs ys f)
    go (Fault d q) f = faults_before xs (check b c p ∷ ys) d q f ∙ sym (faults_before xs ys d q f)

-- checks that find the same find the same before others
pub alike_before : (xs ys zs : List Check) → first_fault xs ≡ first_fault ys → first_fault (xs ++ zs) ≡ first_fault (ys ++ zs)
alike_before xs ys zs e = go (first_fault ys) refl
  where
    go : (v : Verdict) → first_fault ys ≡ v → first_fault (xs ++ zs) ≡ first_fault (ys ++ zs)
    go Fine f = fine_before xs zs (e ∙ f) ∙ sym (fine_before ys zs f)
    go (Fault d q) f = faults_before xs zs d q (e ∙ f) ∙ sym (faults_before ys zs d q f)

-- ---- a file that does not say version 2

module _ (size : ℕ) (ns : List ℕ) (other : get_or ns 0 0 ≡ 2 → ⊥) where
  -- its header has eight numbers, and its edition is 1
  eight_so : header_long (get_or ns 0 0) ≡ 8
  eight_so = rw (ne_eqb (get_or ns 0 0) 2 other)

  one_so : edition_in ns ≡ 1
  one_so = rw (ne_eqb (get_or ns 0 0) 2 other)

  pub first_alike : first_fault (file_checks size ns) ≡ first_fault (read_checks version1 size ns)
  unfolding file_checks read_checks version_checks laid_checks
  first_alike = rw (eight_so, one_so) (go (ltb size 32) (eqb (get_or ns 0 0) 1) refl refl)
    where
      go : (a b : Bool) → ltb size 32 ≡ a → eqb (get_or ns 0 0) 1 ≡ b
          → first_fault (check (ltb size 32) Short size ∷ check (unknown (get_or ns 0 0)) Header 0 ∷ check (ltb size 32) Short size ∷ offset_checks 8 ns ++ (check (unknown 1) Edition 32 ∷ body_checks 8 size ns))
          ≡ first_fault (check (ltb size 32) Short size ∷ check (not (eqb (get_or ns 0 0) 1)) Header 0 ∷ offset_checks 8 ns ++ body_checks 8 size ns)
      go true b x y = fails _ Short size _ x ∙ sym (fails _ Short size _ x)
      go false true x y =
          passes _ Short size _ x ∙ passes _ Header 0 _ (sym (one_known (get_or ns 0 0) (eqb-true (get_or ns 0 0) 1 y))) ∙ passes _ Short size _ x
          ∙ passes_between (offset_checks 8 ns) (unknown 1) Edition 32 (body_checks 8 size ns) (sym (one_known 1 refl))
          ∙ sym (passes _ Short size _ x ∙ passes _ Header 0 _ (rw y))
      go false false x y =
          passes _ Short size _ x ∙ fails _ Header 0 _ (neither_known (get_or ns 0 0) (eqb-false (get_or ns 0 0) 1 y) other)
          ∙ sym (passes _ Short size _ x ∙ fails _ Header 0 _ (rw y))

-- below 32 bytes there is no version
pub short_alike : (size : ℕ) (ns : List ℕ) → size < 32 → first_fault (file_checks size ns) ≡ Fault Short size
unfolding file_checks
short_alike size ns h = fails _ Short size _ (lt-ltb size 32 h)

pub short_before : (size : ℕ) (ns : List ℕ) → size < 32 → first_fault (read_checks version1 size ns) ≡ Fault Short size
unfolding read_checks version_checks
short_before size ns h = fails _ Short size _ (lt-ltb size 32 h)

module _ (rooms : ListRooms) (bytes : List ℕ) where
  abbrev N : List ℕ
  N = numbers_in bytes

  abbrev Last : List Check
  Last = check (tight rooms (splines_in N) (points_in N)) Room 0 ∷ []

  pub other_as_before : (get_or N 0 0 ≡ 2 → ⊥) → read_file_of rooms bytes ≡ with_edition 1 (read_trace_of rooms bytes)
  unfolding read_file_of read_file read_trace_of read_trace whole_checks2 whole_checks
  other_as_before other =
      rw (eight_so (length bytes) N other, one_so (length bytes) N other, alike_before (file_checks (length bytes) N) (read_checks version1 (length bytes) N) Last (first_alike (length bytes) N other))

  pub short_as_before : length bytes < 32 → read_file_of rooms bytes ≡ with_edition 1 (read_trace_of rooms bytes)
  unfolding read_file_of read_file read_trace_of read_trace whole_checks2 whole_checks
  short_as_before h =
      rw (faults_before (file_checks (length bytes) N) Last Short (length bytes) (short_alike (length bytes) N h), faults_before (read_checks version1 (length bytes) N) Last Short (length bytes) (short_before (length bytes) N h))

-- ---- a file that does

module _ (size : ℕ) (ns : List ℕ) (long : 32 ≤ size) (two : get_or ns 0 0 ≡ 2) where
  pub nine_so : header_long (get_or ns 0 0) ≡ 9
  nine_so = rw (eq-eqb (get_or ns 0 0) 2 two)

  pub ninth_so : edition_in ns ≡ get_or ns 8 0
  ninth_so = rw (eq-eqb (get_or ns 0 0) 2 two)

  pub second_alike : first_fault (file_checks size ns) ≡ first_fault (laid_checks 9 (get_or ns 8 0) size ns)
  unfolding file_checks
  second_alike = rw (nine_so, ninth_so) (passes _ Short size _ (le-ltb size 32 long) ∙ passes _ Header 0 _ (sym (two_known (get_or ns 0 0) two)))

-- ---- writing version 1 with edition 1

module _ (ns : List ℕ) (ss : List Float) (ds cs : List ℤ) where
  first_written : first_fault (write_checks2 1 1 ns ss ds cs) ≡ first_fault (write_checks 8 ns ss ds cs)
  unfolding write_checks2 write_checks
  first_written = go (misshapen ns ss ds cs) refl
    where
      go : (b : Bool) → misshapen ns ss ds cs ≡ b
          → first_fault (check (misshapen ns ss ds cs) Shape 0 ∷ check (barred 1 1) Edition 32 ∷ check (unknown 1) Header 0 ∷ header_checks 8 (length ns) (points_of ns) ++ value_checks 8 (length ns) ss ds)
          ≡ first_fault (check (misshapen ns ss ds cs) Shape 0 ∷ header_checks 8 (length ns) (points_of ns) ++ value_checks 8 (length ns) ss ds)
      go true x = fails _ Shape 0 _ x ∙ sym (fails _ Shape 0 _ x)
      go false x =
          passes _ Shape 0 _ x ∙ passes _ Edition 32 _ (sym (barred_first 1 1 (sym (one_known 1 refl)) refl)) ∙ passes _ Header 0 _ (sym (one_known 1 refl))
          ∙ sym (passes _ Shape 0 _ x)

  pub write_as_before : (a : ℤ) (room : ℕ) → write_file_of ns ss ds cs a 1 1 room ≡ write_trace_of ns ss ds cs a room
  unfolding write_file_of write_trace_of
  write_as_before a room =
      ap (writing.outcome room (file_of version1 [] (described a (map whole_of ss) ns ds cs)))
      (alike_before (write_checks2 1 1 ns ss ds cs) (write_checks 8 ns ss ds cs) (check (ltb room (4 * numbers_of 8 (length ns) (points_of ns))) Room 0 ∷ []) first_written)

-- Assumes nothing.
