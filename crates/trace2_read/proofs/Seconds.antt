-- Laws of reading a file of version 2: the numbers of its header, and the whole.
use mathlib.Core.Path.{◌≡◌, refl, sym, ap, subst, ◌∙◌}
use mathlib.Core.Bool.{Bool, true, false, not, ◌&&◌}
use mathlib.Core.List.{List, [], ◌∷◌}
use Prim.Native.Nat.{ℕ, ◌≤◌, ◌<◌}
use native.Mathlib.Omega.{arith}
use lib.Dec.{T, eqb, ltb}
use lib.ListN.{length, get_or, get_or-eq_default}
use lib.IntN.{ℤ}
use lib.Ieee.{Float}
use borrow.Author.Tests.{lt-ltb, le-ltb, ltb-true, ltb-false, eqb-true, eqb-false}
use Rattle.codes.specs.declared.Code.TheVariants.{Room}
use Rattle.list.specs.List.{ListRooms}
use Rattle.reader.specs.Read.{ReadOutcome, leaves, outcome}
use Rattle.read_list.specs.Answer.{ReadAnswer}
use Rattle.writer.specs.Write.{Check, check, first_fault}
use Rattle.little.specs.Little.{numbers_in}
use Rattle.little.proofs.Little.{numbers_length}
use Rattle.trace.specs.Read.{splines_in, points_in, tight, described_in, judged, read_trace_of}
use Rattle.trace_read.specs.Steps.{read_by}
use Rattle.trace2.specs.Read.{laid_checks, file_checks, whole_checks2, read_file, answer_of, edition_of, file_leaves, edition_told, FileAnswer, with_edition, read_file_of}
use Rattle.trace2.proofs.Versions.{alike_before, second_alike, nine_so, ninth_so, other_as_before, short_as_before}
use Rattle.trace2_judge.specs.Steps.{Second}
use Rattle.trace2_read.specs.Steps.{second}

-- ---- the numbers of the header

pub none_said : (bytes : List ℕ) → length bytes < 32 → false ≡ second bytes
none_said bytes h = rw (lt-ltb (length bytes) 32 h)

pub two_said : (bytes : List ℕ) → 32 ≤ length bytes → eqb (get_or (numbers_in bytes) 0 0) 2 ≡ second bytes
two_said bytes h = rw (le-ltb (length bytes) 32 h)

-- fewer than 36 bytes have no ninth number
pub no_ninth : (bytes : List ℕ) → length bytes < 36 → 0 ≡ get_or (numbers_in bytes) 8 0
no_ninth bytes h = sym (get_or-eq_default (numbers_in bytes) 0 (omega (arith, numbers_length bytes)))

pub second_is : (bytes : List ℕ) → second bytes ≡ true → Second bytes
second_is bytes e = go (ltb (length bytes) 32) (eqb (get_or (numbers_in bytes) 0 0) 2) refl refl e
  where
    go : (a b : Bool) → ltb (length bytes) 32 ≡ a → eqb (get_or (numbers_in bytes) 0 0) 2 ≡ b → (not a && b) ≡ true → Second bytes
    go true b x y e = absurd (subst T (sym e) tt)
    go false false x y e = absurd (subst T (sym e) tt)
    go false true x y e = record { long = ltb-false (length bytes) 32 x; two = eqb-true (get_or (numbers_in bytes) 0 0) 2 y }

-- ---- the whole file

module _ (rooms : ListRooms) (bytes : List ℕ) (said : Second bytes) where
  abbrev N : List ℕ
  N = numbers_in bytes

  abbrev Content : List Check
  Content = laid_checks 9 (get_or N 8 0) (length bytes) N

  whole_is : first_fault Content ≡ first_fault (file_checks (length bytes) N)
  whole_is = sym (second_alike (length bytes) N said.long said.two)

  -- the file is as its content says behind nine numbers
  pub read_alike : read_by Content 9 rooms bytes ≡ read_file rooms bytes
  unfolding read_file whole_checks2
  read_alike =
      ap (judged (described_in 9 N)) (alike_before Content (file_checks (length bytes) N) (check (tight rooms (splines_in N) (points_in N)) Room 0 ∷ []) whole_is)
      ∙ ap (λ (h : ℕ). judged (described_in h N) (first_fault (whole_checks2 rooms bytes))) (sym (nine_so (length bytes) N said.long said.two))

-- ---- with the edition

module _ (rooms : ListRooms) (bytes : List ℕ) (r : FileAnswer) (x : ReadAnswer) (e : ℕ) (n : List ℕ) (s : List Float) (d c : List ℤ) (a : answer_of r ≡ x) (b : edition_of r ≡ edition_told x e) where
  told_so : (o : ReadOutcome) → leaves x n s d c ≡ o → file_leaves r n s d c ≡ with_edition e o
  told_so o p = rw (← p, a, b)

  -- version 2 tells its ninth number
  pub second_told : second bytes ≡ true → e ≡ get_or (numbers_in bytes) 8 0 → leaves x n s d c ≡ outcome rooms (read_file rooms bytes) → file_leaves r n s d c ≡ read_file_of rooms bytes
  unfolding read_file_of
  second_told t i p =
      let k = second_is bytes t in
      told_so (outcome rooms (read_file rooms bytes)) p ∙ rw (i, ninth_so (length bytes) (numbers_in bytes) k.long k.two)

  -- any other tells 1
  pub other_told : second bytes ≡ false → e ≡ 1 → leaves x n s d c ≡ read_trace_of rooms bytes → file_leaves r n s d c ≡ read_file_of rooms bytes
  other_told t i p = told_so (read_trace_of rooms bytes) p ∙ rw i (go (ltb (length bytes) 32) (eqb (get_or (numbers_in bytes) 0 0) 2) refl refl t)
    where
      go : (a b : Bool) → ltb (length bytes) 32 ≡ a → eqb (get_or (numbers_in bytes) 0 0) 2 ≡ b → (not a && b) ≡ false → with_edition 1 (read_trace_of rooms bytes) ≡ read_file_of rooms bytes
      go true b x y t = sym (short_as_before rooms bytes (ltb-true (length bytes) 32 x))
      go false true x y t = absurd (subst T t tt)
      go false false x y t = sym (other_as_before rooms bytes (eqb-false (get_or (numbers_in bytes) 0 0) 2 y))

-- Assumes nothing.
