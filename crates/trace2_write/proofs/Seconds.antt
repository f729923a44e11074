-- Laws of writing a file of version 2: the checks one after the other, and what is left.
use mathlib.Core.Path.{◌≡◌, refl, sym, ap, subst, ◌∙◌}
use mathlib.Core.Bool.{Bool, true, false, ◌&&◌}
use mathlib.Core.Logic.{◌⊎◌, inl, inr}
use mathlib.Core.List.{List, [], ◌∷◌, ◌++◌, map}
use Prim.Native.Nat.{ℕ, ◌*◌}
use lib.Dec.{T, eqb, ltb}
use lib.ListN.{length}
use lib.IntN.{ℤ}
use lib.Ieee.{Float}
use borrow.Author.Tests.{eq-eqb, ne_eqb, eqb-true}
use Rattle.codes.specs.declared.Code.TheVariants.{Room, Shape, Header, Edition}
use Rattle.shape.specs.Shape.{points_of}
use Rattle.shape.specs.Description.{Description, shaped_of}
use Rattle.list.specs.List.{described}
use Rattle.writer.specs.Write.{Check, check, first_fault, misshapen, whole_of, WriteOutcome, outcome}
use Rattle.write_judge.specs.Verdict.{Verdict, Fine, Fault}
use Rattle.write_judge.proofs.Checks.{fails, passes, passed, faults_before}
use Rattle.trace.specs.Trace.{Layout, numbers_of, file_of}
use Rattle.trace.specs.Write.{header_checks, value_checks, write_checks, checks_in, write_trace_in}
use Rattle.trace_write.specs.Steps.{layout_with, written_by}
use Rattle.trace2.specs.Editions.{unknown, layout_of, more_of, header_long}
use Rattle.trace2.specs.Write.{barred, write_checks2, write_file_of}
use Rattle.trace2.proofs.Editions.{known_is, free_first, nine}
use Rattle.trace2.proofs.Versions.{write_as_before}
use Rattle.trace2_write.specs.Steps.{plain, file_checks_in, write_file_in}

-- ---- version 1 with edition 1

pub plain_one : (v e : ℕ) → v ≡ 1 → eqb e 1 ≡ plain v e
unfolding plain
plain_one v e h = rw (eq-eqb v 1 h)

pub plain_not : (v e : ℕ) → (v ≡ 1 → ⊥) → false ≡ plain v e
unfolding plain
plain_not v e h = rw (ne_eqb v 1 h)

pub plain_is : (v e : ℕ) → plain v e ≡ true → (v ≡ 1) × (e ≡ 1)
unfolding plain
plain_is v e h = go (eqb v 1) (eqb e 1) refl refl h
  where
    go : (a b : Bool) → eqb v 1 ≡ a → eqb e 1 ≡ b → (a && b) ≡ true → (v ≡ 1) × (e ≡ 1)
    go true true x y h = (eqb-true v 1 x, eqb-true e 1 y)
    go true false x y h = absurd (subst T (sym h) tt)
    go false b x y h = absurd (subst T (sym h) tt)

pub is_plain : (v e : ℕ) → v ≡ 1 → e ≡ 1 → plain v e ≡ true
is_plain v e h g = sym (plain_one v e h) ∙ eq-eqb e 1 g

-- what `trace_write` leaves
pub plain_written : (d : Description) (a : ℤ) (v e room : ℕ) → plain v e ≡ true → write_trace_in d a room ≡ write_file_in d a v e room
plain_written d a v e room h = let k = plain_is v e h in rw (k.0, k.1) (sym (write_as_before d.counts d.starts d.deltas d.coefficients a room))

-- ---- the checks one after the other

module _ (v e : ℕ) (d : Description) where
  abbrev Checks : List Check
  Checks = file_checks_in v e d

  pub file_shape : shaped_of d ≡ false → Fault Shape 0 ≡ first_fault Checks
  unfolding write_checks2 misshapen
  file_shape h = sym (fails _ Shape 0 _ (rw h))

  module _ (good : shaped_of d ≡ true) where
    pub file_edition : barred v e ≡ true → Fault Edition 32 ≡ first_fault Checks
    unfolding write_checks2 misshapen
    file_edition h = sym (passes _ Shape 0 _ (rw good) ∙ fails _ Edition 32 _ h)

    module _ (free : barred v e ≡ false) where
      pub file_version : unknown v ≡ true → Fault Header 0 ≡ first_fault Checks
      unfolding write_checks2 misshapen
      file_version h = sym (passes _ Shape 0 _ (rw good) ∙ passes _ Edition 32 _ free ∙ fails _ Header 0 _ h)

      pub file_rest : unknown v ≡ false → (h : ℕ) → h ≡ header_long v → first_fault (checks_in h d) ≡ first_fault Checks
      unfolding write_checks2 write_checks misshapen
      file_rest known h is = rw is (passes _ Shape 0 _ (rw good) ∙ sym (passes _ Shape 0 _ (rw good) ∙ passes _ Edition 32 _ free ∙ passes _ Header 0 _ known))

module _ (v e : ℕ) (ns : List ℕ) (ss : List Float) (ds cs : List ℤ) where
  -- nothing was found: the version is 1 with edition 1, or 2
  pub found_none : first_fault (write_checks2 v e ns ss ds cs) ≡ Fine → (unknown v ≡ false) × (barred v e ≡ false) × (first_fault (write_checks (header_long v) ns ss ds cs) ≡ Fine)
  unfolding write_checks2 write_checks
  found_none f =
      let a = passed _ Shape 0 _ f in
      let b = passed _ Edition 32 _ a.1 in
      let d = passed _ Header 0 _ b.1 in
      (d.0, b.0, passes (misshapen ns ss ds cs) Shape 0 (header_checks (header_long v) (length ns) (points_of ns) ++ value_checks (header_long v) (length ns) ss ds) a.0 ∙ d.1)

  module _ (other : plain v e ≡ false) (fine : first_fault (write_checks2 v e ns ss ds cs) ≡ Fine) where
    pub is_second : v ≡ 2
    is_second = go (known_is v (found_none fine).0)
      where
        go : (v ≡ 1) ⊎ (v ≡ 2) → v ≡ 2
        go (inr h) = h
        go (inl h) = absurd (subst T (sym (is_plain v e h (free_first v e (found_none fine).1 h)) ∙ other) tt)

    pub checked_second : first_fault (write_checks 9 ns ss ds cs) ≡ Fine
    checked_second = rw (nine v is_second) at (found_none fine).2

-- ---- what is left: a refusal is the same in every version, and what is not refused is of version 2

module _ (d : Description) (a : ℤ) (v e room : ℕ) (other : plain v e ≡ false) where
  abbrev Left : WriteOutcome
  Left = written_by (file_checks_in v e d) 2 (e ∷ []) d a room

  -- the check of the room, and the file
  abbrev Last : ℕ → List Check
  Last h = check (ltb room (4 * numbers_of h (length d.counts) (points_of d.counts))) Room 0 ∷ []

  abbrev Written : Layout → List ℕ → List ℕ
  Written l more = file_of l more (described a (map whole_of d.starts) d.counts d.deltas d.coefficients)

  pub left_alike : Left ≡ write_file_in d a v e room
  unfolding write_file_of
  left_alike = go (first_fault (file_checks_in v e d)) refl
    where
      go : (f : Verdict) → first_fault (file_checks_in v e d) ≡ f → Left ≡ write_file_in d a v e room
      go Fine f = rw (is_second v e d.counts d.starts d.deltas d.coefficients other f)
      go (Fault c p) f =
          ap (outcome room (Written (layout_with 2 (e ∷ [])) (e ∷ []))) (faults_before (file_checks_in v e d) (Last 9) c p f)
          ∙ sym (ap (outcome room (Written (layout_of v) (more_of v e))) (faults_before (file_checks_in v e d) (Last (header_long v)) c p f))

-- Assumes nothing.
