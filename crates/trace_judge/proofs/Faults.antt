-- Laws of judging a file: the checks one after the other.
use mathlib.Core.Path.{◌≡◌, refl, sym, ◌∙◌}
use mathlib.Core.Bool.{Bool, true, false, not}
use mathlib.Core.List.{List, [], ◌∷◌, ◌++◌}
use Prim.Native.Nat.{ℕ, ◌*◌, ◌≤◌, ◌<◌}
use native.Mathlib.Omega.{arith}
use lib.Dec.{eqb, ltb}
use lib.ListN.{get_or}
use borrow.Author.Tests.{lt-ltb, le-ltb, ltb-false}
use Rattle.codes.specs.declared.Code.{Code}
use Rattle.codes.specs.declared.Code.TheVariants.{Short, Trail, Header}
use Rattle.writer.specs.Write.{Check, check, first_fault}
use Rattle.write_judge.specs.Verdict.{Fine, Fault}
use Rattle.write_judge.proofs.Checks.{fails, passes, faults_before, fine_before}
use Rattle.trace.specs.Trace.{version1, starts_from, deltas_from, coefficients_from, numbers_of}
use Rattle.trace.specs.Read.{splines_in, points_in, version_checks, offset_checks, length_checks, part_checks, body_checks, read_checks}
pub use Rattle.trace_parts.proofs.Parts.{held_length, parts_shape, parts_start, parts_rest}

module _ (h : ℕ) (ns : List ℕ) (s p : ℕ) (is : s ≡ splines_in ns) (ip : p ≡ points_in ns) where
  abbrev Wrong : ℕ → ℕ → Bool
  Wrong i due = not (eqb (get_or ns i 0) due)

  pub offset_16 : Wrong 4 (4 * h) ≡ true → Fault Header 16 ≡ first_fault (offset_checks h ns)
  unfolding offset_checks
  offset_16 e = sym (fails _ Header 16 _ e)

  module _ (a : Wrong 4 (4 * h) ≡ false) where
    pub offset_20 : Wrong 5 (4 * starts_from h s) ≡ true → Fault Header 20 ≡ first_fault (offset_checks h ns)
    unfolding offset_checks
    offset_20 e = rw (← is) (sym (passes _ Header 16 _ a ∙ fails _ Header 20 _ e))

    module _ (b : Wrong 5 (4 * starts_from h s) ≡ false) where
      pub offset_24 : Wrong 6 (4 * deltas_from h s) ≡ true → Fault Header 24 ≡ first_fault (offset_checks h ns)
      unfolding offset_checks
      offset_24 e = rw (← is) (sym (passes _ Header 16 _ a ∙ passes _ Header 20 _ b ∙ fails _ Header 24 _ e))

      module _ (c : Wrong 6 (4 * deltas_from h s) ≡ false) where
        pub offset_28 : Wrong 7 (4 * coefficients_from h s p) ≡ true → Fault Header 28 ≡ first_fault (offset_checks h ns)
        unfolding offset_checks
        offset_28 e = rw (← is, ← ip) (sym (passes _ Header 16 _ a ∙ passes _ Header 20 _ b ∙ passes _ Header 24 _ c ∙ fails _ Header 28 _ e))

        pub offsets_fine : Wrong 7 (4 * coefficients_from h s p) ≡ false → Fine ≡ first_fault (offset_checks h ns)
        unfolding offset_checks first_fault
        offsets_fine e = rw (← is, ← ip, a, b, c, e)

module _ (size due : ℕ) where
  pub length_short : size < due → Fault Short size ≡ first_fault (length_checks size due)
  unfolding length_checks
  length_short e = sym (fails _ Short size _ (lt-ltb size due e))

  pub length_trail : due ≤ size → due < size → Fault Trail due ≡ first_fault (length_checks size due)
  unfolding length_checks
  length_trail h e = sym (passes _ Short size _ (le-ltb size due h) ∙ fails _ Trail due _ (lt-ltb due size e))

  pub length_fine : due ≤ size → size ≤ due → Fine ≡ first_fault (length_checks size due)
  unfolding length_checks first_fault
  length_fine h e = rw (le-ltb size due h, le-ltb due size e)

  -- no fault of the length: it is the one that is due
  pub length_due : first_fault (length_checks size due) ≡ Fine → size ≡ due
  unfolding length_checks first_fault
  length_due e = go (ltb size due) (ltb due size) refl refl e
    where
      go : (a b : Bool) → ltb size due ≡ a → ltb due size ≡ b → first_fault (check a Short size ∷ check b Trail due ∷ []) ≡ Fine → size ≡ due
      go true b x y e = let z : ◌≡◌ {A = ℕ} 0 1 = cc in absurd (omega arith)
      go false true x y e = let z : ◌≡◌ {A = ℕ} 0 1 = cc in absurd (omega arith)
      go false false x y e = omega (arith, ltb-false size due x, ltb-false due size y)

module _ (h size : ℕ) (ns : List ℕ) (s p : ℕ) (is : s ≡ splines_in ns) (ip : p ≡ points_in ns) where
  abbrev Lengths : List Check
  Lengths = length_checks size (4 * numbers_of h s p)

  pub body_length : (c : Code) (q : ℕ) → first_fault Lengths ≡ Fault c q → Fault c q ≡ first_fault (body_checks h size ns)
  unfolding body_checks
  body_length c q e = rw (← is, ← ip) (sym (faults_before Lengths _ c q e))

  pub body_rest : first_fault Lengths ≡ Fine → first_fault (part_checks h s p ns) ≡ first_fault (body_checks h size ns)
  unfolding body_checks
  body_rest e = rw (← is, ← ip) (sym (fine_before Lengths _ e))

module _ (size : ℕ) (ns : List ℕ) where
  pub judge_short : size < 32 → Fault Short size ≡ first_fault (read_checks version1 size ns)
  unfolding read_checks version_checks
  judge_short h = sym (fails _ Short size _ (lt-ltb size 32 h))

  module _ (long : 32 ≤ size) where
    pub judge_version : not (eqb (get_or ns 0 0) 1) ≡ true → Fault Header 0 ≡ first_fault (read_checks version1 size ns)
    unfolding read_checks version_checks
    judge_version e = sym (passes _ Short size _ (le-ltb size 32 long) ∙ fails _ Header 0 _ e)

    module _ (known : not (eqb (get_or ns 0 0) 1) ≡ false) where
      after : first_fault (read_checks version1 size ns) ≡ first_fault (offset_checks 8 ns ++ body_checks 8 size ns)
      unfolding read_checks version_checks
      after = passes _ Short size _ (le-ltb size 32 long) ∙ passes _ Header 0 _ known

      pub judge_offset : (c : Code) (q : ℕ) → first_fault (offset_checks 8 ns) ≡ Fault c q → Fault c q ≡ first_fault (read_checks version1 size ns)
      judge_offset c q e = sym (after ∙ faults_before (offset_checks 8 ns) _ c q e)

      pub judge_body : first_fault (offset_checks 8 ns) ≡ Fine → first_fault (body_checks 8 size ns) ≡ first_fault (read_checks version1 size ns)
      judge_body e = sym (after ∙ fine_before (offset_checks 8 ns) _ e)

-- Assumes nothing.
