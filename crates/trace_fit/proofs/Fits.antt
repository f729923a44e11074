-- Laws of judging a description: starts of the file against those of the list, and the checks one after the other.
use mathlib.Core.Path.{◌≡◌, refl, sym, ap, subst, ◌∙◌}
use mathlib.Core.Bool.{Bool, true, false, not, cond, ◌||◌, ◌&&◌, beq}
use mathlib.Core.List.{List, [], ◌∷◌, ◌++◌}
use Prim.Native.Nat.{ℕ, zero, suc, ◌*◌, ◌/◌, ◌%◌, ◌^◌, ◌≤◌, ◌<◌}
use native.Mathlib.Nat.{mul-mod_left, mul-one}
use native.Mathlib.Omega.{arith}
use lib.Dec.{T, eqb, ltb, leb}
use lib.ListN.{length}
use lib.IntN.{ℤ, pos}
use lib.Ieee.{Float, nan, inf, fin, up, down, eq}
use lib.Ieee.Fits.{down_pos}
use lib.Arith.{lt_of_le-ne}
use borrow.Author.Tests.{le-ltb, lt-leb, le-leb, ltb-true, ltb-false, leb-false, eq-eqb, ne_eqb, eqb-true, eqb-false}
use Rattle.codes.specs.declared.Code.{Code}
use Rattle.codes.specs.declared.Code.TheVariants.{Coord, Delta, Shape, Header}
use Rattle.shape.specs.Shape.{points_of, shaped}
use Rattle.shape.proofs.Shape.{shaped_is}
use Rattle.list.specs.List.{pos_limit}
use Rattle.writer.specs.Write.{Check, check, first_fault, misshapen, unfit}
use Rattle.write_judge.specs.Verdict.{Fine, Fault}
use Rattle.write_judge.proofs.Checks.{fails, passes, passed, faults_before, fine_before}
use Rattle.trace.specs.Trace.{starts_from, deltas_from, coefficients_from, wild, number_checks}
use Rattle.trace.specs.Write.{misfit, unheld, header_checks, value_checks, write_checks}

-- ---- starts

-- both of two tests, and one of two
both : (a b : Bool) → (a && b) ≡ true → (a ≡ true) × (b ≡ true)
both true b e = (refl, e)
both false b e = absurd (subst T (sym e) tt)

-- -2^23 itself
pub start_least : (x : Float) → eq x (fin true 1 (pos 23)) ≡ true → false ≡ misfit x
unfolding eq misfit
start_least nan e = absurd (subst T (sym e) tt)
start_least (inf s) e = absurd (subst T (sym e) tt)
start_least (fin s m e) h =
    let b = both (eqb (m * up e * 1) (8388608 * down e)) (beq s true || eqb (m * up e * 1) 0) h in
    let is : m * up e ≡ 2 ^ 23 * down e = sym (mul-one (m * up e)) ∙ eqb-true (m * up e * 1) (8388608 * down e) b.0 in
    let k = down_pos e in
    let some : 0 < m * up e = omega arith in
    let r : m * up e % down e ≡ 0 = ap (λ (u : ℕ). u % down e) is ∙ mul-mod_left (2 ^ 23) (down e) in
    go s m is r some b.1
  where
    plain : (m : ℕ) → 0 < m * up e → eqb m 0 ≡ false
    plain zero h = absurd (omega arith)
    plain (suc m) h = ne_eqb (suc m) 0 (λ z. omega arith)

    go : (s : Bool) (m : ℕ) → m * up e ≡ 2 ^ 23 * down e → m * up e % down e ≡ 0 → 0 < m * up e → (beq s true || eqb (m * up e * 1) 0) ≡ true
        → false ≡ (cond s (ltb (pos_limit * down e) (m * up e)) (leb (pos_limit * down e) (m * up e)) || (not (eqb (m * up e % down e) 0) || (s && eqb m 0)))
    go true m is r some h = sym (rw (le-ltb (2 ^ 23 * down e) (m * up e) (omega arith), eq-eqb (m * up e % down e) 0 r) (plain m some))
    go false m is r some h = let z = eqb-true (m * up e * 1) 0 h in absurd (omega (arith, mul-one (m * up e)))

-- any other number
pub start_other : (x : Float) → eq x (fin true 1 (pos 23)) ≡ false → unfit x ≡ misfit x
unfolding eq misfit unfit
start_other nan e = refl
start_other (inf s) e = refl
start_other (fin false m e) h = refl
start_other (fin true m e) h = ap (λ (t : Bool). t || (not (eqb (m * up e % down e) 0) || (true && eqb m 0))) (go (eqb (m * up e * 1) (8388608 * down e)) refl h)
  where
    go : (t : Bool) → eqb (m * up e * 1) (8388608 * down e) ≡ t → (t && (beq true true || eqb (m * up e * 1) 0)) ≡ false
        → leb (pos_limit * down e) (m * up e) ≡ ltb (pos_limit * down e) (m * up e)
    go true q h = absurd (subst T h tt)
    go false q h = by (ltb (2 ^ 23 * down e) (m * up e)) refl
      where
        by : (t : Bool) → ltb (2 ^ 23 * down e) (m * up e) ≡ t → leb (2 ^ 23 * down e) (m * up e) ≡ t
        by true w = le-leb (2 ^ 23 * down e) (m * up e) (omega (arith, ltb-true (2 ^ 23 * down e) (m * up e) w))
        by false w =
            lt-leb (2 ^ 23 * down e) (m * up e)
            (lt_of_le-ne (ltb-false (2 ^ 23 * down e) (m * up e) w) (λ z. eqb-false (m * up e * 1) (8388608 * down e) q (mul-one (m * up e) ∙ z)))

-- ---- the header

module _ (h s p : ℕ) where
  pub many_splines : 4294967296 ≤ s → Fault Header 4 ≡ first_fault (header_checks h s p)
  unfolding header_checks
  many_splines e = sym (fails _ Header 4 _ (le-leb (2 ^ 32) s e))

  module _ (a : s < 4294967296) where
    pub many_points : 4294967296 ≤ p → Fault Header 8 ≡ first_fault (header_checks h s p)
    unfolding header_checks
    many_points e = sym (passes _ Header 4 _ (lt-leb (2 ^ 32) s a) ∙ fails _ Header 8 _ (le-leb (2 ^ 32) p e))

    module _ (b : p < 4294967296) (few : h < 16) where
      after : first_fault (header_checks h s p)
          ≡ first_fault (check (unheld (4 * starts_from h s)) Header 20 ∷ check (unheld (4 * deltas_from h s)) Header 24 ∷ check (unheld (4 * coefficients_from h s p)) Header 28 ∷ [])
      unfolding header_checks
      after = passes _ Header 4 _ (lt-leb (2 ^ 32) s a) ∙ passes _ Header 8 _ (lt-leb (2 ^ 32) p b) ∙ passes _ Header 16 _ (lt-leb (2 ^ 32) (4 * h) (omega arith))

      pub far_starts : 4294967296 ≤ 4 * starts_from h s → Fault Header 20 ≡ first_fault (header_checks h s p)
      far_starts e = sym (after ∙ fails _ Header 20 _ (le-leb (2 ^ 32) (4 * starts_from h s) e))

      module _ (c : 4 * starts_from h s < 4294967296) where
        pub far_deltas : 4294967296 ≤ 4 * deltas_from h s → Fault Header 24 ≡ first_fault (header_checks h s p)
        far_deltas e = sym (after ∙ passes _ Header 20 _ (lt-leb (2 ^ 32) (4 * starts_from h s) c) ∙ fails _ Header 24 _ (le-leb (2 ^ 32) (4 * deltas_from h s) e))

        module _ (d : 4 * deltas_from h s < 4294967296) where
          last : first_fault (header_checks h s p) ≡ first_fault (check (unheld (4 * coefficients_from h s p)) Header 28 ∷ [])
          last = after ∙ passes _ Header 20 _ (lt-leb (2 ^ 32) (4 * starts_from h s) c) ∙ passes _ Header 24 _ (lt-leb (2 ^ 32) (4 * deltas_from h s) d)

          pub far_coefficients : 4294967296 ≤ 4 * coefficients_from h s p → Fault Header 28 ≡ first_fault (header_checks h s p)
          far_coefficients e = sym (last ∙ fails _ Header 28 _ (le-leb (2 ^ 32) (4 * coefficients_from h s p) e))

          pub header_fine : 4 * coefficients_from h s p < 4294967296 → Fine ≡ first_fault (header_checks h s p)
          unfolding first_fault
          header_fine e = sym (last ∙ rw (lt-leb (2 ^ 32) (4 * coefficients_from h s p) e))

  -- no fault: the counts are below 2^32, and so is the last offset
  pub header_held : first_fault (header_checks h s p) ≡ Fine → (s < 2 ^ 32) × (p < 2 ^ 32) × (4 * coefficients_from h s p < 2 ^ 32)
  unfolding header_checks
  header_held e =
      let a = passed _ Header 4 _ e in
      let b = passed _ Header 8 _ a.1 in
      let c = passed _ Header 16 _ b.1 in
      let d = passed _ Header 20 _ c.1 in
      let f = passed _ Header 24 _ d.1 in
      let g = passed _ Header 28 [] f.1 in
      (leb-false (2 ^ 32) s a.0, leb-false (2 ^ 32) p b.0, leb-false (2 ^ 32) (4 * coefficients_from h s p) g.0)

-- ---- the checks one after the other

module _ (h s : ℕ) (ss : List Float) (ds : List ℤ) where
  abbrev Starts : List Check
  Starts = number_checks misfit Coord (starts_from h s) ss

  pub values_start : (c : Code) (q : ℕ) → first_fault Starts ≡ Fault c q → Fault c q ≡ first_fault (value_checks h s ss ds)
  unfolding value_checks
  values_start c q e = sym (faults_before Starts _ c q e)

  pub values_rest : first_fault Starts ≡ Fine → first_fault (number_checks wild Delta (deltas_from h s) ds) ≡ first_fault (value_checks h s ss ds)
  unfolding value_checks
  values_rest e = sym (fine_before Starts _ e)

module _ (h : ℕ) (ns : List ℕ) (ss : List Float) (ds cs : List ℤ) where
  pub judge_shape : shaped ns ss ds cs ≡ false → Fault Shape 0 ≡ first_fault (write_checks h ns ss ds cs)
  unfolding write_checks misshapen
  judge_shape e = sym (fails _ Shape 0 _ (rw e))

  module _ (good : shaped ns ss ds cs ≡ true) where
    -- half the double deltas are the points
    pub half : length ds / 2 ≡ points_of ns
    half = omega (arith, (shaped_is ns ss ds cs good).deltas)

    after_shape : first_fault (write_checks h ns ss ds cs) ≡ first_fault (header_checks h (length ns) (points_of ns) ++ value_checks h (length ns) ss ds)
    unfolding write_checks misshapen
    after_shape = passes _ Shape 0 _ (rw good)

    pub judge_head : (c : Code) (q : ℕ) → first_fault (header_checks h (length ns) (length ds / 2)) ≡ Fault c q → Fault c q ≡ first_fault (write_checks h ns ss ds cs)
    judge_head c q e = sym (after_shape ∙ faults_before (header_checks h (length ns) (points_of ns)) _ c q (rw half at e))

    pub judge_rest : first_fault (header_checks h (length ns) (length ds / 2)) ≡ Fine → first_fault (value_checks h (length ns) ss ds) ≡ first_fault (write_checks h ns ss ds cs)
    judge_rest e = sym (after_shape ∙ fine_before (header_checks h (length ns) (points_of ns)) _ (rw half at e))

    -- the lengths that are looked at are small
    pub few : first_fault (header_checks h (length ns) (length ds / 2)) ≡ Fine → (length ns < 2 ^ 32) × (length ss < 2 ^ 40) × (length ds < 2 ^ 40)
    few e =
        let g = header_held h (length ns) (length ds / 2) e in
        let k = shaped_is ns ss ds cs good in
        (g.0, omega (arith, k.starts, g.0), omega (arith, k.deltas, half, g.1))

-- Assumes nothing.
