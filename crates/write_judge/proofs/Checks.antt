-- Laws of the checks: each turn of a judging loop is one unfolding of its definition.
use Rattle.std.proofs.Common.{◌≡◌, ℕ, zero, suc, ◌+◌, ◌-◌, ◌*◌, ◌<◌, ◌≤◌, Bool, true, false, not, ◌||◌, T, eqb, ltb, List, [], ◌∷◌, ◌++◌, length, get_or, take, drop, ℤ, pos, sym, refl, ap, ◌∙◌, subst, add-one, arith, length-drop, drop_of_length-le, length-take-le, drop-cons, drop-drop, ltb-false, le-ltb, lt-ltb, eq-eqb, ne_eqb}
use lib.Ieee.{Float, nan}
use borrow.Author.Tests.{eqb-false, not-false}
use Rattle.codes.specs.declared.Code.{Code}
use Rattle.codes.specs.declared.Code.TheVariants.{Splines, Coord, Points, Delta, Shape}
use Rattle.shape.proofs.Shape.{is_shaped, shaped_is}
use Rattle.shape.specs.Shape.{points_of}
use Rattle.list.specs.List.{delta_limit, beyond}
use Rattle.write_judge.specs.Judge.{Check, check, first_fault, misshapen, miscounted, content_checks, unfit_as, start_checks, delta_checks, spline_checks}
use Rattle.write_judge.specs.Verdict.{Fine, Fault}

-- neither of two tests
pub neither : (a b : Bool) → (a || b) ≡ false → (a ≡ false) × (b ≡ false)
neither true b e = absurd (subst T e tt)
neither false b e = (refl, e)

-- a check that fails, and one that passes
pub fails : (b : Bool) (c : Code) (p : ℕ) (rest : List Check) → b ≡ true → first_fault (check b c p ∷ rest) ≡ Fault c p
unfolding first_fault
fails b c p rest e = rw e

pub passes : (b : Bool) (c : Code) (p : ℕ) (rest : List Check) → b ≡ false → first_fault (check b c p ∷ rest) ≡ first_fault rest
unfolding first_fault
passes b c p rest e = rw e

pub passed : (b : Bool) (c : Code) (p : ℕ) (rest : List Check) → first_fault (check b c p ∷ rest) ≡ Fine → (b ≡ false) × (first_fault rest ≡ Fine)
unfolding first_fault
passed true c p rest e = let z : ◌≡◌ {A = ℕ} 0 1 = cc in absurd (omega arith)
passed false c p rest e = (refl, e)

-- checks before others
pub faults_before : (xs ys : List Check) (c : Code) (p : ℕ) → first_fault xs ≡ Fault c p → first_fault (xs ++ ys) ≡ Fault c p
unfolding first_fault
faults_before [] ys c p e = cc
faults_before (check true d q ∷ xs) ys c p e = e
faults_before (check false d q ∷ xs) ys c p e = faults_before xs ys c p e

pub fine_before : (xs ys : List Check) → first_fault xs ≡ Fine → first_fault (xs ++ ys) ≡ first_fault ys
unfolding first_fault
fine_before [] ys e = refl
fine_before (check true d q ∷ xs) ys e = cc
fine_before (check false d q ∷ xs) ys e = fine_before xs ys e

pub both_fine : (xs ys : List Check) → first_fault (xs ++ ys) ≡ Fine → (first_fault xs ≡ Fine) × (first_fault ys ≡ Fine)
unfolding first_fault
both_fine [] ys e = (refl, e)
both_fine (check true d q ∷ xs) ys e = let z : ◌≡◌ {A = ℕ} 0 1 = cc in absurd (omega arith)
both_fine (check false d q ∷ xs) ys e = both_fine xs ys e

-- the lengths
module _ (ns : List ℕ) (ss : List Float) (ds cs : List ℤ) where
  pub agree : length ss ≡ 2 * length ns → length ds ≡ 2 * points_of ns → length cs ≡ 128 * length ns → false ≡ misshapen ns ss ds cs
  unfolding misshapen
  agree c d e = sym (ap not (is_shaped ns ss ds cs (record { starts = c; deltas = d; coefficients = e })))

  pub agreed : misshapen ns ss ds cs ≡ false → (length ss ≡ 2 * length ns) × (length ds ≡ 2 * points_of ns) × (length cs ≡ 128 * length ns)
  unfolding misshapen
  agreed e = let s = shaped_is ns ss ds cs (not-false _ e) in (s.starts, s.deltas, s.coefficients)

-- a pair of double deltas
module _ (ds : List ℤ) (p i : ℕ) (h : i + 1 < length ds) where
  deltas_turn : delta_checks p (drop i ds) ≡ check (beyond delta_limit (get_or ds i (pos 0)) (get_or ds (i + 1) (pos 0))) Delta p ∷ delta_checks (p + 2) (drop (i + 2) ds)
  unfolding delta_checks
  deltas_turn =
      let a : i < length ds = omega arith in
      let b : suc i < length ds = omega arith in
      let e : i + 2 ≡ suc (suc i) = omega arith in
      let f : i + 1 ≡ suc i = omega arith in
      rw (e, f, drop-cons ds i (pos 0) a, drop-cons ds (suc i) (pos 0) b)

  pub deltas_wild : beyond delta_limit (get_or ds i (pos 0)) (get_or ds (i + 1) (pos 0)) ≡ true → first_fault (delta_checks p (drop i ds)) ≡ Fault Delta p
  deltas_wild e = rw deltas_turn (fails _ Delta p _ e)

  pub deltas_pass : beyond delta_limit (get_or ds i (pos 0)) (get_or ds (i + 1) (pos 0)) ≡ false → first_fault (delta_checks p (drop i ds)) ≡ first_fault (delta_checks (p + 2) (drop (i + 2) ds))
  deltas_pass e = rw deltas_turn (passes _ Delta p _ e)

pub deltas_end : (ds : List ℤ) (p i : ℕ) → length ds ≤ i → first_fault (delta_checks p (drop i ds)) ≡ Fine
unfolding first_fault delta_checks
deltas_end ds p i h = rw (drop_of_length-le ds h)

-- a pair of starts
module _ (first : Bool) (ss : List Float) (p i : ℕ) (h : i + 1 < length ss) where
  starts_turn : start_checks first p (drop i ss) ≡ check (unfit_as first (get_or ss i nan) || unfit_as first (get_or ss (i + 1) nan)) Coord p ∷ start_checks false (p + 2) (drop (i + 2) ss)
  unfolding start_checks
  starts_turn =
      let a : i < length ss = omega arith in
      let b : suc i < length ss = omega arith in
      let e : i + 2 ≡ suc (suc i) = omega arith in
      let f : i + 1 ≡ suc i = omega arith in
      rw (e, f, drop-cons ss i nan a, drop-cons ss (suc i) nan b)

  pub starts_unfit : (unfit_as first (get_or ss i nan) || unfit_as first (get_or ss (i + 1) nan)) ≡ true → first_fault (start_checks first p (drop i ss)) ≡ Fault Coord p
  starts_unfit e = rw starts_turn (fails _ Coord p _ e)

  pub starts_pass : (unfit_as first (get_or ss i nan) || unfit_as first (get_or ss (i + 1) nan)) ≡ false
      → first_fault (start_checks first p (drop i ss)) ≡ first_fault (start_checks false (p + 2) (drop (i + 2) ss))
  starts_pass e = rw starts_turn (passes _ Coord p _ e)

  pub starts_fine : first_fault (start_checks first p (drop i ss)) ≡ Fine
      → (unfit_as first (get_or ss i nan) ≡ false) × (unfit_as first (get_or ss (i + 1) nan) ≡ false) × (first_fault (start_checks false (p + 2) (drop (i + 2) ss)) ≡ Fine)
  starts_fine e =
      let t = passed (unfit_as first (get_or ss i nan) || unfit_as first (get_or ss (i + 1) nan)) Coord p (start_checks false (p + 2) (drop (i + 2) ss)) (rw starts_turn at e) in
      let n = neither (unfit_as first (get_or ss i nan)) (unfit_as first (get_or ss (i + 1) nan)) t.0 in
      (n.0, n.1, t.1)

pub starts_end : (first : Bool) (ss : List Float) (p i : ℕ) → length ss ≤ i → first_fault (start_checks first p (drop i ss)) ≡ Fine
unfolding first_fault start_checks
starts_end first ss p i h = rw (drop_of_length-le ss h)

-- a part of a slice
pub length_part : {A : Type 0} (l : List A) (from n : ℕ) → from + n ≤ length l → length (take (from + n - from) (drop from l)) ≡ n
length_part l from n h =
    let e : from + n - from ≡ n = omega arith in
    rw e (length-take-le n (drop from l) (omega (arith, length-drop from l)))

-- a spline: its count, and its double deltas, which are a part of all
module _ (ns : List ℕ) (ds : List ℤ) (limit left place from i : ℕ) (h : i < length ns) (under : left ≤ limit) where
  splines_turn : spline_checks limit (limit - left) place (drop i ns) (drop from ds)
      ≡ check (ltb limit (limit - left + get_or ns i 0)) Points place
      ∷ delta_checks (place + 1) (take (2 * get_or ns i 0) (drop from ds))
      ++ spline_checks limit (limit - left + get_or ns i 0) (place + (2 * get_or ns i 0 + 129)) (drop (i + 1) ns) (drop (2 * get_or ns i 0) (drop from ds))
  unfolding spline_checks
  splines_turn = rw (add-one i, drop-cons ns i 0)

  pub spline_over : left < get_or ns i 0 → first_fault (spline_checks limit (limit - left) place (drop i ns) (drop from ds)) ≡ Fault Points place
  spline_over more = rw splines_turn (fails _ Points place _ (lt-ltb limit (limit - left + get_or ns i 0) (omega arith)))

  module _ (few : get_or ns i 0 ≤ left) (part : List ℤ) (is : part ≡ take (from + 2 * get_or ns i 0 - from) (drop from ds)) where
    spline_within : first_fault (spline_checks limit (limit - left) place (drop i ns) (drop from ds))
        ≡ first_fault (delta_checks (place + 1) part
        ++ spline_checks limit (limit - (left - get_or ns i 0)) (place + (2 * get_or ns i 0 + 129)) (drop (i + 1) ns) (drop (from + 2 * get_or ns i 0) ds))
    spline_within =
        let n = get_or ns i 0 in
        let e : from + 2 * n - from ≡ 2 * n = omega arith in
        let t : limit - left + n ≡ limit - (left - n) = omega arith in
        let q : take (2 * n) (drop from ds) ≡ part = sym (is ∙ ap (λ (k : ℕ). take k (drop from ds)) e) in
        rw (splines_turn, q, drop-drop (2 * n) from ds)
        (passes _ Points place _ (le-ltb limit (limit - left + n) (omega arith)) ∙ rw t)

    pub spline_wild : (c : Code) (p : ℕ) → first_fault (delta_checks (place + 1) part) ≡ Fault c p
        → first_fault (spline_checks limit (limit - left) place (drop i ns) (drop from ds)) ≡ Fault c p
    spline_wild c p e = spline_within ∙ faults_before _ _ c p e

    pub spline_pass : first_fault (delta_checks (place + 1) part) ≡ Fine
        → first_fault (spline_checks limit (limit - left) place (drop i ns) (drop from ds))
        ≡ first_fault (spline_checks limit (limit - (left - get_or ns i 0)) (place + (2 * get_or ns i 0 + 129)) (drop (i + 1) ns) (drop (from + 2 * get_or ns i 0) ds))
    spline_pass e = spline_within ∙ fine_before _ _ e

pub splines_end : (limit total place : ℕ) (ns : List ℕ) (ds : List ℤ) (i : ℕ) → length ns ≤ i → first_fault (spline_checks limit total place (drop i ns) ds) ≡ Fine
unfolding first_fault spline_checks
splines_end limit total place ns ds i h = rw (drop_of_length-le ns h)

-- the count of splines
pub none_counted : (limit s : ℕ) → s ≡ 0 → miscounted limit s ≡ true
unfolding miscounted
none_counted limit s e = rw (eq-eqb s 0 e)

pub many_counted : (limit s : ℕ) → (s ≡ 0 → ⊥) → limit < s → miscounted limit s ≡ true
unfolding miscounted
many_counted limit s n h = rw (ne_eqb s 0 n, lt-ltb limit s h)

pub well_counted : (limit s : ℕ) → (s ≡ 0 → ⊥) → s ≤ limit → miscounted limit s ≡ false
unfolding miscounted
well_counted limit s n h = rw (ne_eqb s 0 n, le-ltb limit s h)

pub counted : (limit s : ℕ) → miscounted limit s ≡ false → (0 < s) × (s ≤ limit)
unfolding miscounted
counted limit s e =
    let n = neither (eqb s 0) (ltb limit s) e in
    let z = eqb-false s 0 n.0 in
    (positive s z, ltb-false limit s n.1)
  where
    positive : (s : ℕ) → (s ≡ 0 → ⊥) → 0 < s
    positive zero z = absurd (z refl)
    positive (suc s) z = omega arith

-- a description, check by check
module _ (ns : List ℕ) (ss : List Float) (ds cs : List ℤ) (limit : ℕ) where
  pub content_shape : misshapen ns ss ds cs ≡ true → first_fault (content_checks ns ss ds cs limit) ≡ Fault Shape 0
  unfolding content_checks
  content_shape e = fails _ Shape 0 _ e

  module _ (shaped : misshapen ns ss ds cs ≡ false) where
    pub content_count : miscounted limit (length ns) ≡ true → first_fault (content_checks ns ss ds cs limit) ≡ Fault Splines 0
    unfolding content_checks
    content_count e = passes _ Shape 0 _ shaped ∙ fails _ Splines 0 _ e

    module _ (few : miscounted limit (length ns) ≡ false) where
      content_after : first_fault (content_checks ns ss ds cs limit) ≡ first_fault (start_checks true 1 ss ++ spline_checks limit 0 (2 * length ns + 2) ns ds)
      unfolding content_checks
      content_after = passes _ Shape 0 _ shaped ∙ passes _ Splines 0 _ few

      pub content_start : (c : Code) (p : ℕ) → first_fault (start_checks true 1 ss) ≡ Fault c p → first_fault (content_checks ns ss ds cs limit) ≡ Fault c p
      content_start c p e = content_after ∙ faults_before _ _ c p e

      pub content_rest : first_fault (start_checks true 1 ss) ≡ Fine → first_fault (content_checks ns ss ds cs limit) ≡ first_fault (spline_checks limit 0 (2 * length ns + 2) ns ds)
      content_rest e = content_after ∙ fine_before _ _ e

  -- nothing was found
  pub content_fine : first_fault (content_checks ns ss ds cs limit) ≡ Fine
      → (misshapen ns ss ds cs ≡ false) × (miscounted limit (length ns) ≡ false)
      × (first_fault (start_checks true 1 ss) ≡ Fine) × (first_fault (spline_checks limit 0 (2 * length ns + 2) ns ds) ≡ Fine)
  unfolding content_checks
  content_fine e =
      let a = passed (misshapen ns ss ds cs) Shape 0 _ e in
      let b = passed (miscounted limit (length ns)) Splines 0 _ a.1 in
      let d = both_fine (start_checks true 1 ss) (spline_checks limit 0 (2 * length ns + 2) ns ds) b.1 in
      (a.0, b.0, d.0, d.1)

-- Assumes nothing.
