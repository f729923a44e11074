-- Laws of judging the parts of a file: the numbers that are no start and no double delta, a turn of each loop, and the checks one after the other.
use mathlib.Core.Path.{◌≡◌, refl, sym, ap, ◌∙◌}
use mathlib.Core.Bool.{Bool, true, false, cond}
use mathlib.Core.List.{List}
use Prim.Native.Nat.{ℕ, suc, ◌+◌, ◌-◌, ◌*◌, ◌/◌, ◌^◌, ◌≤◌, ◌<◌}
use native.Mathlib.Omega.{arith}
use lib.Dec.{eqb, ltb, leb}
use lib.ListN.{length, drop, get_or}
use lib.IntN.{pos, negsuc, nat_abs}
use lib.Signed.{mag}
use borrow.Author.Tests.{lt-ltb, lt-leb, le-leb, ltb-true, ltb-false, leb-true, leb-false}
use Rattle.codes.specs.declared.Code.{Code}
use Rattle.codes.specs.declared.Code.TheVariants.{Coord, Delta, Shape}
use Rattle.shape.specs.Shape.{points_of}
use Rattle.list.specs.List.{pos_limit, delta_limit}
use Rattle.writer.specs.Write.{Check, first_fault}
use Rattle.write_judge.specs.Verdict.{Fine, Fault}
use Rattle.write_judge.proofs.Checks.{fails, passes, faults_before, fine_before}
use Rattle.little.specs.Little.{numbers_in}
use Rattle.little.proofs.Little.{numbers_length}
use Rattle.trace.specs.Trace.{starts_from, deltas_from, part, number_checks}
use Rattle.trace.specs.Read.{misplaced, too_wild, part_checks}
use Rattle.trace.proofs.Checks.{turn_fault, turn_pass, turn_end, part_length}

-- ---- single numbers

-- a number is no start exactly from 2^23 on and below 2^32 - 2^23
pub start_low : (u : ℕ) → u < 8388608 → false ≡ misplaced u
unfolding misplaced
start_low u h = sym (rw (lt-ltb u (2 ^ 31) (omega arith)) (lt-leb (2 ^ 23) u h))

pub start_high : (u : ℕ) → 8388608 ≤ u → u < 2 ^ 32 → ltb u 4286578688 ≡ misplaced u
unfolding misplaced
start_high u h g = go (ltb u (2 ^ 31)) refl
  where
    back : (t : Bool) → ltb u 4286578688 ≡ t → 2 ^ 31 ≤ u → t ≡ leb (2 ^ 23) (2 ^ 32 - suc u)
    back true e k = sym (le-leb (2 ^ 23) (2 ^ 32 - suc u) (omega (arith, ltb-true u 4286578688 e)))
    back false e k = sym (lt-leb (2 ^ 23) (2 ^ 32 - suc u) (omega (arith, ltb-false u 4286578688 e)))

    go : (t : Bool) → ltb u (2 ^ 31) ≡ t → ltb u 4286578688 ≡ leb pos_limit (mag (cond t (pos u) (negsuc (2 ^ 32 - suc u))))
    go true e = lt-ltb u 4286578688 (omega (arith, ltb-true u (2 ^ 31) e)) ∙ sym (le-leb (2 ^ 23) u h)
    go false e = back (ltb u 4286578688) refl (ltb-false u (2 ^ 31) e)

-- a number is no double delta exactly from 2^30 through 2^32 - 2^30
pub delta_low : (u : ℕ) → u < 1073741824 → false ≡ too_wild u
unfolding too_wild
delta_low u h = sym (rw (lt-ltb u (2 ^ 31) (omega arith)) (lt-leb (2 ^ 30) u h))

pub delta_high : (u : ℕ) → 1073741824 ≤ u → u < 2 ^ 32 → leb u 3221225472 ≡ too_wild u
unfolding too_wild
delta_high u h g = go (ltb u (2 ^ 31)) refl
  where
    back : (t : Bool) → leb u 3221225472 ≡ t → 2 ^ 31 ≤ u → t ≡ leb (2 ^ 30) (suc (2 ^ 32 - suc u))
    back true e k = sym (le-leb (2 ^ 30) (suc (2 ^ 32 - suc u)) (omega (arith, leb-true u 3221225472 e)))
    back false e k = sym (lt-leb (2 ^ 30) (suc (2 ^ 32 - suc u)) (omega (arith, leb-false u 3221225472 e)))

    go : (t : Bool) → ltb u (2 ^ 31) ≡ t → leb u 3221225472 ≡ leb delta_limit (nat_abs (cond t (pos u) (negsuc (2 ^ 32 - suc u))))
    go true e = le-leb u 3221225472 (omega (arith, ltb-true u (2 ^ 31) e)) ∙ sym (le-leb (2 ^ 30) u h)
    go false e = back (leb u 3221225472) refl (ltb-false u (2 ^ 31) e)

-- ---- a part of a file's numbers

-- the part is in the file
pub held_length : (bytes : List ℕ) (from n : ℕ) → 4 * (from + n) ≤ length bytes → length (part from n (numbers_in bytes)) ≡ n
held_length bytes from n h = part_length from n (numbers_in bytes) (omega (arith, numbers_length bytes))

module _ (test : ℕ → Bool) (code : Code) (bytes : List ℕ) (from i : ℕ) where
  -- number i of a part is refused, or the next is looked at
  pub number_fault : (u : ℕ) (b : Bool) → i < length bytes / 4 → u ≡ get_or (numbers_in bytes) i 0 → b ≡ test u → b ≡ true
      → first_fault (number_checks test code (from + i) (drop i (numbers_in bytes))) ≡ Fault code (4 * (from + i))
  number_fault u b h e t y = turn_fault test code (numbers_in bytes) 0 (from + i) i (omega (arith, numbers_length bytes)) (ap test (sym e) ∙ sym t ∙ y)

  pub number_pass : (u : ℕ) (b : Bool) → i < length bytes / 4 → u ≡ get_or (numbers_in bytes) i 0 → b ≡ test u → b ≡ false
      → first_fault (number_checks test code (from + i) (drop i (numbers_in bytes))) ≡ first_fault (number_checks test code (from + (i + 1)) (drop (i + 1) (numbers_in bytes)))
  number_pass u b h e t y =
      let k : suc (from + i) ≡ from + (i + 1) = omega arith in
      let j : suc i ≡ i + 1 = omega arith in
      rw (k, j) at (turn_pass test code (numbers_in bytes) 0 (from + i) i (omega (arith, numbers_length bytes)) (ap test (sym e) ∙ sym t ∙ y))

  pub number_end : length bytes / 4 ≤ i → first_fault (number_checks test code (from + i) (drop i (numbers_in bytes))) ≡ Fine
  number_end h = turn_end test code (numbers_in bytes) (from + i) i (omega (arith, numbers_length bytes))

-- ---- the checks one after the other

module _ (h s p : ℕ) (ns : List ℕ) where
  abbrev Misplaced : List Check
  Misplaced = number_checks misplaced Coord (starts_from h s) (part (starts_from h s) (2 * s) ns)

  abbrev Wild : List Check
  Wild = number_checks too_wild Delta (deltas_from h s) (part (deltas_from h s) (2 * p) ns)

  pub parts_shape : eqb (points_of (part h s ns)) p ≡ false → Fault Shape 0 ≡ first_fault (part_checks h s p ns)
  unfolding part_checks
  parts_shape e = sym (fails _ Shape 0 _ (rw e))

  module _ (sums : eqb (points_of (part h s ns)) p ≡ true) where
    pub parts_start : (c : Code) (q : ℕ) → first_fault Misplaced ≡ Fault c q → Fault c q ≡ first_fault (part_checks h s p ns)
    unfolding part_checks
    parts_start c q e = sym (passes _ Shape 0 _ (rw sums) ∙ faults_before Misplaced Wild c q e)

    pub parts_rest : first_fault Misplaced ≡ Fine → first_fault Wild ≡ first_fault (part_checks h s p ns)
    unfolding part_checks
    parts_rest e = sym (passes _ Shape 0 _ (rw sums) ∙ fine_before Misplaced Wild e)

-- Assumes nothing.
