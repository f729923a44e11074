-- What is nearest, with a tie to the even one, is one value: of two, either a value lies between them and is nearer than one of the two, or they are neighbours, and one of two neighbours ends in 1.
use mathlib.Core.Path.{◌≡◌, sym, ap, ◌∙◌, subst}
use mathlib.Core.Logic.{inl, inr}
use mathlib.Core.Bool.{Bool, true, false, not}
use Prim.Native.Nat.{ℕ, suc, ◌+◌, ◌-◌, ◌*◌, ◌%◌, ◌^◌, ◌≤◌, ◌<◌}
use native.Mathlib.Nat.{le_trans, le_of_eq, lt_irrefl, lt_of_lt_of_le, lt_of_le_of_lt, eq-or-lt_of_le, add_comm, mul-lt-mul_of_pos_right}
use native.Mathlib.Omega.{arith}
use lib.Dec.{T, ltb, ltb→lt, nltb→le}
use lib.Pow.{pow_pos}
use lib.Ieee.{Float, Format, prec, emax, low, units, fits, to_bits}
use lib.Ieee.Exact.{HasValue, units_val}
use Rattle.ieee754.specs.Ieee754.{NearestEven, OneNearest}
use Rattle.numbers.proofs.Unique.{value_unique}
use Rattle.ieee754.proofs.Grid.{next_up}
use Rattle.ieee754.proofs.Values.{Normal, normal, in_range_lem, leading, reach, grid, units_held, last_digit}
use Rattle.ieee754.proofs.Nearness.{not_more}

module _ (f : Format) (s : Bool) (under over : ℕ → Type 0) (apart : (a b : ℕ) → a < b → over a → under b → ⊥) where
  -- a value of q * 2 ^ k units has q's last digit
  digit_of : (x : Float) (n q k : ℕ) → T (fits f x) → HasValue x s n (2 ^ low f) → n ≡ q * 2 ^ k → q ≤ 2 ^ prec f → (0 < k → 2 ^ (prec f - 1) ≤ q) → to_bits f x % 2 ≡ q % 2
  digit_of x n q k F v e few full =
      let l : q * 2 ^ k < 2 ^ (low f + suc (emax f)) = lt_of_le_of_lt (le_of_eq (sym e)) (lt_of_lt_of_le (in_range_lem f x s n F v) (le_of_eq (ap (λ (z : ℕ). 2 ^ z) (add_comm (suc (emax f)) (low f))))) in
      ap (λ (z : Float). to_bits f z % 2) (value_unique f x (units f s q k) s n (2 ^ low f) (q * 2 ^ k) (2 ^ low f) (pow_pos (low f)) (pow_pos (low f)) F (units_held f s q k few l) v (units_val f s q k l) (ap (λ (z : ℕ). z * 2 ^ low f) e))
      ∙ last_digit f s q k few l full

  not_less : (r t : Float) (A : NearestEven f s under over r) (B : NearestEven f s under over t) → A.size < B.size → ⊥
  not_less r t A B h =
      let a : ℕ = A.size in
      let b : ℕ = B.size in
      let N : Normal f a = normal f r s a A.held A.is in
      let q : ℕ = N.q in
      let k : ℕ = N.k in
      let z : ℕ = (q + 1) * 2 ^ k in
      let l : z ≤ b = next_up (2 ^ k) (leading k (2 ^ (prec f - 1)) * 2 ^ k) q b (reach f k q N.full) (grid f k t s b B.held B.is) (subst (λ (n : ℕ). n < b) N.is h) in
      let few : q + 1 ≤ 2 ^ prec f = next_le q (2 ^ prec f) N.few in
      let fine : z < 2 ^ (low f + suc (emax f)) = lt_of_le_of_lt l (lt_of_lt_of_le (in_range_lem f t s b B.held B.is) (le_of_eq (ap (λ (n : ℕ). 2 ^ n) (add_comm (suc (emax f)) (low f))))) in
      let between : a < z = lt_of_le_of_lt (le_of_eq N.is) (mul-lt-mul_of_pos_right (one_less q) (pow_pos k)) in
      let low_side : under (a + b) = B.below r a A.held A.is h in
      let high_side : over (b + a) = A.above t b B.held B.is h in
      elim (eq-or-lt_of_le l) [
        | inl e ↦ neighbours q
            (sym (digit_of r a q k A.held A.is N.is (le_of_less q (2 ^ prec f) N.few) N.full) ∙ A.even t b B.held B.is (λ g. lt_irrefl b (subst (λ (n : ℕ). n < b) (sym g) h)) (subst under (add_comm a b) low_side) high_side)
            (sym (digit_of t b (q + 1) k B.held B.is (sym e) few (λ g. le_trans (N.full g) (one_more q))) ∙ B.even r a A.held A.is (λ g. lt_irrefl b (subst (λ (n : ℕ). n < b) g h)) low_side (subst over (add_comm b a) high_side))
        | inr g ↦ apart (z + a) (a + b) (nearer z a b g) (A.above (units f s (q + 1) k) z (units_held f s (q + 1) k few fine) (units_val f s (q + 1) k fine) between) low_side
      ]
    where
      next_le : (q p : ℕ) → q < p → q + 1 ≤ p
      next_le q p h = omega arith

      le_of_less : (q p : ℕ) → q < p → q ≤ p
      le_of_less q p h = omega arith

      one_less : (q : ℕ) → q < q + 1
      one_less q = omega arith

      one_more : (q : ℕ) → q ≤ q + 1
      one_more q = omega arith

      nearer : (z a b : ℕ) → z < b → z + a < a + b
      nearer z a b h = omega arith

      neighbours : (q : ℕ) → q % 2 ≡ 0 → (q + 1) % 2 ≡ 0 → ⊥
      neighbours q d e = omega arith

  only : (r t : Float) → NearestEven f s under over r → NearestEven f s under over t → r ≡ t
  only r t A B = go (ltb A.size B.size) (ltb B.size A.size) (ltb→lt A.size B.size) (nltb→le A.size B.size) (ltb→lt B.size A.size) (nltb→le B.size A.size)
    where
      same : (a b : ℕ) → a ≤ b → b ≤ a → a ≡ b
      same a b h g = omega arith

      go : (x y : Bool) → (T x → A.size < B.size) → (T (not x) → B.size ≤ A.size) → (T y → B.size < A.size) → (T (not y) → A.size ≤ B.size) → r ≡ t
      go true y c d e g = absurd (not_less r t A B (c tt))
      go false true c d e g = absurd (not_less t r B A (e tt))
      go false false c d e g =
          value_unique f r t s A.size (2 ^ low f) B.size (2 ^ low f) (pow_pos (low f)) (pow_pos (low f)) A.held B.held A.is B.is
          (ap (λ (n : ℕ). n * 2 ^ low f) (same A.size B.size (g tt) (d tt)))

pub one_nearest : (f : Format) → OneNearest f
one_nearest f = record {
  fraction = λ s a c r t C A B. only f s (λ (M : ℕ). M * c ≤ 2 * (a * 2 ^ low f)) (λ (M : ℕ). 2 * (a * 2 ^ low f) ≤ M * c) (λ x y h g l. lt_irrefl (x * c) (lt_of_lt_of_le (mul-lt-mul_of_pos_right h C) (le_trans l g))) r t A B;
  root = λ n r t A B. only f false (λ (M : ℕ). M * M ≤ 4 * n) (λ (M : ℕ). 4 * n ≤ M * M) (λ x y h g l. lt_irrefl x (lt_of_lt_of_le h (not_more x y (le_trans l g)))) r t A B;
}

-- Assumes nothing.
