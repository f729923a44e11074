-- The rule's quotient bounds the fraction, and the rule's number is a value of the format, so `round` leaves it.
use mathlib.Core.Path.{◌≡◌, refl, sym, ap, ◌∙◌, subst}
use mathlib.Core.Bool.{Bool}
use Prim.Native.Nat.{ℕ, suc, ◌+◌, ◌-◌, ◌*◌, ◌/◌, ◌%◌, ◌^◌, ◌≤◌, ◌<◌}
use native.Mathlib.Nat.{le_trans, le_of_eq, le_of_lt, lt_of_le_of_lt, mul-one, one-mul, mul_assoc, mul_left_comm, add-mul, mul-le-mul_left, mul-le-mul_right, lt_of_not-le, le_of_suc-le-suc, div-mul-le_self, div-add-mod', mod-lt, div-eq_of_lt-le}
use native.Mathlib.Omega.{arith}
use lib.IntN.{ℤ, pos, negsuc}
use lib.Dec.{T}
use lib.Ieee.{Float, fin, Format, up, down, round, fits}
use lib.Ieee.Fits.{down_pos}
use lib.Ieee.Exact.{HasValue}
use lib.Ieee.Back.{round_whole}
use Rattle.wholes.specs.Whole.{raised, half, whole_by, away}
use Rattle.wholes.proofs.Wholes.{digits, whole_is, round_id}

-- ---- a quotient and its remainder
module _ (x d : ℕ) (D : 0 < d) where
  pub quotient_lo : x / d * d ≤ x
  quotient_lo = div-mul-le_self x d

  pub quotient_hi : x < x / d * d + d
  quotient_hi =
      let e : x / d * d + x % d ≡ x = div-add-mod' x d in
      let l : x % d < d = mod-lt x D in
      omega arith

module _ (n d : ℕ) (D : 0 < d) where
  pub raised_reaches : n ≤ raised n d * d
  raised_reaches = go (raised n d * d) (quotient_hi (n + (d - 1)) d D) D
    where
      go : (p : ℕ) → n + (d - 1) < p + d → 0 < d → n ≤ p
      go p h g = omega arith

  pub raised_short : raised n d * d < n + d
  raised_short = go (raised n d * d) (quotient_lo (n + (d - 1)) d D) D
    where
      go : (p : ℕ) → p ≤ n + (d - 1) → 0 < d → p < n + d
      go p h g = omega arith

  as_many : n ≤ n * d
  as_many = le_trans (le_of_eq (sym (mul-one n))) (mul-le-mul_left n D)

  pub next : (a : ℕ) → (a + 1) * d ≡ a * d + d
  next a = add-mul a 1 d ∙ ap (λ (z : ℕ). a * d + z) (one-mul d)

  pub raised_le : raised n d ≤ n
  raised_le = le_of_suc-le-suc (lt_of_not-le (λ (g : suc n ≤ raised n d). go (n * d) (raised n d * d) as_many raised_short (le_trans (le_of_eq (sym (next2))) (mul-le-mul_right d g))))
    where
      next2 : suc n * d ≡ n * d + d
      next2 = omega arith

      go : (p r : ℕ) → n ≤ p → r < n + d → p + d ≤ r → ⊥
      go p r a b c = omega arith

  pub half_lo : 2 * half n d * d ≤ 2 * n + d
  half_lo = le_trans (le_of_eq (mul_assoc 2 (half n d) d ∙ sym (mul_left_comm (half n d) 2 d))) (quotient_lo (2 * n + d) (2 * d) (go D))
    where
      go : 0 < d → 0 < 2 * d
      go h = omega arith

  pub half_hi : 2 * n < 2 * half n d * d + d
  half_hi = go (half n d * (2 * d)) (2 * half n d * d) (quotient_hi (2 * n + d) (2 * d) (go2 D)) (mul_left_comm (half n d) 2 d ∙ sym (mul_assoc 2 (half n d) d))
    where
      go2 : 0 < d → 0 < 2 * d
      go2 h = omega arith

      go : (p r : ℕ) → 2 * n + d < p + 2 * d → p ≡ r → 2 * n < r + d
      go p r h e = omega arith

  pub half_le : half n d ≤ n
  half_le = le_of_suc-le-suc (lt_of_not-le (λ (g : suc n ≤ half n d). go (n * d) (half n d * d) as_many half_lo2 (le_trans (le_of_eq (sym next2)) (mul-le-mul_right d g)) D))
    where
      next2 : suc n * d ≡ n * d + d
      next2 = omega arith

      half_lo2 : 2 * (half n d * d) ≤ 2 * n + d
      half_lo2 = le_trans (le_of_eq (sym (mul_assoc 2 (half n d) d))) half_lo

      go : (p r : ℕ) → n ≤ p → 2 * r ≤ 2 * n + d → p + d ≤ r → 0 < d → ⊥
      go p r a b c e = omega arith

  -- a half goes up
  pub half_up : (j : ℕ) → 2 * n ≡ (2 * j + 1) * d → half n d ≡ j + 1
  half_up j e = div-eq_of_lt-le (2 * d) (le_of_eq (mul_left_comm (j + 1) 2 d ∙ ap (λ (z : ℕ). 2 * z) (next j) ∙ go (j * d) e2)) (lt_of_le_of_lt (le_of_eq (go2 (j * d) e2)) (go3 (j * d) ((j + 1 + 1) * (2 * d)) D (mul_left_comm (j + 1 + 1) 2 d ∙ ap (λ (z : ℕ). 2 * z) (next (j + 1) ∙ ap (λ (z : ℕ). z + d) (next j)))))
    where
      e2 : 2 * n ≡ 2 * (j * d) + d
      e2 = e ∙ add-mul (2 * j) 1 d ∙ ap (λ (z : ℕ). z + 1 * d) (mul_assoc 2 j d) ∙ ap (λ (z : ℕ). 2 * (j * d) + z) (one-mul d)

      go : (p : ℕ) → 2 * n ≡ 2 * p + d → 2 * (p + d) ≡ 2 * n + d
      go p h = omega arith

      go2 : (p : ℕ) → 2 * n ≡ 2 * p + d → 2 * n + d ≡ 2 * (p + d)
      go2 p h = omega arith

      go3 : (p r : ℕ) → 0 < d → r ≡ 2 * (p + d + d) → 2 * (p + d) < r
      go3 p r h g = omega arith

-- ---- the rule's number is a value of the format
pub value : (f : Format) (g : Bool → ℕ → ℕ → ℕ) (s : Bool) (m : ℕ) (e : ℤ) → ((n : ℕ) → g s n 1 ≡ n) → ((n d : ℕ) → 0 < d → g s n d ≤ n) → T (fits f (fin s m e)) → HasValue (whole_by f g (fin s m e)) s (g s (m * up e) (down e)) 1
unfolding whole_by
value f g s m (pos k) id le F =
    let n = m * 2 ^ k in
    subst (λ (z : ℕ). HasValue (round f s z 1) s z 1) (sym (id n)) (subst (λ (x : Float). HasValue x s n 1) (whole_is f s m k F) (refl, refl))
value f g s m (negsuc k) id le F = round_whole f s (g s (m * 1) (2 ^ suc k)) (le_trans (le (m * 1) (2 ^ suc k) (down_pos (negsuc k))) (le_trans (le_of_eq (mul-one m)) (le_of_lt (digits f s m (negsuc k) F))))

pub round_value : (f : Format) (s : Bool) (m : ℕ) (e : ℤ) → T (fits f (fin s m e)) → HasValue (whole_by f away (fin s m e)) s (half (m * up e) (down e)) 1
round_value f s m e F = value f away s m e (round_id s) half_le F

-- Assumes nothing.
