-- The logarithm of a value above zero: the code's pattern of the digits is the definition's, a mask being a remainder.
use mathlib.Core.Path.{◌≡◌, refl, sym, ap, ◌∙◌, subst}
use mathlib.Core.Bool.{Bool, true, false, not, cond}
use Prim.Native.Nat.{ℕ, zero, suc, ◌+◌, ◌-◌, ◌/◌, ◌%◌, ◌^◌, ◌≤◌, ◌<◌}
use native.Mathlib.Nat.{lt_irrefl, mod-eq_of_lt}
use native.Mathlib.Omega.{arith}
use lib.IntN.{pos}
use lib.Dec.{T, ltb, ltb→lt}
use lib.Arith.{le→nltb}
use lib.Bits.{bit_and, and_mask}
use lib.Pow.{shr_lt}
use lib.Ieee.{Float, nan, inf, fin, binary32, binary64, of_bits, to_bits, of_int, lt, fits, nan_bits, in_float}
use lib.Ieee.Bits.{nan_bits_above, to_bits-lt}
use lib.Ieee.Positive.{positive}
use Rattle.numbers.proofs.Units.{castable}
use Rattle.to_f32.specs.Narrow.{narrow}
use Rattle.approximations.specs.Ln.{d, ◌⊕◌, ◌⊖◌, ◌⊗◌, ln_at, ln_above, ln_of}

pub of_positive : (x : Float) → T (positive x) → narrow binary32 (ln_above (to_bits binary64 x)) ≡ ln_of x
unfolding ln_of
of_positive nan p = absurd p
of_positive (inf s) p = absurd p
of_positive (fin true m e) p = absurd p
of_positive (fin false zero e) p = absurd (lt_irrefl 0 (ltb→lt 0 0 p))
of_positive (fin false (suc m) e) p = refl

abbrev z : ℕ → Float
z m = of_bits binary64 (m + 4607182418800017408)

abbrev k : ℕ → Float
k b = of_int binary64 (pos (b / 2 ^ 52)) ⊖ d 0x408ff80000000000

abbrev A : ℕ → ℕ → Float
A b m = ln_at (z m ⊗ d 0x3fe0000000000000) (k b ⊕ d 0x3ff0000000000000)

pub high : (b : ℕ) → lt (d 0x3ff6a09e667f3bcd) (z (bit_and b (2 ^ 52 - 1))) ≡ true → A b (bit_and b (2 ^ 52 - 1)) ≡ ln_above b
unfolding ln_above
high b q = subst (λ (m : ℕ). lt (d 0x3ff6a09e667f3bcd) (z m) ≡ true → A b m ≡ ln_above b) (sym (and_mask b 52)) (λ h. sym (ap (λ (t : Bool). cond t (A b (b % 2 ^ 52)) (ln_at (z (b % 2 ^ 52)) (k b))) h)) q

pub low : (b : ℕ) → lt (d 0x3ff6a09e667f3bcd) (z (bit_and b (2 ^ 52 - 1))) ≡ false → ln_at (z (bit_and b (2 ^ 52 - 1))) (k b) ≡ ln_above b
unfolding ln_above
low b q = subst (λ (m : ℕ). lt (d 0x3ff6a09e667f3bcd) (z m) ≡ false → ln_at (z m) (k b) ≡ ln_above b) (sym (and_mask b 52)) (λ h. sym (ap (λ (t : Bool). cond t (A b (b % 2 ^ 52)) (ln_at (z (b % 2 ^ 52)) (k b))) h)) q

-- a pattern with the exponent of 1 is no NaN's
pub pattern : (m : ℕ) → m < 2 ^ 52 → T (not (nan_bits binary64 (m + 4607182418800017408)))
pattern m h = subst (λ (t : Bool). T (not t)) (sym (nan_bits_above binary64 (m + 4607182418800017408) ∙ ap (λ (n : ℕ). ltb 9218868437227405312 n) (mod-eq_of_lt (go m h)))) (le→nltb 9218868437227405312 (m + 4607182418800017408) (go2 m h))
  where
    go : (m : ℕ) → m < 4503599627370496 → m + 4607182418800017408 < 9223372036854775808
    go m h = omega arith

    go2 : (m : ℕ) → m < 4503599627370496 → m + 4607182418800017408 ≤ 9218868437227405312
    go2 m h = omega arith

pub castable_place : (x : Float) → T (fits binary64 x) → T (in_float binary64 (pos (to_bits binary64 x / 2 ^ 52)))
castable_place x F = castable binary64 (to_bits binary64 x / 2 ^ 52) (go (to_bits binary64 x / 2 ^ 52) (shr_lt 12 52 (to_bits-lt binary64 x F)))
  where
    go : (e : ℕ) → e < 4096 → e ≤ 9007199254740992
    go e h = omega arith

-- Assumes nothing.
