-- The logarithm of 1, and at its ends: each holds by computing.
use mathlib.Core.Path.{◌≡◌, refl}
use mathlib.Core.Bool.{Bool, true, false}
use Prim.Native.Nat.{ℕ, suc}
use lib.IntN.{ℤ, pos}
use lib.Ieee.{nan, inf, fin, of_int, add, sub, mul, div, lt, of_bits, to_bits}
use Rattle.to_f32.specs.Narrow.{narrow}
use Rattle.approximations.specs.Ln.{ln_of, ln_above, ln_at}

-- ln 1 is 0
pub ln_one : ln_of (fin false 1 (pos 0)) ≡ fin false 0 (pos 0)
unfolding ln_of ln_above ln_at narrow to_bits of_bits of_int add sub mul div lt
ln_one = refl

-- of either zero, minus infinity
pub ln_zero : (s : Bool) (e : ℤ) → ln_of (fin s 0 e) ≡ inf true
unfolding ln_of
ln_zero s e = refl

-- below zero, no number
pub ln_negative : (m : ℕ) (e : ℤ) → ln_of (fin true (suc m) e) ≡ nan
unfolding ln_of
ln_negative m e = refl

pub ln_minus_infinity : ln_of (inf true) ≡ nan
unfolding ln_of
ln_minus_infinity = refl

-- plus infinity and NaN stay
pub ln_infinity : ln_of (inf false) ≡ inf false
unfolding ln_of
ln_infinity = refl

pub ln_nan : ln_of nan ≡ nan
unfolding ln_of
ln_nan = refl

-- Assumes nothing.
