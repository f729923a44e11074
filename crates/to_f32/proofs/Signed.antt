-- Signed numbers by their magnitudes: each case of a ℤ is computed.
use mathlib.Core.Path.{◌≡◌, refl}
use mathlib.Core.Bool.{not}
use Prim.Native.Nat.{suc}
use native.Mathlib.Omega.{arith}
use lib.Dec.{T, ltb→lt}
use lib.IntN.{ℤ, pos, negsuc, nat_abs}
use lib.Signed.{lt_z}
use lib.Ieee.{Format, neg, of_int}
use Rattle.numbers.proofs.Units.{neg_round}

-- a negative whole number as a float is its magnitude, turned
pub turned : (f : Format) (z : ℤ) → T (lt_z z (pos 0)) → neg (of_int f (pos (nat_abs z))) ≡ of_int f z
unfolding of_int
turned f (pos n) h = absurd (omega (arith, ltb→lt n 0 h))
turned f (negsuc n) h = neg_round f (suc n) 1

pub kept : (f : Format) (z : ℤ) → T (not (lt_z z (pos 0))) → of_int f (pos (nat_abs z)) ≡ of_int f z
kept f (pos n) h = refl
kept f (negsuc n) h = absurd h

-- Assumes nothing.
