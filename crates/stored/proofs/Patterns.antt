-- Bit patterns of floats: one that is read back gives the float.
use mathlib.Core.Path.{◌≡◌, sym, ap, ◌∙◌}
use mathlib.Core.Bool.{true}
use Prim.Native.Nat.{ℕ}
use lib.Dec.{T, eqb}
use lib.Ieee.{Float, binary32, fits, to_bits, of_bits}
use lib.Ieee.Bits.{of_bits-to_bits}
use borrow.Author.Tests.{eqb-true}

pub stored_float : (x : Float) (bits : ℕ) {own : ℕ} → T (fits binary32 x) → own ≡ to_bits binary32 x → eqb own bits ≡ true → x ≡ of_bits binary32 bits
stored_float x bits {own} held read is = sym (of_bits-to_bits binary32 x held) ∙ ap (of_bits binary32) (sym read ∙ eqb-true own bits is)

-- Assumes nothing.
