-- Parts of a list, and cells that are zero.
use mathlib.Core.Path.{◌≡◌, refl, ap, ◌∙◌}
use mathlib.Core.List.{List}
use Prim.Native.Nat.{ℕ, ◌-◌}
use native.Mathlib.Omega.{arith}
use lib.ListN.{length, take, drop, replicate, length-drop}
use lib.Seq.{take_all}
use lib.Ieee.{Float, binary32, of_int, of_bits}
use Rattle.list.specs.Steps.{zero_f32}

module _ {A : Type 0} where
  -- the part from k to the end is what is left after k
  pub part_tail : (k : ℕ) (l : List A) → take (length l - k) (drop k l) ≡ drop k l
  part_tail k l = take_all (length l - k) (drop k l) (omega (arith, length-drop k l))

-- ---- zeros

-- the bits that are all 0 are those of zero
zero_bits : of_bits binary32 0 ≡ zero_f32
unfolding of_int of_bits
zero_bits = refl

pub zeros_f32 : (n : ℕ) {l : List Float} → l ≡ replicate n (of_bits binary32 0) → l ≡ replicate n zero_f32
zeros_f32 n h = h ∙ ap (replicate n) zero_bits

-- Assumes nothing.
