-- Readings of the scope that are about numbers: each holds by computing.
use mathlib.Core.Path.{◌≡◌, refl}
use mathlib.Core.Bool.{true, false}
use lib.IntN.{pos, negsuc}
use lib.Ieee.{fin, binary32, of_int, round}
use Rattle.wholes.specs.Whole.{whole_by, round_of}
use Rattle.roots.specs.Length.{length_of}

-- R(2.5) is 3
pub round_two_and_a_half : round_of binary32 (fin false 5 (negsuc 0)) ≡ fin false 3 (pos 0)
unfolding whole_by round
round_two_and_a_half = refl

-- R(-0.5) is -1
pub round_minus_a_half : round_of binary32 (fin true 1 (negsuc 0)) ≡ fin true 1 (pos 0)
unfolding whole_by round
round_minus_a_half = refl

-- 16777217 to f32 is 16777216
pub tie_down : of_int binary32 (pos 16777217) ≡ fin false 1 (pos 24)
unfolding of_int
tie_down = refl

-- 16777219 is 16777220
pub tie_up : of_int binary32 (pos 16777219) ≡ fin false 4194305 (pos 2)
unfolding of_int
tie_up = refl

-- the difference (3, 4) has length 5
pub length_five : length_of (pos 3) (pos 4) ≡ fin false 5 (pos 0)
unfolding length_of
length_five = refl

-- Assumes nothing.
