-- Readings of the scope on walks, computed.
use mathlib.Core.Path.{◌≡◌, refl, ap}
use mathlib.Core.Bool.{false}
use mathlib.Core.List.{List, [], ◌∷◌}
use Prim.Native.Nat.{ℕ, zero, suc, ◌<◌}
use native.Mathlib.Omega.{arith}
use lib.IntN.{pos, negsuc}
use lib.Ieee.{Float, fin, add, sub, mul, div, le, of_int, of_bits}
use Rattle.numbers.specs.Arith.{1·0}
use Rattle.roots.specs.Root.{sqrt_of}
use Rattle.curve.specs.declared.Point.{Point}
use Rattle.walk.specs.declared.Stretch.TheVariants.{Emits}
use Rattle.walk.specs.Walk.{Ended, More, PointToDraw, to_draw, before, distance_of, point_at, stretch_in, stretch_of, walk_from, walk_in, walk_length}

abbrev o : Float
o = fin false 0 (pos 0)

-- the point (x, 0) with a multiplier
abbrev at : Float → Float → PointToDraw
at x m = to_draw (record { x = x; y = o }) m

-- (0, 0), (2.5, 0): four points, multipliers 1, 1, 1, 0.5
pub four : walk_in 8388608 (o ∷ o ∷ fin false 5 (negsuc 0) ∷ o ∷ [])
    ≡ Ended (at o 1·0 ∷ at 1·0 1·0 ∷ at (fin false 1 (pos 1)) 1·0 ∷ at (fin false 5 (negsuc 0)) (fin false 1 (negsuc 0)) ∷ [])
unfolding walk_in walk_from stretch_of stretch_in point_at distance_of sqrt_of add sub mul div le of_bits
four = refl

-- (0, 0), (1, 0): three points, the last multiplier 0
pub three : walk_in 8388608 (o ∷ o ∷ 1·0 ∷ o ∷ []) ≡ Ended (at o 1·0 ∷ at 1·0 1·0 ∷ at 1·0 o ∷ [])
unfolding walk_in walk_from stretch_of stretch_in point_at distance_of sqrt_of add sub mul div le of_bits
three = refl

-- one point: two points, and a length of 0
pub two : walk_in 8388608 (o ∷ o ∷ []) ≡ Ended (at o 1·0 ∷ at o o ∷ [])
unfolding walk_in walk_from stretch_of stretch_in point_at distance_of sqrt_of add sub mul div le of_bits
two = refl

pub no_length : walk_length 2 o ≡ o
unfolding walk_length add mul of_int of_bits
no_length = refl

-- ---- a walk that never ends: from 16777216 a step of 1 towards 16777218 rounds away

abbrev far : List Float
far = fin false 1 (pos 24) ∷ o ∷ fin false 8388609 (pos 1) ∷ o ∷ []

abbrev still : Point
still = record { x = fin false 1 (pos 24); y = o }

stays : (i : ℕ) → i < 2 → stretch_of far i still ≡ Emits still 1
unfolding stretch_of stretch_in point_at distance_of sqrt_of add sub mul div le of_bits
stays zero h = refl
stays (suc zero) h = refl
stays (suc (suc i)) h = absurd (omega arith)

from : (k i : ℕ) → i < 2 → walk_from k far i still ≡ More
unfolding walk_from of_bits
from zero i h = refl
from (suc k) i h = rw (stays i h) (ap (before (to_draw still 1·0 ∷ [])) (from k 1 (omega arith)))

pub endless : (k : ℕ) → walk_in k far ≡ More
unfolding walk_in point_at of_bits
endless zero = refl
endless (suc k) = ap (before (to_draw still 1·0 ∷ [])) (from k 0 (omega arith))

-- Assumes nothing.
