-- Magnitudes, signs, the lesser and the greater of two: Rust's `abs`, `copysign`, `total_cmp` of magnitudes, `min`, `max` and `is_infinite`. Definitions only.
use Rattle.std.specs.Prelude.{Bool, true, false, cond, Float}
use Rattle.std.specs.Float.{nan, inf, fin}
use Rattle.std.specs.Float.Ieee.{lt, is_nan}

unfoldable pub abs_of : Float → Float
abs_of nan = nan
abs_of (inf s) = inf false
abs_of (fin s m e) = fin false m e

-- whether x has the sign of a negative number; a NaN has none
unfoldable pub sign_of : Float → Bool
sign_of nan = false
sign_of (inf s) = s
sign_of (fin s m e) = s

-- the magnitude of x with the sign s
unfoldable pub with_sign : Bool → Float → Float
with_sign s nan = nan
with_sign s (inf t) = inf s
with_sign s (fin t m e) = fin s m e

-- the greater of two magnitudes by the total order, in which a NaN is above an infinity
unfoldable pub top_of : Float → Float → Float
unfolding is_nan lt
top_of a b = cond (is_nan a) a (cond (is_nan b) b (cond (lt a b) b a))

-- the lesser of two; a NaN gives the other one, and of two that are equal the first is taken
unfoldable pub min_of : Float → Float → Float
unfolding is_nan lt
min_of a b = cond (is_nan a) b (cond (lt b a) b a)

-- the greater of two, in the same way
unfoldable pub max_of : Float → Float → Float
unfolding is_nan lt
max_of a b = cond (is_nan a) b (cond (lt a b) b a)

unfoldable pub is_infinite : Float → Bool
is_infinite nan = false
is_infinite (inf s) = true
is_infinite (fin s m e) = false
