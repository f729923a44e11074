-- `numbers::max`: a NaN gives the other number.
use mathlib.Core.Path.{◌≡◌, sym, ◌∙◌}
use mathlib.Core.Bool.{true}
use lib.Ieee.{Float, is_nan}
use Rattle.numbers.specs.Magnitude.{max_of}
use Rattle.numbers.proofs.max.Goals as goal

other : (a b : Float) → is_nan a ≡ true → b ≡ max_of a b
unfolding max_of
other a b e = rw e

pub returns-then-is_nan : goal.returns-then-is_nan
returns-then-is_nan c = other c.args.a c.args.b (sym c.is_nan.ensures.value ∙ c.if-is_nan.true)
