-- The three constants are computed; the folded angle is the definition's, and each branch its own.
use mathlib.Core.Path.{◌≡◌, refl, ◌∙◌}
use mathlib.Core.Bool.{true, false}
use lib.Ieee.{Float, binary32, of_bits, mul, div, le, neg}
use Rattle.numbers.specs.Arith.{f, ◌⊗◌, ◌⊘◌, ◌⊖◌}
use Rattle.numbers.specs.Magnitude.{min_of}
use Rattle.wholes.specs.Whole.{floor_of}
use Rattle.approximations.specs.Cos.{fast_cos, cos_core, folded}
use Rattle.approximations.proofs.fast_cos.Goals as goal

-- the code's three constants, computed
two-pi : f 0x40490fdb ⊗ f 0x40000000 ≡ f 0x40c90fdb
unfolding of_bits mul
two-pi = refl

part : f 0x3f000000 ⊘ f 0x40490fdb ≡ f 0x3e22f983
unfolding of_bits div
part = refl

half-pi : f 0x40490fdb ⊘ f 0x40000000 ≡ f 0x3fc90fdb
unfolding of_bits div
half-pi = refl

-- the code's angle, from its whole turns w
angle : (x w r : Float) → w ≡ floor_of binary32 (x ⊗ (f 0x3f000000 ⊘ f 0x40490fdb)) →
    r ≡ min_of (x ⊖ w ⊗ (f 0x40490fdb ⊗ f 0x40000000)) (f 0x40490fdb ⊗ f 0x40000000 ⊖ (x ⊖ w ⊗ (f 0x40490fdb ⊗ f 0x40000000))) →
    r ≡ folded x
unfolding folded
angle x w r p q = q ∙ rw (two-pi, p, part)

from_quarter : (x a r : Float) → a ≡ folded x → le (f 0x40490fdb ⊘ f 0x40000000) a ≡ true → r ≡ cos_core (f 0x40490fdb ⊖ a) → neg r ≡ fast_cos x
unfolding fast_cos
from_quarter x a r p q e = rw e (rw (← p) (rw (← half-pi) (rw q)))

below_quarter : (x a r : Float) → a ≡ folded x → le (f 0x40490fdb ⊘ f 0x40000000) a ≡ false → r ≡ cos_core a → r ≡ fast_cos x
unfolding fast_cos
below_quarter x a r p q e = rw e (rw (← p) (rw (← half-pi) (rw q)))

pub returns-then-x_pi : goal.returns-then-x_pi
returns-then-x_pi c =
    from_quarter _ _ _ (angle c.args.x _ _ c.floor.ensures c.min-x_pi.ensures) c.if-x_pi.true c.cos_core.ensures

pub returns-else-x_pi : goal.returns-else-x_pi
returns-else-x_pi c =
    below_quarter _ _ _ (angle c.args.x _ _ c.floor.ensures c.min-x_pi.ensures) c.if-x_pi.false c.cos_core-else-x_pi.ensures
