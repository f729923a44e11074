-- The magnitude, turned or not.
use mathlib.Core.Path.{◌∙◌, ap, sym}
use mathlib.Core.Bool.{Bool}
use lib.Ieee.{neg}
use Rattle.numbers.specs.Magnitude.{with_sign}
use Rattle.numbers.proofs.Signs.{signed_minus, signed_plus}
use Rattle.numbers.proofs.with_sign.Goals as goal

pub returns-then-s : goal.returns-then-s
returns-then-s c = ap neg c.abs-a.ensures ∙ signed_minus c.args.x ∙ ap (λ (t : Bool). with_sign t c.args.x) (sym c.if-s.true)

pub returns-else-s : goal.returns-else-s
returns-else-s c = c.abs-a.ensures ∙ signed_plus c.args.x ∙ ap (λ (t : Bool). with_sign t c.args.x) (sym c.if-s.false)
