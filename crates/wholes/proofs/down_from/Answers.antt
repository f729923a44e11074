-- The nearest whole number, and a step where the comparison asks for one.
use mathlib.Core.Path.{ap, sym, ◌∙◌}
use lib.Ieee.{Float, binary32, of_bits, sub, lt}
use Rattle.numbers.proofs.Zero.{yes, no, two_to}
use Rattle.wholes.proofs.Steps.{stepped_down, stayed_down}
use Rattle.wholes.proofs.down_from.Goals as goal

pub returns-then-a-t : goal.returns-then-a-t
unfolding of_bits
returns-then-a-t c =
    let t = c.nearest_to-t.ensures in
    ap (λ (z : Float). sub binary32 z (two_to 0)) t
    ∙ stepped_down c.args.a c.requires (yes (sym (ap (λ (z : Float). lt c.args.a z) t) ∙ c.if-a-t.true))

pub returns-else-a-t : goal.returns-else-a-t
returns-else-a-t c =
    let t = c.nearest_to-t.ensures in
    t ∙ stayed_down c.args.a c.requires (no (sym (ap (λ (z : Float). lt c.args.a z) t) ∙ c.if-a-t.false))
