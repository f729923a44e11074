-- The nearest whole number, and a step where the comparison asks for one.
use mathlib.Core.Path.{ap, sym, ◌∙◌}
use lib.Ieee.{Float, binary32, of_bits, add, lt}
use Rattle.numbers.proofs.Zero.{yes, no, two_to}
use Rattle.wholes.proofs.Steps.{stepped_up, stayed_up}
use Rattle.wholes.proofs.up_from.Goals as goal

pub returns-then-t-a : goal.returns-then-t-a
unfolding of_bits
returns-then-t-a c =
    let t = c.nearest_to-t.ensures in
    ap (λ (z : Float). add binary32 z (two_to 0)) t
    ∙ stepped_up c.args.a c.requires (yes (sym (ap (λ (z : Float). lt z c.args.a) t) ∙ c.if-t-a.true))

pub returns-else-t-a : goal.returns-else-t-a
returns-else-t-a c =
    let t = c.nearest_to-t.ensures in
    t ∙ stayed_up c.args.a c.requires (no (sym (ap (λ (z : Float). lt z c.args.a) t) ∙ c.if-t-a.false))
