use mathlib.Core.Path.{◌≡◌, sym, ◌∙◌}
use native.Mathlib.Omega.{arith}
use Rattle.makers.proofs.Rows.{first_begin, first_next, first_stop, first_end}
use Rattle.makers.proofs.first_unfit.Goals as goal

pub loop-y-init : goal.loop-y-init
loop-y-init c = first_begin _ _

pub returns-then-not-row_fits : goal.returns-then-not-row_fits
returns-then-not-row_fits c = sym (c.loop-y.invariant ∙ first_stop _ _ _ c.loop-y-test.true (sym c.row_fits.ensures ∙ c.if-not-row_fits.true))

pub loop-y-preserved : goal.loop-y-preserved
loop-y-preserved c = c.loop-y.invariant ∙ first_next _ _ _ c.loop-y-test.true (sym c.row_fits.ensures ∙ c.if-not-row_fits.false)

pub returns : goal.returns
returns c =
    let e : c.loop-y.y ≡ c.args.height = omega arith in
    sym e ∙ sym (c.loop-y.invariant ∙ first_end _ _ _ (omega arith))
