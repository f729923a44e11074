-- `is_shaped`: each test is one of the three comparisons of lengths, taken apart so that nothing wraps.
use mathlib.Core.Path.{◌∙◌}
use borrow.Author.Tests.{eq-eqb, ne_eqb}
use Rattle.shape.proofs.Shape.{and_then, and_else, by_sum, by_tests}
use Rattle.shape.proofs.is_shaped.Goals as goal
use Rattle.shape.proofs.is_shaped.Goals.{then-description-splines, else-description-splines, then-description-eq0, else-description-eq0, then-description-eq0-2, else-description-eq0-2}

pub returns-then-description-splines-2 : goal.returns-then-description-splines-2
returns-then-description-splines-2 c =
    let d = c.args.description.now in
    c.sum_is.ensures
    ∙ by_sum d.counts.now d.starts.now d.deltas.now d.coefficients.now c.if-description-splines.value c.if-description-eq0.value c.if-description-eq0-2.value
    (elim c.if-description-splines.branch [ then-description-splines w ↦ and_then (eq-eqb _ _ w.if-description-splines.true) w.value-is | else-description-splines w ↦ and_else _ (ne_eqb _ _ w.if-description-splines.false) w.value-is ])
    (elim c.if-description-eq0.branch [ then-description-eq0 w ↦ and_then w.if-description-eq0.true w.value-is | else-description-eq0 w ↦ and_else _ w.if-description-eq0.false w.value-is ])
    (elim c.if-description-eq0-2.branch [ then-description-eq0-2 w ↦ and_then w.if-description-eq0-2.true w.value-is | else-description-eq0-2 w ↦ and_else _ w.if-description-eq0-2.false w.value-is ])
    c.if-description-splines-2.true

pub returns-else-description-splines-2 : goal.returns-else-description-splines-2
returns-else-description-splines-2 c =
    let d = c.args.description.now in
    by_tests d.counts.now d.starts.now d.deltas.now d.coefficients.now c.if-description-splines.value c.if-description-eq0.value c.if-description-eq0-2.value
    (elim c.if-description-splines.branch [ then-description-splines w ↦ and_then (eq-eqb _ _ w.if-description-splines.true) w.value-is | else-description-splines w ↦ and_else _ (ne_eqb _ _ w.if-description-splines.false) w.value-is ])
    (elim c.if-description-eq0.branch [ then-description-eq0 w ↦ and_then w.if-description-eq0.true w.value-is | else-description-eq0 w ↦ and_else _ w.if-description-eq0.false w.value-is ])
    (elim c.if-description-eq0-2.branch [ then-description-eq0-2 w ↦ and_then w.if-description-eq0-2.true w.value-is | else-description-eq0-2 w ↦ and_else _ w.if-description-eq0-2.false w.value-is ])
    c.if-description-splines-2.false
