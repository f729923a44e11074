-- The checks pass or their code is the answer; then the segment's columns are drawn.
use mathlib.Core.Path.{sym, ◌∙◌}
use native.Mathlib.Omega.{arith}
use Rattle.draw.specs.Draw.{three}
use Rattle.checks.proofs.Checks.{span_facts}
use Rattle.alone.proofs.Alone.{not_known, no_row, no_span, drawn_alone, count_alone, columns_alone}
use Rattle.alone.specs.Alone.{without_owner}
use Rattle.alone.proofs.draw_alone.Goals as goal

pub returns-then-not-known : goal.returns-then-not-known
returns-then-not-known c =
    let A = c.args in
    not_known A.known (without_owner A.whole) A.y A.x0 A.n (three A.r0.now A.r1.now A.r2.now) c.if-not-known.true

pub returns-then-y-ge8388608 : goal.returns-then-y-ge8388608
returns-then-y-ge8388608 c =
    let A = c.args in
    no_row A.known (without_owner A.whole) A.y A.x0 A.n (three A.r0.now A.r1.now A.r2.now) c.if-not-known.false (omega arith)

pub returns-then-not-span_good : goal.returns-then-not-span_good
returns-then-not-span_good c =
    let A = c.args in
    no_span A.known (without_owner A.whole) A.y A.x0 A.n (three A.r0.now A.r1.now A.r2.now) c.if-not-known.false (omega arith) (sym c.span_good.ensures ∙ c.if-not-span_good.true)

pub invariant_of-part : goal.invariant_of-part
invariant_of-part c =
    let f = span_facts _ _ _ _ _ (sym c.span_good.ensures ∙ c.if-not-span_good.false) in
    record { in_image = (f.inside_image, omega arith) }

pub draw_columns-requires : goal.draw_columns-requires
draw_columns-requires c =
    let f = span_facts _ _ _ _ _ (sym c.span_good.ensures ∙ c.if-not-span_good.false) in
    record { fits0 = f.fits0; fits1 = f.fits1; fits2 = f.fits2 }

pub returns : goal.returns
returns c =
    let A = c.args in
    let g = sym c.span_good.ensures ∙ c.if-not-span_good.false in
    let h = (span_facts _ _ _ _ _ g).inside_image in
    let s = c.from-segment.ensures in
    let q = rw s at c.columns-columns.ensures in
    let e = c.draw_columns.ensures in
    let e0 = rw s at e.r0_after in
    let e1 = rw s at e.r1_after in
    let e2 = rw s at e.r2_after in
    drawn_alone A.known (without_owner A.whole) A.y A.x0 A.n (three A.r0.now A.r1.now A.r2.now) c.if-not-known.false (omega arith) g
    (count_alone (without_owner A.whole) A.x0 A.n _ q h _ (c.from.ensures ∙ e.value))
    (columns_alone (without_owner A.whole) A.x0 A.n _ q h 0 A.y _ _ e0)
    (columns_alone (without_owner A.whole) A.x0 A.n _ q h 1 A.y _ _ e1)
    (columns_alone (without_owner A.whole) A.x0 A.n _ q h 2 A.y _ _ e2)
