use mathlib.Core.Path.{◌≡◌, sym, ◌∙◌}
use Prim.Native.Nat.{suc, ◌<◌}
use native.Mathlib.Omega.{arith}
use lib.ListN.{get_or}
use borrow.Author.Tests.{ltb-true, ltb-false}
use Rattle.rows.specs.Rows.{start_of, in_row}
use Rattle.makers.proofs.Short.{none_short, first_short}
use Rattle.makers_search.proofs.Sums.{begin_full, some_rows}
use Rattle.makers_search.proofs.first_short.Goals as goal

pub returns-then-not-short_before : goal.returns-then-not-short_before
returns-then-not-short_before c = none_short _ _ _ _ _ _ c.requires.fitting (ltb-false _ _ (sym c.short_before.ensures ∙ c.if-not-short_before.true))

pub loop-low-init : goal.loop-low-init
loop-low-init c =
    let A = c.args in
    let f = c.requires.fitting in
    let s : get_or A.table.now.row_starts.now A.bad 0 < start_of (in_row A.table.now.segments.now) A.table.now.segment_count A.bad =
    ltb-true _ _ (sym c.short_before.ensures ∙ c.if-not-short_before.false) in (
      some_rows (in_row A.table.now.segments.now) A.table.now.segment_count A.table.now.row_starts.now f.begins A.bad s,
      omega arith,
      begin_full (in_row A.table.now.segments.now) A.table.now.segment_count A.table.now.row_starts.now f.begins,
      s,
    )

pub loop-low-preserved-then-short_before : goal.loop-low-preserved-then-short_before
loop-low-preserved-then-short_before c =
    let l = c.loop-low in
    (omega arith, omega arith, l.invariant.2, ltb-true _ _ (sym c.short_before-in-loop-low.ensures ∙ c.if-short_before.true))

pub loop-low-preserved : goal.loop-low-preserved
loop-low-preserved c =
    let l = c.loop-low in
    (omega arith, omega arith, ltb-false _ _ (sym c.short_before-in-loop-low.ensures ∙ c.if-short_before.false), l.invariant.3)

pub returns : goal.returns
returns c =
    let l = c.loop-low in
    let e : l.high ≡ suc l.low = omega arith in
    ◌∙◌ {b = l.low} (omega arith) (first_short _ _ _ _ _ _ c.requires.fitting l.low (omega arith) l.invariant.2 (rw e at l.invariant.3))
