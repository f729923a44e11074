use mathlib.Core.Path.{sym, ◌∙◌}
use Prim.Native.Nat.{◌-◌}
use native.Mathlib.Omega.{arith}
use Rattle.desks.specs.Desks.{sight_in}
use Rattle.checks.specs.Tables.{table_in}
use Rattle.band_sums.proofs.Sums.{rows_begin, rows_on, rows_off, rows_end, rows_all, row_most}
use Rattle.band_sums.proofs.sum_rows.Goals as goal

pub loop-at-init : goal.loop-at-init
loop-at-init c =
    let A = c.args in
    (omega arith, rows_begin (table_in A.table.now) (sight_in A.sight.now) A.width _ A.y (A.end - A.y) (omega arith) (omega arith) (omega arith) (omega arith) (omega arith))

pub sum_row-requires : goal.sum_row-requires
sum_row-requires c = record { lent = c.requires.lent; y_lt_height = (omega arith, c.loop-at.invariant.0) }

pub returns-in_err-sum : goal.returns-in_err-sum
returns-in_err-sum c =
    let A = c.args in
    let l = c.loop-at in
    let t = c.loop-at-test.true in
    c.from_residual.ensures ∙ sym
    (sym (rows_all (table_in A.table.now) (sight_in A.sight.now) A.width c.requires.y_le_end.2 A.y (A.end - A.y))
    ∙ l.invariant.1
    ∙ rows_off (table_in A.table.now) (sight_in A.sight.now) A.width l.sum l.at A.end t (sym c.sum_row.ensures ∙ c.in_err-sum.was))

pub loop-at-preserved : goal.loop-at-preserved
loop-at-preserved c =
    let A = c.args in
    let l = c.loop-at in
    let t = c.loop-at-test.true in
    let g = sym c.sum_row.ensures ∙ c.in_ok-sum.was in (
      row_most (table_in A.table.now) (sight_in A.sight.now) A.width l.sum _ l.at c.requires.lent l.invariant.0 g,
      l.invariant.1 ∙ rows_on (table_in A.table.now) (sight_in A.sight.now) A.width l.sum _ l.at A.end t g,
    )

pub returns : goal.returns
returns c =
    let A = c.args in
    let l = c.loop-at in
    sym
    (sym (rows_all (table_in A.table.now) (sight_in A.sight.now) A.width c.requires.y_le_end.2 A.y (A.end - A.y))
    ∙ l.invariant.1
    ∙ rows_end (table_in A.table.now) (sight_in A.sight.now) A.width l.sum l.at A.end c.loop-at-test.false)
