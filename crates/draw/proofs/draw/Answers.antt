-- A refusal leaves the channels; where every check passed, the row's entries are drawn and counted.
use mathlib.Core.Path.{sym, ◌∙◌}
use native.Mathlib.Omega.{arith}
use Rattle.desks.specs.Desks.{sight_in}
use Rattle.checks.specs.Tables.{table_in}
use Rattle.checks.proofs.Checks.{judged_fine, row_fits}
use Rattle.draw.specs.Draw.{three}
use Rattle.draw.proofs.Checks.{answer_fault, answer_done}
use Rattle.draw.proofs.draw.Goals as goal

pub returns-in-Err : goal.returns-in-Err
returns-in-Err c =
    let A = c.args in
    answer_fault (table_in A.table.now) (sight_in A.sight.now) A.y A.x0 A.n (three A.r0.now A.r1.now A.r2.now) (sym c.judge.ensures ∙ c.in-Err.is)

pub bounds-table-at : goal.bounds-table-at
bounds-table-at c =
    let f = judged_fine _ _ _ _ _ _ _ _ (sym c.judge.ensures ∙ c.in_default.is) in
    omega (arith, f.in_image, f.lent.counts.table.starts_fit)

pub bounds-table-at-2 : goal.bounds-table-at-2
bounds-table-at-2 c =
    let f = judged_fine _ _ _ _ _ _ _ _ (sym c.judge.ensures ∙ c.in_default.is) in
    omega (arith, f.in_image, f.lent.counts.table.starts_fit)

pub invariant_of-part : goal.invariant_of-part
invariant_of-part c =
    let f = judged_fine _ _ _ _ _ _ _ _ (sym c.judge.ensures ∙ c.in_default.is) in
    record { in_image = (f.span.inside_image, omega (arith, f.in_image, f.lent.counts.table.low)) }

pub draw_entries-requires : goal.draw_entries-requires
draw_entries-requires c =
    let f = judged_fine _ _ _ _ _ _ _ _ (sym c.judge.ensures ∙ c.in_default.is) in
    record {
      entries_fit = row_fits f.lent f.row;
      few = omega (arith, f.row.table.in_count, f.lent.counts.table.few_entries);
      channels_fit = record { fits0 = f.span.fits0; fits1 = f.span.fits1; fits2 = f.span.fits2 };
    }

pub returns : goal.returns
returns c =
    let A = c.args in
    let d = c.draw_entries.ensures in
    answer_done (table_in A.table.now) (sight_in A.sight.now) A.y A.x0 A.n (three A.r0.now A.r1.now A.r2.now) (sym c.judge.ensures ∙ c.in_default.is) d.value d.r0_after d.r1_after d.r2_after
