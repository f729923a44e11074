-- `check`: each way out is decided by the tests that led there.
use mathlib.Core.Path.{sym, ◌∙◌}
use native.Mathlib.Omega.{arith}
use Rattle.checks.specs.Tables.{table_in}
use Rattle.makers_search.proofs.Answers.{counts_facts, size_told, shape_told, counts_told, first_told, row_told, end_told, done_told}
use Rattle.makers_search.proofs.check.Goals as goal

pub returns-then-table-gt8388608 : goal.returns-then-table-gt8388608
returns-then-table-gt8388608 c = size_told (table_in c.args.table.now) c.if-table-gt8388608.true

pub returns-then-table-rows : goal.returns-then-table-rows
returns-then-table-rows c = shape_told (table_in c.args.table.now) c.if-table-gt8388608.false c.if-table-rows.true

pub returns-then-not-counts_good : goal.returns-then-not-counts_good
returns-then-not-counts_good c =
    counts_told (table_in c.args.table.now) c.if-table-gt8388608.false c.if-table-rows.false (sym c.counts_good.ensures ∙ c.if-not-counts_good.true)

pub returns-then-table-ne0 : goal.returns-then-table-ne0
returns-then-table-ne0 c =
    first_told (table_in c.args.table.now) c.if-table-gt8388608.false c.if-table-rows.false (sym c.counts_good.ensures ∙ c.if-not-counts_good.false) c.if-table-ne0.true

pub first_wrong-wrong-requires : goal.first_wrong-wrong-requires
first_wrong-wrong-requires c =
    let f = counts_facts _ _ _ _ (sym c.counts_good.ensures ∙ c.if-not-counts_good.false) in
    record {
      segments = record { stored = f.segments_fit; few = f.few_segments };
      entries = (f.entries_fit, omega (arith, c.if-table-rows.false), c.if-table-gt8388608.false);
      row_starts_value = c.if-table-ne0.false;
    }

pub returns-then-wrong-rows : goal.returns-then-wrong-rows
returns-then-wrong-rows c =
    row_told (table_in c.args.table.now) c.if-table-gt8388608.false c.if-table-rows.false (sym c.counts_good.ensures ∙ c.if-not-counts_good.false) c.if-table-ne0.false c.first_wrong-wrong.ensures c.if-wrong-rows.true

pub returns-then-table-rows-2 : goal.returns-then-table-rows-2
returns-then-table-rows-2 c =
    end_told (table_in c.args.table.now) c.if-table-gt8388608.false c.if-table-rows.false (sym c.counts_good.ensures ∙ c.if-not-counts_good.false) c.if-table-ne0.false c.first_wrong-wrong.ensures c.if-wrong-rows.false c.if-table-rows-2.true

pub returns : goal.returns
returns c =
    done_told (table_in c.args.table.now) c.if-table-gt8388608.false c.if-table-rows.false (sym c.counts_good.ensures ∙ c.if-not-counts_good.false) c.if-table-ne0.false c.first_wrong-wrong.ensures c.if-wrong-rows.false c.if-table-rows-2.false
