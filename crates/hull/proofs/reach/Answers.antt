-- A refusal by the checks; where every check passed, the reach over the row's entries.
use mathlib.Core.Path.{sym, ◌∙◌}
use native.Mathlib.Omega.{arith}
use Rattle.desks.specs.Desks.{sight_in}
use Rattle.checks.specs.Tables.{table_in}
use Rattle.hull.proofs.Reaches.{judged_reach, reach_fault, reach_done}
use Rattle.hull.proofs.reach.Goals as goal

pub bounds-table-at : goal.bounds-table-at
bounds-table-at c =
    let f = judged_reach _ _ _ _ (sym c.judge_reach.ensures ∙ c.in-Ok.is) in
    omega arith

pub bounds-table-at-in-Ok : goal.bounds-table-at-in-Ok
bounds-table-at-in-Ok c =
    let f = judged_reach _ _ _ _ (sym c.judge_reach.ensures ∙ c.in-Ok.is) in
    omega arith

pub reach_entries-requires : goal.reach_entries-requires
reach_entries-requires c =
    let f = judged_reach _ _ _ _ (sym c.judge_reach.ensures ∙ c.in-Ok.is) in
    let lent = f.lent.counts in (
      record {
        ascending = f.row.table.ascending;
        entries_fit = omega (arith, f.row.table.in_count, lent.table.entries_fit);
        segments_fit = lent.table.segments_fit;
        owners_fit = lent.owners_fit;
        bytes = f.lent.bytes;
        desk = f.lent.desk;
        named = f.row.table.all_named;
        owned = f.row.all_owned_lem;
      },
      f.narrow,
    )

pub returns-in-Err : goal.returns-in-Err
returns-in-Err c =
    let A = c.args in
    reach_fault (table_in A.table.now) (sight_in A.sight.now) A.y A.width (sym c.judge_reach.ensures ∙ c.in-Err.is)

pub returns-in-Ok : goal.returns-in-Ok
returns-in-Ok c =
    let A = c.args in
    reach_done (table_in A.table.now) (sight_in A.sight.now) A.y A.width _ (sym c.judge_reach.ensures ∙ c.in-Ok.is) c.reach_entries.ensures
