-- `first_wrong`: the rows below the first that does not fit do, and it is wrong itself.
use mathlib.Core.Path.{sym, subst}
use Prim.Native.Nat.{ℕ}
use native.Mathlib.Omega.{arith}
use Rattle.rows.specs.Rows.{in_row}
use Rattle.makers.specs.Steps.{row_fits, Fitting}
use Rattle.makers.proofs.Rows.{first_is}
use Rattle.makers.proofs.Short.{fitting, through}
use Rattle.makers_search.proofs.first_wrong.Goals as goal

pub first_short-requires : goal.first_short-requires
first_short-requires c =
    let A = c.args in
    let P = c.requires in
    let e = c.first_unfit-bad.ensures in
    let w = (first_is (row_fits (in_row A.table.now.segments.now) A.table.now.segment_count A.table.now.row_starts.now A.table.now.entries.now A.table.now.entry_count) 0 A.height).within in
    record {
      segments = P.segments;
      bad_bound = (omega (arith, e, w, P.entries), omega (arith, e, w, P.entries));
      fitting =
          subst (λ (bad : ℕ). Fitting (in_row A.table.now.segments.now) A.table.now.segment_count A.table.now.row_starts.now A.table.now.entries.now A.table.now.entry_count bad) (sym e)
          (fitting (in_row A.table.now.segments.now) A.table.now.segment_count A.table.now.row_starts.now A.table.now.entries.now A.table.now.entry_count A.height P.row_starts_value P.entries.0);
    }

pub returns : goal.returns
returns c = through _ _ _ _ _ _ _ _ c.first_unfit-bad.ensures c.first_short.ensures
