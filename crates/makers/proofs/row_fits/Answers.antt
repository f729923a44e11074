-- `row_fits`: each way out is decided by the tests that led there.
use mathlib.Core.Path.{sym, ap, ◌∙◌}
use mathlib.Core.List.{List}
use Prim.Native.Nat.{ℕ, ◌+◌}
use lib.ListN.{get_or}
use native.Mathlib.Omega.{arith}
use borrow.Author.Tests.{le-leb, lt-leb, leb-true}
use Rattle.rows.specs.Rows.{in_row}
use Rattle.checks.proofs.Entries.{part_is}
use Rattle.makers.specs.Steps.{rising}
use Rattle.makers.proofs.Rows.{fits_by}
use Rattle.makers.proofs.row_fits.Goals.{then-b-e, else-b-e}
use Rattle.makers.proofs.row_fits.Goals as goal

pub returns-then-e-table : goal.returns-then-e-table
returns-then-e-table c =
    let A = c.args in
    elim c.if-b-e.branch [
      | then-b-e w ↦
          c.entries_rise.ensures
          ∙ ap (λ (q : List ℕ). rising (λ i. in_row A.table.now.segments.now i A.y) A.table.now.segment_count 0 q) (part_is (get_or A.table.now.row_starts.now A.y 0) (get_or A.table.now.row_starts.now (A.y + 1) 0) A.table.now.entries.now)
          ∙ sym (fits_by _ _ _ _ _ _ ∙ rw (le-leb _ _ w.if-b-e.true, sym w.value-is ∙ c.if-e-table.true))
      | else-b-e w ↦ absurd (omega (arith, leb-true _ _ (sym w.value-is ∙ c.if-e-table.true), w.if-b-e.false))
    ]

pub returns-else-e-table : goal.returns-else-e-table
returns-else-e-table c =
    elim c.if-b-e.branch [
      | then-b-e w ↦ c.if-e-table.false ∙ sym (fits_by _ _ _ _ _ _ ∙ rw (le-leb _ _ w.if-b-e.true, sym w.value-is ∙ c.if-e-table.false))
      | else-b-e w ↦ c.if-e-table.false ∙ sym (fits_by _ _ _ _ _ _ ∙ rw (lt-leb _ _ w.if-b-e.false))
    ]
