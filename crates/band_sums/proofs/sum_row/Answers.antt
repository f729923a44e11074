-- Each way out is decided by the tests that led there.
use borrow.Author.Tests.{lt-leb, le-leb}
use Rattle.checks.specs.Checks.{entries_good, row_good_for}
use Rattle.band_sums.proofs.sum_row.Goals as goal

pub returns-then-e-b : goal.returns-then-e-b
unfolding entries_good row_good_for
returns-then-e-b c = rw (lt-leb _ _ c.if-e-b.true)

pub returns-then-table-e : goal.returns-then-table-e
unfolding entries_good row_good_for
returns-then-table-e c = rw (le-leb _ _ c.if-e-b.false, lt-leb _ _ c.if-table-e.true)

pub returns : goal.returns
unfolding entries_good row_good_for
returns c = rw (le-leb _ _ c.if-e-b.false, le-leb _ _ c.if-table-e.false) c.sum_entries.ensures
