-- The bands below b are written, and the rows from band b on decide.
use mathlib.Core.Path.{◌≡◌}
use lib.ListN.{length}
use Rattle.desks.specs.Desks.{sight_in}
use Rattle.checks.specs.Tables.{table_in}
use Rattle.bands.specs.Bands.{rows_good_from, band_numbers, put_bands}
use Rattle.bands.proofs.Whole.{good_on}
use Rattle.bands.proofs.fill.Given as goal

abbrev pub invariant-loop-b : goal.invariant-loop-b
invariant-loop-b l =
    let t = table_in l.table in
    let s = sight_in l.sight in
    (length l.cells ≡ length l.initial.cells)
    × (l.cells ≡ put_bands l.initial.cells (band_numbers t s l.width) l.b)
    × (rows_good_from t s 0 t.height ≡ good_on t s l.b)
