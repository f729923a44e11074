-- A band ends 64 rows on, or with the image.
use mathlib.Core.Path.{refl}
use Prim.Native.Nat.{◌*◌}
use native.Mathlib.Omega.{arith}
use Rattle.desks.specs.Desks.{sight_in}
use Rattle.checks.specs.Tables.{table_in}
use Rattle.band_sums.proofs.Sums.{band_begins, band_sum}
use Rattle.band_sums.proofs.sum_band.Goals as goal

pub sum_rows-requires : goal.sum_rows-requires
sum_rows-requires c =
    let A = c.args in
    let h = band_begins A.table.now.height A.b c.requires.b_bound.0 in
    record { lent = c.requires.lent; y_le_end = (omega (arith, h, c.min-end.ensures), omega (arith, c.min-end.ensures), c.requires.b_bound.1) }

pub returns : goal.returns
returns c =
    let A = c.args in
    band_sum (table_in A.table.now) (sight_in A.sight.now) A.width A.b (64 * A.b) c.min-end.result refl (omega (arith, c.min-end.ensures)) c.sum_rows.ensures
