-- Each way out is decided by the tests that led there; the cells are written at the very end.
use mathlib.Core.Path.{refl, sym, ◌∙◌}
use Prim.Native.Nat.{◌<◌, ◌≤◌}
use native.Mathlib.Omega.{arith}
use lib.ListN.{length}
use Rattle.desks.specs.Desks.{sight_in}
use Rattle.checks.specs.Tables.{table_in}
use Rattle.bands.specs.Bands.{bands_in}
use Rattle.bands.proofs.Whole.{cells_fit, before_fits, refresh_fault, refresh_past, refresh_bad, refresh_done}
use Rattle.bands.proofs.refresh.Goals as goal

pub bands_in-bands-requires : goal.bands_in-bands-requires
bands_in-bands-requires c =
    let A = c.args in
    let h = before_fits (table_in A.table.now) (sight_in A.sight.now) A.width _ (sym c.judge.ensures ∙ c.in-Ok.is) in
    h.lent.counts.table.low

pub returns-then-bands-band : goal.returns-then-bands-band
returns-then-bands-band c =
    let A = c.args in
    let k : bands_in A.table.now.height ≤ A.band = omega (arith, c.bands_in-bands.ensures, c.if-bands-band.true) in
    refresh_past (table_in A.table.now) (sight_in A.sight.now) A.width A.band A.cells.now (sym c.judge.ensures ∙ c.in-Ok.is) k

pub sum_band-requires : goal.sum_band-requires
sum_band-requires c =
    let A = c.args in
    let h = before_fits (table_in A.table.now) (sight_in A.sight.now) A.width _ (sym c.judge.ensures ∙ c.in-Ok.is) in
    let k : A.band < bands_in A.table.now.height = omega (arith, c.bands_in-bands.ensures, c.if-bands-band.false) in
    record { lent = h.lent; b_bound = (k, h.narrow) }

pub returns-in_default : goal.returns-in_default
returns-in_default c =
    let A = c.args in
    let k : A.band < bands_in A.table.now.height = omega (arith, c.bands_in-bands.ensures, c.if-bands-band.false) in
    refresh_bad (table_in A.table.now) (sight_in A.sight.now) A.width A.band A.cells.now (sym c.judge.ensures ∙ c.in-Ok.is) k (sym c.sum_band.ensures ∙ c.in_default.is)

pub put-requires : goal.put-requires
put-requires c =
    let A = c.args in
    let h = before_fits (table_in A.table.now) (sight_in A.sight.now) A.width _ (sym c.judge.ensures ∙ c.in-Ok.is) in
    let k : A.band < bands_in A.table.now.height = omega (arith, c.bands_in-bands.ensures, c.if-bands-band.false) in
    omega (arith, cells_fit A.table.now.height A.band (length A.cells.now) k h.roomy)

pub returns-in-Err : goal.returns-in-Err
returns-in-Err c =
    let A = c.args in
    refresh_fault (table_in A.table.now) (sight_in A.sight.now) A.width A.band A.cells.now (sym c.judge.ensures ∙ c.in-Err.is)

pub returns-in-Some : goal.returns-in-Some
returns-in-Some c =
    let A = c.args in
    let k : A.band < bands_in A.table.now.height = omega (arith, c.bands_in-bands.ensures, c.if-bands-band.false) in
    refresh_done (table_in A.table.now) (sight_in A.sight.now) A.width A.band A.cells.now (sym c.judge.ensures ∙ c.in-Ok.is) _ _ k (sym c.sum_band.ensures ∙ c.in-Some.is) (omega (arith, k, c.bands_in-bands.ensures)) refl c.put.ensures
