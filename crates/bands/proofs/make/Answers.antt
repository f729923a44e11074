-- The cells are cleared, judged and filled; a bad row clears them again.
use mathlib.Core.Path.{◌≡◌, sym, ◌∙◌}
use mathlib.Core.Bool.{true, false}
use lib.ListN.{length}
use Rattle.desks.specs.Desks.{sight_in}
use Rattle.checks.specs.Tables.{table_in}
use Rattle.bands.proofs.Whole.{zeros_room, zeros_again, before_fits, before_same, make_fault, make_bad, make_done}
use Rattle.bands.proofs.make.Goals as goal

pub fill-requires : goal.fill-requires
fill-requires c =
    let A = c.args in
    let h = before_fits (table_in A.table.now) (sight_in A.sight.now) A.width _ (sym c.judge.ensures ∙ c.in-Ok.is) in
    record { lent = h.lent; height_in_bounds = (h.roomy, h.narrow) }

pub bands_in-requires : goal.bands_in-requires
bands_in-requires c =
    let A = c.args in
    let h = before_fits (table_in A.table.now) (sight_in A.sight.now) A.width _ (sym c.judge.ensures ∙ c.in-Ok.is) in
    h.lent.counts.table.low

pub returns-then-fill : goal.returns-then-fill
returns-then-fill c =
    let A = c.args in
    let z = c.clear.ensures in
    let h = before_same (table_in A.table.now) (sight_in A.sight.now) A.width (length A.cells.now) (zeros_room z) c.judge.ensures ∙ c.in-Ok.is in
    let f = c.fill.ensures in
    let g : c.fill.result ≡ true = search c.if-fill.true in
    make_done (table_in A.table.now) (sight_in A.sight.now) A.width (length A.cells.now) h _ _ _ (sym f.value ∙ g) z (f.cells_after g) c.bands_in.ensures

pub returns-in-Err : goal.returns-in-Err
returns-in-Err c =
    let A = c.args in
    let z = c.clear.ensures in
    let h = before_same (table_in A.table.now) (sight_in A.sight.now) A.width (length A.cells.now) (zeros_room z) c.judge.ensures ∙ c.in-Err.is in
    make_fault (table_in A.table.now) (sight_in A.sight.now) A.width (length A.cells.now) _ h z

pub returns-else-fill : goal.returns-else-fill
returns-else-fill c =
    let A = c.args in
    let h = before_same (table_in A.table.now) (sight_in A.sight.now) A.width (length A.cells.now) (zeros_room c.clear.ensures) c.judge.ensures ∙ c.in-Ok.is in
    let g : c.fill.result ≡ false = search c.if-fill.false in
    make_bad (table_in A.table.now) (sight_in A.sight.now) A.width (length A.cells.now) h _ (sym c.fill.ensures.value ∙ g) (zeros_again (length c.fill.new.cells) c.clear-in-Ok.ensures (c.clear-in-Ok.auto.cells ∙ c.fill.auto.cells ∙ c.clear.auto.cells))
