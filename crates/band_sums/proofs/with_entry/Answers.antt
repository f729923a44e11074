-- A hidden segment leaves the sum; any other is counted.
use mathlib.Core.Path.{◌≡◌, sym, ◌∙◌}
use mathlib.Core.Bool.{true, false}
use Rattle.desks.specs.Desks.{sight_in}
use Rattle.band_sums.proofs.Sums.{sum_hidden, sum_shown}
use Rattle.band_sums.proofs.with_entry.Goals as goal

pub returns-then-hidden : goal.returns-then-hidden
returns-then-hidden c =
    let A = c.args in
    let t : c.hidden.result ≡ true = c.if-hidden.true in
    sum_hidden A.table.now.segments.now (sight_in A.sight.now) A.width A.sum A.i (sym c.hidden.ensures ∙ t)

pub returns : goal.returns
returns c =
    let A = c.args in
    let t : c.hidden.result ≡ false = c.if-hidden.false in
    sum_shown A.table.now.segments.now (sight_in A.sight.now) A.width A.sum A.i (sym c.hidden.ensures ∙ t) c.with_shown.ensures
