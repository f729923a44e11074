-- `write_second` meets its contract: a description that is judged by the checks of version 2 is written with the edition behind eight numbers.
use mathlib.Core.Path.{sym, ◌∙◌}
use native.Mathlib.Omega.{arith}
use mir.Syntax.{w32}
use mir.Facts.{to_z-of_z}
use lib.ListN.{length}
use Rattle.shape.specs.Description.{description_in}
use Rattle.trace2_write.specs.Steps.{file_checks_in}
use Rattle.trace2_write.proofs.Seconds.{checked_second, left_alike}
use Rattle.trace2_write.proofs.write_second.Goals as goal

pub write_judged-requires : goal.write_judged-requires
write_judged-requires c =
    let a = c.args in
    let d = description_in a.description.now in
    (omega arith, λ e. checked_second a.version a.edition d.counts d.starts d.deltas d.coefficients c.requires (sym c.judge_file-found.ensures ∙ e))

pub returns : goal.returns
returns c =
    let a = c.args in
    let d = description_in a.description.now in
    let z = to_z-of_z {w = w32} {z = a.adjustment} c.ranges.adjustment in
    (rw z at (c.write_judged.ensures (file_checks_in a.version a.edition d) c.judge_file-found.ensures))
    ∙ left_alike d a.adjustment a.version a.edition (length a.bytes.now) c.requires
