-- `trace_write2` meets its contract: version 1 with edition 1 by `trace_write`, and all else by its own steps.
use mathlib.Core.Path.{sym, ◌∙◌}
use mir.Syntax.{w32}
use mir.Facts.{to_z-of_z}
use lib.ListN.{length}
use Rattle.shape.specs.Description.{description_in}
use Rattle.trace2_write.proofs.Seconds.{plain_written}
use Rattle.trace2_write.proofs.trace_write2.Goals as goal

pub write_second-requires : goal.write_second-requires
write_second-requires c = sym c.is_plain.ensures ∙ c.if-is_plain.false

pub returns-then-is_plain : goal.returns-then-is_plain
returns-then-is_plain c =
    let a = c.args in
    let z = to_z-of_z {w = w32} {z = a.adjustment} c.ranges.adjustment in
    (rw z at c.trace_write.ensures)
    ∙ plain_written (description_in a.description.now) a.adjustment a.version a.edition (length a.bytes.now) (sym c.is_plain.ensures ∙ c.if-is_plain.true)

pub returns-else-is_plain : goal.returns-else-is_plain
returns-else-is_plain c =
    let z = to_z-of_z {w = w32} {z = c.args.adjustment} c.ranges.adjustment in
    rw z at c.write_second.ensures
