-- `aktyrbuz_trace_write2` meets its contract: what `trace_write2` leaves, and its answer told in five numbers.
use mir.Syntax.{w32}
use mir.Facts.{to_z-of_z}
use Rattle.aktyrbuz.proofs.Numbers.{write_exported}
use Rattle.aktyrbuz.proofs.trace_files2.aktyrbuz_trace_write2.Goals as goal

pub returns : goal.returns
returns c =
    let a = c.args in
    let e = to_z-of_z {w = w32} {z = a.adjustment} c.ranges.adjustment in
    write_exported _ _ _ _ (rw e at c.trace_write2.ensures) c.tell.ensures.number c.tell.ensures.five
