-- `lacks_room` meets its contract: four comparisons.
use borrow.Author.Tests.{lt-ltb, le-ltb}
use Rattle.trace_read.proofs.Loads.{or_then, or_else, tight_cells, tight_deltas}
use Rattle.trace_read.proofs.lacks_room.Goals as goal
use Rattle.trace_read.proofs.lacks_room.Goals.{then-counts-s, else-counts-s, then-starts-s, else-starts-s}

pub returns-then-coefficients-s : goal.returns-then-coefficients-s
returns-then-coefficients-s c =
    let a = c.args in
    tight_cells a.lengths.counts a.lengths.starts a.lengths.deltas a.lengths.coefficients a.s a.p c.if-counts-s.value c.if-starts-s.value
    (elim c.if-counts-s.branch [ then-counts-s w ↦ or_then _ (lt-ltb _ _ w.if-counts-s.true) w.value-is | else-counts-s w ↦ or_else (le-ltb _ _ w.if-counts-s.false) w.value-is ])
    (elim c.if-starts-s.branch [ then-starts-s w ↦ or_then _ w.if-starts-s.true w.value-is | else-starts-s w ↦ or_else w.if-starts-s.false w.value-is ])
    c.if-coefficients-s.true

pub returns-else-coefficients-s : goal.returns-else-coefficients-s
returns-else-coefficients-s c =
    let a = c.args in
    tight_deltas a.lengths.counts a.lengths.starts a.lengths.deltas a.lengths.coefficients a.s a.p c.if-counts-s.value c.if-starts-s.value
    (elim c.if-counts-s.branch [ then-counts-s w ↦ or_then _ (lt-ltb _ _ w.if-counts-s.true) w.value-is | else-counts-s w ↦ or_else (le-ltb _ _ w.if-counts-s.false) w.value-is ])
    (elim c.if-starts-s.branch [ then-starts-s w ↦ or_then _ w.if-starts-s.true w.value-is | else-starts-s w ↦ or_else w.if-starts-s.false w.value-is ])
    c.if-coefficients-s.false
