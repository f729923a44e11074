-- `list_segments`: no room for the entries, or the table with zeros behind it.
use mathlib.Core.Path.{◌∙◌}
use Prim.Native.Nat.{◌*◌}
use lib.ListN.{length, take}
use lib.Ieee.{binary32, of_bits}
use Rattle.rows.specs.Rows.{in_row, listed_rows}
use Rattle.build_answer.specs.Answer.{rooms_of}
use Rattle.faint.proofs.Counts.{faint_take}
use Rattle.build_answer.proofs.Ends.{kept, rows_room, rows_done}
use Rattle.build_answer.proofs.list_segments.Goals as goal

pub faint_in-faint-requires : goal.faint_in-faint-requires
faint_in-faint-requires c = (c.requires.0, c.requires.2)

pub returns-in_default : goal.returns-in_default
returns-in_default c =
    let l = c.list_rows-listed in
    (rw (l.auto.row_starts, l.auto.entries) at c.refuse.ensures)
    ∙ rows_room (rooms_of c.args.path.now c.args.walk.now c.args.segments.now c.args.owners.now c.args.row_starts.now c.args.entries.now) c.args.estimate c.args.count (take (8 * c.args.count) c.args.segments.now) (take c.args.count c.args.owners.now) (listed_rows (in_row c.args.segments.now) c.args.count c.args.height (length c.args.row_starts.now) (length c.args.entries.now)) l.ensures c.in_default.is

pub returns : goal.returns
returns c =
    let l = c.list_rows-listed in
    let w = c.wipe_unused.ensures in
    let f = c.faint_in-faint.ensures ∙ faint_take c.args.segments.now c.args.count c.requires.0 in
    rows_done (rooms_of c.args.path.now c.args.walk.now c.args.segments.now c.args.owners.now c.args.row_starts.now c.args.entries.now) c.args.estimate c.args.count (take (8 * c.args.count) c.args.segments.now) (take c.args.count c.args.owners.now) (listed_rows (in_row c.args.segments.now) c.args.count c.args.height (length c.args.row_starts.now) (length c.args.entries.now)) l.ensures c.in-Some.entry_count f c.in-Some.is
    w.path_after w.walk_after (kept (of_bits binary32 0) c.args.segments.now (8 * c.args.count) c.requires.0 w.segments_after) (kept 0 c.args.owners.now c.args.count c.requires.1 w.owners_after)
