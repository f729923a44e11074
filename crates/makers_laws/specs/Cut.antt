-- A table cut to its counts. Definitions only.
use Rattle.std.specs.Prelude.{◌+◌, ◌*◌, take}
use Rattle.checks.specs.Tables.{Table, table_of}

-- no cell stands behind a count: the check wants one more row start than rows and no other
abbrev pub cut_to_counts : Table → Table
cut_to_counts t =
    table_of (take (8 * t.segment_count) t.segments) t.segment_count (take t.entry_count t.entries) t.entry_count (take (t.height + 1) t.row_starts) t.height
