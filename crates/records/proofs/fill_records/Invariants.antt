-- The records below i are set, and the others are as they were.
use Rattle.std.proofs.Common.{◌≡◌}
use Rattle.records.specs.Records.{record_of}
use Rattle.records.proofs.Fills.{fills}
use Rattle.records.proofs.fill_records.Given as goal

abbrev pub invariant-loop-i : goal.invariant-loop-i
invariant-loop-i l = l.records ≡ fills (record_of l.flat l.owners l.count) l.i l.initial.records
