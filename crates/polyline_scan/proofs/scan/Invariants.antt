-- `polyline_scan::scan` meets its contract: before each byte, what is stored and what is left come to the whole text.
use Rattle.polyline_scan.proofs.Turns.{Going}
use Rattle.polyline_scan.proofs.scan.Given as goal

abbrev pub invariant-loop-i : goal.invariant-loop-i
invariant-loop-i l = Going l.text l.initial.deltas l.deltas l.run l.i
