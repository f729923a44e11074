-- `write_judge::judge_splines` meets its contract: what the checks of all splines say is what those of the splines left say.
use Rattle.std.proofs.Common.{◌≡◌, ◌+◌, ◌-◌, ◌*◌, ◌≤◌, length, drop}
use Rattle.shape.specs.Shape.{points_of}
use Rattle.write_judge.specs.Judge.{first_fault, spline_checks}
use Rattle.write_judge.proofs.judge_splines.Given as goal

abbrev pub invariant-loop-i : goal.invariant-loop-i
invariant-loop-i l =
    (l.left ≤ l.limit) × (l.from + 2 * points_of (drop l.i l.counts) ≡ length l.deltas) × (l.place ≡ 2 * length l.counts + 2 + 129 * l.i + l.from)
    × (first_fault (spline_checks l.limit 0 (2 * length l.counts + 2) l.counts l.deltas)
    ≡ first_fault (spline_checks l.limit (l.limit - l.left) l.place (drop l.i l.counts) (drop l.from l.deltas)))
