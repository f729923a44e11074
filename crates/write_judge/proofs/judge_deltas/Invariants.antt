-- `write_judge::judge_deltas` meets its contract: what the checks of all pairs say is what those of the pairs left say.
use Rattle.std.proofs.Common.{◌≡◌, ◌+◌, ◌*◌, drop}
use Rattle.write_judge.specs.Judge.{first_fault, delta_checks}
use Rattle.write_judge.proofs.judge_deltas.Given as goal

abbrev pub invariant-loop-k : goal.invariant-loop-k
invariant-loop-k l =
    first_fault (delta_checks l.place l.deltas) ≡ first_fault (delta_checks (l.place + 2 * l.k) (drop (2 * l.k) l.deltas))
