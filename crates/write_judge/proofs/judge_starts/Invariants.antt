-- `write_judge::judge_starts` meets its contract: what the checks of all pairs say is what those of the pairs left say.
use Rattle.std.proofs.Common.{◌≡◌, ◌+◌, ◌*◌, true, eqb, drop}
use Rattle.write_judge.specs.Judge.{first_fault, start_checks}
use Rattle.write_judge.proofs.judge_starts.Given as goal

abbrev pub invariant-loop-k : goal.invariant-loop-k
invariant-loop-k l =
    first_fault (start_checks true 1 l.starts) ≡ first_fault (start_checks (eqb l.k 0) (2 * l.k + 1) (drop (2 * l.k) l.starts))
