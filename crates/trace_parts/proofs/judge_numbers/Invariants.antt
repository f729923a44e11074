-- `judge_numbers` meets its contract: what the checks of all numbers say is what those of the numbers left say.
use mathlib.Core.Path.{◌≡◌}
use mathlib.Core.Bool.{Bool}
use Prim.Native.Nat.{ℕ, ◌+◌}
use lib.ListN.{drop}
use Rattle.writer.specs.Write.{first_fault}
use Rattle.little.specs.Little.{numbers_in}
use Rattle.trace.specs.Trace.{number_checks}
use Rattle.trace_parts.proofs.judge_numbers.Given as goal

abbrev pub invariant-loop-i : goal.invariant-loop-i
invariant-loop-i g l =
    (test : ℕ → Bool)
    → ((u : ℕ) (r : Bool) → goal.F-post g l.refuses u r → r ≡ test u)
    → first_fault (number_checks test l.code l.from (numbers_in l.part))
    ≡ first_fault (number_checks test l.code (l.from + l.i) (drop l.i (numbers_in l.part)))
