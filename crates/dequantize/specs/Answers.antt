-- The names of the answers of judging: the sum with a spline's estimate or its refusal, and the sum of all estimates or the first refusal and the number of its spline. Definitions only.
use Rattle.std.specs.Prelude.{ℕ, Result, Ok, Err}
use Rattle.codes.specs.declared.Code.{Code}
use Rattle.codes.specs.Refusal.{Refusal}

abbrev pub Settled : Type 0
Settled = Result ℕ Code

pattern abbrev pub Total : ℕ → Settled
Total n = Ok n

pattern abbrev pub Stop : Code → Settled
Stop code = Err code

abbrev pub Judged : Type 0
Judged = Result ℕ Refusal

pattern abbrev pub Fine : ℕ → Judged
Fine total = Ok total

pattern abbrev pub Refused : Code → ℕ → Judged
Refused code k = Err (code, k)
