-- What the checks say: nothing is at fault, or the first fault's code and place.
use Rattle.std.specs.Prelude.{ℕ, Result, Ok, Err}
use Rattle.codes.specs.Refusal.{Refusal}
use Rattle.codes.specs.declared.Code.{Code}

abbrev pub Verdict : Type 0
Verdict = Result (Unit {0}) Refusal

pattern abbrev pub Fine : Verdict
Fine = Ok tt

pattern abbrev pub Fault : Code → ℕ → Verdict
Fault c p = Err (c, p)
