-- What the checks say: fine, or the code of the check that fails.
use Rattle.std.specs.Prelude.{Result, Ok, Err}
use Rattle.codes.specs.declared.Code.{Code}

abbrev pub Verdict : Type 0
Verdict = Result (Unit {0}) Code

pattern abbrev pub Fine : Verdict
Fine = Ok tt

pattern abbrev pub Fault : Code → Verdict
Fault c = Err c
