-- After a byte, or after all: the run so far, or a refusal with its place. Names only.
use Rattle.std.specs.Prelude.{ℕ, Result, Ok, Err}
use Rattle.codes.specs.declared.Code.{Code}
use Rattle.codes.specs.Refusal.{Refusal}
use Rattle.polyline_scan.specs.declared.Run.{Run}

abbrev pub Turned : Type 0
Turned = Result Run Refusal

pattern abbrev pub On : Run → Turned
On run = Ok run

pattern abbrev pub Stop : Code → ℕ → Turned
Stop code place = Err (code, place)
