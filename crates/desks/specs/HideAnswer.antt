-- What `hide` answers: done, or a code and its place.
use Rattle.std.specs.Prelude.{ℕ, Result, Ok}
use Rattle.codes.specs.declared.Code.{Code}
use Rattle.codes.specs.Refusal.{Refusal, refused}

abbrev pub HideAnswer : Type 0
HideAnswer = Result (Unit {0}) Refusal

pattern abbrev pub Done : HideAnswer
Done = Ok tt

pattern abbrev pub Refused : Code → ℕ → HideAnswer
Refused c p = refused c p
