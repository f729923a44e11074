-- What `draw` answers: the updates, or a code and its place.
use Rattle.std.specs.Prelude.{ℕ, Result, Ok}
use Rattle.codes.specs.declared.Code.{Code}
use Rattle.codes.specs.Refusal.{Refusal, refused}

abbrev pub DrawAnswer : Type 0
DrawAnswer = Result ℕ Refusal

pattern abbrev pub Done : ℕ → DrawAnswer
Done n = Ok n

pattern abbrev pub Refused : Code → ℕ → DrawAnswer
Refused c p = refused c p
