-- What writing answers: how many values it wrote, or a refusal's code and place.
use Rattle.std.specs.Prelude.{ℕ, Result, Ok, Err}
use Rattle.codes.specs.Refusal.{Refusal}
use Rattle.codes.specs.declared.Code.{Code}

abbrev pub WriteAnswer : Type 0
WriteAnswer = Result ℕ Refusal

pattern abbrev pub Done : ℕ → WriteAnswer
Done n = Ok n

pattern abbrev pub Refused : Code → ℕ → WriteAnswer
Refused c p = Err (c, p)
