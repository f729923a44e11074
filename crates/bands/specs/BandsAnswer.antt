-- How many bands the table has, or a code and its place.
use Rattle.std.specs.Prelude.{ℕ, Result, Ok, Err}
use Rattle.codes.specs.Refusal.{Refusal}
use Rattle.codes.specs.declared.Code.{Code}

abbrev pub BandsAnswer : Type 0
BandsAnswer = Result ℕ Refusal

pattern abbrev pub Done : ℕ → BandsAnswer
Done n = Ok n

pattern abbrev pub Refused : Code → ℕ → BandsAnswer
Refused c p = Err (c, p)
