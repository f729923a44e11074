-- What the check of a table says: its entries, or a code with the row that is wrong.
use Rattle.std.specs.Prelude.{ℕ, Result, Ok, Err}
use Rattle.codes.specs.Refusal.{Refusal}
use Rattle.codes.specs.declared.Code.{Code}

abbrev pub CheckAnswer : Type 0
CheckAnswer = Result ℕ Refusal

pattern abbrev pub Done : ℕ → CheckAnswer
Done n = Ok n

pattern abbrev pub Refused : Code → ℕ → CheckAnswer
Refused c p = Err (c, p)
