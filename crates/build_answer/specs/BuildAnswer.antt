-- What a build answers: the segments, the entries, the estimate, and how many of the segments are faint; or a code and its place.
use Rattle.std.specs.Prelude.{ℕ, Result, Ok, Err}
use Rattle.codes.specs.declared.Code.{Code}
use Rattle.codes.specs.Refusal.{Refusal}
use Rattle.build_answer.specs.declared.Built.{Built}

abbrev pub BuildAnswer : Type 0
BuildAnswer = Result Built Refusal

abbrev pub Done : ℕ → ℕ → ℕ → ℕ → BuildAnswer
Done s n a f = Ok (record { segments = s; entries = n; estimate = a; faint = f })

pattern abbrev pub Refused : Code → ℕ → BuildAnswer
Refused c p = Err (c, p)
