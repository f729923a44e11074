-- What `reach` answers: the first column of a row's reach and the one past the last, or a code and its place.
use Rattle.std.specs.Prelude.{ℕ, Result, Ok, Err}
use Rattle.codes.specs.Refusal.{Refusal}
use Rattle.codes.specs.declared.Code.{Code}
use Rattle.segments.specs.declared.Range.{Range}

abbrev pub ReachAnswer : Type 0
ReachAnswer = Result Range Refusal

abbrev pub Done : ℕ → ℕ → ReachAnswer
Done a e = Ok (record { first = a; past = e })

pattern abbrev pub Refused : Code → ℕ → ReachAnswer
Refused c p = Err (c, p)
