-- What reading answers: so many splines and points, and the adjustment; or a code and its place.
use Rattle.std.specs.Prelude.{ℕ, ℤ, Result, Ok}
use Rattle.codes.specs.Refusal.{Refusal}
use Rattle.read_list.specs.declared.Read.{Read}

abbrev pub ReadAnswer : Type 0
ReadAnswer = Result Read Refusal

abbrev pub done : ℕ → ℕ → ℤ → ReadAnswer
done s n a = Ok (record { splines = s; points = n; adjustment = a })
