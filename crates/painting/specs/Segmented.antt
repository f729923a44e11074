-- What drawing all splines answers: how many segments there are, or the number of the spline that has no room.
use Rattle.std.specs.Prelude.{ℕ, Result, Ok, Err}

abbrev pub Segmented : Type 0
Segmented = Result ℕ ℕ

pattern abbrev pub Count : ℕ → Segmented
Count n = Ok n

pattern abbrev pub Room : ℕ → Segmented
Room k = Err k
