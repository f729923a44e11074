-- The names of the answers: a coordinate or a start is at a place or out of the range, a trace goes on with a run or stops with a code. Definitions only.
use Rattle.std.specs.Prelude.{Option, Some, None, Result, Ok, Err, ℤ}
use Rattle.codes.specs.declared.Code.{Code}
use Rattle.control_points.specs.declared.Pair.{Pair}
use Rattle.control_points.specs.declared.Run.{Run}

-- a coordinate of a start, made whole
abbrev pub Coordinate : Type 0
Coordinate = Option ℤ

abbrev pub Start : Type 0
Start = Option Pair

pattern abbrev pub At : {A : Type 0} → A → Option A
At a = Some a

pattern abbrev pub Out : {A : Type 0} → Option A
Out = None

-- the run after a step, or after all, or the first refusal
abbrev pub Traced : Type 0
Traced = Result Run Code

pattern abbrev pub On : Run → Traced
On r = Ok r

pattern abbrev pub Stop : Code → Traced
Stop code = Err code
