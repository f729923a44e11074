-- Where a spline begins, or the code that refuses it. Names only.
use Rattle.std.specs.Prelude.{Result, Ok, Err}
use Rattle.codes.specs.declared.Code.{Code}
use Rattle.control_points.specs.declared.Pair.{Pair}

abbrev pub Begun : Type 0
Begun = Result Pair Code

pattern abbrev pub At : Pair → Begun
At start = Ok start

pattern abbrev pub Stop : Code → Begun
Stop code = Err code
