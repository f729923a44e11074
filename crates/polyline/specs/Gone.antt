-- After a double delta of a spline: where it led to and whether two adjacent points met so far, or the code that refuses it. Names only.
use Rattle.std.specs.Prelude.{Bool, Result, Ok, Err}
use Rattle.codes.specs.declared.Code.{Code}
use Rattle.control_points.specs.declared.Stand.{Stand}

abbrev pub Gone : Type 0
Gone = Result (Stand × Bool) Code

pattern abbrev pub On : Stand → Bool → Gone
On place met = Ok (place, met)

pattern abbrev pub Stop : Code → Gone
Stop code = Err code
