-- A further pair: what it leads to, or the code that refuses it. Names only.
use Rattle.std.specs.Prelude.{Result, Ok, Err}
use Rattle.codes.specs.declared.Code.{Code}
use Rattle.polyline.specs.declared.Track.{Track}

abbrev pub Judged : Type 0
Judged = Result Track Code

pattern abbrev pub On : Track → Judged
On t = Ok t

pattern abbrev pub Stop : Code → Judged
Stop code = Err code
