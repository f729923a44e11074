-- What pairs led to, if any was read; and after all pairs that, or the code of the first that is refused, with its first byte. Names only.
use Rattle.std.specs.Prelude.{ℕ, Option, Some, None, Result, Ok, Err}
use Rattle.codes.specs.declared.Code.{Code}
use Rattle.codes.specs.Refusal.{Refusal}
use Rattle.control_points.specs.declared.Pair.{Pair}
use Rattle.control_points.specs.declared.Stand.{Stand}
use Rattle.polyline.specs.declared.Track.{Track}

pattern abbrev pub Empty : Option Track
Empty = None

abbrev pub At : Stand → Pair → Option Track
At place start = Some (record { place = place; start = start })

abbrev pub Tracked : Type 0
Tracked = Result (Option Track) Refusal

pattern abbrev pub Came : Option Track → Tracked
Came t = Ok t

pattern abbrev pub Halt : Code → ℕ → Tracked
Halt code p = Err (code, p)
