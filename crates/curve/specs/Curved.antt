-- What drawing a path answers: how many points it has, or that there is no room for them.
use Rattle.std.specs.Prelude.{ℕ, Option, Some, None}

abbrev pub Curved : Type 0
Curved = Option ℕ

pattern abbrev pub Points : ℕ → Curved
Points n = Some n

pattern abbrev pub Room : Curved
Room = None
