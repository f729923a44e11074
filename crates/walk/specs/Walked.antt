-- What a walk answers: how many points it has, or that there is no room for them.
use Rattle.std.specs.Prelude.{ℕ, Option, Some, None}

abbrev pub Walked : Type 0
Walked = Option ℕ

pattern abbrev pub Points : ℕ → Walked
Points n = Some n

pattern abbrev pub Room : Walked
Room = None
