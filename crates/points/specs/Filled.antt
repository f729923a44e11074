-- What writing segments answers: how many there are now, or that there is no room for them.
use Rattle.std.specs.Prelude.{ℕ, Option, Some, None}

abbrev pub Filled : Type 0
Filled = Option ℕ

pattern abbrev pub Count : ℕ → Filled
Count n = Some n

pattern abbrev pub Room : Filled
Room = None
