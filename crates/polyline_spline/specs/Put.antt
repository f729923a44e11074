-- Where a text ends, or that there is no room for it. Names only.
use Rattle.std.specs.Prelude.{ℕ, Option, Some, None}

abbrev pub Put : Type 0
Put = Option ℕ

pattern abbrev pub Ends : ℕ → Put
Ends n = Some n

pattern abbrev pub Full : Put
Full = None
