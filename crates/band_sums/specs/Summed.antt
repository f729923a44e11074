-- The numbers of what was summed, or that an entry, an owner or a start of it is bad.
use Rattle.std.specs.Prelude.{Option, Some, None}
use Rattle.band_sums.specs.declared.BandNumbers.{BandNumbers}

abbrev pub Summed : Type 0
Summed = Option BandNumbers

pattern abbrev pub Good : BandNumbers → Summed
Good m = Some m

pattern abbrev pub Bad : Summed
Bad = None
