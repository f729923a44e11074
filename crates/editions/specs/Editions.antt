-- What each edition of the fineness profile allows. Definitions only.
use Rattle.std.specs.Prelude.{cond, Option, Some, None, ℕ, eqb, pos, negsuc}
use Rattle.editions.specs.declared.Limits.{Limits}

-- the limits of an edition, where it is known
abbrev pub Edition : Type 0
Edition = Option Limits

pattern abbrev pub Known : Limits → Edition
Known limits = Some limits

pattern abbrev pub Unknown : Edition
Unknown = None

-- up to 64 double deltas, adjustment 0, the first sigma coefficient up to 400
abbrev pub edition1 : Limits
edition1 = record { deltas = 64; least = pos 0; greatest = pos 0; sigma = pos 400 }

-- up to 256 double deltas, adjustment -8 to 8, the first sigma coefficient up to 1600; negsuc 7 is -8
abbrev pub edition2 : Limits
edition2 = record { deltas = 256; least = negsuc 7; greatest = pos 8; sigma = pos 1600 }

unfoldable pub limits_of : ℕ → Edition
limits_of e = cond (eqb e 1) (Known edition1) (cond (eqb e 2) (Known edition2) Unknown)
