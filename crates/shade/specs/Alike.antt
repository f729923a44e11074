-- Floats that are equal but for the sign of a zero: what our erf keeps of `fast_erff_simd`, since its square does not show that sign. Definitions only.
use Rattle.std.specs.Prelude.{◌≡◌, Bool, ◌⊎◌, pos, Float}
use Rattle.std.specs.Float.{fin}

-- zeros, of whatever signs
pub record Nulls (a b : Float) : Type 0 where
  pub sign : Bool
  pub other : Bool
  pub first : a ≡ fin sign 0 (pos 0)
  pub second : b ≡ fin other 0 (pos 0)

-- equal, but that of a zero the sign may differ
abbrev pub Alike : Float → Float → Type 0
Alike a b = (a ≡ b) ⊎ Nulls a b
