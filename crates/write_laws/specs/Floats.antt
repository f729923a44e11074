-- Numbers that an f32 holds, as every number of a lent slice of f32 is: the contract of `lend` says so of each.
use Rattle.std.specs.Prelude.{List, [], ◌∷◌, T, Float}
use Rattle.std.specs.Float.{binary32}
use Rattle.std.specs.Float.Ieee.{fits}

abbrev pub Floats : List Float → Type 0
Floats [] = Unit {0}
Floats (x ∷ xs) = T (fits binary32 x) × Floats xs
