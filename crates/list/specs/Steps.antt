-- Whole numbers as f32, and zero among them: what the single steps of reading and writing speak of.
use Rattle.std.specs.Prelude.{ℤ, pos, Float}
use Rattle.std.specs.Float.{binary32}
use Rattle.std.specs.Float.Ieee.{of_int}

-- a whole number as an f32
unfoldable pub f32_of : ℤ → Float
f32_of z = of_int binary32 z

abbrev pub zero_f32 : Float
zero_f32 = of_int binary32 (pos 0)
