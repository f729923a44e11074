-- Rust's operators on f32, as symbols, and an f32 by its bit pattern. A literal of the Rust is a name with · for its point: 0·25 is 0.25. Definitions only.
use Rattle.std.specs.Prelude.{ℕ, Float}
use Rattle.std.specs.Float.{binary32}
use Rattle.std.specs.Float.Ieee.{of_bits, add, sub, mul, div}

infixl 20 ◌⊕◌
infixl 20 ◌⊖◌
infixl 30 ◌⊗◌
infixl 30 ◌⊘◌
-- the f32 with the bit pattern b
abbrev pub f : ℕ → Float
f b = of_bits binary32 b

-- literals that more than one definition has
abbrev pub 0·0 : Float
0·0 = f 0

abbrev pub 0·25 : Float
0·25 = f 0x3e800000

abbrev pub 0·5 : Float
0·5 = f 0x3f000000

abbrev pub 1·0 : Float
1·0 = f 0x3f800000

abbrev pub ◌⊕◌ : Float → Float → Float
x ⊕ y = add binary32 x y

abbrev pub ◌⊖◌ : Float → Float → Float
x ⊖ y = sub binary32 x y

abbrev pub ◌⊗◌ : Float → Float → Float
x ⊗ y = mul binary32 x y

abbrev pub ◌⊘◌ : Float → Float → Float
x ⊘ y = div binary32 x y
