-- The bytes of a picture: three tones a pixel for a preview, or the three floats as they are. Definitions only.
use Rattle.std.specs.Prelude.{List, [], ◌∷◌, ◌++◌, ℕ, zero, suc, ◌/◌, ◌%◌, min, get_or, Float}
use Rattle.std.specs.Float.{nan, binary32}
use Rattle.std.specs.Float.Ieee.{to_bits, to_unsigned}
use Rattle.numbers.specs.Arith.{f, ◌⊕◌, ◌⊖◌, ◌⊗◌}
use Rattle.wholes.specs.Whole.{round_of}

abbrev 255·0 : Float
255·0 = f 0x437f0000

-- 0 to 1 becomes 0 to 255, rounded half away from zero; what lies outside is cut, and a NaN is black
unfoldable pub tone_of : Float → ℕ
tone_of v = min (to_unsigned 64 (round_of binary32 (v ⊗ 255·0))) 255

-- red is Y + X, green Y - X, blue B
unfoldable pub tones_of : Float → Float → Float → List ℕ
tones_of x y b = tone_of (y ⊕ x) ∷ tone_of (y ⊖ x) ∷ tone_of b ∷ []

-- the four bytes of a 32-bit pattern, the lowest first
unfoldable pub bytes_of : ℕ → List ℕ
bytes_of w = w % 256 ∷ w / 256 % 256 ∷ w / 65536 % 256 ∷ w / 16777216 % 256 ∷ []

-- a float's bytes; `to_bits` has one pattern for a NaN, 7fc00000
abbrev pub float_of : Float → List ℕ
float_of v = bytes_of (to_bits binary32 v)

-- X, Y and B together
abbrev pub floats_of : Float → Float → Float → List ℕ
floats_of x y b = float_of x ++ (float_of y ++ float_of b)

-- what `g` makes of the pixel k of three channels
abbrev pub at : (Float → Float → Float → List ℕ) → List Float → List Float → List Float → ℕ → List ℕ
at g x y b k = g (get_or x k nan) (get_or y k nan) (get_or b k nan)

-- what `g` makes of so many pixels from k on, one after the other
unfoldable pub each : (ℕ → List ℕ) → ℕ → ℕ → List ℕ
each g zero k = []
each g (suc left) k = g k ++ each g left (suc k)

-- the bytes of the first n pixels
abbrev pub pixels_of : (Float → Float → Float → List ℕ) → List Float → List Float → List Float → ℕ → List ℕ
pixels_of g x y b n = each (at g x y b) n 0
