-- `draw_segment_inner`: what one segment adds at one pixel, operation by operation. Definitions only.
-- A multiply-add is a rounded product, then a rounded sum.
use Rattle.std.specs.Prelude.{◌≡◌, List, ℕ, zero, suc, ◌<◌, get_or, pos, Float}
use Rattle.std.specs.Float.{nan, binary32}
use Rattle.std.specs.Float.Ieee.{of_int, neg}
use Rattle.numbers.specs.Arith.{f, 0·5, ◌⊕◌, ◌⊖◌, ◌⊗◌}
use Rattle.roots.specs.Root.{sqrt_of}
use Rattle.approximations.specs.Erf.{fast_erff}
use Rattle.segments.specs.declared.Segment.{Segment}

abbrev 0·353_553_38 : Float
0·353_553_38 = f 0x3eb504f3

-- the square of the distance of column x from a centre, by the square of the distance in y
abbrev pub sqd : Float → Float → ℕ → Float
sqd centerX dy2 x =
    let dx = of_int binary32 (pos x) ⊖ centerX in
    dx ⊗ dx ⊕ dy2

abbrev pub dy2 : Float → ℕ → Float
dy2 centerY y =
    let dy = of_int binary32 (pos y) ⊖ centerY in
    dy ⊗ dy

-- the local intensity by the distance from the centre
unfoldable pub intensity_at : Segment → Float → Float
intensity_at s distance =
    let arg1 = (distance ⊗ 0·5 ⊕ 0·353_553_38) ⊗ s.inv_sigma in
    let arg2 = (distance ⊗ 0·5 ⊕ neg 0·353_553_38) ⊗ s.inv_sigma in
    let oneDimensionalFactor = fast_erff arg1 ⊖ fast_erff arg2 in
    s.sigma_over_4_times_intensity ⊗ oneDimensionalFactor ⊗ oneDimensionalFactor

abbrev pub local_intensity : Segment → ℕ → ℕ → Float
local_intensity s y x = intensity_at s (sqrt_of binary32 (sqd s.center_x (dy2 s.center_y y) x))

-- the colours by number; there are three
abbrev pub color_of : Segment → ℕ → Float
color_of s zero = s.color0
color_of s (suc zero) = s.color1
color_of s (suc (suc c)) = s.color2

-- what a segment adds at pixel (x, y) in colour c
unfoldable pub shade : Segment → ℕ → ℕ → ℕ → Float
shade s y x c = color_of s c ⊗ local_intensity s y x

-- a pixel with a segment added
abbrev pub shaded : Segment → ℕ → ℕ → ℕ → Float → Float
shaded s y x c v = shade s y x c ⊕ v

-- ---- the same by what the code has at hand: the local intensity, or the square of the distance in y

unfoldable pub shaded_by_intensity : Segment → Float → ℕ → Float → Float
shaded_by_intensity s local c v = color_of s c ⊗ local ⊕ v

abbrev pub shaded_by_square : Segment → Float → ℕ → ℕ → Float → Float
shaded_by_square s dy2 x c v = shaded_by_intensity s (intensity_at s (sqrt_of binary32 (sqd s.center_x dy2 x))) c v

-- the first m cells hold f
unfoldable pub Holds : ℕ → (ℕ → Float) → List Float → Type 0
Holds m f v = (k : ℕ) → k < m → get_or v k nan ≡ f k
