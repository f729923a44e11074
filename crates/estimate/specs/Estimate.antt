-- The estimate of the area that a spline reaches, as `dequantize` of spline.rs works it out, operation by operation. Definitions only.
use Rattle.std.specs.Prelude.{cond, List, ℕ, zero, suc, ◌+◌, leb, ℤ, pos, nat_abs, get_or, Float}
use Rattle.std.specs.Float.{binary32}
use Rattle.std.specs.Float.Ieee.{of_int}
use Rattle.numbers.specs.Arith.{1·0, ◌⊗◌, ◌⊘◌}
use Rattle.wholes.specs.Whole.{ceil_of}
use Rattle.kinds.specs.Kind.{cut_u64, saturated_u64}
use Rattle.roots.specs.Root.{sqrt_of}
use Rattle.numbers.specs.Magnitude.{abs_of, min_of, max_of}
use Rattle.numbers.specs.Saturating.{sat_add, sat_mul, ceil_log2}

-- the greater of two whole numbers
abbrev pub greater : ℕ → ℕ → ℕ
greater a b = cond (leb a b) b a

-- g 0 + g 1 + .. up to g (n - 1), each sum saturating
unfoldable pub sat_sum : (ℕ → ℕ) → ℕ → ℕ
sat_sum g zero = 0
sat_sum g (suc n) = sat_add (sat_sum g n) (g n)

-- a u64 as f32
abbrev pub single : ℕ → Float
single n = of_int binary32 (pos n)

-- an f32 as u64, by its kind: no number and what is below the range count 0, and what is above it the largest u64
abbrev pub to_u64 : Float → ℕ
to_u64 x = saturated_u64 (cut_u64 x)

-- (inv_quant * |c[k]|).ceil()
unfoldable pub share_at : List ℤ → Float → ℕ → Float
share_at c quant k = ceil_of binary32 (quant ⊗ single (nat_abs (get_or c k (pos 0))))

-- ---- the estimate over how an f32 becomes a u64; then by kind

abbrev pub color_at : (Float → ℕ) → List ℤ → ℕ → Float → ℕ → ℕ
color_at whole c from quant i = whole (share_at c quant (from + i))

-- the color of the row that begins at index `from`
unfoldable pub color_by : (Float → ℕ) → List ℤ → ℕ → Float → ℕ
color_by whole c from quant = sat_sum (color_at whole c from quant) 32

abbrev pub row_color : List ℤ → ℕ → Float → ℕ
row_color c from quant = color_by (λ x. to_u64 x) c from quant

-- a color that gains |k|.ceil() times the color of Y
unfoldable pub tinted_by : (Float → ℕ) → ℕ → Float → ℕ → ℕ
tinted_by whole color k y = sat_add color (sat_mul (whole (ceil_of binary32 (abs_of k))) y)

abbrev pub tinted_of : ℕ → Float → ℕ → ℕ
tinted_of color k y = tinted_by (λ x. to_u64 x) color k y

unfoldable pub log_color_by : (Float → ℕ) → ℕ → ℕ → ℕ → Float → Float → ℕ
log_color_by whole x y b ytox ytob =
    let max_color = greater (greater (tinted_by whole x ytox y) y) (tinted_by whole b ytob y) in
    greater 1 (ceil_log2 (sat_add 1 max_color))

abbrev pub log_color : ℕ → ℕ → ℕ → Float → Float → ℕ
log_color x y b ytox ytob = log_color_by (λ v. to_u64 v) x y b ytox ytob

-- (((area_limit / logcolor) / manhattan.max(1)).sqrt()).ceil()
unfoldable pub weight_limit : ℕ → ℕ → ℕ → Float
weight_limit limit log manhattan = ceil_of binary32 (sqrt_of binary32 (single limit ⊘ single log ⊘ single (greater manhattan 1)))

-- weight_limit.min(weight_f.max(1.0)) of the coefficient k, as u64
unfoldable pub weight_by : (Float → ℕ) → List ℤ → Float → Float → ℕ → ℕ
weight_by whole c quant most k = whole (min_of most (max_of (share_at c quant k) 1·0))

abbrev pub weight_at : List ℤ → Float → Float → ℕ → ℕ
weight_at c quant most k = weight_by (λ x. to_u64 x) c quant most k

abbrev pub width_at : (Float → ℕ) → List ℤ → Float → Float → ℕ → ℕ → ℕ
width_at whole c quant most log i = let weight = weight_by whole c quant most (96 + i) in sat_mul (sat_mul weight weight) log

unfoldable pub width_by : (Float → ℕ) → List ℤ → Float → Float → ℕ → ℕ
width_by whole c quant most log = sat_sum (width_at whole c quant most log) 32

abbrev pub width_estimate : List ℤ → Float → Float → ℕ → ℕ
width_estimate c quant most log = width_by (λ x. to_u64 x) c quant most log

-- estimated_area_reached
unfoldable pub estimate_by : (Float → ℕ) → List ℤ → Float → Float → Float → ℕ → ℕ → ℕ
estimate_by whole c quant ytox ytob limit manhattan =
    let log = log_color_by whole (color_by whole c 0 quant) (color_by whole c 32 quant) (color_by whole c 64 quant) ytox ytob in
    sat_mul (width_by whole c quant (weight_limit limit log manhattan) log) manhattan

abbrev pub estimate_of : List ℤ → Float → Float → Float → ℕ → ℕ → ℕ
estimate_of c quant ytox ytob limit manhattan = estimate_by (λ x. to_u64 x) c quant ytox ytob limit manhattan
