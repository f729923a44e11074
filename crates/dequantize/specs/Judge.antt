-- The first loop of `initialize_draw_cache` of spline.rs: each spline is dequantized, then AREA is checked over the running sum, then COINCIDE. Definitions only.
use Rattle.std.specs.Prelude.{ℕ, zero, suc, ◌+◌, ◌*◌, cond, Result, Ok, Err, List, length, take, drop, ℤ, nat_le, slice_index, slice_index_or, Float}
use Rattle.std.specs.Float.{nan}
use Rattle.shape.specs.Shape as Shape
use Rattle.shape.specs.Shape.{points_of}
pub use Rattle.shape.specs.Description.{Description, description_of, description_in}
use Rattle.codes.specs.declared.Code.{Code}
use Rattle.codes.specs.declared.Code.TheVariants.{Area, Coincide}
use Rattle.numbers.specs.Saturating.{sat_add}
use Rattle.estimate.specs.Estimate.{sat_sum}
use Rattle.dequantize.specs.Dequantize.{dequantize_of, spline_in}
use Rattle.dequantize.specs.declared.Given.{Given}
use Rattle.dequantize.specs.declared.Spline.{Spline}
use Rattle.dequantize.specs.Answers.{Settled, Total, Stop, Judged, Fine, Refused}

-- what SHAPE asks for
abbrev pub Shaped : Description → Type 0
Shaped d = Shape.Shaped d.counts d.starts d.deltas d.coefficients

-- ---- the spline k

unfoldable pub start_x : Description → ℕ → Float
start_x d k = slice_index_or d.starts (2 * k) nan

unfoldable pub start_y : Description → ℕ → Float
start_y d k = slice_index_or d.starts (2 * k + 1) nan

-- where its double deltas begin
unfoldable pub deltas_at : Description → ℕ → ℕ
deltas_at d k = 2 * points_of (take k d.counts)

unfoldable pub deltas_of : Description → ℕ → List ℤ
deltas_of d k = take (2 * slice_index d.counts k) (drop (deltas_at d k) d.deltas)

unfoldable pub coefficients_of : Description → ℕ → List ℤ
coefficients_of d k = take 128 (drop (128 * k) d.coefficients)

-- the spline k, or its refusal
abbrev pub answer_of : Description → Given → ℕ → Result Spline Code
answer_of d g k = dequantize_of (start_x d k) (start_y d k) (deltas_of d k) (coefficients_of d k) g

-- the spline k, all 0 where it is refused
unfoldable pub spline_of : Description → Given → ℕ → Spline
spline_of d g k = spline_in (answer_of d g k)

-- the estimates of the splines before k, summed with saturation
unfoldable pub total_of : Description → Given → ℕ → ℕ
total_of d g k = sat_sum (λ i. (spline_of d g i).estimate) k

-- ---- the checks after a spline

-- its own refusal, AREA, COINCIDE, or the sum with its estimate
unfoldable pub settle_of : ℕ → Result Spline Code → ℕ → Settled
settle_of total (Err code) limit = Stop code
settle_of total (Ok s) limit =
    let more = sat_add total s.estimate in
    cond (nat_le more limit)
    (cond s.coincide (Stop Coincide)
    (Total more))
    (Stop Area)

-- ---- all splines

abbrev pub onward : Settled → ℕ → (ℕ → Judged) → Judged
onward (Stop code) k rest = Refused code k
onward (Total t) k rest = rest t

-- the n splines from k on, total being the sum before them
unfoldable pub judge_from : Description → Given → ℕ → ℕ → ℕ → Judged
judge_from d g zero k total = Fine total
judge_from d g (suc n) k total = onward (settle_of total (answer_of d g k) g.limit) k (λ t. judge_from d g n (suc k) t)

unfoldable pub judge_of : Description → Given → Judged
judge_of d g = judge_from d g (length d.counts) 0 0
