-- The checks of `initialize_draw_cache` of spline.rs that come before any drawing, in their order. Definitions only.
use Rattle.std.specs.Prelude.{Bool, true, false, ◌&&◌, ℕ, suc, ◌^◌, leb}
use Rattle.codes.specs.declared.Code.{Code}
use Rattle.shape.specs.Shape as Shape
use Rattle.dequantize.specs.declared.Given.{Given}
use Rattle.dequantize.specs.Answers.{Judged, Refused}
use Rattle.dequantize.specs.Judge.{Description, judge_of}

abbrev pub sized : ℕ → ℕ → Bool
sized width height = leb width (2 ^ 23) && leb height (2 ^ 23)

-- lengths that agree
abbrev pub shaped : Description → Bool
shaped d = Shape.shaped d.counts d.starts d.deltas d.coefficients

abbrev pub or_refused : Bool → Code → Judged → Judged
or_refused true code rest = rest
or_refused false code rest = Refused code 0

-- SIZE, SHAPE, ROOM for the row starts, then every spline judged
unfoldable pub verdict_of : Description → Given → ℕ → ℕ → ℕ → Judged
verdict_of d g width height rows =
    or_refused (sized width height) Code.Size
    (or_refused (shaped d) Code.Shape
    (or_refused (leb (suc height) rows) Code.Room
    (judge_of d g)))
