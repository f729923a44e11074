-- `initialize_draw_cache` of spline.rs over lent buffers: the checks in their order, all splines judged, then each drawn, then the rows listed. Definitions only.
use Rattle.std.specs.Prelude.{Bool, ℕ, ◌*◌, ℤ, length, Float}
use Rattle.codes.specs.declared.Code.TheVariants as Code
use Rattle.dequantize.specs.declared.Given.{Given}
use Rattle.dequantize.specs.Answers.{Judged}
use Rattle.dequantize.specs.Answers as Judged
use Rattle.table.specs.declared.Setting as Declared
use Rattle.dequantize.specs.Limits.{spline_area_limit}
use Rattle.dequantize.specs.Judge.{Description}
use Rattle.verdict.specs.Verdict.{verdict_of}
use Rattle.curve.specs.Curve.{path_room}
use Rattle.walk.specs.Walk.{walk_room}
use Rattle.points.specs.Points.{eights}
use Rattle.owners.specs.Owners.{owned_room}
use Rattle.painting.specs.Painting.{Painted, All, NoRoomAt, paint_of}
use Rattle.rows.specs.Rows.{in_row, listed_rows}
pub use Rattle.build_answer.specs.Answer.{BuildRooms, rooms_of, BuildTold, told_of, BuildOutcome, leaves, zeros, after_rows}
unfoldable pub use Rattle.build_answer.specs.Answer.{refused_with}

-- ---- what a build is given

-- the numbers beside the description
pub record Setting : Type 0 where
  pub adjustment : ℤ
  pub width : ℕ
  pub height : ℕ
  pub ytox : Float
  pub ytob : Float
  pub high : Bool
  pub level10 : Bool

abbrev pub setting_of : ℤ → ℕ → ℕ → Float → Float → Bool → Bool → Setting
setting_of adjustment width height ytox ytob high level10 = record {
  adjustment = adjustment;
  width = width;
  height = height;
  ytox = ytox;
  ytob = ytob;
  high = high;
  level10 = level10;
}

-- the setting that a value of the Rust type holds
abbrev pub setting_in : Declared.Setting → Setting
setting_in s = setting_of s.adjustment s.width s.height s.y_to_x s.y_to_b s.high_precision s.level10

abbrev pub given_of : Setting → Given
given_of i = record { adjustment = i.adjustment; y_to_x = i.ytox; y_to_b = i.ytob; limit = spline_area_limit i.level10 (i.width * i.height) }

-- ---- the build

abbrev pub after_paint : BuildRooms → ℕ → ℕ → Painted → BuildOutcome
after_paint r height estimate (NoRoomAt k) = refused_with r Code.Room k
after_paint r height estimate (All segs owners) =
    after_rows r estimate (length segs) (eights segs) owners (listed_rows (in_row (eights segs)) (length segs) height r.starts r.entries)

abbrev pub after_judge : BuildRooms → ℕ → Judged → Painted → BuildOutcome
after_judge r height (Judged.Refused code k) painted = refused_with r code k
after_judge r height (Judged.Fine estimate) painted = after_paint r height estimate painted

-- the checks and all splines judged, then every spline drawn, then ROOM for the entries
unfoldable pub build_of : Description → Setting → BuildRooms → BuildOutcome
build_of d i r =
    after_judge r i.height (verdict_of d (given_of i) i.width i.height r.starts)
    (paint_of d (given_of i) i.high (path_room r.path) (walk_room r.walk) (owned_room r.segments r.owners))
