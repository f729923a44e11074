-- What drawing one record answers and leaves, by its checks. Definitions only.
use Rattle.std.specs.Prelude.{Bool, cond, List, ℕ, ◌+◌, ◌^◌, ltb, length, Float}
use Rattle.codes.specs.declared.Code.{Code}
use Rattle.segments.specs.declared.Segment.{Segment}
pub use Rattle.flat_records.specs.Records.{without_owner}
use Rattle.segments.specs.Ranges.{has_column}
use Rattle.shade.specs.Edit.{edit, first_cells}
use Rattle.shade.specs.Shade.{shaded}
use Rattle.checks.specs.Verdict.{Verdict, Fine, Fault}
use Rattle.draw.specs.DrawAnswer.{Done, Refused}
use Rattle.draw.specs.Draw.{count, span_good, or_fault, three, Channels, leaves, DrawOutcome}

-- a channel of colour c, lent from column x0 on, with the segment added to those of n pixels of row y whose columns it has
abbrev pub drawn_channel_alone : ℕ → Segment → ℕ → ℕ → ℕ → List Float → List Float
drawn_channel_alone c s y x0 n xs = edit (first_cells n (λ k v. cond (has_column s (x0 + k)) (shaded s y (x0 + k) c v) v)) xs

-- a number that names no record is TABLE, a row that no image has ROW, and n pixels that no image or channel has SPAN
unfoldable pub judge_record : Bool → ℕ → ℕ → ℕ → ℕ → ℕ → ℕ → Verdict
judge_record known y x0 n l0 l1 l2 =
    or_fault known Code.Table (or_fault (ltb y (2 ^ 23)) Code.Row (or_fault (span_good x0 n l0 l1 l2) Code.Span Fine))

-- the updates and the drawn channels, or a refusal at place 0 and the channels as they were
abbrev pub outcome_alone : Verdict → Segment → ℕ → ℕ → ℕ → Channels → DrawOutcome
outcome_alone Fine s y x0 n a =
    leaves (Done (count (has_column s) x0 n)) (three (drawn_channel_alone 0 s y x0 n a.r0) (drawn_channel_alone 1 s y x0 n a.r1) (drawn_channel_alone 2 s y x0 n a.r2))
outcome_alone (Fault c) s y x0 n a = leaves (Refused c 0) a

abbrev pub draw_alone : Bool → Segment → ℕ → ℕ → ℕ → Channels → DrawOutcome
draw_alone known s y x0 n a = outcome_alone (judge_record known y x0 n (length a.r0) (length a.r1) (length a.r2)) s y x0 n a
