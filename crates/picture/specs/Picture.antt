-- The picture of a list of segments: each pixel with the segments added that have it, and the pairs of a segment and a pixel that it has. Definitions only.
use Rattle.std.specs.Prelude.{◌≡◌, Bool, true, cond, ◌&&◌, ℕ, zero, suc, ◌+◌, ◌<◌, length, get_or, Float}
use mathlib.Core.List.{List, [], ◌∷◌, foldl}
use Rattle.numbers.specs.Arith.{0·0}
use Rattle.buffers.specs.Padded.{padded}
use Rattle.dequantize.specs.Answers as Judged
use Rattle.dequantize.specs.Judge.{Description, judge_of}
use Rattle.points.specs.Points.{eights}
use Rattle.segments.specs.declared.Segment.{Segment}
use Rattle.segments.specs.Ranges.{has_row, has_column}
use Rattle.shade.specs.Shade.{shaded}
use Rattle.rows.specs.Rows.{listed, rows, start_of, up_to, in_row}
use Rattle.table.specs.Table.{BuildRooms, Setting, given_of, zeros, build_of}
use Rattle.table.specs.Table as build
use Rattle.build_answer.specs.BuildAnswer as BuildAnswer
use Rattle.draw.specs.Draw.{count, Table, table_of, row_of, Channels}
use Rattle.shade.specs.Edit.{edit}

-- whether a segment has the pixel at row y and column x
abbrev pub has_pixel : Segment → ℕ → ℕ → Bool
has_pixel s y x = has_row s y && has_column s x

-- a pixel of colour c with one segment added, if the segment has it
abbrev pub shaded_in_pixel : ℕ → ℕ → ℕ → Float → Segment → Float
shaded_in_pixel c y x v s = cond (has_pixel s y x) (shaded s y x c v) v

-- with all segments added that have it, in their order
abbrev pub pixel_of : ℕ → List Segment → ℕ → ℕ → Float → Float
pixel_of c segments y x v = foldl (shaded_in_pixel c y x) v segments

-- the pairs of a segment and one of the first W pixels of row y that it has
abbrev pub row_pairs : List Segment → ℕ → ℕ → ℕ
row_pairs [] W y = 0
row_pairs (s ∷ segments) W y = count (has_pixel s y) 0 W + row_pairs segments W y

-- the same over H rows from y on
abbrev pub image_pairs : List Segment → ℕ → ℕ → ℕ → ℕ
image_pairs segments W y zero = 0
image_pairs segments W y (suc H) = row_pairs segments W y + image_pairs segments W (suc y) H

-- ---- a built table

-- an outcome of a build, with its counts where it is done
pub record Built (d : Description) (i : Setting) (r : BuildRooms) (o : build.BuildOutcome) (s e estimate : ℕ) : Type 0 where
  pub outcome : o ≡ build_of d i r
  pub faint : ℕ
  pub done : o.answer ≡ BuildAnswer.Done s e estimate faint

-- the table as drawing takes it: s segments, e entries, and a row start for each row of the image and one more
abbrev pub built : Setting → build.BuildOutcome → ℕ → ℕ → Table
built i o s e = table_of o.segments s o.entries e o.starts i.height

-- what the table holds: the segments laid flat, the rows that list them, where each row starts, and zeros behind them and in the working cells; row y lists the segments
-- that have it, once each, ascending
pub record BuiltTable (d : Description) (i : Setting) (r : BuildRooms) (own : List Segment) (o : build.BuildOutcome) (s e estimate : ℕ) : Type 0 where
  pub judged : judge_of d (given_of i) ≡ Judged.Fine estimate
  pub count : s ≡ length own
  pub segments : o.segments ≡ padded r.segments 0·0 (eights own)
  pub entry_count_lem : e ≡ start_of (in_row o.segments) s i.height
  pub entries : o.entries ≡ padded r.entries 0 (rows (in_row o.segments) s i.height)
  pub starts : o.starts ≡ padded r.starts 0 (up_to (start_of (in_row o.segments) s) (suc i.height))
  pub row : (y : ℕ) → y < i.height → row_of (built i o s e) y ≡ listed (in_row o.segments) y s
  pub no_path : o.path ≡ zeros r.path
  pub no_walk : o.walk ≡ zeros r.walk

-- ---- what a row lists

-- a number stands in a list
pub record Found (row : List ℕ) (i : ℕ) : Type 0 where
  pub index : ℕ
  pub in_row_lem : index < length row
  pub is : get_or row index 0 ≡ i

-- a list has the numbers below n that pass a test and no other, once each, ascending
pub record Lists (test : ℕ → Bool) (n : ℕ) (row : List ℕ) : Type 0 where
  pub passes : (j : ℕ) → j < length row → (get_or row j 0 < n) × (test (get_or row j 0) ≡ true)
  pub ascends : (j k : ℕ) → j < k → k < length row → get_or row j 0 < get_or row k 0
  pub complete : (i : ℕ) → i < n → test i ≡ true → Found row i

-- ---- a row drawn

-- from the channels a of row y to w: each pixel of each channel is its starting value with the segments added that have it, in their order
pub record RowPicture (segments : List Segment) (y : ℕ) (a w : Channels) : Type 0 where
  pub channel0 : w.r0 ≡ edit (pixel_of 0 segments y) a.r0
  pub channel1 : w.r1 ≡ edit (pixel_of 1 segments y) a.r1
  pub channel2 : w.r2 ≡ edit (pixel_of 2 segments y) a.r2
