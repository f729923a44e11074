-- The demands, as named statements on outcomes that the proved contracts of the calls allow (specs/Calls.antt). proofs/Demands.antt proves each, proofs/Readings.antt the table
-- of readings. Definitions only.
-- Beside this file: the tables of codes of read and write, and how many values a list has (specs/ListCodes.antt: ReadCodes, WriteCodes, WrittenSize); how many points a path has (`curve`,
-- Curve.antt: PathLength); that the exports tell what the calls answer, and have one outcome (`exports`, Exports.antt: ExportsTellTheCalls, OneOutcomeExported), since a crate cannot speak of its own contracts.
use Rattle.codes.specs.Refusal.{refused}
use Rattle.std.specs.Prelude.{◌≡◌, true, false, ◌&&◌, ◌↔◌, List, ◌++◌, ℕ, ◌-◌, ◌*◌, ◌^◌, ◌≤◌, ◌<◌, leb, length, take, replicate, ℤ, pos, negsuc, Float}
use Rattle.std.specs.Float.{nan, fin, binary32}
use Rattle.std.specs.Float.Ieee.{of_int}
use Rattle.buffers.specs.Padded.{padded}
use Rattle.codes.specs.Codes.{number_of}
use Rattle.codes.specs.declared.Code.{Code}
use Rattle.wholes.specs.Whole.{round_of}
use Rattle.roots.specs.Length.{length_of}
use Rattle.approximations.specs.Ln.{ln_of}
use Rattle.ieee754.specs.Ieee754.{Ieee754}
use Rattle.shape.specs.Shape.{points_of}
use Rattle.list.specs.List.{ListRooms, unpack_signed}
use Rattle.list.specs.Steps.{zero_f32}
use Rattle.reader.specs.Read.{ReadOutcome, read_outcome}
use Rattle.reader.specs.Read as reading
use Rattle.read_list.specs.Answer.{ReadAnswer}
use Rattle.read_list.specs.Answer as ReadAnswer
use Rattle.writer.specs.Write.{WriteOutcome, write_of}
use Rattle.writer.specs.Write as writing
use Rattle.writer.specs.WriteAnswer.{Done, Refused}
use Rattle.roundtrip.specs.Enough.{Enough}
use Rattle.dequantize.specs.Limits.{spline_area_limit}
use Rattle.dequantize.specs.Coefficients.{inv_adjusted_quant}
use Rattle.dequantize.specs.Judge.{Description}
use Rattle.segments.specs.declared.Segment.{Segment}
use Rattle.segments.specs.Segment.{segment_at}
use Rattle.kinds.specs.declared.Kind.TheVariants as Kind
use Rattle.segments.specs.Ranges.{row_end, has_row, has_column}
use Rattle.segments.specs.Spot.{spot}
use Rattle.segments.specs.Expressions.{AsSplineRs}
use Rattle.table.specs.Table.{Setting, build_of, zeros}
use Rattle.table.specs.Table as building
use Rattle.table.specs.Segments.{Makes, BuildMakes, NeedsMet, done_with, NoLess, SameTable}
use Rattle.table.specs.Refusals.{BuildRefusal}
use Rattle.build_answer.specs.BuildAnswer.{BuildAnswer}
use Rattle.build_answer.specs.BuildAnswer as BuildAnswer
use Rattle.picture.specs.Picture.{BuiltTable, Lists, row_pairs, image_pairs, RowPicture}
use Rattle.picture.specs.Sights.{not_hidden, KeptSight}
use Rattle.desks.specs.Desks.{Sight}
use Rattle.desks.specs.Agree.{Agree}
use Rattle.draw.specs.Draw.{Table, row_of, shown_of, Channels, DrawOutcome, draw_of}
use Rattle.checks.specs.Refusals.{SpanFits}
use Rattle.checks.specs.Alike.{AlikeFor}
use Rattle.draw.specs.Refusals.{DrawRefusal}
use Rattle.draw.specs.Keeps.{Updates, SameCell, SameLengths}
use Rattle.draw.specs.Image.{most_pairs}
use Rattle.draw.specs.Image as drawing
use Rattle.draw.specs.DrawAnswer.{DrawAnswer}
use Rattle.draw.specs.DrawAnswer as DrawAnswer
use Rattle.hull.specs.ReachAnswer.{ReachAnswer}
use Rattle.hull.specs.ReachAnswer as ReachAnswer
use Rattle.hull.specs.Refusals.{ReachRefusal}
use Rattle.hull.specs.Reach.{ReachOutcome, reach_of}
use Rattle.aktyrbuz.specs.ListCodes.{ReadCodes, WriteCodes}
use Rattle.aktyrbuz.specs.Calls.{ReadCall, WriteCall, BuildCall, DrawCall, ReachCall, LnCall, BuildDone, KeptTable, RowRun, ImageRun}

-- ---- the same numbers as spline.rs

-- `read` answers and leaves what `Splines::read` makes of the list, with the checks in their order
abbrev pub ReadsAsSplineRs : Type 0
ReadsAsSplineRs = (l : List ℕ) (configured pixels : ℕ) (rooms : ListRooms) (o : ReadOutcome) → ReadCall l configured pixels rooms o → o ≡ read_outcome configured pixels rooms l

-- `write` answers and leaves the list of a description, with the checks in their order
abbrev pub WritesTheList : Type 0
WritesTheList =
    (ns : List ℕ) (ss : List Float) (ds cs : List ℤ) (a : ℤ) (configured pixels room : ℕ) (o : WriteOutcome) → WriteCall ns ss ds cs a configured pixels room o
    → o ≡ write_of ns ss ds cs a configured pixels room

-- what `write` accepts, `read` gives back under the same limits: the description, every number
abbrev pub WrittenIsRead : Type 0
WrittenIsRead =
    (ns : List ℕ) (ss : List Float) (ds cs : List ℤ) (a : ℤ) (configured pixels room : ℕ) (o : WriteOutcome) (n : ℕ)
    → WriteCall ns ss ds cs a configured pixels room o → o.answer ≡ Done n
    → (rooms : ListRooms) → Enough rooms ns ss ds cs → (q : ReadOutcome) → ReadCall (take n o.list) configured pixels rooms q
    → q ≡ reading.leaves (ReadAnswer.done (length ns) (points_of ns) a) (padded rooms.counts 0 ns) (padded rooms.starts zero_f32 ss)
    (padded rooms.deltas (pos 0) ds) (padded rooms.coefficients (pos 0) cs)

-- what `read` accepts, `write` writes back under the same limits: the list, every value
abbrev pub ReadIsWritten : Type 0
ReadIsWritten =
    (configured pixels : ℕ) (rooms : ListRooms) (l : List ℕ) (q : ReadOutcome) (s p : ℕ) (a : ℤ) → ReadCall l configured pixels rooms q
    → q.answer ≡ ReadAnswer.done s p a → (room : ℕ) → length l ≤ room → (o : WriteOutcome)
    → WriteCall (take s q.counts) (take (2 * s) q.starts) (take (2 * p) q.deltas) (take (128 * s) q.coefficients) a configured pixels room o
    → o ≡ writing.leaves (Done (length l)) (l ++ replicate (room - length l) 0)

-- `build` answers and leaves what `initialize_draw_cache` makes of a description for an image, with the checks in their order
abbrev pub BuildsAsSplineRs : Type 0
BuildsAsSplineRs = (d : Description) (i : Setting) (r : building.BuildRooms) (o : building.BuildOutcome) → BuildCall d i r o → o ≡ build_of d i r

-- where it is done, the description makes a list of segments, which is the only one whatever was lent; the cells hold them, and each row lists those that have it, once each, ascending
pub record BuildsTheTable : Type 0 where
  pub made : (d : Description) (i : Setting) (r : building.BuildRooms) (o : building.BuildOutcome) (s e estimate : ℕ) (b : BuildDone d i r o s e estimate) → BuildMakes d i r s e estimate b.faint
  pub one : (d : Description) (i : Setting) (segments others : List Segment) → Makes d i segments → Makes d i others → segments ≡ others
  pub table : (d : Description) (i : Setting) (r : building.BuildRooms) (o : building.BuildOutcome) (s e estimate : ℕ) → BuildDone d i r o s e estimate
      → (segments : List Segment) → Makes d i segments → BuiltTable d i r segments o s e estimate

-- a build whose needs are met is done, and with at least as much room as one that is done it is done too, with the same counts and the same table
pub record EnoughRoomIsDone : Type 0 where
  pub enough : (d : Description) (i : Setting) (r : building.BuildRooms) (segments : List Segment) (owners : List ℕ) (o : building.BuildOutcome) → NeedsMet d i r segments owners → BuildCall d i r o
      → o ≡ done_with d i r segments owners
  pub more : (d : Description) (i : Setting) (r r' : building.BuildRooms) (o o' : building.BuildOutcome) (s e estimate : ℕ) → NoLess r r' → BuildDone d i r o s e estimate
      → BuildCall d i r' o' → SameTable i.height s e o o'

-- `draw` answers and leaves what `draw_segments` makes of the channels and of those of the row's segments that are not hidden for the desk, with the checks in their order
abbrev pub DrawsAsSplineRs : Type 0
DrawsAsSplineRs = (t : Table) (s : Sight) (y x0 n : ℕ) (a : Channels) (o : DrawOutcome) → DrawCall t s y x0 n a o → o ≡ draw_of t s y x0 n a

-- `reach` answers the hull of the columns that drawing the row for the desk would touch, with the checks in their order
abbrev pub ReachesByTheRule : Type 0
ReachesByTheRule = (t : Table) (s : Sight) (y W : ℕ) (o : ReachOutcome) → ReachCall t s y W o → o ≡ reach_of t s y W

-- `ln` is the scope's fixed sequence of steps
abbrev pub LogsByItsSteps : Type 0
LogsByItsSteps = (x r : Float) → LnCall x r → r ≡ ln_of x

-- the root, the length, floor, ceil, R and the conversions are what IEEE 754 says; the R of starts and that of rows and columns are one, and rows and columns are spline.rs's expressions
pub record NumbersByIeee754 : Type 0 where
  pub numbers : Ieee754
  pub ranges : AsSplineRs

-- ---- refusals

-- every cell that reading lends is zero
pub record ReadZeros (rooms : ListRooms) (o : ReadOutcome) : Type 0 where
  pub counts : o.counts ≡ replicate rooms.counts 0
  pub starts : o.starts ≡ replicate rooms.starts zero_f32
  pub deltas : o.deltas ≡ replicate rooms.deltas (pos 0)
  pub coefficients : o.coefficients ≡ replicate rooms.coefficients (pos 0)

-- every cell that building lends, the working cells too
pub record BuildZeros (rooms : building.BuildRooms) (o : building.BuildOutcome) : Type 0 where
  pub path : o.path ≡ zeros rooms.path
  pub walk : o.walk ≡ zeros rooms.walk
  pub segments : o.segments ≡ zeros rooms.segments
  pub owners : o.owners ≡ replicate rooms.owners 0
  pub starts : o.starts ≡ replicate rooms.starts 0
  pub entries : o.entries ≡ replicate rooms.entries 0

-- a refusal of reading, writing or building leaves every lent cell zero
pub record RefusedLeavesZero : Type 0 where
  pub read : (l : List ℕ) (configured pixels : ℕ) (rooms : ListRooms) (o : ReadOutcome) (c : Code) (p : ℕ) → ReadCall l configured pixels rooms o
      → o.answer ≡ refused c p → ReadZeros rooms o
  pub write : (ns : List ℕ) (ss : List Float) (ds cs : List ℤ) (a : ℤ) (configured pixels room : ℕ) (o : WriteOutcome) (c : Code) (p : ℕ)
      → WriteCall ns ss ds cs a configured pixels room o → o.answer ≡ Refused c p → o.list ≡ replicate room 0
  pub build : (d : Description) (i : Setting) (r : building.BuildRooms) (o : building.BuildOutcome) (c : Code) (p : ℕ) → BuildCall d i r o
      → o.answer ≡ BuildAnswer.Refused c p → BuildZeros r o

-- a refused drawing writes nothing
abbrev pub RefusedDrawsNothing : Type 0
RefusedDrawsNothing =
    (t : Table) (s : Sight) (y x0 n : ℕ) (a : Channels) (o : DrawOutcome) (c : Code) (p : ℕ) → DrawCall t s y x0 n a o → o.answer ≡ DrawAnswer.Refused c p → o.channels ≡ a

-- a code of drawing is given exactly when its table of codes says, at place 0 and with no update counted
pub record DrawCodes : Type 0 where
  pub exactly : (t : Table) (s : Sight) (y x0 n : ℕ) (a : Channels) (o : DrawOutcome) → DrawCall t s y x0 n a o → (c : Code) (p : ℕ)
      → (o.answer ≡ DrawAnswer.Refused c p) ↔ DrawRefusal t s y x0 n (length a.r0) (length a.r1) (length a.r2) c p
  pub told : (t : Table) (s : Sight) (y x0 n : ℕ) (a : Channels) (o : DrawOutcome) → DrawCall t s y x0 n a o → (c : Code) (p : ℕ)
      → o.answer ≡ DrawAnswer.Refused c p → o.told ≡ record { number = number_of c; place = 0; updates = 0 }

-- and a code of reach, with both columns 0
pub record ReachCodes : Type 0 where
  pub exactly : (t : Table) (s : Sight) (y W : ℕ) (o : ReachOutcome) → ReachCall t s y W o → (c : Code) (p : ℕ) → (o.answer ≡ ReachAnswer.Refused c p) ↔ ReachRefusal t s y W c p
  pub told : (t : Table) (s : Sight) (y W : ℕ) (o : ReachOutcome) → ReachCall t s y W o → (c : Code) (p : ℕ)
      → o.answer ≡ ReachAnswer.Refused c p → o.told ≡ record { number = number_of c; place = 0; first = 0; past = 0 }

-- a code of building is given exactly when its table of codes says, with number and place, and with counts of 0
pub record BuildCodes : Type 0 where
  pub exactly : (d : Description) (i : Setting) (r : building.BuildRooms) (o : building.BuildOutcome) → BuildCall d i r o → (c : Code) (p : ℕ)
      → (o.answer ≡ BuildAnswer.Refused c p) ↔ BuildRefusal d i r c p
  pub told : (d : Description) (i : Setting) (r : building.BuildRooms) (o : building.BuildOutcome) → BuildCall d i r o → (c : Code) (p : ℕ)
      → o.answer ≡ BuildAnswer.Refused c p → o.told ≡ record { number = number_of c; place = p; segments = 0; entries = 0; estimate = 0; faint = 0 }

-- the codes of every call, each exactly when
pub record CodesExactly : Type 0 where
  pub read : ReadCodes
  pub write : WriteCodes
  pub build : BuildCodes
  pub draw : DrawCodes
  pub reach : ReachCodes

-- a kept table is not refused: for either desk, a part of any of its rows that lies within 2^23 columns and in the channels is drawn, and every row has its reach
pub record BuiltIsDrawn : Type 0 where
  pub draw : (d : Description) (i : Setting) (segments : List Segment) (owners : List ℕ) (t : Table) (s : Sight) → KeptTable d i segments t → KeptSight d i segments owners s
      → (y x0 n : ℕ) (a : Channels) (o : DrawOutcome) → y < i.height → SpanFits x0 n (length a.r0) (length a.r1) (length a.r2)
      → DrawCall t s y x0 n a o → o.answer ≡ DrawAnswer.Done o.told.updates
  pub reach : (d : Description) (i : Setting) (segments : List Segment) (owners : List ℕ) (t : Table) (s : Sight) → KeptTable d i segments t → KeptSight d i segments owners s
      → (y W : ℕ) (o : ReachOutcome) → y < i.height → W ≤ 2 ^ 23 → ReachCall t s y W o → o.answer ≡ ReachAnswer.Done o.told.first o.told.past

-- ---- tables

-- a row of a kept table lists the segments that have it and no other, once each, ascending
abbrev pub OnceAscending : Type 0
OnceAscending =
    (d : Description) (i : Setting) (segments : List Segment) (t : Table) → KeptTable d i segments t → (y : ℕ) → y < i.height
    → Lists (λ k. has_row (segment_at t.segments k) y) t.segment_count (row_of t y)

-- other rows are not looked at, nor what stands behind the counts and the splines' bytes, nor a bit that is not the desk's: two tables that are alike in row y for the desk
-- have one outcome of drawing it, and one reach
pub record OtherRowsDontMatter : Type 0 where
  pub draw : (t u : Table) (s r : Sight) (y : ℕ) → AlikeFor y t s u r → (x0 n : ℕ) (a : Channels) (o q : DrawOutcome) → DrawCall t s y x0 n a o → DrawCall u r y x0 n a q → o ≡ q
  pub reach : (t u : Table) (s r : Sight) (y : ℕ) → AlikeFor y t s u r → (W : ℕ) (o q : ReachOutcome) → ReachCall t s y W o → ReachCall u r y W q → o ≡ q

-- ---- pixels

-- The segments not hidden for the desk are `not_hidden s owners segments`: a segment is left out where the desk's bit is set in the byte of its spline, told by its ninth field, the owner.

-- after all parts of a row of a kept table, in any order, each pixel is its starting value with exactly the segments added, ascending, that are not hidden for the desk and whose rows
-- and columns have it
abbrev pub RowInParts : Type 0
RowInParts =
    (d : Description) (i : Setting) (segments : List Segment) (owners : List ℕ) (t : Table) (s : Sight) → KeptTable d i segments t → KeptSight d i segments owners s
    → (y W : ℕ) (a w : Channels) (sum : ℕ) → RowRun t s y W a w sum → RowPicture (not_hidden s owners segments) y a w

-- the same of every row of an image
abbrev pub ImageInParts : Type 0
ImageInParts =
    (d : Description) (i : Setting) (segments : List Segment) (owners : List ℕ) (t : Table) (s : Sight) → KeptTable d i segments t → KeptSight d i segments owners s
    → (W : ℕ) (a w : drawing.Image) (sum : ℕ) → ImageRun t s W a w sum → (y : ℕ) → y < i.height → RowPicture (not_hidden s owners segments) y (a y) (w y)

-- a call keeps every lent cell that it does not update, those behind the part too, and the lengths
pub record KeepsOtherCells : Type 0 where
  pub cells : (t : Table) (s : Sight) (y x0 n : ℕ) (a : Channels) (o : DrawOutcome) → DrawCall t s y x0 n a o → (k : ℕ) → (Updates t s y x0 n k → ⊥) → SameCell k a o.channels
  pub lengths : (t : Table) (s : Sight) (y x0 n : ℕ) (a : Channels) (o : DrawOutcome) → DrawCall t s y x0 n a o → SameLengths a o.channels

-- the updates of a row sum to the pairs of a segment that is not hidden for the desk and a pixel that it has, at most the width times the row's entries that the desk is shown
abbrev pub RowUpdates : Type 0
RowUpdates =
    (d : Description) (i : Setting) (segments : List Segment) (owners : List ℕ) (t : Table) (s : Sight) → KeptTable d i segments t → KeptSight d i segments owners s
    → (y W : ℕ) (a w : Channels) (sum : ℕ) → RowRun t s y W a w sum → (sum ≡ row_pairs (not_hidden s owners segments) W y) × (sum ≤ W * length (shown_of t s y))

-- those of an image to the pairs of all its rows, at most the sum over the rows of the width times the row's entries that the desk is shown
abbrev pub ImageUpdates : Type 0
ImageUpdates =
    (d : Description) (i : Setting) (segments : List Segment) (owners : List ℕ) (t : Table) (s : Sight) → KeptTable d i segments t → KeptSight d i segments owners s
    → (W : ℕ) (a w : drawing.Image) (sum : ℕ) → ImageRun t s W a w sum
    → (sum ≡ image_pairs (not_hidden s owners segments) W 0 i.height) × (sum ≤ most_pairs t s W 0 i.height)

-- both
pub record UpdatesSum : Type 0 where
  pub row : RowUpdates
  pub image : ImageUpdates

-- nothing that stood anywhere before changes any of this, the starting pixels and the desk's bits apart: two runs over tables that were kept of one description, with sights that agree
-- in the desk's own bits, end in the same pixels and the same sum, whatever else was lent
pub record NothingStale : Type 0 where
  pub row : (d : Description) (i : Setting) (segments : List Segment) (owners : List ℕ) (t u : Table) (s r : Sight) → KeptTable d i segments t → KeptSight d i segments owners s
      → KeptTable d i segments u → KeptSight d i segments owners r → Agree s r
      → (y W : ℕ) (a w z : Channels) (sum total : ℕ) → RowRun t s y W a w sum → RowRun u r y W a z total → (w ≡ z) × (sum ≡ total)
  pub image : (d : Description) (i : Setting) (segments : List Segment) (owners : List ℕ) (t u : Table) (s r : Sight) → KeptTable d i segments t → KeptSight d i segments owners s
      → KeptTable d i segments u → KeptSight d i segments owners r → Agree s r
      → (W : ℕ) (a w z : drawing.Image) (sum total : ℕ) → ImageRun t s W a w sum → ImageRun u r W a z total → ((y : ℕ) → y < i.height → w y ≡ z y) × (sum ≡ total)

-- ---- any two outcomes that a contract allows are equal

pub record OneOutcome : Type 0 where
  pub read : (l : List ℕ) (configured pixels : ℕ) (rooms : ListRooms) (o q : ReadOutcome) → ReadCall l configured pixels rooms o → ReadCall l configured pixels rooms q → o ≡ q
  pub write : (ns : List ℕ) (ss : List Float) (ds cs : List ℤ) (a : ℤ) (configured pixels room : ℕ) (o q : WriteOutcome)
      → WriteCall ns ss ds cs a configured pixels room o → WriteCall ns ss ds cs a configured pixels room q → o ≡ q
  pub build : (d : Description) (i : Setting) (r : building.BuildRooms) (o q : building.BuildOutcome) → BuildCall d i r o → BuildCall d i r q → o ≡ q
  pub draw : (t : Table) (s : Sight) (y x0 n : ℕ) (a : Channels) (o q : DrawOutcome) → DrawCall t s y x0 n a o → DrawCall t s y x0 n a q → o ≡ q
  pub reach : (t : Table) (s : Sight) (y W : ℕ) (o q : ReachOutcome) → ReachCall t s y W o → ReachCall t s y W q → o ≡ q
  pub ln : (x o q : Float) → LnCall x o → LnCall x q → o ≡ q

-- ---- the starred readings

-- the rows of a segment are those from the first through the last, or none; and its columns
abbrev pub Rows : Segment → ℕ → ℕ → Type 0
Rows s first last = (y : ℕ) → has_row s y ≡ (leb first y && leb y last)

abbrev pub NoRows : Segment → Type 0
NoRows s = (y : ℕ) → has_row s y ≡ false

abbrev pub Columns : Segment → ℕ → ℕ → Type 0
Columns s first last = (x : ℕ) → has_column s x ≡ (leb first x && leb x last)

-- one table: fin s m e is m times 2^e, negative where s is true; negsuc n is -(n + 1); spot x y d is a segment at x and y with the distance d
pub record Readings : Type 0 where
  pub unpack_3 : unpack_signed 3 ≡ negsuc 1
  pub unpack_4294967295 : unpack_signed 4294967295 ≡ negsuc 2147483647
  pub level5_area_0 : spline_area_limit false 0 ≡ 33554432
  pub level5_area_130023423 : spline_area_limit false 130023423 ≡ 1073741816
  pub level5_area_130023424 : spline_area_limit false 130023424 ≡ 1073741824
  pub adjustment_8 : inv_adjusted_quant (pos 8) ≡ fin false 1 (negsuc 0)
  pub adjustment_minus_8 : inv_adjusted_quant (negsuc 7) ≡ fin false 1 (pos 1)
  pub round-2½ : row_end (fin false 5 (negsuc 0)) ≡ Kind.Exact (pos 3)
  pub round-minus-½ : row_end (fin true 1 (negsuc 0)) ≡ Kind.Exact (negsuc 0)
  pub round-2½-f32 : round_of binary32 (fin false 5 (negsuc 0)) ≡ fin false 3 (pos 0)
  pub round-minus-½-f32 : round_of binary32 (fin true 1 (negsuc 0)) ≡ fin true 1 (pos 0)
  pub f32_16777217 : of_int binary32 (pos 16777217) ≡ fin false 1 (pos 24)
  pub f32_16777219 : of_int binary32 (pos 16777219) ≡ fin false 4194305 (pos 2)
  pub length_of_3_4 : length_of (pos 3) (pos 4) ≡ fin false 5 (pos 0)
  pub rows_3_to_8 : (x : Float) → Rows (spot x (fin false 5 (pos 0)) (fin false 5 (negsuc 0))) 3 8
  pub rows_none : (x : Float) → NoRows (spot x (fin true 5 (pos 0)) (fin false 1 (pos 1)))
  pub column_0 : (y : Float) → Columns (spot (fin true 5 (pos 0)) y (fin false 1 (pos 1))) 0 0
  pub nan_row_0 : (x y : Float) → Rows (spot x y nan) 0 0
  pub nan_column_0 : (x y : Float) → Columns (spot x y nan) 0 0
