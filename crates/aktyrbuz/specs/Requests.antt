-- The later requests, as named statements on outcomes that the proved contracts of the calls allow (specs/Calls.antt). proofs/Requests.antt proves each, but proofs/PointsTexts.antt most of (iv) and proofs/Bands.antt those on bands. Definitions only.
use Rattle.codes.specs.Refusal.{refused}
use Rattle.std.specs.Prelude.{◌≡◌, Bool, true, false, ◌↔◌, ◌⊎◌, List, [], ◌∷◌, ◌++◌, ℕ, suc, ◌≤◌, ◌<◌, ◌+◌, ◌^◌, ◌-◌, ◌*◌, pos, ℤ, negsuc, length, get_or, take, replicate, Float, ◌≤ℤ◌}
use Rattle.std.specs.Float.{fin, nan}
use Rattle.std.specs.Float.Ieee.{is_nan}
use Rattle.buffers.specs.Padded.{padded}
use Rattle.dequantize.specs.Judge.{Description, Shaped}
use Rattle.segments.specs.declared.Segment.{Segment}
use Rattle.segments.specs.Segment.{segment_at}
use Rattle.segments.specs.Ranges.{has_row, has_column, row_end, column_end}
use Rattle.segments.specs.Spot.{spot}
use Rattle.table.specs.Table.{Setting, BuildRooms, BuildOutcome, given_of}
use Rattle.desks.specs.Desks.{Sight, sight_of, bit_of, hidden_in}
use Rattle.desks.specs.Agree.{OwnBitsAlike, Agree, NothingHidden}
use Rattle.desks.specs.Hide.{HideOutcome, HideRefusal}
use Rattle.desks.specs.HideAnswer.{HideAnswer}
use Rattle.desks.specs.HideAnswer as HideAnswer
use Rattle.checks.specs.Tables.{Table, row_of, shown_of}
use Rattle.draw.specs.Draw.{Channels, DrawOutcome, unhidden, judge_draw}
use Rattle.draw.specs.Keeps.{Updates, SameCell}
use Rattle.draw.specs.DrawAnswer.{DrawAnswer}
use Rattle.draw.specs.DrawAnswer as DrawAnswer
use Rattle.hull.specs.Reach.{ReachOutcome, reach_over, judge_reach_of, reach_answer, tells}
use Rattle.hull.specs.ReachAnswer.{ReachAnswer}
use Rattle.hull.specs.ReachAnswer as ReachAnswer
use Rattle.aktyrbuz.specs.Calls.{DrawCall, ReachCall, HideCall, HideCalls, with_bits, KeptTable, RowRun, ImageRun, BuildDone, BuildCall}
use Rattle.near.specs.Near.{Edge, apart, Tight, RowsBy, ColumnsBy, RowsNear, ColumnsNear, EveryFinite}
use Rattle.picture.specs.Picture.{Found, RowPicture, row_pairs, image_pairs, built}
use Rattle.picture.specs.Sights.{hides, not_hidden, KeptSight}
use Rattle.painting.specs.Segments.{SplineMakes}
use Rattle.table.specs.Segments.{MakesOwned}
use Rattle.picture.specs.Owners.{segments_in, owned_by, Ascending, Skipped}
use Rattle.numbers.specs.Arith.{◌⊕◌, ◌⊖◌}
use Rattle.control_points.specs.ByKind.{StartByKind}
use Rattle.estimate.specs.ByKind.{EstimateByKind}
use Rattle.segments.specs.Bounds.{RowsByKind, ColumnsByKind}
use Rattle.faint.specs.Faint.{faint_in}
use Rattle.codes.specs.Codes.{number_of}
use Rattle.codes.specs.declared.Code.{Code}
use Rattle.shape.specs.Shape.{points_of}
use Rattle.list.specs.List.{ListRooms}
use Rattle.list.specs.Steps.{zero_f32}
use Rattle.reader.specs.Read.{ReadOutcome}
use Rattle.reader.specs.Refusals.{ReadRefused}
use Rattle.read_list.specs.Answer.{ReadAnswer}
use Rattle.read_list.specs.Answer as ReadAnswer
use Rattle.writer.specs.Write.{WriteOutcome, WriteTold}
use Rattle.writer.specs.WriteAnswer.{Done, Refused}
use Rattle.write_laws.specs.Refusals.{WriteRefused}
use Rattle.roundtrip.specs.Enough.{Enough}
use Rattle.trace_laws.specs.Refusals.{TraceReadRefusal, TraceWriteRefusal, TraceAccepted}
use Rattle.trace_laws.specs.Small.{small_file, small_rooms}
use Rattle.aktyrbuz.specs.ListCodes.{ReadDone}
use Rattle.aktyrbuz.specs.TraceCalls.{TraceReadCall, TraceWriteCall}
use Rattle.profile_rules.specs.declared.Rule.{Rule}
use Rattle.profile_rules.specs.Rules.{rule_number}
use Rattle.profile.specs.Profile.{ProfileOutcome}
use Rattle.profile.specs.Answers.{ProfileAnswer}
use Rattle.profile.specs.Answers as ProfileAnswer
use Rattle.profile_build.specs.Building.{ProfileBuildOutcome, stopped_with, as_built}
use Rattle.profile_told.specs.Answers.{ProfileBuildAnswer}
use Rattle.profile_told.specs.Answers as ProfileBuildAnswer
use Rattle.profile_laws.specs.Rules.{Meeting, Breaking, NoEdition, ProfileRefusal}
use Rattle.profile_laws.specs.Refusals.{Plain, DoneByBuild, BreaksRule, UnknownEdition, ProfileBuildRefusal}
use Rattle.aktyrbuz.specs.ProfileCalls.{ProfileCall, ProfileBuildCall}
use Rattle.little.specs.Little.{numbers_in}
use Rattle.trace_laws.specs.Behind.{number}
use Rattle.trace2.specs.Editions.{edition_in}
use Rattle.trace2.specs.Read.{FileOutcome, with_edition}
use Rattle.trace2_laws.specs.Refusals.{FileReadRefusal, FileWriteRefusal, FileAccepted}
use Rattle.aktyrbuz.specs.Trace2Calls.{FileReadCall, FileWriteCall}
use Rattle.makers.specs.CheckAnswer.{CheckAnswer}
use Rattle.makers.specs.CheckAnswer as CheckAnswer
use Rattle.makers.specs.Check.{told_of}
use Rattle.makers.specs.Refusals.{Fits, FirstWrong, CheckAccepted, CheckRefusal}
use Rattle.makers_laws.specs.Cut.{cut_to_counts}
use Rattle.aktyrbuz.specs.MakersCalls.{CheckCall}
use Rattle.bands.specs.BandsAnswer.{BandsAnswer}
use Rattle.bands.specs.BandsAnswer as BandsAnswer
use Rattle.bands.specs.Bands.{bands_in}
use Rattle.bands.specs.Calls.{BandsOutcome}
use Rattle.bands.specs.Refusals.{BandsRefusal, BandRefusal}
use Rattle.bands_laws.specs.Done.{BandsDone, BandDone}
use Rattle.bands_laws.specs.Summaries.{InBand, BandRows, OtherCell, ListsSpline, SegmentNumbers, HullOf}
use Rattle.aktyrbuz.specs.BandsCalls.{BandsCall, BandCall, BandCalls}
use Rattle.list.specs.Steps.{f32_of}
use Rattle.control_points.specs.ControlPoints.{starting_point}
use Rattle.dequantize.specs.Judge.{description_of, start_x, start_y, deltas_of}
use Rattle.dequantize.specs.Refusals.{SplinePasses, SplineRefusal}
use Rattle.dequantize.specs.declared.Given.{Given}
use Rattle.control_points.specs.declared.Pair.{Pair}
use Rattle.control_points.specs.Answers as start_at_lem
use Rattle.polyline.specs.Form.{PointsForm}
use Rattle.polyline.specs.Read.{PointsOutcome, read_points_of}
use Rattle.polyline.specs.Read as drawn
use Rattle.polyline.specs.Write.{write_points_of}
use Rattle.polyline_laws.specs.Begins.{FirstBad}
use Rattle.polyline_laws.specs.Says.{FormSays, OneSaying}
use Rattle.polyline_laws.specs.Refusals.{PointsReadRefusal, PointsAccepted, There, PointsWriteRefusal, PointsWritten}
use Rattle.aktyrbuz.specs.PolylineCalls.{PointsReadCall, PointsWriteCall}
use Rattle.draw.specs.Image as drawing
use Rattle.kinds.specs.declared.Kind.TheVariants as Kind
use Rattle.table.specs.Table as building
use Rattle.reader.specs.Read as reading
use Rattle.writer.specs.Write as writing

-- ---- (i) a trace file

-- reading what was written gives the description back, every number, with zeros behind, in rooms exact or larger
abbrev pub FileReadBack : Type 0
FileReadBack =
    (ns : List ℕ) (ss : List Float) (ds cs : List ℤ) (a : ℤ) (room : ℕ) (o : WriteOutcome) (n : ℕ) → TraceWriteCall ns ss ds cs a room o → o.answer ≡ Done n
    → (rooms : ListRooms) → Enough rooms ns ss ds cs → (q : ReadOutcome) → TraceReadCall (take n o.list) rooms q
    → q ≡ reading.leaves (ReadAnswer.done (length ns) (points_of ns) a) (padded rooms.counts 0 ns) (padded rooms.starts zero_f32 ss)
    (padded rooms.deltas (pos 0) ds) (padded rooms.coefficients (pos 0) cs)

-- what is read is written as the same bytes, with zeros behind
abbrev pub FileWrittenBack : Type 0
FileWrittenBack =
    (bytes : List ℕ) (rooms : ListRooms) (q : ReadOutcome) (s p : ℕ) (a : ℤ) → TraceReadCall bytes rooms q → q.answer ≡ ReadAnswer.done s p a
    → (room : ℕ) → length bytes ≤ room → (o : WriteOutcome)
    → TraceWriteCall (take s q.counts) (take (2 * s) q.starts) (take (2 * p) q.deltas) (take (128 * s) q.coefficients) a room o
    → o ≡ writing.leaves (Done (length bytes)) (bytes ++ replicate (room - length bytes) 0)

-- a description has one file only
abbrev pub OneFile : Type 0
OneFile =
    (bytes bytes' : List ℕ) (rooms : ListRooms) (q : ReadOutcome) (s p : ℕ) (a : ℤ) → TraceReadCall bytes rooms q → TraceReadCall bytes' rooms q
    → q.answer ≡ ReadAnswer.done s p a → bytes ≡ bytes'

-- reading refuses with a code at a place exactly when the table of reading gives it; the number, the place and the counts of 0 are then told, and every lent cell is zero
-- where the table gives nothing, reading is done
pub record TraceReadCodes : Type 0 where
  pub exactly : (bytes : List ℕ) (rooms : ListRooms) (o : ReadOutcome) → TraceReadCall bytes rooms o
      → (c : Code) (p : ℕ) → o.answer ≡ refused c p ↔ TraceReadRefusal rooms bytes c p
  pub told : (bytes : List ℕ) (rooms : ListRooms) (o : ReadOutcome) → TraceReadCall bytes rooms o
      → (c : Code) (p : ℕ) → TraceReadRefusal rooms bytes c p → ReadRefused rooms c p o
  pub else_done : (bytes : List ℕ) (rooms : ListRooms) (o : ReadOutcome) → TraceReadCall bytes rooms o
      → ((c : Code) (p : ℕ) → TraceReadRefusal rooms bytes c p → ⊥) → ReadDone o

-- writing likewise, by the table of writing; and it is done exactly when nothing is given, with so many bytes
pub record TraceWriteCodes : Type 0 where
  pub exactly : (ns : List ℕ) (ss : List Float) (ds cs : List ℤ) (a : ℤ) (room : ℕ) (o : WriteOutcome) → TraceWriteCall ns ss ds cs a room o
      → (c : Code) (p : ℕ) → o.answer ≡ Refused c p ↔ TraceWriteRefusal ns ss ds cs room c p
  pub told : (ns : List ℕ) (ss : List Float) (ds cs : List ℤ) (a : ℤ) (room : ℕ) (o : WriteOutcome) → TraceWriteCall ns ss ds cs a room o
      → (c : Code) (p : ℕ) → TraceWriteRefusal ns ss ds cs room c p → WriteRefused room c p o
  pub done : (ns : List ℕ) (ss : List Float) (ds cs : List ℤ) (a : ℤ) (room : ℕ) (o : WriteOutcome) → TraceWriteCall ns ss ds cs a room o
      → (n : ℕ) → o.answer ≡ Done n ↔ TraceAccepted ns ss ds cs room n

-- any two outcomes that a contract allows are equal
pub record TraceOneOutcome : Type 0 where
  pub read : (bytes : List ℕ) (rooms : ListRooms) (o q : ReadOutcome) → TraceReadCall bytes rooms o → TraceReadCall bytes rooms q → o ≡ q
  pub write : (ns : List ℕ) (ss : List Float) (ds cs : List ℤ) (a : ℤ) (room : ℕ) (o q : WriteOutcome)
      → TraceWriteCall ns ss ds cs a room o → TraceWriteCall ns ss ds cs a room q → o ≡ q

-- a negative first start is read, and so is -8388608: a small file of one spline with the start -3 and -8388608 and the adjustment -8
abbrev pub NegativeFirstStart : Type 0
NegativeFirstStart =
    (o : ReadOutcome) → TraceReadCall small_file small_rooms o
    → o ≡ reading.leaves (ReadAnswer.done 1 0 (negsuc 7)) (0 ∷ []) (fin true 3 (pos 0) ∷ fin true 1 (pos 23) ∷ []) [] (replicate 128 (pos 0))

-- ---- (iii) the reach of a row

-- an answer of reach that is done, for row y of a table, a desk and a width
pub record Reaches (t : Table) (s : Sight) (y W first past : ℕ) : Type 0 where
  pub outcome : ReachOutcome
  pub called : ReachCall t s y W outcome
  pub done : outcome.answer ≡ ReachAnswer.Done first past

-- column x lies from the first up to, not including, the one past the last
abbrev pub InReach : ℕ → ℕ → ℕ → Type 0
InReach first past x = (first ≤ x) × (x < past)

-- reach is empty: 0, 0
abbrev pub NoReach : ℕ → ℕ → Type 0
NoReach first past = (first ≡ 0) × (past ≡ 0)

-- a segment of the description, by its number, that is not hidden for the desk has row y and column x
pub record HasSegment (segments : List Segment) (owners : List ℕ) (s : Sight) (y x : ℕ) : Type 0 where
  pub number : ℕ
  pub listed : number < length segments
  pub seen : hides s (get_or owners number 0) ≡ false
  pub row : has_row (get_or segments number (segment_at [] 0)) y ≡ true
  pub column : has_column (get_or segments number (segment_at [] 0)) x ≡ true

-- when the whole row is drawn for the desk, with any cut and in any order, a column outside its reach is in the columns of no segment of the row that is not hidden, and its three cells come back as they were
pub record OutsideReachUntouched : Type 0 where
  pub any : (t : Table) (s : Sight) (y W first past : ℕ) → Reaches t s y W first past → (a w : Channels) (sum : ℕ) → RowRun t s y W a w sum
      → (x : ℕ) → (InReach first past x → ⊥) → (Updates t s y 0 W x → ⊥) × SameCell x a w
  pub built : (d : Description) (i : Setting) (segments : List Segment) (owners : List ℕ) (t : Table) (s : Sight) → KeptTable d i segments t → KeptSight d i segments owners s
      → (y W first past : ℕ) → Reaches t s y W first past → (a w : Channels) (sum : ℕ) → RowRun t s y W a w sum
      → (x : ℕ) → x < W → (InReach first past x → ⊥) → (HasSegment segments owners s y x → ⊥) × SameCell x a w

-- the first and the last column of a reach that is not empty, each with what holds of it
pub record BothEnds (Holds : ℕ → Type 0) (W first past : ℕ) : Type 0 where
  pub last : ℕ
  pub ends : suc last ≡ past
  pub ordered : first ≤ last
  pub inside : past ≤ W
  pub at_first : Holds first
  pub at_last : Holds last

-- unless reach is empty, its first and its last column each have a segment of the row that the desk is shown, so an update; drawn alone, such a column counts one at least
pub record ReachEndsUpdated : Type 0 where
  pub any : (t : Table) (s : Sight) (y W first past : ℕ) → Reaches t s y W first past → (NoReach first past → ⊥) → BothEnds (Updates t s y 0 W) W first past
  pub built : (d : Description) (i : Setting) (segments : List Segment) (owners : List ℕ) (t : Table) (s : Sight) → KeptTable d i segments t → KeptSight d i segments owners s
      → (y W first past : ℕ) → Reaches t s y W first past → (NoReach first past → ⊥) → BothEnds (HasSegment segments owners s y) W first past
  pub counted : (t : Table) (s : Sight) (y W x : ℕ) → Updates t s y 0 W x → (a : Channels) (o : DrawOutcome) (n : ℕ) → DrawCall t s y x 1 a o → o.answer ≡ DrawAnswer.Done n → 0 < n

-- reach is 0, 0 exactly when no segment of the row that the desk is shown has a column below the width
pub record ReachEmptyExactly : Type 0 where
  pub any : (t : Table) (s : Sight) (y W first past : ℕ) → Reaches t s y W first past → NoReach first past ↔ ((x : ℕ) → Updates t s y 0 W x → ⊥)
  pub built : (d : Description) (i : Setting) (segments : List Segment) (owners : List ℕ) (t : Table) (s : Sight) → KeptTable d i segments t → KeptSight d i segments owners s
      → (y W first past : ℕ) → Reaches t s y W first past → NoReach first past ↔ ((x : ℕ) → x < W → HasSegment segments owners s y x → ⊥)

-- a strand wholly left of the picture changes column 0, and reach says so: a segment that the desk is shown at -5 with the distance 2, wherever it lies and whatever else the row lists
abbrev pub LeftEdgeReached : Type 0
LeftEdgeReached =
    (t : Table) (s : Sight) (y W first past : ℕ) → Reaches t s y W first past → 0 < W → (j : ℕ) → j < length (shown_of t s y) → (cy : Float)
    → segment_at t.segments (get_or (shown_of t s y) j 0) ≡ spot (fin true 5 (pos 0)) cy (fin false 1 (pos 1)) → InReach first past 0

-- ---- (iv) line drawings

-- the two calls answer and leave what their definitions say
pub record PointsAsDefined : Type 0 where
  pub read : (text : List ℕ) (start deltas : ℕ) (o : PointsOutcome) → PointsReadCall text start deltas o → o ≡ read_points_of start deltas text
  pub write : (ns : List ℕ) (ss : List Float) (ds cs : List ℤ) (k room : ℕ) (o : WriteOutcome) → PointsWriteCall ns ss ds cs k room o → o ≡ write_points_of ns ss ds cs k room

-- TEXT points to the first byte that no text of the form could have there, or to the end of a text that stops early, and to nothing else; it is given exactly when the text has not the form
pub record FirstBadByteTold : Type 0 where
  pub place : (text : List ℕ) (start deltas : ℕ) (o : PointsOutcome) → PointsReadCall text start deltas o
      → (p : ℕ) → (o.answer ≡ Refused Code.Text p) ↔ FirstBad text p
  pub form : (text : List ℕ) (start deltas : ℕ) (o : PointsOutcome) → PointsReadCall text start deltas o
      → PointsForm text ↔ ((p : ℕ) → o.answer ≡ Refused Code.Text p → ⊥)

-- a refusal tells its code's number and its place, and leaves nothing but zeros in every lent cell
pub record PointsRefused (start deltas : ℕ) (c : Code) (p : ℕ) (o : PointsOutcome) : Type 0 where
  pub told : ◌≡◌ {A = WriteTold} o.told (record { number = number_of c; place = p; values = 0 })
  pub start_zero : o.start ≡ replicate start zero_f32
  pub deltas_zero : o.deltas ≡ replicate deltas (pos 0)

pub record PointsRefusalsZero : Type 0 where
  pub read : (text : List ℕ) (start deltas : ℕ) (o : PointsOutcome) → PointsReadCall text start deltas o
      → (c : Code) (p : ℕ) → o.answer ≡ Refused c p → PointsRefused start deltas c p o
  pub write : (ns : List ℕ) (ss : List Float) (ds cs : List ℤ) (k room : ℕ) (o : WriteOutcome) → PointsWriteCall ns ss ds cs k room o
      → (c : Code) (p : ℕ) → o.answer ≡ Refused c p → WriteRefused room c p o

-- the start, as two floats, and the double deltas, each with zeros behind
abbrev pub start_at : Pair → ℕ → List Float
start_at p room = (f32_of p.x ∷ f32_of p.y ∷ []) ++ replicate (room - 2) zero_f32

abbrev pub deltas_behind : List ℤ → ℕ → ℕ → List ℤ
deltas_behind ds n room = ds ++ replicate (room - 2 * n) (pos 0)

-- a text is accepted exactly if it has the form, building would find its points legal apart from distance and area, and there is room: 2 cells of start, and 2 a double delta;
-- its start and its double deltas are then left
pub record TextAcceptedExactly : Type 0 where
  pub exactly : (text : List ℕ) (start deltas : ℕ) (o : PointsOutcome) → PointsReadCall text start deltas o
      → (n : ℕ) → o.answer ≡ Done n ↔ PointsAccepted text start deltas n
  pub left : (text : List ℕ) (start deltas : ℕ) (o : PointsOutcome) → PointsReadCall text start deltas o
      → (n : ℕ) (a : PointsAccepted text start deltas n) → o ≡ drawn.leaves (Done n) (start_at a.first start) (deltas_behind a.ds n deltas)

-- an answer of success, with its double deltas
pub record PointsDone (o : PointsOutcome) : Type 0 where
  pub deltas : ℕ
  pub is : o.answer ≡ Done deltas

-- reading refuses with a code at a place exactly when the table of reading gives it; the number and the place are then told, and every lent cell is zero
-- where the table gives nothing, reading is done; the table speaks of the points that a text says: it says some exactly if it has the form, and no two lists of them
pub record PointsReadCodes : Type 0 where
  pub exactly : (text : List ℕ) (start deltas : ℕ) (o : PointsOutcome) → PointsReadCall text start deltas o
      → (c : Code) (p : ℕ) → o.answer ≡ Refused c p ↔ PointsReadRefusal text start deltas c p
  pub told : (text : List ℕ) (start deltas : ℕ) (o : PointsOutcome) → PointsReadCall text start deltas o
      → (c : Code) (p : ℕ) → PointsReadRefusal text start deltas c p → PointsRefused start deltas c p o
  pub else_done : (text : List ℕ) (start deltas : ℕ) (o : PointsOutcome) → PointsReadCall text start deltas o
      → ((c : Code) (p : ℕ) → PointsReadRefusal text start deltas c p → ⊥) → PointsDone o
  pub says : FormSays
  pub one_saying : OneSaying

-- writing likewise, by the table of writing; and it is done exactly when nothing is given, with so many bytes
pub record PointsWriteCodes : Type 0 where
  pub exactly : (ns : List ℕ) (ss : List Float) (ds cs : List ℤ) (k room : ℕ) (o : WriteOutcome) → PointsWriteCall ns ss ds cs k room o
      → (c : Code) (p : ℕ) → o.answer ≡ Refused c p ↔ PointsWriteRefusal ns ss ds cs k room c p
  pub told : (ns : List ℕ) (ss : List Float) (ds cs : List ℤ) (k room : ℕ) (o : WriteOutcome) → PointsWriteCall ns ss ds cs k room o
      → (c : Code) (p : ℕ) → PointsWriteRefusal ns ss ds cs k room c p → WriteRefused room c p o
  pub done : (ns : List ℕ) (ss : List Float) (ds cs : List ℤ) (k room : ℕ) (o : WriteOutcome) → PointsWriteCall ns ss ds cs k room o
      → (n : ℕ) → o.answer ≡ Done n ↔ PointsWritten ns ss ds cs k room n

-- the spline k of a description has the start and the n double deltas that reading left
pub record HasRead (o : PointsOutcome) (n : ℕ) (ns : List ℕ) (ss : List Float) (ds cs : List ℤ) (k : ℕ) : Type 0 where
  pub there : There ns ss ds cs k
  pub x : start_x (description_of ns ss ds cs) k ≡ get_or o.start 0 nan
  pub y : start_y (description_of ns ss ds cs) k ≡ get_or o.start 1 nan
  pub deltas : deltas_of (description_of ns ss ds cs) k ≡ take (2 * n) o.deltas

-- by building's own table of codes: under any setting it refuses a spline that was read, or written, by DISTANCE or AREA and nothing else, and a spline that it passes is refused by ROOM and nothing else
pub record PointsAsBuilt : Type 0 where
  pub read : (text : List ℕ) (start deltas : ℕ) (o : PointsOutcome) (n : ℕ) → PointsReadCall text start deltas o → o.answer ≡ Done n
      → (ns : List ℕ) (ss : List Float) (ds cs : List ℤ) (k : ℕ) → HasRead o n ns ss ds cs k
      → (g : Given) (c : Code) → SplineRefusal (description_of ns ss ds cs) g k c → (c ≡ Code.Distance) ⊎ (c ≡ Code.Area)
  pub written : (ns : List ℕ) (ss : List Float) (ds cs : List ℤ) (k room : ℕ) (o : WriteOutcome) (n : ℕ) → PointsWriteCall ns ss ds cs k room o → o.answer ≡ Done n
      → (g : Given) (c : Code) → SplineRefusal (description_of ns ss ds cs) g k c → (c ≡ Code.Distance) ⊎ (c ≡ Code.Area)
  pub passed : (ns : List ℕ) (ss : List Float) (ds cs : List ℤ) (k room : ℕ) (o : WriteOutcome) → PointsWriteCall ns ss ds cs k room o → There ns ss ds cs k
      → (g : Given) → SplinePasses (description_of ns ss ds cs) g k → (c : Code) (p : ℕ) → o.answer ≡ Refused c p → c ≡ Code.Room

-- import, then export, returns the same text, with zeros behind: of any description that has what was read as a spline, so of one that is this spline alone
pub record TextWrittenBack : Type 0 where
  pub any : (text : List ℕ) (start deltas : ℕ) (o : PointsOutcome) (n : ℕ) → PointsReadCall text start deltas o → o.answer ≡ Done n
      → (ns : List ℕ) (ss : List Float) (ds cs : List ℤ) (k : ℕ) → HasRead o n ns ss ds cs k
      → (room : ℕ) → length text ≤ room → (q : WriteOutcome) → PointsWriteCall ns ss ds cs k room q
      → q ≡ writing.leaves (Done (length text)) (text ++ replicate (room - length text) 0)
  pub alone : (text : List ℕ) (start deltas : ℕ) (o : PointsOutcome) (n : ℕ) → PointsReadCall text start deltas o → o.answer ≡ Done n
      → (cs : List ℤ) → length cs ≡ 128 → (room : ℕ) → length text ≤ room → (q : WriteOutcome) → PointsWriteCall (n ∷ []) (take 2 o.start) (take (2 * n) o.deltas) cs 0 room q
      → q ≡ writing.leaves (Done (length text)) (text ++ replicate (room - length text) 0)

-- export, then import, gives the start as building rounds it and the same double deltas, with zeros behind, in rooms exact or larger
pub record ReadBack (ns : List ℕ) (ss : List Float) (ds cs : List ℤ) (k start deltas : ℕ) (q : PointsOutcome) : Type 0 where
  pub first : Pair
  pub rounded : starting_point (start_x (description_of ns ss ds cs) k) (start_y (description_of ns ss ds cs) k) ≡ start_at_lem.At first
  pub is : q ≡ drawn.leaves (Done (get_or ns k 0)) (start_at first start) (deltas_behind (deltas_of (description_of ns ss ds cs) k) (get_or ns k 0) deltas)

abbrev pub TextReadBack : Type 0
TextReadBack =
    (ns : List ℕ) (ss : List Float) (ds cs : List ℤ) (k room : ℕ) (o : WriteOutcome) (n : ℕ) → PointsWriteCall ns ss ds cs k room o → o.answer ≡ Done n
    → (start deltas : ℕ) → 2 ≤ start → 2 * get_or ns k 0 ≤ deltas → (q : PointsOutcome) → PointsReadCall (take n o.list) start deltas q → ReadBack ns ss ds cs k start deltas q

-- any two outcomes are equal
pub record PointsOneOutcome : Type 0 where
  pub read : (text : List ℕ) (start deltas : ℕ) (o q : PointsOutcome) → PointsReadCall text start deltas o → PointsReadCall text start deltas q → o ≡ q
  pub write : (ns : List ℕ) (ss : List Float) (ds cs : List ℤ) (k room : ℕ) (o q : WriteOutcome)
      → PointsWriteCall ns ss ds cs k room o → PointsWriteCall ns ss ds cs k room q → o ≡ q

-- ---- (v) the number of a segment's spline

-- a build that is done leaves the owners of the segments that the description makes, one for each, and zeros behind them
pub record OwnersOf (r : BuildRooms) (o : BuildOutcome) (s : ℕ) (owners : List ℕ) : Type 0 where
  pub count : length owners ≡ s
  pub cells : o.owners ≡ padded r.owners 0 owners

abbrev pub OwnersLeft : Type 0
OwnersLeft =
    (d : Description) (i : Setting) (r : BuildRooms) (o : BuildOutcome) (s e estimate : ℕ) → BuildDone d i r o s e estimate
    → (segments : List Segment) (owners : List ℕ) → MakesOwned d i segments owners → OwnersOf r o s owners

-- the owner never falls from one segment to the next, and it is the number of a spline
abbrev pub OwnersAscend : Type 0
OwnersAscend =
    (d : Description) (i : Setting) (r : BuildRooms) (o : BuildOutcome) (s e estimate : ℕ) → BuildDone d i r o s e estimate → Ascending (length d.counts) s o.owners

-- the segments of the table with the owner k, in their order, are those that the spline k makes, which are the only ones
pub record SplineOwns (d : Description) (i : Setting) (o : BuildOutcome) (s k : ℕ) : Type 0 where
  pub own : List Segment
  pub makes : SplineMakes d (given_of i) i.high k own
  pub only : (others : List Segment) → SplineMakes d (given_of i) i.high k others → others ≡ own
  pub are : owned_by k (take s o.owners) (segments_in o.segments 0 s) ≡ own

abbrev pub OwnerIsSpline : Type 0
OwnerIsSpline =
    (d : Description) (i : Setting) (r : BuildRooms) (o : BuildOutcome) (s e estimate : ℕ) → BuildDone d i r o s e estimate → (k : ℕ) → k < length d.counts → SplineOwns d i o s k

-- no segment of the table has the owner k
abbrev pub NoOwner : ℕ → ℕ → BuildOutcome → Type 0
NoOwner k s o = (j : ℕ) → j < s → get_or o.owners j 0 ≡ k → ⊥

-- so it is where the spline k is skipped, as one with no double delta is
pub record SkippedHasNone : Type 0 where
  pub skipped : (d : Description) (i : Setting) (r : BuildRooms) (o : BuildOutcome) (s e estimate : ℕ) → BuildDone d i r o s e estimate
      → (k : ℕ) → Skipped d k → NoOwner k s o
  pub no_deltas : (d : Description) (i : Setting) (r : BuildRooms) (o : BuildOutcome) (s e estimate : ℕ) → BuildDone d i r o s e estimate
      → (k : ℕ) → k < length d.counts → get_or d.counts k 0 ≡ 0 → Skipped d k

-- ---- (vi) two desks, one table

-- what a desk gets in answers, pixels and counts depends on the table, its own bits and its own row: two lent byte slices that agree in the desk's bits over the splines, whatever else
-- they hold, give it equal outcomes of draw and of reach
pub record DesksApart : Type 0 where
  pub draw : (t : Table) (s : Sight) (bits : List ℕ) → Agree s (with_bits s bits) → (y x0 n : ℕ) (a : Channels) (o q : DrawOutcome)
      → DrawCall t s y x0 n a o → DrawCall t (with_bits s bits) y x0 n a q → o ≡ q
  pub reach : (t : Table) (s : Sight) (bits : List ℕ) → Agree s (with_bits s bits) → (y W : ℕ) (o q : ReachOutcome) → ReachCall t s y W o → ReachCall t (with_bits s bits) y W q → o ≡ q

-- any run of hides by another desk before a drawing or a reach changes nothing of it; nor, before a hide, of its answer and of the desk's bits after it
pub record OtherDeskUnseen : Type 0 where
  pub draw : (t : Table) (s : Sight) (other : ℕ) → (other ≡ s.desk → ⊥) → (bits : List ℕ) → HideCalls other s.bits bits → (y x0 n : ℕ) (a : Channels) (o q : DrawOutcome)
      → DrawCall t s y x0 n a o → DrawCall t (with_bits s bits) y x0 n a q → o ≡ q
  pub reach : (t : Table) (s : Sight) (other : ℕ) → (other ≡ s.desk → ⊥) → (bits : List ℕ) → HideCalls other s.bits bits → (y W : ℕ) (o q : ReachOutcome)
      → ReachCall t s y W o → ReachCall t (with_bits s bits) y W q → o ≡ q
  pub hide : (desk other : ℕ) → (other ≡ desk → ⊥) → (a b : List ℕ) → HideCalls other a b → (spline : ℕ) (hidden : Bool) (o q : HideOutcome)
      → HideCall a desk spline hidden o → HideCall b desk spline hidden q
      → (o.answer ≡ q.answer) × ((k : ℕ) → bit_of desk (get_or o.bits k 0) ≡ bit_of desk (get_or q.bits k 0))

-- a desk's bits over the splines after a hide of its own depend on its own bits alone
abbrev pub OwnBitsAlone : Type 0
OwnBitsAlone =
    (desk splines : ℕ) (a b : List ℕ) → splines ≤ length a → splines ≤ length b → OwnBitsAlike desk splines a b
    → (spline : ℕ) (hidden : Bool) (o q : HideOutcome) → HideCall a desk spline hidden o → HideCall b desk spline hidden q → OwnBitsAlike desk splines o.bits q.bits

-- a hide that is done leaves the desk's bit of the spline as asked; every other bit of every byte stays, and so does the number of bytes; refused, it changes nothing
pub record HideChangesOneBit : Type 0 where
  pub asked : (a : List ℕ) (desk spline : ℕ) (hidden : Bool) (o : HideOutcome) → HideCall a desk spline hidden o → o.answer ≡ HideAnswer.Done
      → bit_of desk (get_or o.bits spline 0) ≡ hidden
  pub others : (a : List ℕ) (desk spline : ℕ) (hidden : Bool) (o : HideOutcome) → HideCall a desk spline hidden o
      → (k bit : ℕ) → ((k ≡ spline) × (bit ≡ desk) → ⊥) → bit_of bit (get_or o.bits k 0) ≡ bit_of bit (get_or a k 0)
  pub as_many : (a : List ℕ) (desk spline : ℕ) (hidden : Bool) (o : HideOutcome) → HideCall a desk spline hidden o → length o.bits ≡ length a
  pub refused : (a : List ℕ) (desk spline : ℕ) (hidden : Bool) (o : HideOutcome) (c : Code) (p : ℕ) → HideCall a desk spline hidden o → o.answer ≡ HideAnswer.Refused c p → o.bits ≡ a

-- a code of hide is given exactly when its table of codes says, at place 0; where the table gives nothing it is done
pub record HideCodes : Type 0 where
  pub exactly : (a : List ℕ) (desk spline : ℕ) (hidden : Bool) (o : HideOutcome) → HideCall a desk spline hidden o
      → (c : Code) (p : ℕ) → o.answer ≡ HideAnswer.Refused c p ↔ HideRefusal a desk spline c p
  pub told : (a : List ℕ) (desk spline : ℕ) (hidden : Bool) (o : HideOutcome) → HideCall a desk spline hidden o
      → (c : Code) (p : ℕ) → o.answer ≡ HideAnswer.Refused c p → o.told ≡ record { number = number_of c; place = 0 }
  pub done : (a : List ℕ) (desk spline : ℕ) (hidden : Bool) (o : HideOutcome) → HideCall a desk spline hidden o
      → (o.answer ≡ HideAnswer.Done) ↔ ((desk < 2) × (spline < length a))

-- any two outcomes of hide that its contract allows are equal
abbrev pub HideOneOutcome : Type 0
HideOneOutcome = (a : List ℕ) (desk spline : ℕ) (hidden : Bool) (o q : HideOutcome) → HideCall a desk spline hidden o → HideCall a desk spline hidden q → o ≡ q

-- what a build left may be lent beside its table: its owners and the description's number of splines, with a byte for each spline at least, for either desk
abbrev pub BuiltIsLent : Type 0
BuiltIsLent =
    (d : Description) (i : Setting) (r : BuildRooms) (o : BuildOutcome) (n e estimate : ℕ) → BuildDone d i r o n e estimate
    → (segments : List Segment) (owners : List ℕ) → MakesOwned d i segments owners → (bits : List ℕ) (desk : ℕ) → length d.counts ≤ length bits → desk < 2
    → KeptSight d i segments owners (sight_of o.owners (length d.counts) bits desk)

-- with no bit of the desk set over the splines all is as it was without desks: a drawing is the fold over the row's entries themselves, and so is a reach; no segment is left out of demand 3
pub record AsWithoutDesks : Type 0 where
  pub draw : (t : Table) (s : Sight) (y x0 n : ℕ) (a : Channels) (o : DrawOutcome) → NothingHidden s → DrawCall t s y x0 n a o
      → o ≡ unhidden (judge_draw t s y x0 n (length a.r0) (length a.r1) (length a.r2)) t y x0 n a
  pub reach : (t : Table) (s : Sight) (y W : ℕ) (o : ReachOutcome) → NothingHidden s → ReachCall t s y W o
      → o ≡ tells (reach_answer (judge_reach_of t s y W) (reach_over t.segments W (row_of t y)))
  pub segments : (d : Description) (i : Setting) (segments : List Segment) (owners : List ℕ) (s : Sight) → KeptSight d i segments owners s → NothingHidden s → not_hidden s owners segments ≡ segments
  pub row : (d : Description) (i : Setting) (segments : List Segment) (owners : List ℕ) (t : Table) (s : Sight) → KeptTable d i segments t → KeptSight d i segments owners s → NothingHidden s
      → (y W : ℕ) (a w : Channels) (sum : ℕ) → RowRun t s y W a w sum → RowPicture segments y a w × (sum ≡ row_pairs segments W y) × (sum ≤ W * length (row_of t y))
  pub image : (d : Description) (i : Setting) (segments : List Segment) (owners : List ℕ) (t : Table) (s : Sight) → KeptTable d i segments t → KeptSight d i segments owners s → NothingHidden s
      → (W : ℕ) (a w : drawing.Image) (sum : ℕ) → ImageRun t s W a w sum → ((y : ℕ) → y < i.height → RowPicture segments y (a y) (w y)) × (sum ≡ image_pairs segments W 0 i.height)

-- ---- (vii) why a segment sits at the corner

-- rows, columns, starts and estimates, told by the kind of each conversion, have the numbers that they had: ranges those of a bound with NaN folded into 0, starts and estimates those of Rust's `as`
pub record NumbersByKind : Type 0 where
  pub rows : RowsByKind
  pub columns : ColumnsByKind
  pub starts : StartByKind
  pub estimates : EstimateByKind

-- the fourth count of a build that is done is the number of the segments left whose third float, the distance, is NaN
abbrev pub FaintCounted : Type 0
FaintCounted =
    (d : Description) (i : Setting) (r : building.BuildRooms) (o : building.BuildOutcome) (s e estimate : ℕ) (b : BuildDone d i r o s e estimate) → b.faint ≡ faint_in o.segments s

-- the four ends of such a segment are no numbers
pub record FaintEnds (s : Segment) : Type 0 where
  pub first_row : row_end (s.center_y ⊖ s.maximum_distance) ≡ Kind.NotNumber
  pub last_row : row_end (s.center_y ⊕ s.maximum_distance) ≡ Kind.NotNumber
  pub first_column : column_end (s.center_x ⊖ s.maximum_distance) ≡ Kind.NotNumber
  pub last_column : column_end (s.center_x ⊕ s.maximum_distance) ≡ Kind.NotNumber

abbrev pub FaintByKind : Type 0
FaintByKind = (s : Segment) → is_nan s.maximum_distance ≡ true → FaintEnds s

-- ---- (ix) the fineness profile

-- a check tells yes exactly when the lengths agree and the description meets the six rules of the edition
abbrev pub MeetsExactly : Type 0
MeetsExactly = (d : Description) (a : ℤ) (e : ℕ) (o : ProfileOutcome) → ProfileCall d a e o → o.answer ≡ ProfileAnswer.Meets ↔ Meeting d a e

-- it names a rule and a spline exactly when that rule is the first that is broken: rules 1 and 3 first, then the splines in order, and of a spline 2, 4, 5, 6
abbrev pub FirstBrokenRule : Type 0
FirstBrokenRule =
    (d : Description) (a : ℤ) (e : ℕ) (o : ProfileOutcome) → ProfileCall d a e o → (rule : Rule) (k : ℕ) → o.answer ≡ ProfileAnswer.Broken rule k ↔ Breaking d a e rule k

-- the other codes exactly when; and what is told: PROFILE is 21 at the spline, with the rule's number as first count, any other refusal has a count of 0, and so has a success
pub record ProfileCodes : Type 0 where
  pub exactly : (d : Description) (a : ℤ) (e : ℕ) (o : ProfileOutcome) → ProfileCall d a e o → (c : Code) (p : ℕ) → o.answer ≡ ProfileAnswer.Refused c p ↔ ProfileRefusal d a e c p
  pub broken : (d : Description) (a : ℤ) (e : ℕ) (o : ProfileOutcome) → ProfileCall d a e o → (rule : Rule) (k : ℕ) → Breaking d a e rule k → o.told ≡ record { number = 21; place = k; first = rule_number rule }
  pub refused : (d : Description) (a : ℤ) (e : ℕ) (o : ProfileOutcome) → ProfileCall d a e o → (c : Code) (p : ℕ) → ProfileRefusal d a e c p → o.told ≡ record { number = number_of c; place = p; first = 0 }
  pub met : (d : Description) (a : ℤ) (e : ℕ) (o : ProfileOutcome) → ProfileCall d a e o → Meeting d a e → o.told ≡ record { number = 0; place = 0; first = 0 }

-- a build by profile that is done is of a description that meets the profile, and its outcome is that of a build, every cell; so it is wherever the profile is met and the image is not too large
-- one that is refused otherwise than by PROFILE or EDITION is refused as a build is
pub record ProfileBuildIsBuild : Type 0 where
  pub accepted : (d : Description) (i : Setting) (e : ℕ) (r : BuildRooms) (o : ProfileBuildOutcome) → ProfileBuildCall d i e r o → (s n t f : ℕ) → o.answer ≡ ProfileBuildAnswer.Done s n t f
      → Plain d i e r × ((b : BuildOutcome) → BuildCall d i r b → o ≡ as_built b)
  pub plain : (d : Description) (i : Setting) (e : ℕ) (r : BuildRooms) (o : ProfileBuildOutcome) → ProfileBuildCall d i e r o → Plain d i e r
      → (b : BuildOutcome) → BuildCall d i r b → o ≡ as_built b
  pub otherwise : (d : Description) (i : Setting) (e : ℕ) (r : BuildRooms) (o : ProfileBuildOutcome) → ProfileBuildCall d i e r o → (c : Code) (p : ℕ) → o.answer ≡ ProfileBuildAnswer.Refused c p
      → (c ≡ Code.Edition → ⊥) → (b : BuildOutcome) → BuildCall d i r b → o ≡ as_built b

-- each answer exactly when; after a refusal, PROFILE too, every lent cell is zero; PROFILE is 21 at the spline, with the rule's number as first count
pub record ProfileBuildCodes : Type 0 where
  pub done : (d : Description) (i : Setting) (e : ℕ) (r : BuildRooms) (o : ProfileBuildOutcome) → ProfileBuildCall d i e r o
      → (s n t f : ℕ) → o.answer ≡ ProfileBuildAnswer.Done s n t f ↔ DoneByBuild d i e r s n t f
  pub broken : (d : Description) (i : Setting) (e : ℕ) (r : BuildRooms) (o : ProfileBuildOutcome) → ProfileBuildCall d i e r o
      → (rule : Rule) (k : ℕ) → o.answer ≡ ProfileBuildAnswer.Broken rule k ↔ BreaksRule d i e r rule k
  pub refused : (d : Description) (i : Setting) (e : ℕ) (r : BuildRooms) (o : ProfileBuildOutcome) → ProfileBuildCall d i e r o
      → (c : Code) (p : ℕ) → o.answer ≡ ProfileBuildAnswer.Refused c p ↔ ProfileBuildRefusal d i e r c p
  pub broken_zero : (d : Description) (i : Setting) (e : ℕ) (r : BuildRooms) (o : ProfileBuildOutcome) → ProfileBuildCall d i e r o
      → (rule : Rule) (k : ℕ) → BreaksRule d i e r rule k → (o ≡ stopped_with r (ProfileBuildAnswer.Broken rule k))
      × (o.told ≡ record { number = 21; place = k; first = rule_number rule; second = 0; third = 0; fourth = 0 })
  pub refused_zero : (d : Description) (i : Setting) (e : ℕ) (r : BuildRooms) (o : ProfileBuildOutcome) → ProfileBuildCall d i e r o
      → (c : Code) (p : ℕ) → ProfileBuildRefusal d i e r c p → (o ≡ stopped_with r (ProfileBuildAnswer.Refused c p))
      × (o.told ≡ record { number = number_of c; place = p; first = 0; second = 0; third = 0; fourth = 0 })

-- any two outcomes that a contract allows are equal
pub record ProfileOneOutcome : Type 0 where
  pub check : (d : Description) (a : ℤ) (e : ℕ) (o q : ProfileOutcome) → ProfileCall d a e o → ProfileCall d a e q → o ≡ q
  pub build : (d : Description) (i : Setting) (e : ℕ) (r : BuildRooms) (o q : ProfileBuildOutcome) → ProfileBuildCall d i e r o → ProfileBuildCall d i e r q → o ≡ q

-- ---- (x) edition 2, with edition 1 kept: the profile

-- what edition 1 accepts edition 2 accepts too: the check tells yes, and a build by profile leaves the same outcome
pub record Edition1In2 : Type 0 where
  pub check : (d : Description) (a : ℤ) (o q : ProfileOutcome) → ProfileCall d a 1 o → ProfileCall d a 2 q → o.answer ≡ ProfileAnswer.Meets → q.answer ≡ ProfileAnswer.Meets
  pub build : (d : Description) (i : Setting) (r : BuildRooms) (o q : ProfileBuildOutcome) → ProfileBuildCall d i 1 r o → ProfileBuildCall d i 2 r q
      → (s n t f : ℕ) → o.answer ≡ ProfileBuildAnswer.Done s n t f → q ≡ o

-- EDITION is given exactly for an edition other than 1 or 2, at place 0, after SHAPE (and SIZE, where there is an image) and before any rule
pub record EditionExactly : Type 0 where
  pub check : (d : Description) (a : ℤ) (e : ℕ) (o : ProfileOutcome) → ProfileCall d a e o
      → (p : ℕ) → o.answer ≡ ProfileAnswer.Refused Code.Edition p ↔ ((p ≡ 0) × Shaped d × NoEdition e)
  pub build : (d : Description) (i : Setting) (e : ℕ) (r : BuildRooms) (o : ProfileBuildOutcome) → ProfileBuildCall d i e r o
      → (p : ℕ) → o.answer ≡ ProfileBuildAnswer.Refused Code.Edition p ↔ UnknownEdition d i e r p

-- ---- (x) edition 2: trace files

-- a reader that knows only version 1 answers HEADER at 0 to every file of version 2, which is one whose first number is 2 and that has eight numbers at least; and so to all that is written at version 2
pub record OlderReaderSaysHeader : Type 0 where
  pub any : (bytes : List ℕ) (rooms : ListRooms) (o : ReadOutcome) → 32 ≤ length bytes → number bytes 0 ≡ 2 → TraceReadCall bytes rooms o → ReadRefused rooms Code.Header 0 o
  pub written : (ns : List ℕ) (ss : List Float) (ds cs : List ℤ) (a : ℤ) (e room : ℕ) (o : WriteOutcome) (n : ℕ) → FileWriteCall ns ss ds cs a 2 e room o → o.answer ≡ Done n
      → (rooms : ListRooms) (q : ReadOutcome) → TraceReadCall (take n o.list) rooms q → ReadRefused rooms Code.Header 0 q

-- a description with its edition has one file per version: reading what was written gives it back with its edition, every number, with zeros behind, in rooms exact or larger;
-- what is read is written, at its version and edition, as the same bytes, with zeros behind; and two files of one version with one description and edition are equal
pub record OneFilePerVersion : Type 0 where
  pub read_back : (ns : List ℕ) (ss : List Float) (ds cs : List ℤ) (a : ℤ) (v e room : ℕ) (o : WriteOutcome) (n : ℕ) → FileWriteCall ns ss ds cs a v e room o → o.answer ≡ Done n
      → (rooms : ListRooms) → Enough rooms ns ss ds cs → (q : FileOutcome) → FileReadCall (take n o.list) rooms q
      → q ≡ record {
        read = reading.leaves (ReadAnswer.done (length ns) (points_of ns) a) (padded rooms.counts 0 ns) (padded rooms.starts zero_f32 ss)
            (padded rooms.deltas (pos 0) ds) (padded rooms.coefficients (pos 0) cs);
        edition = e;
      }
  pub written_back : (bytes : List ℕ) (rooms : ListRooms) (q : FileOutcome) (s p : ℕ) (a : ℤ) → FileReadCall bytes rooms q → q.read.answer ≡ ReadAnswer.done s p a
      → (room : ℕ) → length bytes ≤ room → (v : ℕ) → number bytes 0 ≡ v → (o : WriteOutcome)
      → FileWriteCall (take s q.read.counts) (take (2 * s) q.read.starts) (take (2 * p) q.read.deltas) (take (128 * s) q.read.coefficients) a v q.edition room o
      → o ≡ writing.leaves (Done (length bytes)) (bytes ++ replicate (room - length bytes) 0)
  pub one : (bytes bytes' : List ℕ) (rooms : ListRooms) (q : FileOutcome) (s p : ℕ) (a : ℤ) → FileReadCall bytes rooms q → FileReadCall bytes' rooms q
      → q.read.answer ≡ ReadAnswer.done s p a → number bytes 0 ≡ number bytes' 0 → bytes ≡ bytes'

-- version 1 is as before, every cell: a file of version 1 is read as `trace_read` reads it, with edition 1, and version 1 with edition 1 is written as `trace_write` writes it
pub record VersionOneAsBefore : Type 0 where
  pub read : (bytes : List ℕ) (rooms : ListRooms) (o : FileOutcome) (q : ReadOutcome) → number bytes 0 ≡ 1 → FileReadCall bytes rooms o → TraceReadCall bytes rooms q → o ≡ with_edition 1 q
  pub write : (ns : List ℕ) (ss : List Float) (ds cs : List ℤ) (a : ℤ) (room : ℕ) (o q : WriteOutcome) → FileWriteCall ns ss ds cs a 1 1 room o → TraceWriteCall ns ss ds cs a room q → o ≡ q

-- reading refuses with a code at a place exactly when the table of reading gives it; the number, the place and the counts of 0 are then told, and every lent cell is zero
-- where the table gives nothing, reading is done, and it tells the edition: 1 for version 1, else the ninth number
pub record FileReadCodes : Type 0 where
  pub exactly : (bytes : List ℕ) (rooms : ListRooms) (o : FileOutcome) → FileReadCall bytes rooms o
      → (c : Code) (p : ℕ) → o.read.answer ≡ refused c p ↔ FileReadRefusal rooms bytes c p
  pub told : (bytes : List ℕ) (rooms : ListRooms) (o : FileOutcome) → FileReadCall bytes rooms o
      → (c : Code) (p : ℕ) → FileReadRefusal rooms bytes c p → ReadRefused rooms c p o.read × (o.edition ≡ 0)
  pub else_done : (bytes : List ℕ) (rooms : ListRooms) (o : FileOutcome) → FileReadCall bytes rooms o
      → ((c : Code) (p : ℕ) → FileReadRefusal rooms bytes c p → ⊥) → ReadDone o.read × (o.edition ≡ edition_in (numbers_in bytes))

-- writing likewise, by the table of writing; and it is done exactly when nothing is given, with so many bytes
pub record FileWriteCodes : Type 0 where
  pub exactly : (ns : List ℕ) (ss : List Float) (ds cs : List ℤ) (a : ℤ) (v e room : ℕ) (o : WriteOutcome) → FileWriteCall ns ss ds cs a v e room o
      → (c : Code) (p : ℕ) → o.answer ≡ Refused c p ↔ FileWriteRefusal ns ss ds cs v e room c p
  pub told : (ns : List ℕ) (ss : List Float) (ds cs : List ℤ) (a : ℤ) (v e room : ℕ) (o : WriteOutcome) → FileWriteCall ns ss ds cs a v e room o
      → (c : Code) (p : ℕ) → FileWriteRefusal ns ss ds cs v e room c p → WriteRefused room c p o
  pub done : (ns : List ℕ) (ss : List Float) (ds cs : List ℤ) (a : ℤ) (v e room : ℕ) (o : WriteOutcome) → FileWriteCall ns ss ds cs a v e room o
      → (n : ℕ) → o.answer ≡ Done n ↔ FileAccepted ns ss ds cs v e room n

-- any two outcomes that a contract allows are equal
pub record FileOneOutcome : Type 0 where
  pub read : (bytes : List ℕ) (rooms : ListRooms) (o q : FileOutcome) → FileReadCall bytes rooms o → FileReadCall bytes rooms q → o ≡ q
  pub write : (ns : List ℕ) (ss : List Float) (ds cs : List ℤ) (a : ℤ) (v e room : ℕ) (o q : WriteOutcome)
      → FileWriteCall ns ss ds cs a v e room o → FileWriteCall ns ss ds cs a v e room q → o ≡ q

-- ---- (xi) a summary of every 64 rows

-- making refuses with a code at a place exactly when its table of codes gives it; the number, the place 0 and no bands are then told, and every lent cell is zero
-- it is done exactly when the table gives nothing, with the number of the image's bands
pub record BandsCodes : Type 0 where
  pub exactly : (t : Table) (s : Sight) (W room : ℕ) (o : BandsOutcome) → BandsCall t s W room o
      → (c : Code) (p : ℕ) → o.answer ≡ BandsAnswer.Refused c p ↔ BandsRefusal t s W room c p
  pub told : (t : Table) (s : Sight) (W room : ℕ) (o : BandsOutcome) → BandsCall t s W room o
      → (c : Code) (p : ℕ) → BandsRefusal t s W room c p → (o.told ≡ record { number = number_of c; place = 0; bands = 0 }) × (o.cells ≡ replicate room 0)
  pub done : (t : Table) (s : Sight) (W room : ℕ) (o : BandsOutcome) → BandsCall t s W room o
      → (n : ℕ) → o.answer ≡ BandsAnswer.Done n ↔ BandsDone t s W room n
  pub done_told : (t : Table) (s : Sight) (W room : ℕ) (o : BandsOutcome) → BandsCall t s W room o
      → (n : ℕ) → BandsDone t s W room n → (o.told ≡ record { number = 0; place = 0; bands = bands_in t.height }) × (length o.cells ≡ room)
  pub else_done : (t : Table) (s : Sight) (W room : ℕ) (o : BandsOutcome) → BandsCall t s W room o
      → ((c : Code) (p : ℕ) → BandsRefusal t s W room c p → ⊥) → o.answer ≡ BandsAnswer.Done (bands_in t.height)

-- refreshing band b likewise; a refused refresh changes nothing
pub record BandCodes : Type 0 where
  pub exactly : (t : Table) (s : Sight) (W b : ℕ) (cells : List ℕ) (o : BandsOutcome) → BandCall t s W b cells o
      → (c : Code) (p : ℕ) → o.answer ≡ BandsAnswer.Refused c p ↔ BandRefusal t s W (length cells) b c p
  pub told : (t : Table) (s : Sight) (W b : ℕ) (cells : List ℕ) (o : BandsOutcome) → BandCall t s W b cells o
      → (c : Code) (p : ℕ) → BandRefusal t s W (length cells) b c p → (o.told ≡ record { number = number_of c; place = 0; bands = 0 }) × (o.cells ≡ cells)
  pub done : (t : Table) (s : Sight) (W b : ℕ) (cells : List ℕ) (o : BandsOutcome) → BandCall t s W b cells o
      → (n : ℕ) → o.answer ≡ BandsAnswer.Done n ↔ BandDone t s W (length cells) b n
  pub done_told : (t : Table) (s : Sight) (W b : ℕ) (cells : List ℕ) (o : BandsOutcome) → BandCall t s W b cells o
      → (n : ℕ) → BandDone t s W (length cells) b n → o.told ≡ record { number = 0; place = 0; bands = bands_in t.height }
  pub else_done : (t : Table) (s : Sight) (W b : ℕ) (cells : List ℕ) (o : BandsOutcome) → BandCall t s W b cells o
      → ((c : Code) (p : ℕ) → BandRefusal t s W (length cells) b c p → ⊥) → o.answer ≡ BandsAnswer.Done (bands_in t.height)

-- any two outcomes that a contract allows are equal
pub record BandsOneOutcome : Type 0 where
  pub make : (t : Table) (s : Sight) (W room : ℕ) (o q : BandsOutcome) → BandsCall t s W room o → BandsCall t s W room q → o ≡ q
  pub refresh : (t : Table) (s : Sight) (W b : ℕ) (cells : List ℕ) (o q : BandsOutcome) → BandCall t s W b cells o → BandCall t s W b cells q → o ≡ q

-- each row of an image is in one band and in no other, and each band but the last has 64 rows
abbrev pub RowsInBands : Type 0
RowsInBands = (H : ℕ) → BandRows H

-- the first three cells of a band that a done making or a done refresh leaves: how many entries its rows show the desk, and the least and the greatest of their segment numbers
pub record BandSegments : Type 0 where
  pub made : (t : Table) (s : Sight) (W room : ℕ) (o : BandsOutcome) (n : ℕ) → BandsCall t s W room o → o.answer ≡ BandsAnswer.Done n
      → (b : ℕ) → b < n → SegmentNumbers t s b o.cells
  pub refreshed : (t : Table) (s : Sight) (W b : ℕ) (cells : List ℕ) (o : BandsOutcome) (n : ℕ) → BandCall t s W b cells o → o.answer ≡ BandsAnswer.Done n
      → SegmentNumbers t s b o.cells

-- the reach of row y must be a, e: any outcome that the contract of reach allows is done with them
abbrev pub MustReach : Table → Sight → ℕ → ℕ → ℕ → ℕ → Type 0
MustReach t s W y a e = (o : ReachOutcome) → ReachCall t s y W o → o.answer ≡ ReachAnswer.Done a e

-- the last two are the hull of what reach answers for its rows: the first column and one past the last
abbrev pub ReachHull : Table → Sight → ℕ → ℕ → List ℕ → Type 0
ReachHull t s W b cells = HullOf (MustReach t s W) (λ y a e. Reaches t s y W a e) t.height b (get_or cells (5 * b + 3) 0) (get_or cells (5 * b + 4) 0)

pub record BandIsHull : Type 0 where
  pub made : (t : Table) (s : Sight) (W room : ℕ) (o : BandsOutcome) (n : ℕ) → BandsCall t s W room o → o.answer ≡ BandsAnswer.Done n
      → (b : ℕ) → b < n → ReachHull t s W b o.cells
  pub refreshed : (t : Table) (s : Sight) (W b : ℕ) (cells : List ℕ) (o : BandsOutcome) (n : ℕ) → BandCall t s W b cells o → o.answer ≡ BandsAnswer.Done n
      → ReachHull t s W b o.cells

-- a refreshed band equals one made afresh, in any room
abbrev pub RefreshedIsFresh : Type 0
RefreshedIsFresh =
    (t : Table) (s : Sight) (W b : ℕ) (cells : List ℕ) (o : BandsOutcome) (n : ℕ) → BandCall t s W b cells o → o.answer ≡ BandsAnswer.Done n
    → (room : ℕ) (q : BandsOutcome) (m : ℕ) → BandsCall t s W room q → q.answer ≡ BandsAnswer.Done m
    → (j : ℕ) → j < 5 → get_or o.cells (5 * b + j) 0 ≡ get_or q.cells (5 * b + j) 0

-- the other bands keep their numbers: every cell but the band's five stays, and so does their number
abbrev pub OtherBandsStay : Type 0
OtherBandsStay =
    (t : Table) (s : Sight) (W b : ℕ) (cells : List ℕ) (o : BandsOutcome) (n : ℕ) → BandCall t s W b cells o → o.answer ≡ BandsAnswer.Done n
    → ((k : ℕ) → OtherCell b k → get_or o.cells k 0 ≡ get_or cells k 0) × (length o.cells ≡ length cells)

-- a band of whose rows the desk is shown no entry holds zeros, and so do the cells behind the last band
pub record NoEntryZeros : Type 0 where
  pub made : (t : Table) (s : Sight) (W room : ℕ) (o : BandsOutcome) (n : ℕ) → BandsCall t s W room o → o.answer ≡ BandsAnswer.Done n
      → (b : ℕ) → b < n → ((y : ℕ) → InBand t.height b y → shown_of t s y ≡ []) → (j : ℕ) → j < 5 → get_or o.cells (5 * b + j) 0 ≡ 0
  pub refreshed : (t : Table) (s : Sight) (W b : ℕ) (cells : List ℕ) (o : BandsOutcome) (n : ℕ) → BandCall t s W b cells o → o.answer ≡ BandsAnswer.Done n
      → ((y : ℕ) → InBand t.height b y → shown_of t s y ≡ []) → (j : ℕ) → j < 5 → get_or o.cells (5 * b + j) 0 ≡ 0
  pub behind : (t : Table) (s : Sight) (W room : ℕ) (o : BandsOutcome) (n : ℕ) → BandsCall t s W room o → o.answer ≡ BandsAnswer.Done n
      → (k : ℕ) → 5 * n ≤ k → get_or o.cells k 0 ≡ 0

-- where making is done, refreshing each band in as many cells is done, and so it is with the bytes that a hide by the desk left: the refreshes that the next statement speaks of must be done
pub record RefreshesDone : Type 0 where
  pub fresh : (t : Table) (s : Sight) (W : ℕ) (cells : List ℕ) (o : BandsOutcome) (n : ℕ) → BandsCall t s W (length cells) o → o.answer ≡ BandsAnswer.Done n
      → (b : ℕ) → b < n → (q : BandsOutcome) → BandCall t s W b cells q → q.answer ≡ BandsAnswer.Done n
  pub after_hide : (t : Table) (s : Sight) (W : ℕ) (cells : List ℕ) (o : BandsOutcome) (n : ℕ) → BandsCall t s W (length cells) o → o.answer ≡ BandsAnswer.Done n
      → (k : ℕ) (hidden : Bool) (h : HideOutcome) → HideCall s.bits s.desk k hidden h
      → (b : ℕ) → b < n → (q : BandsOutcome) → BandCall t (with_bits s h.bits) W b cells q → q.answer ≡ BandsAnswer.Done n

-- a summary made by a desk, then a hide of its own of spline k, to hide or to show it, then refreshes with the bytes that it left, of every band that lists a segment of the spline and of others
-- as one likes, in any order, each done: answer and cells are those of a summary made afresh with these bytes, in as many cells
abbrev pub SummaryAfterHide : Type 0
SummaryAfterHide =
    (t : Table) (s : Sight) (W room : ℕ) (o : BandsOutcome) (n : ℕ) → BandsCall t s W room o → o.answer ≡ BandsAnswer.Done n
    → (k : ℕ) (hidden : Bool) (h : HideOutcome) → HideCall s.bits s.desk k hidden h
    → (bs z : List ℕ) → BandCalls t (with_bits s h.bits) W bs o.cells z → ((b : ℕ) → ListsSpline t s b k → Found bs b)
    → (q : BandsOutcome) → BandsCall t (with_bits s h.bits) W room q → (q.answer ≡ BandsAnswer.Done n) × (q.cells ≡ z)

-- a desk's summary and its refreshes depend on the table and its own bits: two lent byte slices that agree in the desk's bits over the splines give it equal outcomes, and so any run of hides by
-- another desk changes nothing of them
pub record BandsOfDesksApart : Type 0 where
  pub make : (t : Table) (s : Sight) (bits : List ℕ) → Agree s (with_bits s bits) → (W room : ℕ) (o q : BandsOutcome)
      → BandsCall t s W room o → BandsCall t (with_bits s bits) W room q → o ≡ q
  pub refresh : (t : Table) (s : Sight) (bits : List ℕ) → Agree s (with_bits s bits) → (W b : ℕ) (cells : List ℕ) (o q : BandsOutcome)
      → BandCall t s W b cells o → BandCall t (with_bits s bits) W b cells q → o ≡ q
  pub make_unseen : (t : Table) (s : Sight) (other : ℕ) → (other ≡ s.desk → ⊥) → (bits : List ℕ) → HideCalls other s.bits bits → (W room : ℕ) (o q : BandsOutcome)
      → BandsCall t s W room o → BandsCall t (with_bits s bits) W room q → o ≡ q
  pub refresh_unseen : (t : Table) (s : Sight) (other : ℕ) → (other ≡ s.desk → ⊥) → (bits : List ℕ) → HideCalls other s.bits bits → (W b : ℕ) (cells : List ℕ) (o q : BandsOutcome)
      → BandCall t s W b cells o → BandCall t (with_bits s bits) W b cells q → o ≡ q

-- ---- (xii) row tables from the other maker

-- the words of the check, of a table as drawing takes it: accepted with m entries, of the right size, wrong first at row w, and refused with a code at a place
abbrev pub AcceptedTable : Table → ℕ → Type 0
AcceptedTable t m = CheckAccepted t.segments t.segment_count t.height t.row_starts t.entries t.entry_count m

abbrev pub FitsTable : Table → Type 0
FitsTable t = Fits t.segments t.segment_count t.height t.row_starts t.entries t.entry_count

abbrev pub FirstWrongIn : Table → ℕ → Type 0
FirstWrongIn t w = FirstWrong t.segments t.segment_count t.height t.row_starts t.entries t.entry_count w

abbrev pub TableRefusal : Table → Code → ℕ → Type 0
TableRefusal t c p = CheckRefusal t.segments t.segment_count t.height t.row_starts t.entries t.entry_count c p

-- a table is accepted exactly if each row of the image lists precisely the segments whose row range has that row, once each, ascending, with starts and entry count fitting
abbrev pub TableAcceptedExactly : Type 0
TableAcceptedExactly = (t : Table) (o : CheckAnswer) → CheckCall t o → (m : ℕ) → o ≡ CheckAnswer.Done m ↔ AcceptedTable t m

-- where the height, the row starts and the counts fit, TABLE is answered with a row exactly if that row is the first wrong one, and there is no other code
pub record FirstWrongRow : Type 0 where
  pub exactly : (t : Table) (o : CheckAnswer) → CheckCall t o → FitsTable t → (w : ℕ) → o ≡ CheckAnswer.Refused Code.Table w ↔ FirstWrongIn t w
  pub only : (t : Table) (o : CheckAnswer) → CheckCall t o → FitsTable t → (c : Code) (p : ℕ) → o ≡ CheckAnswer.Refused c p → c ≡ Code.Table

-- the check refuses with a code at a place exactly when the table of refusals gives it, and tells its number, the place and no entries; else it is done and tells the entry count
pub record CheckCodes : Type 0 where
  pub exactly : (t : Table) (o : CheckAnswer) → CheckCall t o → (c : Code) (p : ℕ) → o ≡ CheckAnswer.Refused c p ↔ TableRefusal t c p
  pub told : (t : Table) (o : CheckAnswer) → CheckCall t o → (c : Code) (p : ℕ) → TableRefusal t c p → told_of o ≡ record { number = number_of c; place = p; entries = 0 }
  pub done : (t : Table) (o : CheckAnswer) → CheckCall t o → (m : ℕ) → AcceptedTable t m → told_of o ≡ record { number = 0; place = 0; entries = t.entry_count }
  pub else_done : (t : Table) (o : CheckAnswer) → CheckCall t o → ((c : Code) (p : ℕ) → TableRefusal t c p → ⊥) → o ≡ CheckAnswer.Done t.entry_count

-- any two answers that the contract allows are equal
abbrev pub CheckOneOutcome : Type 0
CheckOneOutcome = (t : Table) (o q : CheckAnswer) → CheckCall t o → CheckCall t q → o ≡ q

-- every table that a build leaves is accepted with its entries, cut to its counts or wherever it is kept with one more row start than rows
pub record BuiltIsAccepted : Type 0 where
  pub cut : (d : Description) (i : Setting) (r : BuildRooms) (o : BuildOutcome) (s e estimate : ℕ) → BuildDone d i r o s e estimate
      → (q : CheckAnswer) → CheckCall (cut_to_counts (built i o s e)) q → q ≡ CheckAnswer.Done e
  pub kept : (d : Description) (i : Setting) (segments : List Segment) (t : Table) → KeptTable d i segments t → length t.row_starts ≡ suc t.height
      → (q : CheckAnswer) → CheckCall t q → q ≡ CheckAnswer.Done t.entry_count

-- the segments in use are the same, and so is the height
pub record SameSegments (t u : Table) : Type 0 where
  pub count : t.segment_count ≡ u.segment_count
  pub floats : take (8 * t.segment_count) t.segments ≡ take (8 * t.segment_count) u.segments
  pub height : t.height ≡ u.height

-- beside a table that a build left, kept anywhere, a table of the same segments that the check accepts gives every desk the same outcomes of draw and reach, in any row
pub record AcceptedDrawsTheSame : Type 0 where
  pub draw : (d : Description) (i : Setting) (segments : List Segment) (t u : Table) → KeptTable d i segments t → SameSegments t u → (m : ℕ) → CheckCall u (CheckAnswer.Done m)
      → (s : Sight) (y x0 n : ℕ) (a : Channels) (o q : DrawOutcome) → DrawCall t s y x0 n a o → DrawCall u s y x0 n a q → o ≡ q
  pub reach : (d : Description) (i : Setting) (segments : List Segment) (t u : Table) → KeptTable d i segments t → SameSegments t u → (m : ℕ) → CheckCall u (CheckAnswer.Done m)
      → (s : Sight) (y W : ℕ) (o q : ReachOutcome) → ReachCall t s y W o → ReachCall u s y W q → o ≡ q

-- and the same summaries and refreshes
pub record BandsOfAccepted : Type 0 where
  pub make : (d : Description) (i : Setting) (segments : List Segment) (t u : Table) → KeptTable d i segments t → SameSegments t u → (m : ℕ) → CheckCall u (CheckAnswer.Done m)
      → (s : Sight) (W room : ℕ) (o q : BandsOutcome) → BandsCall t s W room o → BandsCall u s W room q → o ≡ q
  pub refresh : (d : Description) (i : Setting) (segments : List Segment) (t u : Table) → KeptTable d i segments t → SameSegments t u → (m : ℕ) → CheckCall u (CheckAnswer.Done m)
      → (s : Sight) (W b : ℕ) (cells : List ℕ) (o q : BandsOutcome) → BandCall t s W b cells o → BandCall u s W b cells q → o ≡ q

-- ---- (xiii) how near a listed row is

-- Centres c and distances d are whole numbers over one 2 ^ k, and `apart k c y` is how far row or column y is from c, over it: nothing is rounded.
-- `Edge` has the premises: both finite, d at least 0, |c| + d at most 2 ^ 22.

-- of every segment, rows and columns: what is no farther than d - 1 is among them, and none of them is farther than d + 1; more than was asked, what is nearer than d + 3/8 is, and none is farther than d + 5/8;
-- and every finite f32 is a whole number over 2 ^ 149
pub record SegmentsNear : Type 0 where
  pub rows : RowsNear
  pub columns : ColumnsNear
  pub rows_tight : RowsBy Tight
  pub columns_tight : ColumnsBy Tight
  pub finite : EveryFinite

-- as a certificate quotes it, of segment j of a kept table: every image row no farther than d - 1 from its centre lists it, and no row that lists it is farther than d + 1
pub record ListedNear (t : Table) (height j k : ℕ) (c : ℤ) (d : ℕ) : Type 0 where
  pub inside : (y : ℕ) → y < height → apart k c y + 2 ^ k ≤ d → Found (row_of t y) j
  pub outside : (y : ℕ) → y < height → Found (row_of t y) j → apart k c y ≤ d + 2 ^ k

abbrev pub TablesNear : Type 0
TablesNear =
    (d : Description) (i : Setting) (segments : List Segment) (t : Table) → KeptTable d i segments t
    → (j : ℕ) → j < t.segment_count → (k : ℕ) (c : ℤ) (far : ℕ) → Edge (segment_at t.segments j).center_y (segment_at t.segments j).maximum_distance k c far
    → ListedNear t i.height j k c far

-- how far a is from d, where 1 is `one`: no farther than d - 1, and farther than d + 1
abbrev pub InsideByOne : ℕ → ℕ → ℕ → Type 0
InsideByOne one d a = a + one ≤ d

abbrev pub BeyondByOne : ℕ → ℕ → ℕ → Type 0
BeyondByOne one d a = d + one < a

-- row y is so far from a segment's centre, under the premises
pub record RowIs (So : ℕ → ℕ → ℕ → Type 0) (s : Segment) (y : ℕ) : Type 0 where
  pub k : ℕ
  pub c : ℤ
  pub d : ℕ
  pub edge : Edge s.center_y s.maximum_distance k c d
  pub is : So (2 ^ k) d (apart k c y)

-- column x is
pub record ColumnIs (So : ℕ → ℕ → ℕ → Type 0) (s : Segment) (x : ℕ) : Type 0 where
  pub k : ℕ
  pub c : ℤ
  pub d : ℕ
  pub edge : Edge s.center_x s.maximum_distance k c d
  pub clear : pos (d + 2 ^ k) ≤ℤ c
  pub is : So (2 ^ k) d (apart k c x)

-- a desk's drawing of n pixels of row y from column x0 on updates cell x by segment j
pub record UpdatesBy (t : Table) (s : Sight) (y x0 n x j : ℕ) : Type 0 where
  pub updates : Updates t s y x0 n x
  pub by : get_or (shown_of t s y) updates.entry 0 ≡ j

-- a pixel in row y is farther than d + 1 from segment j of a table, by its row or by its column x
abbrev pub Clear : Table → ℕ → ℕ → ℕ → Type 0
Clear t y x j = RowIs BeyondByOne (segment_at t.segments j) y ⊎ ColumnIs BeyondByOne (segment_at t.segments j) x

-- what a drawing of a row of a kept table updates: a segment that is not hidden for the desk updates the pixels of the part that are no farther than d - 1 from its centre by row and by column,
-- and none that is farther than d + 1 by either; so a pixel that is so far from every segment that is not hidden comes back as it was
pub record DrawingsNear : Type 0 where
  pub inside : (d : Description) (i : Setting) (segments : List Segment) (owners : List ℕ) (t : Table) (s : Sight) → KeptTable d i segments t → KeptSight d i segments owners s
      → (y x0 n x j : ℕ) → y < i.height → x < n → j < t.segment_count → hidden_in s j ≡ false
      → RowIs InsideByOne (segment_at t.segments j) y → ColumnIs InsideByOne (segment_at t.segments j) (x0 + x) → UpdatesBy t s y x0 n x j
  pub outside : (d : Description) (i : Setting) (segments : List Segment) (owners : List ℕ) (t : Table) (s : Sight) → KeptTable d i segments t → KeptSight d i segments owners s
      → (y x0 n x j : ℕ) → y < i.height → Clear t y (x0 + x) j → UpdatesBy t s y x0 n x j → ⊥
  pub kept : (d : Description) (i : Setting) (segments : List Segment) (owners : List ℕ) (t : Table) (s : Sight) → KeptTable d i segments t → KeptSight d i segments owners s
      → (y x0 n : ℕ) (a : Channels) (o : DrawOutcome) → y < i.height → DrawCall t s y x0 n a o
      → (x : ℕ) → ((j : ℕ) → j < t.segment_count → hidden_in s j ≡ false → Clear t y (x0 + x) j) → SameCell x a o.channels
