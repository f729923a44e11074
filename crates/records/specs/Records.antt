-- Segments with their owners as records in a slice: what a flat slice of eight floats a segment and a slice of owners say of the record at an index, a list of such records, and one record drawn. Definitions only.
use Rattle.std.specs.Prelude.{Bool, cond, List, [], ◌∷◌, ℕ, zero, suc, ◌^◌, ltb, length, get_or, Float}
use Rattle.codes.specs.declared.Code.{Code}
use Rattle.flat_records.specs.declared.SegmentRecord.{SegmentRecord}
pub use Rattle.flat_records.specs.Records.{joined_of}
unfoldable pub use Rattle.flat_records.specs.Records.{zero_record, record_of, is_known}
pub use Rattle.alone.specs.Alone.{without_owner, drawn_channel_alone, draw_alone}
use Rattle.segments.specs.Segment.{segment_at}
use Rattle.checks.specs.Verdict.{Verdict, Fine, Fault}
use Rattle.draw.specs.DrawAnswer.{Done, Refused}
use Rattle.desks.specs.Desks.{Sight, sight_of, owner_in, hidden_in, desk_good, bytes_good}
use Rattle.draw.specs.Draw.{span_good, or_fault, Channels, leaves, DrawOutcome}

-- n values of g, from i on
abbrev pub list_from : {A : Type 0} → (ℕ → A) → ℕ → ℕ → List A
list_from g i zero = []
list_from g i (suc n) = g i ∷ list_from g (suc i) n

-- n records: those of the first c segments of a flat list with their owners, and zeros after them
abbrev pub records_of : List Float → List ℕ → ℕ → ℕ → List SegmentRecord
records_of xs us c n = list_from (record_of xs us c) 0 n

-- ---- one record drawn

-- what drawing the record i of a list answers and leaves
abbrev pub draw_record_of : List SegmentRecord → ℕ → ℕ → ℕ → ℕ → Channels → DrawOutcome
draw_record_of records i y x0 n a = draw_alone (ltb i (length records)) (without_owner (get_or records i zero_record)) y x0 n a

-- ---- a segment of a flat list, by its number

-- what drawing number i of c flat segments answers and leaves
abbrev pub draw_number_of : List Float → ℕ → ℕ → ℕ → ℕ → ℕ → Channels → DrawOutcome
draw_number_of xs c i y x0 n a = draw_alone (is_known xs c i) (segment_at xs i) y x0 n a

-- ---- a record for a desk

-- DESK, TABLE for a number that names no record, TRACE, ROW, SPAN, and TABLE for an owner that is no spline; the sight's one owner is the record's ninth field
unfoldable pub judge_for : Bool → Sight → ℕ → Bool → Verdict
judge_for known s y spanned =
    or_fault (desk_good s) Code.Desk
    (or_fault known Code.Table
    (or_fault (bytes_good s) Code.Trace
    (or_fault (ltb y (2 ^ 23)) Code.Row (or_fault spanned Code.Span (or_fault (ltb (owner_in s 0) s.splines) Code.Table Fine)))))

-- a refusal, nothing where the record is hidden, and else what drawing it comes to
abbrev pub outcome_for : Verdict → Bool → DrawOutcome → Channels → DrawOutcome
outcome_for Fine hidden drawn a = cond hidden (leaves (Done 0) a) drawn
outcome_for (Fault c) hidden drawn a = leaves (Refused c 0) a

-- what drawing a record for a desk answers and leaves
unfoldable pub draw_for : Bool → SegmentRecord → ℕ → List ℕ → ℕ → ℕ → ℕ → ℕ → Channels → DrawOutcome
draw_for known r splines bits desk y x0 n a =
    let s = sight_of (r.owner ∷ []) splines bits desk in
    outcome_for (judge_for known s y (span_good x0 n (length a.r0) (length a.r1) (length a.r2))) (hidden_in s 0) (draw_alone known (without_owner r) y x0 n a) a
