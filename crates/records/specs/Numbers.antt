-- What a number of a flat segment comes to, on both sides of the count. proofs/Numbers.antt proves each statement. Definitions only.
use Rattle.std.specs.Prelude.{◌≡◌, true, ◌⊎◌, List, [], ◌∷◌, ℕ, ◌*◌, ◌<◌, ◌≤◌, length, get_or, Float}
use Rattle.codes.specs.declared.Code.{Code}
use Rattle.segments.specs.Segment.{segment_at}
use Rattle.checks.specs.Verdict.{Fine}
use Rattle.draw.specs.DrawAnswer.{Refused}
use Rattle.draw.specs.Draw.{Table, Sight, row_of, shown_of, judge_draw, Channels, leaves, draw_of}
use Rattle.records.specs.Records.{joined_of, draw_alone, draw_number_of, draw_for}

-- a number below the count, where the count fits the floats, is drawn as the flat segment there
abbrev pub KnownIsDrawn : Type 0
KnownIsDrawn = (xs : List Float) (c i y x0 n : ℕ) (a : Channels) → i < c → 8 * c ≤ length xs → draw_number_of xs c i y x0 n a ≡ draw_alone true (segment_at xs i) y x0 n a

-- any other number is TABLE, and the channels are as they were
abbrev pub UnknownIsRefused : Type 0
UnknownIsRefused = (xs : List Float) (c i y x0 n : ℕ) (a : Channels) → (c ≤ i) ⊎ (length xs < 8 * c) → draw_number_of xs c i y x0 n a ≡ leaves (Refused Code.Table 0) a

-- where a row of a table passes the checks and a desk is shown one number of it alone, drawing the row for the desk is drawing that number
abbrev pub RowOfOneIsItsNumber : Type 0
RowOfOneIsItsNumber =
    (t : Table) (s : Sight) (i y x0 n : ℕ) (a : Channels) → judge_draw t s y x0 n (length a.r0) (length a.r1) (length a.r2) ≡ Fine → shown_of t s y ≡ i ∷ []
    → draw_of t s y x0 n a ≡ draw_number_of t.segments t.segment_count i y x0 n a

-- where it lists one number alone, hidden for the desk or not, drawing the row for the desk is drawing the number's record for the desk, told by the ninth field
abbrev pub RowOfOneIsItsRecord : Type 0
RowOfOneIsItsRecord =
    (t : Table) (s : Sight) (i y x0 n : ℕ) (a : Channels) → judge_draw t s y x0 n (length a.r0) (length a.r1) (length a.r2) ≡ Fine → row_of t y ≡ i ∷ []
    → draw_of t s y x0 n a ≡ draw_for true (joined_of (segment_at t.segments i) (get_or s.owners i 0)) s.splines s.bits s.desk y x0 n a
