-- `draw_segments`: a part of a row drawn, with the checks in their order, the answer and every lent cell. Definitions only.
use Rattle.std.specs.Prelude.{List, ℕ, ◌+◌, length, Float}
use Rattle.codes.specs.Codes.{number_of}
use Rattle.shade.specs.Edit.{edit, first_cells}
use Rattle.checks.specs.Verdict.{Verdict, Fine, Fault}
pub use Rattle.columns.specs.Columns.{shaded_in_column, pixel, between, count, updates}
pub use Rattle.desks.specs.Desks.{Sight, sight_of, shown, desk_good, bytes_good, all_owned}
pub use Rattle.checks.specs.Tables.{Table, table_of, row_of, shown_of}
pub use Rattle.checks.specs.Checks.{all_below, row_good, or_fault}
unfoldable pub use Rattle.checks.specs.Checks.{counts_good, counts_good_for, span_good, entries_good, row_good_for, judge_draw}
use Rattle.draw.specs.DrawAnswer.{DrawAnswer, Done, Refused}

-- an answer in the terms of the table of codes: the code's number, the place and the updates
pub record DrawTold : Type 0 where
  pub number : ℕ
  pub place : ℕ
  pub updates : ℕ

abbrev pub told_of : DrawAnswer → DrawTold
told_of (Done n) = record { number = 0; place = 0; updates = n }
told_of (Refused c p) = record { number = number_of c; place = p; updates = 0 }

-- the three channels of a row, or lent parts of them
pub record Channels : Type 0 where
  pub r0 : List Float
  pub r1 : List Float
  pub r2 : List Float

abbrev pub three : List Float → List Float → List Float → Channels
three r0 r1 r2 = record { r0 = r0; r1 = r1; r2 = r2 }

-- the answer, what it tells, and every cell of the lent channels
pub record DrawOutcome : Type 0 where
  pub answer : DrawAnswer
  pub told : DrawTold
  pub channels : Channels

abbrev pub leaves : DrawAnswer → Channels → DrawOutcome
leaves r a = record { answer = r; told = told_of r; channels = a }

-- a channel of colour c, lent from column x0 on, with n pixels of row y drawn for the desk
abbrev pub drawn_channel : ℕ → Table → Sight → ℕ → ℕ → ℕ → List Float → List Float
drawn_channel c t s y x0 n xs = edit (first_cells n (λ k v. pixel c t.segments y (x0 + k) (shown_of t s y) v)) xs

-- the updates and the drawn channels, or a refusal at place 0 and the channels as they were
abbrev pub outcome : Verdict → Table → Sight → ℕ → ℕ → ℕ → Channels → DrawOutcome
outcome Fine t s y x0 n a =
    leaves (Done (updates t.segments x0 n (shown_of t s y)))
    (three (drawn_channel 0 t s y x0 n a.r0) (drawn_channel 1 t s y x0 n a.r1) (drawn_channel 2 t s y x0 n a.r2))
outcome (Fault c) t s y x0 n a = leaves (Refused c 0) a

-- the same with every listed segment, hidden or not: the statement of a table without desks
abbrev pub unhidden : Verdict → Table → ℕ → ℕ → ℕ → Channels → DrawOutcome
unhidden Fine t y x0 n a =
    leaves (Done (updates t.segments x0 n (row_of t y)))
    (three
    (edit (first_cells n (λ k v. pixel 0 t.segments y (x0 + k) (row_of t y) v)) a.r0)
    (edit (first_cells n (λ k v. pixel 1 t.segments y (x0 + k) (row_of t y) v)) a.r1)
    (edit (first_cells n (λ k v. pixel 2 t.segments y (x0 + k) (row_of t y) v)) a.r2))
unhidden (Fault c) t y x0 n a = leaves (Refused c 0) a

-- what `draw` answers and leaves
unfoldable pub draw_of : Table → Sight → ℕ → ℕ → ℕ → Channels → DrawOutcome
draw_of t s y x0 n a = outcome (judge_draw t s y x0 n (length a.r0) (length a.r1) (length a.r2)) t s y x0 n a
