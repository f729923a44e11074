-- The reach of a row for a desk: the hull of the columns below W that drawing the row would touch. Definitions only.
use Rattle.std.specs.Prelude.{Bool, true, false, cond, ◌||◌, List, [], ◌∷◌, ℕ, zero, suc, ◌^◌, leb, Float, Ok}
use Rattle.codes.specs.Codes.{number_of}
use Rattle.codes.specs.declared.Code.{Code}
use Rattle.segments.specs.Segment.{segment_at}
use Rattle.segments.specs.Ranges.{has_column}
use Rattle.segments.specs.declared.Range.{Range}
use Rattle.desks.specs.Desks.{Sight, desk_good}
use Rattle.checks.specs.Tables.{Table, shown_of}
use Rattle.checks.specs.Checks.{or_fault, judge_row}
use Rattle.checks.specs.Verdict.{Verdict, Fine, Fault}
use Rattle.joins.specs.Joins.{joined}
use Rattle.hull.specs.ReachAnswer.{ReachAnswer, Refused}

-- ---- hulls

abbrev pub none : Range
none = record { first = 0; past = 0 }

-- the least range that holds every column below W that passes the test; 0, 0 where none does
unfoldable pub hull : (ℕ → Bool) → ℕ → Range
hull test zero = none
hull test (suc x) = cond (test x) (joined (hull test x) (record { first = x; past = suc x })) (hull test x)

-- ---- the columns of listed segments

-- drawing the listed segments touches column x: one of them has it
abbrev pub touched : List Float → List ℕ → ℕ → Bool
touched segments [] x = false
touched segments (i ∷ listed) x = has_column (segment_at segments i) x || touched segments listed x

abbrev pub reach_over : List Float → ℕ → List ℕ → Range
reach_over segments W listed = hull (touched segments listed) W

-- ---- the call

-- an answer in the terms of the table of codes: the code's number, the place and the two columns
pub record ReachTold : Type 0 where
  pub number : ℕ
  pub place : ℕ
  pub first : ℕ
  pub past : ℕ

abbrev pub told_of : ReachAnswer → ReachTold
told_of (Ok r) = record { number = 0; place = 0; first = r.first; past = r.past }
told_of (Refused c p) = record { number = number_of c; place = p; first = 0; past = 0 }

-- the desk, the width, then the checks of drawing but for the span
unfoldable pub judge_reach_of : Table → Sight → ℕ → ℕ → Verdict
judge_reach_of t s y W = or_fault (desk_good s) Code.Desk (or_fault (leb W (2 ^ 23)) Code.Size (judge_row t s y true))

abbrev pub reach_answer : Verdict → Range → ReachAnswer
reach_answer Fine r = Ok r
reach_answer (Fault c) r = Refused c 0

-- the answer and what it tells
pub record ReachOutcome : Type 0 where
  pub answer : ReachAnswer
  pub told : ReachTold

abbrev pub tells : ReachAnswer → ReachOutcome
tells r = record { answer = r; told = told_of r }

-- what `reach` answers
unfoldable pub reach_of : Table → Sight → ℕ → ℕ → ReachOutcome
reach_of t s y W = tells (reach_answer (judge_reach_of t s y W) (reach_over t.segments W (shown_of t s y)))
