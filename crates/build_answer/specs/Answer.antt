-- What a build answers and leaves in the six lent buffers, from their lengths. Definitions only.
use Rattle.std.specs.Prelude.{List, ℕ, length, replicate, Ok, Float}
use Rattle.numbers.specs.Arith.{0·0}
use Rattle.buffers.specs.Padded.{padded}
use Rattle.codes.specs.Codes.{number_of}
use Rattle.codes.specs.declared.Code.{Code}
use Rattle.rows.specs.Listed.{Listed, Entries, Room}
use Rattle.rows.specs.Rows.{RowsOutcome}
use Rattle.faint.specs.Faint.{faint_in}
use Rattle.build_answer.specs.BuildAnswer.{BuildAnswer, Done, Refused}

-- the lengths of the lent buffers
pub record BuildRooms : Type 0 where
  pub path : ℕ
  pub walk : ℕ
  pub segments : ℕ
  pub owners : ℕ
  pub starts : ℕ
  pub entries : ℕ

abbrev pub rooms_of : List Float → List Float → List Float → List ℕ → List ℕ → List ℕ → BuildRooms
rooms_of path walk segments owners starts entries = record {
  path = length path;
  walk = length walk;
  segments = length segments;
  owners = length owners;
  starts = length starts;
  entries = length entries;
}

-- an answer in the terms of the table of codes: the code's number, the place, and the counts
pub record BuildTold : Type 0 where
  pub number : ℕ
  pub place : ℕ
  pub segments : ℕ
  pub entries : ℕ
  pub estimate : ℕ
  pub faint : ℕ

-- a success is number 0 at place 0; a refusal has counts of 0
abbrev pub told_of : BuildAnswer → BuildTold
told_of (Ok b) = record { number = 0; place = 0; segments = b.segments; entries = b.entries; estimate = b.estimate; faint = b.faint }
told_of (Refused c p) = record { number = number_of c; place = p; segments = 0; entries = 0; estimate = 0; faint = 0 }

-- the answer, what it tells, and the six lent buffers
pub record BuildOutcome : Type 0 where
  pub answer : BuildAnswer
  pub told : BuildTold
  pub path : List Float
  pub walk : List Float
  pub segments : List Float
  pub owners : List ℕ
  pub starts : List ℕ
  pub entries : List ℕ

abbrev pub leaves : BuildAnswer → List Float → List Float → List Float → List ℕ → List ℕ → List ℕ → BuildOutcome
leaves r path walk segments owners starts entries = record {
  answer = r;
  told = told_of r;
  path = path;
  walk = walk;
  segments = segments;
  owners = owners;
  starts = starts;
  entries = entries;
}

abbrev pub zeros : ℕ → List Float
zeros n = replicate n 0·0

-- every lent cell zero
unfoldable pub refused_with : BuildRooms → Code → ℕ → BuildOutcome
refused_with r code place =
    leaves (Refused code place) (zeros r.path) (zeros r.walk) (zeros r.segments) (replicate r.owners 0) (replicate r.starts 0) (replicate r.entries 0)

-- ROOM for the entries, or the table of so many segments, whose numbers and owners are given, and how many of them are faint
abbrev pub after_rows : BuildRooms → ℕ → ℕ → List Float → List ℕ → RowsOutcome → BuildOutcome
after_rows r estimate count numbers owners o = go o.answer
  where
    go : Listed → BuildOutcome
    go Room = refused_with r Code.Room 0
    go (Entries n) = leaves (Done count n estimate (faint_in numbers count)) (zeros r.path) (zeros r.walk) (padded r.segments 0·0 numbers) (padded r.owners 0 owners) o.starts o.entries
