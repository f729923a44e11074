-- What it means that the definition of building agrees with a stored case: vectors/README.md has the words. Definitions only.
use Rattle.std.specs.Prelude.{◌≡◌, List, ℕ, ◌+◌, ◌-◌, ◌*◌, eqb, ℤ, length, get_or, take, drop, Ok, Float}
use Rattle.codes.specs.Codes.{number_of}
use Rattle.codes.specs.declared.Code.{Code}
use Rattle.dequantize.specs.Coefficients.{table}
use Rattle.shape.specs.Description.{Description, description_of}
use Rattle.build_answer.specs.declared.Built.{Built}
use Rattle.build_answer.specs.BuildAnswer.{BuildAnswer, Refused}
use Rattle.table.specs.Table.{BuildRooms, Setting, setting_of, BuildOutcome}
use Rattle.stored.specs.Stored.{float_in, signed_in, long_in, refusal_word, Begins, BeginsWith}

-- the words from a up to b
abbrev pub part : ℕ → ℕ → List ℕ → List ℕ
part a b words = take (b - a) (drop a words)

-- ---- the output

-- code and place of a success, then the counts and the estimate
pub record Headed (built : Built) (output : List ℕ) : Type 0 where
  pub code : get_or output 0 0 ≡ 0
  pub place : get_or output 1 0 ≡ 0
  pub segments : get_or output 2 0 ≡ built.segments
  pub entries : get_or output 3 0 ≡ built.entries
  pub area : built.estimate ≡ long_in output 4

-- a success: behind the head the numbers of the segments, their owners, the row starts and the entries, and no word more
pub record TableAgrees (built : Built) (height : ℕ) (segments : List Float) (owners starts entries output : List ℕ) : Type 0 where
  pub head : Headed built output
  pub size : length output ≡ 6 + 8 * built.segments + built.segments + height + 1 + built.entries
  pub numbers : Begins segments (part 6 (6 + 8 * built.segments) output)
  pub splines : BeginsWith owners (part (6 + 8 * built.segments) (6 + 8 * built.segments + built.segments) output)
  pub rows : BeginsWith starts (part (6 + 8 * built.segments + built.segments) (6 + 8 * built.segments + built.segments + height + 1) output)
  pub lists : BeginsWith entries (part (6 + 8 * built.segments + built.segments + height + 1) (length output) output)

-- a refusal: its code and its place, and no word more
pub record RefusalAgrees (code : Code) (place : ℕ) (output : List ℕ) : Type 0 where
  pub size : length output ≡ 2
  pub number : refusal_word (number_of code) ≡ get_or output 0 0
  pub at : get_or output 1 0 ≡ place

abbrev pub AnswerAgrees : BuildAnswer → ℕ → List Float → List ℕ → List ℕ → List ℕ → List ℕ → Type 0
AnswerAgrees (Refused code place) height segments owners starts entries output = RefusalAgrees code place output
AnswerAgrees (Ok built) height segments owners starts entries output = TableAgrees built height segments owners starts entries output

-- what a build answers, and leaves in the segments, their owners, the row starts and the entries
abbrev pub BuildAgrees : BuildOutcome → ℕ → List ℕ → Type 0
BuildAgrees t height output = AnswerAgrees t.answer height t.segments t.owners t.starts t.entries output

-- ---- the input

-- what is lent
abbrev pub lent : BuildRooms
lent = record {
  path = 256;
  walk = 2048;
  segments = 1024;
  owners = 128;
  starts = 256;
  entries = 512;
}

abbrev pub image_in : List ℕ → Setting
image_in input =
    setting_of (signed_in input 8) (get_or input 0 0) (get_or input 1 0) (float_in input 2) (float_in input 3) (eqb (get_or input 4 0) 1) (eqb (get_or input 5 0) 1)

-- the starts among 16 cells, and signed numbers among so many
abbrev pub floats_in : List ℕ → List Float
floats_in words = take (length words) (table (float_in words) 16)

abbrev pub signeds_in : ℕ → List ℕ → List ℤ
signeds_in cells words = take (length words) (table (signed_in words) cells)

-- where the counts, the starts and the double deltas of a case end
abbrev pub counts_end : List ℕ → ℕ
counts_end input = 9 + get_or input 6 0

abbrev pub starts_end : List ℕ → ℕ
starts_end input = counts_end input + 2 * get_or input 6 0

abbrev pub deltas_end : List ℕ → ℕ
deltas_end input = starts_end input + 2 * get_or input 7 0

abbrev pub description_in : List ℕ → Description
description_in input =
    description_of (part 9 (counts_end input) input) (floats_in (part (counts_end input) (starts_end input) input))
    (signeds_in 2048 (part (starts_end input) (deltas_end input) input)) (signeds_in 1024 (part (deltas_end input) (length input) input))
