-- Reading a trace file of either version: the checks in their order, what an accepted file says, and what a call of `trace_read2` leaves.
use Rattle.std.specs.Prelude.{List, [], ◌∷◌, ◌++◌, ℕ, ◌*◌, ltb, length, get_or, ℤ, Float, Result, Ok, Err}
use Rattle.codes.specs.declared.Code.TheVariants.{Short, Room, Header, Edition}
use Rattle.list.specs.List.{ListRooms, Got, Described}
use Rattle.reader.specs.Read.{ReadOutcome, outcome}
use Rattle.reader.specs.Read as reading
use Rattle.codes.specs.Refusal.{Refusal}
use Rattle.read_list.specs.Answer.{ReadAnswer}
use Rattle.writer.specs.Write.{Check, check, first_fault}
use Rattle.little.specs.Little.{numbers_in}
use Rattle.trace.specs.Read.{splines_in, points_in, offset_checks, body_checks, tight, described_in, judged}
use Rattle.trace2.specs.Editions.{unknown, header_long, edition_in}
use Rattle.trace2.specs.declared.FileRead.{FileRead}

-- ---- the checks, over a file of so many bytes and its numbers

-- of a version whose header has h numbers: the header is there, the offsets, the edition, then the length and the parts
unfoldable pub laid_checks : ℕ → ℕ → ℕ → List ℕ → List Check
laid_checks h edition size ns = check (ltb size (4 * h)) Short size ∷ offset_checks h ns ++ (check (unknown edition) Edition 32 ∷ body_checks h size ns)

-- the first eight numbers are there, and the version is 1 or 2; then as the version has it
unfoldable pub file_checks : ℕ → List ℕ → List Check
file_checks size ns =
    check (ltb size 32) Short size ∷ check (unknown (get_or ns 0 0)) Header 0 ∷ laid_checks (header_long (get_or ns 0 0)) (edition_in ns) size ns

-- all, with so many cells lent
unfoldable pub whole_checks2 : ListRooms → List ℕ → List Check
whole_checks2 rooms bytes =
    let ns = numbers_in bytes in
    file_checks (length bytes) ns ++ check (tight rooms (splines_in ns) (points_in ns)) Room 0 ∷ []

-- ---- what is read

-- the description of a file, or a code and a place
unfoldable pub read_file : ListRooms → List ℕ → Got Described
read_file rooms bytes =
    let ns = numbers_in bytes in
    judged (described_in (header_long (get_or ns 0 0)) ns) (first_fault (whole_checks2 rooms bytes))

-- what was read and its edition, or a code and a place
abbrev pub FileAnswer : Type 0
FileAnswer = Result FileRead Refusal

abbrev pub file_done : ℕ → ℕ → ℤ → ℕ → FileAnswer
file_done s p a e = Ok (record { read = record { splines = s; points = p; adjustment = a }; edition = e })

-- an answer without its edition, and its edition, which is 0 where the file is refused
abbrev pub answer_of : FileAnswer → ReadAnswer
answer_of (Ok r) = Ok r.read
answer_of (Err r) = Err r

abbrev pub edition_of : FileAnswer → ℕ
edition_of (Ok r) = r.edition
edition_of (Err r) = 0

-- what a call that reads leaves, and the edition beside it
pub record FileOutcome : Type 0 where
  pub read : ReadOutcome
  pub edition : ℕ

abbrev pub file_leaves : FileAnswer → List ℕ → List Float → List ℤ → List ℤ → FileOutcome
file_leaves r ns zs ds cs = record { read = reading.leaves (answer_of r) ns zs ds cs; edition = edition_of r }

-- the edition that is told with an answer
abbrev pub edition_told : ReadAnswer → ℕ → ℕ
edition_told (Ok r) e = e
edition_told (Err r) e = 0

abbrev pub with_edition : ℕ → ReadOutcome → FileOutcome
with_edition e o = record { read = o; edition = edition_told o.answer e }

-- what `trace_read2` answers and leaves: as `trace_read` does, with the edition
unfoldable pub read_file_of : ListRooms → List ℕ → FileOutcome
read_file_of rooms bytes = with_edition (edition_in (numbers_in bytes)) (outcome rooms (read_file rooms bytes))
