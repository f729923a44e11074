-- Reading a trace file: the checks in their order, what an accepted file says, and what a call of `trace_read` leaves.
use Rattle.std.specs.Prelude.{Bool, not, ◌||◌, List, [], ◌∷◌, ◌++◌, map, ℕ, ◌*◌, eqb, ltb, length, get_or}
use Rattle.codes.specs.declared.Code.TheVariants.{Short, Coord, Delta, Trail, Room, Shape, Header}
use Rattle.shape.specs.Shape.{points_of}
use Rattle.list.specs.List.{ListRooms, Got, got, stop, Described, described, lacking}
use Rattle.reader.specs.Read.{ReadOutcome, outcome}
use Rattle.writer.specs.Write.{Check, check, first_fault}
use Rattle.write_judge.specs.Verdict.{Verdict}
use Rattle.write_judge.specs.Verdict.{Fine, Fault}
use Rattle.little.specs.Little.{numbers_in, signed_in}
use Rattle.trace.specs.Trace.{Layout, version1, starts_from, deltas_from, coefficients_from, numbers_of, part, outside, wild, number_checks}

-- ---- the numbers of the header

abbrev pub splines_in : List ℕ → ℕ
splines_in ns = get_or ns 1 0

abbrev pub points_in : List ℕ → ℕ
points_in ns = get_or ns 2 0

-- ---- the checks, over a file of so many bytes and its numbers

-- the first eight numbers are there, and the version is this one
unfoldable pub version_checks : ℕ → ℕ → List ℕ → List Check
version_checks version size ns = check (ltb size 32) Short size ∷ check (not (eqb (get_or ns 0 0) version)) Header 0 ∷ []

-- the parts begin where they should, behind a header of h numbers
unfoldable pub offset_checks : ℕ → List ℕ → List Check
offset_checks h ns =
    check (not (eqb (get_or ns 4 0) (4 * h))) Header 16
    ∷ check (not (eqb (get_or ns 5 0) (4 * starts_from h (splines_in ns)))) Header 20
    ∷ check (not (eqb (get_or ns 6 0) (4 * deltas_from h (splines_in ns)))) Header 24
    ∷ check (not (eqb (get_or ns 7 0) (4 * coefficients_from h (splines_in ns) (points_in ns)))) Header 28
    ∷ []

-- the file is as long as it should be
unfoldable pub length_checks : ℕ → ℕ → List Check
length_checks size due = check (ltb size due) Short size ∷ check (ltb due size) Trail due ∷ []

-- a number of the file as a start, and as a double delta
unfoldable pub misplaced : ℕ → Bool
misplaced u = outside (signed_in u)

unfoldable pub too_wild : ℕ → Bool
too_wild u = wild (signed_in u)

-- the counts sum to the points, and each start and each double delta is in range
unfoldable pub part_checks : ℕ → ℕ → ℕ → List ℕ → List Check
part_checks h s p ns =
    check (not (eqb (points_of (part h s ns)) p)) Shape 0
    ∷ number_checks misplaced Coord (starts_from h s) (part (starts_from h s) (2 * s) ns)
    ++ number_checks too_wild Delta (deltas_from h s) (part (deltas_from h s) (2 * p) ns)

-- what follows the header: the length, then the parts
unfoldable pub body_checks : ℕ → ℕ → List ℕ → List Check
body_checks h size ns =
    length_checks size (4 * numbers_of h (splines_in ns) (points_in ns)) ++ part_checks h (splines_in ns) (points_in ns) ns

-- all but the room
unfoldable pub read_checks : Layout → ℕ → List ℕ → List Check
read_checks l size ns = version_checks l.version size ns ++ offset_checks l.header ns ++ body_checks l.header size ns

-- no room for s splines and p points
unfoldable pub tight : ListRooms → ℕ → ℕ → Bool
tight rooms s p = lacking rooms s || ltb rooms.deltas (2 * p)

-- all, with so many cells lent
unfoldable pub whole_checks : ListRooms → List ℕ → List Check
whole_checks rooms bytes =
    let ns = numbers_in bytes in
    read_checks version1 (length bytes) ns ++ check (tight rooms (splines_in ns) (points_in ns)) Room 0 ∷ []

-- ---- what is read

-- what the numbers say, behind a header of h numbers
unfoldable pub described_in : ℕ → List ℕ → Described
described_in h ns =
    described (signed_in (get_or ns 3 0)) (map signed_in (part (starts_from h (splines_in ns)) (2 * splines_in ns) ns)) (part h (splines_in ns) ns)
    (map signed_in (part (deltas_from h (splines_in ns)) (2 * points_in ns) ns))
    (map signed_in (part (coefficients_from h (splines_in ns) (points_in ns)) (128 * splines_in ns) ns))

abbrev pub judged : Described → Verdict → Got Described
judged d Fine = got d []
judged d (Fault c p) = stop c p

-- the description of a file, or a code and a place
unfoldable pub read_trace : ListRooms → List ℕ → Got Described
read_trace rooms bytes = judged (described_in 8 (numbers_in bytes)) (first_fault (whole_checks rooms bytes))

-- what `trace_read` answers and leaves: splines, points, adjustment and the four buffers as `read` does
unfoldable pub read_trace_of : ListRooms → List ℕ → ReadOutcome
read_trace_of rooms bytes = outcome rooms (read_trace rooms bytes)
