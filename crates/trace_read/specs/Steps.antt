-- What the steps below `trace_read` speak of.
use Rattle.std.specs.Prelude.{List, [], ◌∷◌, ◌++◌, ℕ}
use Rattle.codes.specs.declared.Code.TheVariants.{Room}
use Rattle.list.specs.List.{ListRooms, Got, Described}
use Rattle.writer.specs.Write.{Check, check, first_fault}
use Rattle.little.specs.Little.{numbers_in}
use Rattle.trace.specs.Read.{splines_in, points_in, tight, described_in, judged}

-- rooms by their lengths
abbrev pub rooms_from : ℕ → ℕ → ℕ → ℕ → ListRooms
rooms_from a b c d = record { counts = a; starts = b; deltas = c; coefficients = d }

-- the description of a file behind a header of h numbers, or a code and a place: by these checks, and then that of the room
abbrev pub read_by : List Check → ℕ → ListRooms → List ℕ → Got Described
read_by checks h rooms bytes =
    judged (described_in h (numbers_in bytes))
    (first_fault (checks ++ check (tight rooms (splines_in (numbers_in bytes)) (points_in (numbers_in bytes))) Room 0 ∷ []))
