-- What the steps below `trace_write` speak of.
use Rattle.std.specs.Prelude.{List, [], ◌∷◌, ◌++◌, map, ℕ, ◌+◌, ◌*◌, ltb, length, ℤ}
use Rattle.codes.specs.declared.Code.TheVariants.{Room}
use Rattle.shape.specs.Shape.{points_of}
use Rattle.shape.specs.Description.{Description}
use Rattle.list.specs.List.{described}
use Rattle.writer.specs.Write.{Check, check, first_fault, whole_of, WriteOutcome, outcome}
use Rattle.trace.specs.Trace.{Layout, layout_of, numbers_of, file_of}

-- a version whose header has these numbers behind its first eight
abbrev pub layout_with : ℕ → List ℕ → Layout
layout_with version more = layout_of version (8 + length more)

-- the file of a description in such a version, or a code and a place: by these checks, and then that of the room
abbrev pub written_by : List Check → ℕ → List ℕ → Description → ℤ → ℕ → WriteOutcome
written_by checks version more d adjustment room =
    outcome room (file_of (layout_with version more) more (described adjustment (map whole_of d.starts) d.counts d.deltas d.coefficients))
    (first_fault (checks ++ check (ltb room (4 * numbers_of (8 + length more) (length d.counts) (points_of d.counts))) Room 0 ∷ []))
