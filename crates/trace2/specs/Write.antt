-- Writing a description as a trace file of either version: the checks in their order, and what a call of `trace_write2` leaves.
use Rattle.std.specs.Prelude.{Bool, ◌||◌, ◌&&◌, List, [], ◌∷◌, ◌++◌, map, ℕ, ◌*◌, eqb, ltb, length, ℤ, Float}
use Rattle.codes.specs.declared.Code.TheVariants.{Room, Shape, Header, Edition}
use Rattle.shape.specs.Shape.{points_of}
use Rattle.list.specs.List.{described}
use Rattle.writer.specs.Write.{Check, check, first_fault, misshapen, whole_of, WriteOutcome, outcome}
use Rattle.trace.specs.Trace.{numbers_of, file_of}
use Rattle.trace.specs.Write.{header_checks, value_checks}
use Rattle.trace2.specs.Editions.{unknown, layout_of, more_of, header_long}

-- an edition other than 1 or 2, or edition 2 in version 1
unfoldable pub barred : ℕ → ℕ → Bool
barred version edition = unknown edition || (eqb version 1 && eqb edition 2)

-- all but the room
unfoldable pub write_checks2 : ℕ → ℕ → List ℕ → List Float → List ℤ → List ℤ → List Check
write_checks2 version edition counts starts deltas coefficients =
    check (misshapen counts starts deltas coefficients) Shape 0
    ∷ check (barred version edition) Edition 32
    ∷ check (unknown version) Header 0
    ∷ header_checks (header_long version) (length counts) (points_of counts) ++ value_checks (header_long version) (length counts) starts deltas

-- what `trace_write2` answers and leaves in so many bytes
unfoldable pub write_file_of : List ℕ → List Float → List ℤ → List ℤ → ℤ → ℕ → ℕ → ℕ → WriteOutcome
write_file_of counts starts deltas coefficients adjustment version edition room =
    outcome room (file_of (layout_of version) (more_of version edition) (described adjustment (map whole_of starts) counts deltas coefficients))
    (first_fault (write_checks2 version edition counts starts deltas coefficients ++ check (ltb room (4 * numbers_of (header_long version) (length counts) (points_of counts))) Room 0 ∷ []))
