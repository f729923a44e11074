-- Writing a description as a trace file: the checks in their order, and what a call of `trace_write` leaves.
use Rattle.std.specs.Prelude.{Bool, true, not, ◌||◌, ◌&&◌, cond, List, [], ◌∷◌, ◌++◌, map, ℕ, ◌*◌, ◌%◌, ◌^◌, eqb, ltb, leb, length, ℤ, Float}
use Rattle.std.specs.Float.{nan, inf, fin}
use Rattle.std.specs.Float.Ieee.{up, down}
use Rattle.codes.specs.declared.Code.TheVariants.{Coord, Delta, Room, Shape, Header}
use Rattle.shape.specs.Shape.{points_of}
use Rattle.shape.specs.Description.{Description}
use Rattle.list.specs.List.{described, pos_limit}
use Rattle.writer.specs.Write.{Check, check, first_fault, misshapen, whole_of, WriteOutcome, outcome}
use Rattle.trace.specs.Trace.{version1, starts_from, deltas_from, coefficients_from, numbers_of, file_of, wild, number_checks}

-- a number that is no start of the file: NaN, below -2^23, of 2^23 or more, not whole, or minus zero; `fin s m e` has the magnitude m * up e / down e
unfoldable pub misfit : Float → Bool
misfit nan = true
misfit (inf s) = true
misfit (fin s m e) =
    cond s (ltb (pos_limit * down e) (m * up e)) (leb (pos_limit * down e) (m * up e)) || (not (eqb (m * up e % down e) 0) || (s && eqb m 0))

-- 32 bits cannot hold it
abbrev pub unheld : ℕ → Bool
unheld n = leb (2 ^ 32) n

-- the counts and the offsets of the header, behind which the parts begin at number h
unfoldable pub header_checks : ℕ → ℕ → ℕ → List Check
header_checks h s p =
    check (unheld s) Header 4
    ∷ check (unheld p) Header 8
    ∷ check (unheld (4 * h)) Header 16
    ∷ check (unheld (4 * starts_from h s)) Header 20
    ∷ check (unheld (4 * deltas_from h s)) Header 24
    ∷ check (unheld (4 * coefficients_from h s p)) Header 28
    ∷ []

-- each start and each double delta
unfoldable pub value_checks : ℕ → ℕ → List Float → List ℤ → List Check
value_checks h s starts deltas = number_checks misfit Coord (starts_from h s) starts ++ number_checks wild Delta (deltas_from h s) deltas

-- all but the room
unfoldable pub write_checks : ℕ → List ℕ → List Float → List ℤ → List ℤ → List Check
write_checks h counts starts deltas coefficients =
    check (misshapen counts starts deltas coefficients) Shape 0
    ∷ header_checks h (length counts) (points_of counts) ++ value_checks h (length counts) starts deltas

-- what `trace_write` answers and leaves in so many bytes
unfoldable pub write_trace_of : List ℕ → List Float → List ℤ → List ℤ → ℤ → ℕ → WriteOutcome
write_trace_of counts starts deltas coefficients adjustment room =
    outcome room (file_of version1 [] (described adjustment (map whole_of starts) counts deltas coefficients))
    (first_fault (write_checks 8 counts starts deltas coefficients ++ check (ltb room (4 * numbers_of 8 (length counts) (points_of counts))) Room 0 ∷ []))

-- the same of a description
abbrev pub checks_in : ℕ → Description → List Check
checks_in h d = write_checks h d.counts d.starts d.deltas d.coefficients

abbrev pub write_trace_in : Description → ℤ → ℕ → WriteOutcome
write_trace_in d adjustment room = write_trace_of d.counts d.starts d.deltas d.coefficients adjustment room
