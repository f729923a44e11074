-- What the steps below `trace_write2` speak of.
use Rattle.std.specs.Prelude.{Bool, ◌&&◌, List, ℕ, eqb, ℤ}
use Rattle.shape.specs.Description.{Description}
use Rattle.writer.specs.Write.{Check, WriteOutcome}
use Rattle.trace2.specs.Write.{write_checks2, write_file_of}

-- version 1 with its edition
unfoldable pub plain : ℕ → ℕ → Bool
plain version edition = eqb version 1 && eqb edition 1

-- the checks and the outcome of a description
abbrev pub file_checks_in : ℕ → ℕ → Description → List Check
file_checks_in version edition d = write_checks2 version edition d.counts d.starts d.deltas d.coefficients

abbrev pub write_file_in : Description → ℤ → ℕ → ℕ → ℕ → WriteOutcome
write_file_in d adjustment version edition room = write_file_of d.counts d.starts d.deltas d.coefficients adjustment version edition room
