-- What loading the parts of a trace file speaks of.
use Rattle.std.specs.Prelude.{◌≡◌, List, map, ℕ, ◌*◌, ◌≤◌, length, ℤ, Float}
use Rattle.codes.specs.declared.Code.TheVariants.{Coord}
use Rattle.shape.specs.Shape.{points_of}
use Rattle.list.specs.List.{ListRooms}
use Rattle.list.specs.Steps.{f32_of}
use Rattle.read_steps.specs.Steps.{Front}
use Rattle.writer.specs.Write.{first_fault}
use Rattle.write_judge.specs.Verdict.{Fine}
use Rattle.little.specs.Little.{numbers_in, signed_in}
use Rattle.trace.specs.Trace.{starts_from, deltas_from, coefficients_from, numbers_of, part, number_checks}
use Rattle.trace.specs.Read.{misplaced}

-- the start that a number of the file stands for
unfoldable pub start_in : ℕ → Float
start_in u = f32_of (signed_in u)

-- a file in which no fault was found, of s splines and p points behind a header of h numbers, and room for it
pub record Loadable (bytes : List ℕ) (h s p : ℕ) (rooms : ListRooms) : Type 0 where
  pub whole : length bytes ≡ 4 * numbers_of h s p
  pub sums : points_of (part h s (numbers_in bytes)) ≡ p
  pub placed : first_fault (number_checks misplaced Coord (starts_from h s) (part (starts_from h s) (2 * s) (numbers_in bytes))) ≡ Fine
  pub counts : s ≤ rooms.counts
  pub starts : 2 * s ≤ rooms.starts
  pub deltas : 2 * p ≤ rooms.deltas
  pub coefficients : 128 * s ≤ rooms.coefficients

-- the four parts stand in front
pub record Loaded (ns : List ℕ) (h s p : ℕ) (n n' : List ℕ) (f f' : List Float) (d d' c c' : List ℤ) : Type 0 where
  pub counts : Front (part h s ns) n n'
  pub starts : Front (map start_in (part (starts_from h s) (2 * s) ns)) f f'
  pub deltas : Front (map signed_in (part (deltas_from h s) (2 * p) ns)) d d'
  pub coefficients : Front (map signed_in (part (coefficients_from h s p) (128 * s) ns)) c c'
