-- What putting a trace file speaks of.
use Rattle.std.specs.Prelude.{◌≡◌, List, ◌++◌, map, ℕ, ◌*◌, ◌^◌, ◌≤◌, ◌<◌, length, ℤ, Float}
use Rattle.codes.specs.declared.Code.TheVariants.{Coord}
use Rattle.shape.specs.Shape.{points_of}
use Rattle.shape.specs.Description.{Description}
use Rattle.writer.specs.Write.{first_fault, whole_of}
use Rattle.write_judge.specs.Verdict.{Fine}
use Rattle.little.specs.Little.{unsigned_of}
use Rattle.trace.specs.Trace.{starts_from, coefficients_from, numbers_of, number_checks}
use Rattle.trace.specs.Write.{misfit}

-- the number that stands for a start
unfoldable pub start_number : Float → ℕ
start_number x = unsigned_of (whole_of x)

-- the numbers behind the header
unfoldable pub part_numbers : List ℕ → List Float → List ℤ → List ℤ → List ℕ
part_numbers counts starts deltas coefficients = counts ++ (map start_number starts ++ (map unsigned_of deltas ++ map unsigned_of coefficients))

abbrev pub parts_in : Description → List ℕ
parts_in d = part_numbers d.counts d.starts d.deltas d.coefficients

-- a description that was judged for a file with a header of h numbers, and so many bytes with room for it
pub record Puttable (h : ℕ) (d : Description) (room : ℕ) : Type 0 where
  pub short : h < 16
  pub few : length d.counts < 2 ^ 32
  pub fewer : points_of d.counts < 2 ^ 32
  pub offsets : 4 * coefficients_from h (length d.counts) (points_of d.counts) < 2 ^ 32
  pub pairs : length d.starts ≡ 2 * length d.counts
  pub points : length d.deltas ≡ 2 * points_of d.counts
  pub rows : length d.coefficients ≡ 128 * length d.counts
  pub fit : first_fault (number_checks misfit Coord (starts_from h (length d.counts)) d.starts) ≡ Fine
  pub held : 4 * numbers_of h (length d.counts) (points_of d.counts) ≤ room
