-- The values of a description, and what the steps that put them speak of.
use Rattle.std.specs.Prelude.{◌≡◌, true, false, List, map, ℕ, ◌+◌, ◌-◌, ◌*◌, ◌^◌, ◌≤◌, ◌<◌, length, drop, get_or, ℤ, Float}
use Rattle.std.specs.Float.{nan}
use Rattle.std.specs.Float.Ieee.{to_signed}
use Rattle.shape.specs.Shape.{points_of}
use Rattle.shape.specs.Description.{Description}
use Rattle.list.specs.List.{described, list_of, starts_list}
use Rattle.write_judge.specs.Judge.{first_fault, start_checks}
use Rattle.write_judge.specs.Verdict.{Fine}

-- the whole number of a start
abbrev pub whole_of : Float → ℤ
whole_of x = to_signed 31 x

-- the values of a description
unfoldable pub values_of : List ℕ → List Float → List ℤ → List ℤ → ℤ → List ℕ
values_of counts starts deltas coefficients adjustment = list_of (described adjustment (map whole_of starts) counts deltas coefficients)

abbrev pub list_values : Description → ℤ → List ℕ
list_values d adjustment = values_of d.counts d.starts d.deltas d.coefficients adjustment

-- the values of the starts from i on, each a difference to the one before it
unfoldable pub later_list : List Float → ℕ → List ℕ
later_list starts i = starts_list false (whole_of (get_or starts (i - 2) nan)) (whole_of (get_or starts (i - 1) nan)) (map whole_of (drop i starts))

-- a description that was judged, and a list with room for it
pub record Writable (counts : List ℕ) (starts : List Float) (deltas coefficients : List ℤ) (room : ℕ) : Type 0 where
  pub some : 0 < length counts
  pub few : length counts < 2 ^ 32
  pub pairs : length starts ≡ 2 * length counts
  pub points : length deltas ≡ 2 * points_of counts
  pub rows : length coefficients ≡ 128 * length counts
  pub fit : first_fault (start_checks true 1 starts) ≡ Fine
  pub fits : 131 * length counts + length deltas + 2 ≤ room

abbrev pub CanBeWritten : Description → ℕ → Type 0
CanBeWritten d room = Writable d.counts d.starts d.deltas d.coefficients room
