-- The checks of a description that is to be written, but for the room.
-- They stand in list order, and the first that fails gives the answer's code and place.
use Rattle.std.specs.Prelude.{ℕ, ◌+◌, ◌*◌, ◌%◌, Bool, true, false, not, ◌&&◌, ◌||◌, List, [], ◌∷◌, ◌++◌, length, take, drop, ℤ, ◌==◌, from_bits, nat_le, nat_lt, Float}
use Rattle.std.specs.Float.{nan, inf, fin, binary32}
use Rattle.std.specs.Float.Ieee.{up, down, lt}
use Rattle.codes.specs.declared.Code.{Code}
use Rattle.codes.specs.declared.Code.TheVariants.{Splines, Coord, Points, Delta, Shape}
use Rattle.shape.specs.Shape.{shaped}
use Rattle.shape.specs.Description.{Description}
use Rattle.list.specs.List.{pos_limit, delta_limit, beyond}
use Rattle.write_judge.specs.Verdict.{Verdict}
use Rattle.write_judge.specs.Verdict.{Fine, Fault}

-- one check: whether it fails, and the code and the place that it then gives
pub data Check : Type 0 where
  check : Bool → Code → ℕ → Check

-- the first check that fails
unfoldable pub first_fault : List Check → Verdict
first_fault [] = Fine
first_fault (check true c p ∷ rest) = Fault c p
first_fault (check false c p ∷ rest) = first_fault rest

-- lengths disagree
unfoldable pub misshapen : List ℕ → List Float → List ℤ → List ℤ → Bool
misshapen counts starts deltas coefficients = not (shaped counts starts deltas coefficients)

-- no spline, or more than the limit
unfoldable pub miscounted : ℕ → ℕ → Bool
miscounted limit splines = splines == 0 || nat_lt limit splines

-- a number that is no start of the list: NaN, of magnitude 2^23 or more, not whole, or minus zero; `fin s m e` has the magnitude m * up e / down e
unfoldable pub unfit : Float → Bool
unfit nan = true
unfit (inf s) = true
unfit (fin s m e) = nat_le (pos_limit * down e) (m * up e) || (not (m * up e % down e == 0) || (s && m == 0))

-- the first start is not negative either
unfoldable pub unfit_as : Bool → Float → Bool
unfit_as true x = unfit x || lt x (from_bits binary32 0)
unfit_as false x = unfit x

-- the pairs of starts, with the place of the first of them: a pair is checked as one, at its x
unfoldable pub start_checks : Bool → ℕ → List Float → List Check
start_checks first place [] = []
start_checks first place (x ∷ []) = []
start_checks first place (x ∷ y ∷ starts) =
    check (unfit_as first x || unfit_as first y) Coord place ∷ start_checks false (place + 2) starts

-- pairs of double deltas, with the place of the first of them: none of magnitude 2^30 or more
unfoldable pub delta_checks : ℕ → List ℤ → List Check
delta_checks place [] = []
delta_checks place (x ∷ []) = []
delta_checks place (x ∷ y ∷ deltas) = check (beyond delta_limit x y) Delta place ∷ delta_checks (place + 2) deltas

-- the splines, with the points before them and the place of the first point count: a count, its double deltas, 128 coefficients
unfoldable pub spline_checks : ℕ → ℕ → ℕ → List ℕ → List ℤ → List Check
spline_checks limit total place [] deltas = []
spline_checks limit total place (n ∷ counts) deltas =
    check (nat_lt limit (total + n)) Points place
    ∷ delta_checks (place + 1) (take (2 * n) deltas) ++ spline_checks limit (total + n) (place + (2 * n + 129)) counts (drop (2 * n) deltas)

-- all but the room: the count is at 0, the starts from 1 on, then the adjustment, then the splines
unfoldable pub content_checks : List ℕ → List Float → List ℤ → List ℤ → ℕ → List Check
content_checks counts starts deltas coefficients limit =
    check (misshapen counts starts deltas coefficients) Shape 0
    ∷ check (miscounted limit (length counts)) Splines 0
    ∷ start_checks true 1 starts ++ spline_checks limit 0 (2 * length counts + 2) counts deltas

-- those of a description
abbrev pub checks_of : Description → ℕ → List Check
checks_of d limit = content_checks d.counts d.starts d.deltas d.coefficients limit
