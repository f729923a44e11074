-- What `write` says of small descriptions, computed: a list, and each code at its place.
use mathlib.Core.Path.{◌≡◌, refl}
use mathlib.Core.Bool.{true, false}
use mathlib.Core.List.{List, [], ◌∷◌, ◌++◌}
use Prim.Native.Nat.{ℕ}
use lib.ListN.{replicate}
use lib.IntN.{ℤ, pos, negsuc}
use lib.Ieee.{Float, nan, fin, lt, of_bits, to_signed}
use Rattle.codes.specs.declared.Code.TheVariants.{Splines, Coord, Points, Delta, Room, Shape}
use Rattle.shape.specs.Shape.{shaped}
use Rattle.writer.specs.Write.{first_fault, misshapen, miscounted, unfit, unfit_as, start_checks, delta_checks, spline_checks, content_checks, values_of, leaves, write_of}
use Rattle.writer.specs.WriteAnswer.{WriteAnswer, Done, Refused}

-- zeros for the coefficients of n splines
abbrev plain : ℕ → List ℤ
plain n = replicate n (pos 0)

-- the numbers 5 and 7
abbrev five : Float
five = fin false 5 (pos 0)

abbrev seven : Float
seven = fin false 7 (pos 0)

-- one spline at (5, 7) with one point and the adjustment -2, under a limit of 4, with a cell to spare
one_spline : write_of (1 ∷ []) (five ∷ seven ∷ []) (pos 1 ∷ negsuc 0 ∷ []) (plain 128) (negsuc 1) 4 8 136
    ≡ leaves (Done 135) ((0 ∷ 5 ∷ 7 ∷ 3 ∷ 1 ∷ 2 ∷ 1 ∷ replicate 128 0) ++ 0 ∷ [])
unfolding write_of values_of content_checks start_checks spline_checks delta_checks first_fault misshapen shaped miscounted unfit unfit_as lt of_bits to_signed
one_spline = refl

-- one cell short
one_short : write_of (1 ∷ []) (five ∷ seven ∷ []) (pos 1 ∷ negsuc 0 ∷ []) (plain 128) (negsuc 1) 4 8 134 ≡ leaves (Refused Room 134) (replicate 134 0)
unfolding write_of values_of content_checks start_checks spline_checks delta_checks first_fault misshapen shaped miscounted unfit unfit_as lt of_bits to_signed
one_short = refl

-- the answers alone, of one or two splines under a limit of 4, with a list of one cell
abbrev answer : List ℕ → List Float → List ℤ → List ℤ → WriteAnswer
answer ns ss ds cs = (write_of ns ss ds cs (pos 0) 4 8 1).answer

none : answer [] [] [] [] ≡ Refused Splines 0
unfolding write_of content_checks start_checks spline_checks delta_checks first_fault misshapen shaped miscounted
none = refl

lengths : answer (1 ∷ []) (five ∷ seven ∷ []) (pos 1 ∷ []) (plain 128) ≡ Refused Shape 0
unfolding write_of content_checks start_checks spline_checks delta_checks first_fault misshapen shaped miscounted
lengths = refl

-- minus zero, and a negative number as the first start; a negative number is a later one
minus_zero : answer (0 ∷ []) (fin true 0 (pos 0) ∷ seven ∷ []) [] (plain 128) ≡ Refused Coord 1
unfolding write_of content_checks start_checks spline_checks delta_checks first_fault misshapen shaped miscounted unfit unfit_as lt of_bits
minus_zero = refl

negative_first : answer (0 ∷ []) (five ∷ fin true 7 (pos 0) ∷ []) [] (plain 128) ≡ Refused Coord 1
unfolding write_of content_checks start_checks spline_checks delta_checks first_fault misshapen shaped miscounted unfit unfit_as lt of_bits
negative_first = refl

negative_later : answer (0 ∷ 0 ∷ []) (five ∷ seven ∷ five ∷ fin true 7 (pos 0) ∷ []) [] (plain 256) ≡ Refused Room 1
unfolding write_of values_of content_checks start_checks spline_checks delta_checks first_fault misshapen shaped miscounted unfit unfit_as lt of_bits to_signed
negative_later = refl

-- -2^23 is too far, a half is not whole, NaN is no number: each in the second start, at 3
too_far : answer (0 ∷ 0 ∷ []) (five ∷ seven ∷ five ∷ fin true 1 (pos 23) ∷ []) [] (plain 256) ≡ Refused Coord 3
unfolding write_of content_checks start_checks spline_checks delta_checks first_fault misshapen shaped miscounted unfit unfit_as lt of_bits
too_far = refl

half : answer (0 ∷ 0 ∷ []) (five ∷ seven ∷ fin false 1 (negsuc 0) ∷ five ∷ []) [] (plain 256) ≡ Refused Coord 3
unfolding write_of content_checks start_checks spline_checks delta_checks first_fault misshapen shaped miscounted unfit unfit_as lt of_bits
half = refl

no_number : answer (0 ∷ 0 ∷ []) (five ∷ seven ∷ nan ∷ five ∷ []) [] (plain 256) ≡ Refused Coord 3
unfolding write_of content_checks start_checks spline_checks delta_checks first_fault misshapen shaped miscounted unfit unfit_as lt of_bits
no_number = refl

-- five points in two splines: the second count stands at 6 + 2 * 2 + 129
too_many : answer (2 ∷ 3 ∷ []) (five ∷ seven ∷ five ∷ five ∷ []) (replicate 10 (pos 1)) (plain 256) ≡ Refused Points 139
unfolding write_of content_checks start_checks spline_checks delta_checks first_fault misshapen shaped miscounted unfit unfit_as lt of_bits
too_many = refl

-- a double delta of 2^30 in the second pair of the only spline
too_wild : answer (2 ∷ []) (five ∷ seven ∷ []) (pos 1 ∷ pos 1 ∷ pos 1 ∷ pos 1073741824 ∷ []) (plain 128) ≡ Refused Delta 7
unfolding write_of content_checks start_checks spline_checks delta_checks first_fault misshapen shaped miscounted unfit unfit_as lt of_bits
too_wild = refl

-- Assumes nothing.
