-- A small file, byte by byte, and what it says: one spline with no point, whose start is -3 and -8388608.
use Rattle.std.specs.Prelude.{List, [], ◌∷◌, ◌++◌, ℕ, replicate}
use Rattle.list.specs.List.{ListRooms}

abbrev pub small_header : List ℕ
small_header =
    1 ∷ 0 ∷ 0 ∷ 0 ∷ 1 ∷ 0 ∷ 0 ∷ 0 ∷ 0 ∷ 0 ∷ 0 ∷ 0 ∷ 248 ∷ 255 ∷ 255 ∷ 255
    ∷ 32 ∷ 0 ∷ 0 ∷ 0 ∷ 36 ∷ 0 ∷ 0 ∷ 0 ∷ 44 ∷ 0 ∷ 0 ∷ 0 ∷ 44 ∷ 0 ∷ 0 ∷ 0 ∷ []

-- the header (adjustment -8), the count 0, the start's two numbers, and 128 coefficients of 0
abbrev pub small_file : List ℕ
small_file = small_header ++ (0 ∷ 0 ∷ 0 ∷ 0 ∷ 253 ∷ 255 ∷ 255 ∷ 255 ∷ 0 ∷ 0 ∷ 128 ∷ 255 ∷ replicate 512 0)

-- room for just this
abbrev pub small_rooms : ListRooms
small_rooms = record { counts = 1; starts = 2; deltas = 0; coefficients = 128 }
