-- The two versions of the trace file: version 2 has a ninth number in its header, the edition, so that its parts begin at byte 36. Version 1 has none and is of edition 1.
use Rattle.std.specs.Prelude.{Bool, not, ◌||◌, cond, List, [], ◌∷◌, ℕ, eqb, get_or}
use Rattle.trace.specs.Trace.{Layout, version1}

abbrev pub version2 : Layout
version2 = record { version = 2; header = 9 }

-- neither 1 nor 2: no version, and no edition
unfoldable pub unknown : ℕ → Bool
unknown n = not (eqb n 1 || eqb n 2)

-- the layout of a version
abbrev pub layout_of : ℕ → Layout
layout_of version = cond (eqb version 2) version2 version1

-- what the header of a version has behind its first eight numbers
abbrev pub more_of : ℕ → ℕ → List ℕ
more_of version edition = cond (eqb version 2) (edition ∷ []) []

-- how many numbers the header of a version has
abbrev pub header_long : ℕ → ℕ
header_long version = cond (eqb version 2) 9 8

-- the edition that the numbers of a file say
abbrev pub edition_in : List ℕ → ℕ
edition_in ns = cond (eqb (get_or ns 0 0) 2) (get_or ns 8 0) 1
