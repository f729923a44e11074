-- What the steps below `trace_read2` speak of.
use Rattle.std.specs.Prelude.{Bool, not, ◌&&◌, List, ℕ, eqb, ltb, length, get_or}
use Rattle.little.specs.Little.{numbers_in}

-- a file says version 2: it has the first eight numbers, and the first of them is 2
abbrev pub second : List ℕ → Bool
second bytes = not (ltb (length bytes) 32) && eqb (get_or (numbers_in bytes) 0 0) 2
