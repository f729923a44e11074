-- What the judging of a file of version 2 speaks of.
use Rattle.std.specs.Prelude.{◌≡◌, List, ℕ, ◌≤◌, length, get_or}
use Rattle.little.specs.Little.{numbers_in}

-- a file says version 2: it has the first eight numbers, and the first of them is 2
pub record Second (bytes : List ℕ) : Type 0 where
  pub long : 32 ≤ length bytes
  pub two : get_or (numbers_in bytes) 0 0 ≡ 2
