-- The owner of a segment is the number of the spline that made it. Definitions only.
use Rattle.std.specs.Prelude.{List, ℕ, ◌/◌, min, length, replicate}

-- how many segments so many numbers and so many owners have room for: eight numbers and an owner each, and at most 2^24
abbrev pub owned_room : ℕ → ℕ → ℕ
owned_room numbers owners = min (min (numbers / 8) owners) 16777216

-- the owners of what the spline k makes: its number, once for each
abbrev pub owners_of : {A : Type 0} → ℕ → List A → List ℕ
owners_of k own = replicate (length own) k
