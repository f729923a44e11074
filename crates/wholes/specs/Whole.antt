-- Rust's `floor`, `ceil` and `round`: a float made whole, down, up, or to the nearest with a half away from zero. Definitions only, over the format.
-- The magnitude is the fraction n / d. Each rule says which whole number it becomes, and the sign stays, a zero's too.
use Rattle.std.specs.Prelude.{ℕ, ◌+◌, ◌-◌, ◌*◌, ◌/◌, Bool, cond, Float}
use Rattle.std.specs.Float.{nan, inf, fin, Format}
use Rattle.std.specs.Float.Ieee.{up, down, round}

abbrev pub cut : ℕ → ℕ → ℕ
cut n d = n / d

abbrev pub raised : ℕ → ℕ → ℕ
raised n d = (n + (d - 1)) / d

abbrev pub half : ℕ → ℕ → ℕ
half n d = (2 * n + d) / (2 * d)

-- the value with its magnitude n / d replaced by the whole number that the rule gives
unfoldable pub whole_by : Format → (Bool → ℕ → ℕ → ℕ) → Float → Float
whole_by f g nan = nan
whole_by f g (inf s) = inf s
whole_by f g (fin s m e) = round f s (g s (m * up e) (down e)) 1

-- the rule of each, by the sign
abbrev pub downward : Bool → ℕ → ℕ → ℕ
downward s n d = cond s (raised n d) (cut n d)

abbrev pub upward : Bool → ℕ → ℕ → ℕ
upward s n d = cond s (cut n d) (raised n d)

abbrev pub away : Bool → ℕ → ℕ → ℕ
away s n d = half n d

abbrev pub floor_of : Format → Float → Float
floor_of f x = whole_by f downward x

abbrev pub ceil_of : Format → Float → Float
ceil_of f x = whole_by f upward x

abbrev pub round_of : Format → Float → Float
round_of f x = whole_by f away x
