-- The pattern of the root of a normal f32, as numbers. Definitions only.
use Rattle.std.specs.Prelude.{ℕ, ◌+◌, ◌-◌, ◌*◌, ◌/◌, ◌%◌, ◌^◌}
use Rattle.roots.specs.Root.{nearest_root}

-- the number whose root has 24 digits: the 24 digits of the pattern, times 2 ^ 23 or 2 ^ 24 as the exponent's field is odd or even
abbrev pub whole_bits : ℕ → ℕ
whole_bits b = (b % 2 ^ 23 + 2 ^ 23) * 2 ^ (24 - b / 2 ^ 23 % 2)

-- the place of the root's last digit
abbrev pub place_bits : ℕ → ℕ
place_bits b = (b / 2 ^ 23 + 125) / 2

abbrev pub root_bits : ℕ → ℕ
root_bits b = place_bits b * 2 ^ 23 + nearest_root (whole_bits b)
