-- `spline_area_limit` of options.rs. Definitions only.
use Rattle.std.specs.Prelude.{ℕ, ◌^◌, min, Bool, true, false}
use Rattle.numbers.specs.Saturating.{sat_add, sat_mul}

-- for Level10 where the first is true, else for Level5
unfoldable pub spline_area_limit : Bool → ℕ → ℕ
spline_area_limit true area = min (sat_add (sat_mul 1024 area) (2 ^ 32)) (2 ^ 42)
spline_area_limit false area = min (sat_add (sat_mul 8 area) (2 ^ 25)) (2 ^ 30)
