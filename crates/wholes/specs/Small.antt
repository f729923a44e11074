-- What the steps to a whole number take, and what they make. Definitions only.
use Rattle.std.specs.Prelude.{◌≡◌, false, ℕ, ◌≤◌, pos, T, Float}
use Rattle.std.specs.Float.{fin}
use Rattle.std.specs.Float.Ieee.{lt}
use Rattle.std.specs.Float.Ieee.Positive.{num, den}

-- above 0 and below 2 ^ 23
pub record Small (a : Float) : Type 0 where
  pub over : T (lt (fin false 0 (pos 0)) a)
  pub under : T (lt a (fin false 1 (pos 23)))

-- r is what the rule makes of a's magnitude, and a float counts that far without a gap
pub record Made (g : ℕ → ℕ → ℕ) (a : Float) (r : ℕ) : Type 0 where
  pub is : r ≡ g (num a) (den a)
  pub most : r ≤ 8388608
