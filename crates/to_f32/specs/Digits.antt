-- A float as digits and their place. Definitions only.
use Rattle.std.specs.Prelude.{false, ℕ, ◌*◌, ◌^◌, ◌≤◌, ◌<◌, Float}
use Rattle.std.specs.Float.{Format, binary32}
use Rattle.std.specs.Float.Ieee.{prec, emax, low, hid}
use Rattle.std.specs.Float.Ieee.Exact.{HasValue}

-- x, finite and above zero, is m * 2 ^ e of the format's smallest values, and past the lowest place m has all its digits
pub record Split (f : Format) (x : Float) (m e : ℕ) : Type 0 where
  pub value : HasValue x false (m * 2 ^ e) (2 ^ low f)
  pub some : 0 < m
  pub small : m < 2 ^ prec f
  pub place : e < 2 * emax f
  pub full : 0 < e → hid f ≤ m

-- s is 2 ^ w of the smallest values of an f32
pub record Power (w : ℕ) (s : Float) : Type 0 where
  pub value : HasValue s false (2 ^ w) (2 ^ low binary32)
