-- The numbers of a stored case's words. Definitions only.
use Rattle.std.specs.Prelude.{◌≡◌, cond, List, ℕ, ◌+◌, ◌*◌, ◌<◌, ◌≤◌, eqb, ℤ, length, get_or, Float}
use Rattle.std.specs.Float.{nan, binary32}
use Rattle.std.specs.Float.Ieee.{of_bits}
use Rattle.std.specs.Int.{w32}
use Rattle.std.proofs.Common.{to_z}

-- word k as a float's bits, as a two's complement, and as the lower half of a long number; a word past the last is 0
abbrev pub float_in : List ℕ → ℕ → Float
float_in words k = of_bits binary32 (get_or words k 0)

abbrev pub signed_in : List ℕ → ℕ → ℤ
signed_in words k = to_z w32 (get_or words k 0)

abbrev pub long_in : List ℕ → ℕ → ℕ
long_in words k = get_or words k 0 + 4294967296 * get_or words (k + 1) 0

-- the word of a refusal's number: POSITION where a double delta is too large, since spline.rs has DELTA for lists only
abbrev pub refusal_word : ℕ → ℕ
refusal_word number = cond (eqb number 5) 10 number

-- the values begin with the floats of the words
pub record Begins (values : List Float) (words : List ℕ) : Type 0 where
  pub long : length words ≤ length values
  pub same : (k : ℕ) → k < length words → get_or values k nan ≡ float_in words k

-- the values begin with the words themselves
pub record BeginsWith (values words : List ℕ) : Type 0 where
  pub long : length words ≤ length values
  pub same : (k : ℕ) → k < length words → get_or values k 0 ≡ get_or words k 0
