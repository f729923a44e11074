-- Rust's saturating sum and product of u64, and `FloorLog2` and `CeilLog2` of log2.rs. Definitions only.
use Rattle.std.specs.Prelude.{cond, ℕ, ◌+◌, ◌-◌, ◌*◌, ◌^◌, ◌≤◌, leb, eqb}
use Rattle.std.specs.Int.Bits.{bit_and}
use Rattle.std.specs.Int.Count.{count_leading_zeros}

-- n, and no more than the largest u64
abbrev pub at_most : ℕ → ℕ
at_most n = cond (leb n 18446744073709551615) n 18446744073709551615

unfoldable pub sat_add : ℕ → ℕ → ℕ
sat_add a b = at_most (a + b)

unfoldable pub sat_mul : ℕ → ℕ → ℕ
sat_mul a b = at_most (a * b)

unfoldable pub floor_log2 : ℕ → ℕ
floor_log2 n = 64 - count_leading_zeros 64 n - 1

-- as log2.rs has it; at 0, where the Rust has no answer, it is 0
unfoldable pub ceil_log2 : ℕ → ℕ
unfolding floor_log2
ceil_log2 n = cond (eqb (bit_and n (n - 1)) 0) (floor_log2 n) (floor_log2 n + 1)

-- its meaning: r is the least with n at most 2 ^ r
pub record IsLog (n r : ℕ) : Type 0 where
  pub reaches : n ≤ 2 ^ r
  pub least : (k : ℕ) → n ≤ 2 ^ k → r ≤ k
