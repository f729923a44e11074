-- `mul` meets its contract: two numbers of 32 bits have a product of 64.
use Prim.Native.Nat.{ℕ, ◌*◌, ◌≤◌}
use native.Mathlib.Nat.{mul-le-mul}
use native.Mathlib.Omega.{arith}
use mir.Syntax.{w64}
use mir.Val.{Fits}
use Rattle.roots.proofs.by_table.mul.Goals as goal

pub overflow_mul-result : goal.overflow_mul-result
overflow_mul-result c =
    let a : c.from.result ≤ 4294967295 = omega arith in
    let b : c.from-2.result ≤ 4294967295 = omega arith in
    go (c.from.result * c.from-2.result) (mul-le-mul a b)
  where
    go : (p : ℕ) → p ≤ 18446744065119617025 → Fits w64 p
    go p h = omega arith
