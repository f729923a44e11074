-- The guess is taken only if it passes the test that defines the whole root.
use Prim.Native.Nat.{ℕ, ◌*◌, ◌≤◌}
use native.Mathlib.Nat.{le_of_lt}
use native.Mathlib.Omega.{arith}
use mir.Syntax.{w64}
use mir.Val.{Fits}
use Rattle.roots.proofs.Roots.{product_fits}
use Rattle.roots.proofs.whole_root.Goals as goal

pub overflow_mul-g : goal.overflow_mul-g
overflow_mul-g c = go (c.guess_root-g.result * c.guess_root-g.result) (product_fits c.guess_root-g.result (le_of_lt c.guess_root-g.ensures))
  where
    go : (p : ℕ) → p ≤ 281474976710656 → Fits w64 p
    go p h = omega arith
