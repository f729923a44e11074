-- Only the bounds are shown: whatever the estimate, the cut is held below 2 ^ 24.
-- what is above a number is one itself
use mathlib.Core.Path.{sym, subst}
use mathlib.Core.Bool.{not}
use Prim.Native.Nat.{ℕ, ◌*◌, ◌<◌, ◌^◌, ◌%◌}
use native.Mathlib.Nat.{le_of_lt, lt_of_lt_of_le}
use native.Mathlib.Omega.{arith}
use lib.Dec.{T, lit≤}
use lib.IntN.{ℤ}
use lib.Ieee.{Float, nan, inf, fin, binary64, in_float, is_nan, lt}
use mir.Syntax.{w64}
use mir.Val.{Fits, hbits}
use mir.Facts.{to_z_pos}
use Rattle.numbers.proofs.Zero.{yes}
use Rattle.numbers.proofs.Units.{castable}
use Rattle.roots.proofs.Roots.{product_fits}
use Rattle.roots.proofs.guess_root.Goals as goal

above-is : (a x : Float) → T (lt a x) → T (not (is_nan x))
unfolding lt is_nan
above-is nan nan p = absurd p
above-is (inf s) nan p = absurd p
above-is (fin s m e) nan p = absurd p
above-is a (inf s) p = tt
above-is a (fin s m e) p = tt

pub int_to_float-u : goal.int_to_float-u
int_to_float-u c =
    let n = c.args.n in
    let h : n < 2 ^ hbits w64 = omega arith in
    subst (λ (z : ℤ). T (in_float binary64 z)) (sym (to_z_pos w64 h)) (castable binary64 n (le_of_lt (lt_of_lt_of_le c.requires (lit≤ tt))))

pub float_to_bits-g : goal.float_to_bits-g
float_to_bits-g c = above-is _ _ (yes c.if-w.true)

pub overflow_mul-g : goal.overflow_mul-g
overflow_mul-g c = go _
  where
    go : (b : ℕ) → Fits w64 (b % 16777216 * (b % 16777216))
    go b = omega (arith, product_fits (b % 16777216) (omega arith))
