-- The bits of a number below 2^31 stand for it as a signed number too, and a number up to 2^24 is a float exactly.
use mathlib.Core.Path.{sym, ap, subst}
use Prim.Native.Nat.{◌<◌, ◌^◌}
use native.Mathlib.Nat.{le_trans}
use native.Mathlib.Omega.{arith}
use lib.Dec.{T, lit≤}
use lib.IntN.{ℤ}
use lib.Ieee.{binary32, of_int, in_float}
use mir.Syntax.{w32}
use mir.Val.{hbits}
use mir.Facts.{to_z_pos}
use Rattle.numbers.proofs.Units.{castable}
use Rattle.blocks.proofs.float_of.Goals as goal

pub int_to_float-result : goal.int_to_float-result
int_to_float-result c =
    let n = c.args.n in
    let h : n < 2 ^ hbits w32 = omega arith in
    subst (λ (z : ℤ). T (in_float binary32 z)) (sym (to_z_pos w32 h)) (castable binary32 n (le_trans c.requires (lit≤ tt)))

pub returns : goal.returns
returns c =
    let n = c.args.n in
    let h : n < 2 ^ hbits w32 = omega arith in
    ap (of_int binary32) (to_z_pos w32 h)
