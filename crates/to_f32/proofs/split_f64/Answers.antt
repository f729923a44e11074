-- The pattern's field is 0 or not: the digits without or with the leading one.
use mathlib.Core.Path.{sym, subst}
use Prim.Native.Nat.{ℕ, ◌+◌, ◌/◌, ◌-◌}
use native.Mathlib.Omega.{arith}
use lib.Bits.{and_mask, mask_lt}
use lib.Ieee.{binary64, to_bits}
use Rattle.numbers.proofs.Zero.{yes, positive_is}
use Rattle.to_f32.specs.Digits.{Split}
use Rattle.to_f32.proofs.Pattern.{low_split, high_split}
use Rattle.to_f32.proofs.split_f64.Goals as goal

pub float_to_bits-b : goal.float_to_bits-b
float_to_bits-b c = positive_is c.args.x c.requires

pub overflow_add-result : goal.overflow_add-result
overflow_add-result c = omega (arith, mask_lt (to_bits binary64 c.args.x) 52)

pub returns-then-f-eq0 : goal.returns-then-f-eq0
returns-then-f-eq0 c =
    let x = c.args.x in
    subst (λ (d : ℕ). Split binary64 x d 0) (sym (and_mask (to_bits binary64 x) 52)) (low_split binary64 x (yes c.well_formed.0.1) c.requires c.if-f-eq0.true)

pub returns-else-f-eq0 : goal.returns-else-f-eq0
returns-else-f-eq0 c =
    let x = c.args.x in
    let b = to_bits binary64 x in
    subst (λ (d : ℕ). Split binary64 x (d + 4503599627370496) (b / 4503599627370496 - 1)) (sym (and_mask b 52))
    (high_split binary64 x (yes c.well_formed.0.1) c.requires c.if-f-eq0.false)
