-- The pattern's field is 0 or not: the digits without or with the leading one.
use mathlib.Core.Path.{◌≡◌, ◌∙◌, subst, sym}
use Prim.Native.Nat.{ℕ, ◌+◌, ◌/◌, ◌%◌, ◌-◌, ◌^◌}
use native.Mathlib.Omega.{arith}
use lib.Bits.{and_mask, mask_lt}
use lib.Ieee.{binary32, to_bits}
use Rattle.numbers.proofs.Zero.{yes, positive_is}
use Rattle.to_f32.specs.Digits.{Split}
use Rattle.to_f32.proofs.Pattern.{low_split, high_split}
use Rattle.roots.proofs.split_f32.Goals as goal

pub float_to_bits-b : goal.float_to_bits-b
float_to_bits-b c = positive_is c.args.x c.requires

pub overflow_add-result : goal.overflow_add-result
overflow_add-result c = omega (arith, mask_lt (to_bits binary32 c.args.x) 23)

pub returns-then-f-eq0 : goal.returns-then-f-eq0
returns-then-f-eq0 c =
    let x = c.args.x in
    let digits : c.from.result ≡ to_bits binary32 x % 2 ^ 23 = c.from.ensures ∙ and_mask (to_bits binary32 x) 23 in
    subst (λ (d : ℕ). Split binary32 x d 0) (sym digits) (low_split binary32 x (yes c.well_formed.0.1) c.requires c.if-f-eq0.true)

pub returns-else-f-eq0 : goal.returns-else-f-eq0
returns-else-f-eq0 c =
    let x = c.args.x in
    let b = to_bits binary32 x in
    let digits : c.from-else-f-eq0.result ≡ b % 2 ^ 23 = c.from-else-f-eq0.ensures ∙ and_mask b 23 in
    subst (λ (d : ℕ). Split binary32 x (d + 8388608) (b / 8388608 - 1)) (sym digits) (high_split binary32 x (yes c.well_formed.0.1) c.requires c.if-f-eq0.false)
