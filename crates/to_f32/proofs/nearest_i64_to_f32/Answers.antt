-- The magnitude's float with the sign of z.
use mathlib.Core.Path.{◌≡◌, ap, sym, ◌∙◌}
use mathlib.Core.Bool.{true, false}
use Prim.Native.Nat.{ℕ}
use lib.IntN.{ℤ, pos, nat_abs}
use lib.Ieee.{Float, binary32, neg, of_int}
use lib.Signed.{lt_z}
use mir.Facts.{to_z-of_z}
use mir.Syntax.{w64}
use mir.Val.{SFits, to_z, of_z}
use Rattle.numbers.proofs.Zero.{yes, no}
use Rattle.to_f32.proofs.Signed.{turned, kept}
use Rattle.to_f32.proofs.nearest_i64_to_f32.Goals as goal

-- z as the machine has it is z
module _ (z : ℤ) (fits : SFits w64 z) (m : ℕ) (a : Float) (size : m ≡ nat_abs (to_z w64 (of_z w64 z))) (is : a ≡ of_int binary32 (pos m)) where
  same : to_z w64 (of_z w64 z) ≡ z
  same = to_z-of_z {w = w64} {z = z} fits

  whole : a ≡ of_int binary32 (pos (nat_abs z))
  whole = is ∙ ap (λ n. of_int binary32 (pos n)) (size ∙ ap nat_abs same)

  minus : lt_z (to_z w64 (of_z w64 z)) (pos 0) ≡ true → neg a ≡ of_int binary32 z
  minus h = ap neg whole ∙ turned binary32 z (yes (ap (λ y. lt_z y (pos 0)) (sym same) ∙ h))

  plus : lt_z (to_z w64 (of_z w64 z)) (pos 0) ≡ false → a ≡ of_int binary32 z
  plus h = whole ∙ kept binary32 z (no (ap (λ y. lt_z y (pos 0)) (sym same) ∙ h))

pub returns-then-z-lt0 : goal.returns-then-z-lt0
returns-then-z-lt0 c = minus c.args.z c.ranges.z _ _ c.unsigned_abs.ensures.value c.nearest_u64_to_f32-a.ensures c.if-z-lt0.true

pub returns-else-z-lt0 : goal.returns-else-z-lt0
returns-else-z-lt0 c = plus c.args.z c.ranges.z _ _ c.unsigned_abs.ensures.value c.nearest_u64_to_f32-a.ensures c.if-z-lt0.false
