-- Magnitude and sign by the code's comparisons: each case of a float is computed.
use mathlib.Core.Path.{◌≡◌, refl, sym, ap, ◌∙◌}
use mathlib.Core.Bool.{Bool, true, false, not, true≢false}
use Prim.Native.Nat.{ℕ, zero, suc, ◌*◌}
use native.Mathlib.Nat.{zero-mul}
use lib.Dec.{T, T_not, not_T}
use lib.IntN.{ℤ, pos}
use lib.Ieee.{Float, nan, inf, fin, binary32, up, down, fits, is_nan, neg, div, lt, eq, ne}
use lib.Ieee.Bits.{is_true, is_false}
use lib.Ieee.Back.{whole_unique}
use lib.Ieee.Compare.{differs_from_itself, nan_differs}
use Rattle.numbers.proofs.Zero.{yes, null, under, not_under, zero_is, not_zero}
use Rattle.numbers.specs.Magnitude.{abs_of, sign_of, with_sign}

-- ---- a NaN
pub nan_yes : (x : Float) → ne x x ≡ true → is_nan x ≡ true
unfolding is_nan
nan_yes x h = ap is_nan (differs_from_itself x (yes h))

pub nan_no : (x : Float) → ne x x ≡ false → is_nan x ≡ false
unfolding is_nan
nan_no nan h = absurd (true≢false (sym nan_differs ∙ h))
nan_no (inf s) h = refl
nan_no (fin s m e) h = refl

-- ---- the magnitude
pub abs_minus : (x : Float) → T (lt x null) → neg x ≡ abs_of x
unfolding lt neg abs_of
abs_minus nan a = absurd a
abs_minus (inf true) a = refl
abs_minus (inf false) a = absurd a
abs_minus (fin true m e) a = refl
abs_minus (fin false m e) a = absurd (not_under m e a)

-- ---- the sign
pub sign_null : (x : Float) → T (eq x null) → lt (div binary32 (fin false 1 (pos 0)) x) null ≡ sign_of x
unfolding eq lt div sign_of
sign_null nan a = absurd a
sign_null (inf s) a = absurd a
sign_null (fin true zero e) a = refl
sign_null (fin false zero e) a = refl
sign_null (fin s (suc m) e) a = absurd (not_zero s m e a)

pub sign_other : (x : Float) → T (not (eq x null)) → lt x null ≡ sign_of x
unfolding eq lt sign_of
sign_other nan a = refl
sign_other (inf true) a = refl
sign_other (inf false) a = refl
sign_other (fin s zero e) a = absurd (T_not (eq (fin s 0 e) null) a (zero_is s e))
sign_other (fin false (suc m) e) a = is_false (lt (fin false (suc m) e) null) (not_T (lt (fin false (suc m) e) null) (not_under (suc m) e))
sign_other (fin true (suc m) e) a = is_true (lt (fin true (suc m) e) null) (under m e)

pub signed_minus : (x : Float) → neg (abs_of x) ≡ with_sign true x
unfolding neg abs_of with_sign
signed_minus nan = refl
signed_minus (inf s) = refl
signed_minus (fin s m e) = refl

pub signed_plus : (x : Float) → abs_of x ≡ with_sign false x
unfolding abs_of with_sign
signed_plus nan = refl
signed_plus (inf s) = refl
signed_plus (fin s m e) = refl

-- Assumes nothing.
