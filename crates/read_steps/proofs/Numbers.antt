-- Coordinates as numbers: the test against 2^23. By cases on the signs.
use mathlib.Core.Path.{◌≡◌, refl, sym, subst, ◌∙◌}
use mathlib.Core.Bool.{Bool, true, false, ◌||◌}
use Prim.Native.Nat.{suc, ◌<◌, ◌^◌}
use native.Mathlib.Omega.{arith}
use lib.Dec.{T, leb}
use lib.IntN.{ℤ, pos, negsuc, nat_abs}
use lib.Signed.{mag}
use borrow.Author.Tests.{leb-false}
use Rattle.list.specs.List.{pos_limit, beyond}

near_mag : (z : ℤ) → leb pos_limit (nat_abs z) ≡ false → mag z < 2 ^ 23
near_mag (pos n) e = leb-false pos_limit n e
near_mag (negsuc n) e = omega (arith, leb-false pos_limit (suc n) e)

neither : (p q : Bool) → (p || q) ≡ false → (p ≡ false) × (q ≡ false)
neither false q e = (refl, e)
neither true q e = (e, absurd (subst T e tt))

-- coordinates that are not refused are small
pub not_far : (x y : ℤ) → beyond pos_limit x y ≡ false → (mag x < 2 ^ 23) × (mag y < 2 ^ 23)
not_far x y e =
    let h = neither (leb pos_limit (nat_abs x)) (leb pos_limit (nat_abs y)) e in
    (near_mag x h.0, near_mag y h.1)

-- what `far` said of coordinates that have passed through the machine's 64 bits
pub judge : {x y x' y' : ℤ} {far t : Bool} → x' ≡ x → y' ≡ y → far ≡ beyond pos_limit x' y' → far ≡ t → beyond pos_limit x y ≡ t
judge p q e i = rw (← p, ← q) (sym e ∙ i)

pub as_small : {x x' : ℤ} → x' ≡ x → mag x < 2 ^ 23 → mag x' < 2 ^ 23
as_small p h = rw p h

-- Assumes nothing.
