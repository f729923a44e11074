-- Signed values: packing and unpacking are inverse, and each stays in 32 bits. Every law goes by the cases even and odd, or by the sign.
use mathlib.Core.Path.{◌≡◌, refl, sym, ap, subst}
use mathlib.Core.Bool.{Bool, true, false, cond}
use Prim.Native.Nat.{ℕ, zero, suc, ◌+◌, ◌*◌, ◌/◌, ◌%◌, ◌<◌, ◌^◌}
use native.Mathlib.Nat.{zero-add, not-suc-le-zero}
use native.Mathlib.Omega.{arith}
use lib.Dec.{T, eqb, leb}
use lib.IntN.{ℤ, pos, negsuc, nat_abs, ◌-ℤ◌}
use lib.Signed.{lt_z}
use borrow.Author.Tests.{eq-eqb, ne_eqb, eqb-true, eqb-false, ltb-true, le-ltb, le-leb, lt-leb, leb-true, leb-false}
use mir.Syntax.{w32}
use mir.Val.{SFits, to_z, of_z}
use mir.Facts.{to_z-of_z}
use Rattle.list.specs.List.{unpack_signed, pack_signed}

-- ---- inverse

pub unpack_pack : (z : ℤ) → unpack_signed (pack_signed z) ≡ z
unpack_pack (pos n) = rw (eq-eqb ((2 * n) % 2) 0 (omega arith)) (ap pos (omega arith))
unpack_pack (negsuc n) = rw (ne_eqb ((2 * n + 1) % 2) 0 (λ e. omega arith)) (ap negsuc (omega arith))

pub pack_unpack : (u : ℕ) → pack_signed (unpack_signed u) ≡ u
pack_unpack u = go (eqb (u % 2) 0) refl
  where
    go : (even : Bool) → eqb (u % 2) 0 ≡ even → pack_signed (cond even (pos (u / 2)) (negsuc (u / 2))) ≡ u
    go true e = omega (arith, eqb-true (u % 2) 0 e)
    go false e = omega (arith, eqb-false (u % 2) 0 e)

-- ---- ranges

pub unpack_magnitude : (u : ℕ) → nat_abs (unpack_signed u) ≡ (u + 1) / 2
unpack_magnitude u = go (eqb (u % 2) 0) refl
  where
    go : (even : Bool) → eqb (u % 2) 0 ≡ even → nat_abs (cond even (pos (u / 2)) (negsuc (u / 2))) ≡ (u + 1) / 2
    go true e = omega (arith, eqb-true (u % 2) 0 e)
    go false e = omega (arith, eqb-false (u % 2) 0 e)

pub unpack_fits : (u : ℕ) → u < 2 ^ 32 → SFits w32 (unpack_signed u)
unpack_fits u h = go (eqb (u % 2) 0)
  where
    go : (even : Bool) → SFits w32 (cond even (pos (u / 2)) (negsuc (u / 2)))
    go true = record { sfits = omega arith }
    go false = record { sfits = omega arith }

pub pack_fits : (z : ℤ) → SFits w32 z → pack_signed z < 2 ^ 32
pack_fits (pos n) h = omega (arith, h.sfits)
pack_fits (negsuc n) h = omega (arith, h.sfits)

-- a magnitude of 2^30 or more, told by the value that was packed
pub delta_test : (u : ℕ) → leb 2147483647 u ≡ leb (2 ^ 30) (nat_abs (unpack_signed u))
delta_test u = rw (unpack_magnitude u) (go (leb 2147483647 u) refl)
  where
    go : (t : Bool) → leb 2147483647 u ≡ t → t ≡ leb (2 ^ 30) ((u + 1) / 2)
    go true e = sym (le-leb (2 ^ 30) ((u + 1) / 2) (omega (arith, leb-true 2147483647 u e)))
    go false e = sym (lt-leb (2 ^ 30) ((u + 1) / 2) (omega (arith, leb-false 2147483647 u e)))

-- ---- what the code computes

pub minus_half : (h : ℕ) → negsuc 0 -ℤ pos h ≡ negsuc h
minus_half zero = refl
minus_half (suc h) = rw zero-add refl

minus_negsuc : (k : ℕ) → negsuc 0 -ℤ negsuc k ≡ pos k
minus_negsuc k = rw (le-ltb (suc k) 1 (omega arith)) (ap pos (omega arith))

-- a number below 0
pub record Below (x : ℤ) : Type 0 where
  pub k : ℕ
  pub is : x ≡ negsuc k
  pub small : k < 2 ^ 31
  pub turned : negsuc 0 -ℤ to_z w32 (of_z w32 x) ≡ pos k

pub tested_below : (x : ℤ) → SFits w32 x → lt_z (to_z w32 (of_z w32 x)) (pos 0) ≡ true → Below x
tested_below x f e = go x f (rw (to_z-of_z {w = w32} {z = x} f) at e)
  where
    go : (x : ℤ) → SFits w32 x → lt_z x (pos 0) ≡ true → Below x
    go (pos n) f e = absurd (not-suc-le-zero (ltb-true n 0 e))
    go (negsuc n) f e = record { k = n; is = refl; small = f.sfits; turned = rw (to_z-of_z {w = w32} {z = negsuc n} f) (minus_negsuc n) }

-- a number of at least 0
pub record NotBelow (x : ℤ) : Type 0 where
  pub n : ℕ
  pub is : x ≡ pos n
  pub small : n < 2 ^ 31

pub not_below : (x : ℤ) → SFits w32 x → lt_z (to_z w32 (of_z w32 x)) (pos 0) ≡ false → NotBelow x
not_below x f e = go x f (rw (to_z-of_z {w = w32} {z = x} f) at e)
  where
    go : (x : ℤ) → SFits w32 x → lt_z x (pos 0) ≡ false → NotBelow x
    go (pos n) f e = record { n = n; is = refl; small = f.sfits }
    go (negsuc n) f e = absurd (subst T e tt)

-- Assumes nothing.
