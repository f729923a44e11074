-- Laws of decimal digits: a number below 10 is one digit, another has its last behind those of its tenth part.
use mathlib.Core.Path.{◌≡◌, refl, ap, ◌∙◌}
use mathlib.Core.Bool.{Bool, true, false, cond}
use mathlib.Core.List.{List, [], ◌∷◌, ◌++◌}
use Prim.Native.Nat.{ℕ, zero, suc, ◌+◌, ◌*◌, ◌/◌, ◌%◌, ◌≤◌, ◌<◌}
use native.Mathlib.Omega.{arith}
use lib.Dec.{ltb}
use lib.ListN.{length, length-append}
use borrow.Author.Tests.{lt-ltb, le-ltb, ltb-true, ltb-false}
use Rattle.polyline.specs.Write.{digits_by, digits_of}

-- tenth parts enough are tenth parts enough
by_enough : (k j n : ℕ) → n < k → n < j → digits_by k n ≡ digits_by j n
unfolding digits_by
by_enough zero j n h g = absurd (omega arith)
by_enough (suc k) zero n h g = absurd (omega arith)
by_enough (suc k) (suc j) n h g = go (ltb n 10) refl (λ e. by_enough k j (n / 10) (omega (arith, ltb-false n 10 e)) (omega (arith, ltb-false n 10 e)))
  where
    go : (t : Bool) → ltb n 10 ≡ t → (ltb n 10 ≡ false → digits_by k (n / 10) ≡ digits_by j (n / 10))
        → cond t ((48 + n) ∷ []) (digits_by k (n / 10) ++ ((48 + n % 10) ∷ [])) ≡ cond t ((48 + n) ∷ []) (digits_by j (n / 10) ++ ((48 + n % 10) ∷ []))
    go true e rest = refl
    go false e rest = rw (rest e)

pub digits_small : (n : ℕ) → n < 10 → digits_of n ≡ (48 + n) ∷ []
unfolding digits_of digits_by
digits_small n h = rw (lt-ltb n 10 h)

pub digits_large : (n : ℕ) → 10 ≤ n → digits_of n ≡ digits_of (n / 10) ++ ((48 + n % 10) ∷ [])
unfolding digits_of digits_by
digits_large n h =
    let e = by_enough n (suc (n / 10)) (n / 10) (omega arith) (omega arith) in
    rw (le-ltb n 10 h) (ap (λ (l : List ℕ). l ++ ((48 + n % 10) ∷ [])) e)

pub length_small : (n : ℕ) → n < 10 → length (digits_of n) ≡ 1
length_small n h = ap length (digits_small n h)

pub length_large : (n : ℕ) → 10 ≤ n → length (digits_of n) ≡ length (digits_of (n / 10)) + 1
length_large n h = ap length (digits_large n h) ∙ length-append (digits_of (n / 10)) ((48 + n % 10) ∷ [])

pub length_some : (n : ℕ) → 1 ≤ length (digits_of n)
length_some n = go (ltb n 10) refl
  where
    go : (t : Bool) → ltb n 10 ≡ t → 1 ≤ length (digits_of n)
    go true e = omega (arith, length_small n (ltb-true n 10 e))
    go false e = omega (arith, length_large n (ltb-false n 10 e))

-- no more digits than the power of ten above has noughts
abbrev pub ten : ℕ → ℕ
ten zero = 1
ten (suc k) = 10 * ten k

pub length_most : (k n : ℕ) → n < ten (suc k) → length (digits_of n) ≤ suc k
length_most zero n h = omega (arith, length_small n (omega arith))
length_most (suc k) n h = go (ltb n 10) refl (λ e. length_most k (n / 10) (omega arith))
  where
    go : (t : Bool) → ltb n 10 ≡ t → (ltb n 10 ≡ false → length (digits_of (n / 10)) ≤ suc k) → length (digits_of n) ≤ suc (suc k)
    go true e rest = omega (arith, length_small n (ltb-true n 10 e))
    go false e rest = omega (arith, length_large n (ltb-false n 10 e), rest e)

-- Assumes nothing.
