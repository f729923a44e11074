-- Laws of numbers in bytes: each number by itself, what the steps compute, and that bytes and numbers give each other back.
use mathlib.Core.Path.{◌≡◌, refl, ap, ◌∙◌}
use mathlib.Core.Bool.{Bool, true, false, cond}
use mathlib.Core.List.{List, [], ◌∷◌, ◌++◌}
use Prim.Native.Nat.{ℕ, zero, suc, ◌+◌, ◌-◌, ◌*◌, ◌/◌, ◌%◌, ◌^◌, ◌≤◌, ◌<◌}
use native.Mathlib.Omega.{arith}
use lib.Dec.{ltb}
use lib.ListN.{length, get_or}
use lib.IntN.{ℤ, pos, negsuc}
use lib.Signed.{mag}
use borrow.Author.Tests.{lt-ltb, le-ltb, ltb-true, ltb-false}
use Rattle.little.specs.Little.{four_of, bytes_of, numbers_in, unsigned_of, signed_in, Bytes, Numbers}

-- ---- one number

-- number i is made of the four bytes from 4 * i on
pub number_is : (l : List ℕ) (i : ℕ) → 4 * i + 4 ≤ length l
    → get_or (numbers_in l) i 0 ≡ get_or l (4 * i) 0 + 256 * get_or l (4 * i + 1) 0 + 65536 * (get_or l (4 * i + 2) 0 + 256 * get_or l (4 * i + 3) 0)
unfolding numbers_in
number_is [] i h = absurd (omega arith)
number_is (a ∷ []) i h = absurd (omega arith)
number_is (a ∷ b ∷ []) i h = absurd (omega arith)
number_is (a ∷ b ∷ c ∷ []) i h = absurd (omega arith)
number_is (a ∷ b ∷ c ∷ d ∷ l) zero h = refl
number_is (a ∷ b ∷ c ∷ d ∷ l) (suc i) h =
    let p : 4 * suc i ≡ suc (suc (suc (suc (4 * i)))) = omega arith in
    let q1 : 4 * suc i + 1 ≡ suc (suc (suc (suc (4 * i + 1)))) = omega arith in
    let q2 : 4 * suc i + 2 ≡ suc (suc (suc (suc (4 * i + 2)))) = omega arith in
    let q3 : 4 * suc i + 3 ≡ suc (suc (suc (suc (4 * i + 3)))) = omega arith in
    rw (q1, q2, q3, p) (number_is l i (omega arith))

-- there are a fourth as many numbers as bytes
pub numbers_length : (l : List ℕ) → length (numbers_in l) ≡ length l / 4
unfolding numbers_in
numbers_length [] = refl
numbers_length (a ∷ []) = refl
numbers_length (a ∷ b ∷ []) = refl
numbers_length (a ∷ b ∷ c ∷ []) = refl
numbers_length (a ∷ b ∷ c ∷ d ∷ l) = ap suc (numbers_length l) ∙ omega arith

pub number_small : (l : List ℕ) (i : ℕ) → Bytes l → get_or (numbers_in l) i 0 < 2 ^ 32
unfolding numbers_in
number_small [] i h = omega arith
number_small (a ∷ []) i h = omega arith
number_small (a ∷ b ∷ []) i h = omega arith
number_small (a ∷ b ∷ c ∷ []) i h = omega arith
number_small (a ∷ b ∷ c ∷ d ∷ l) zero h = omega (arith, h.0, h.1.0, h.1.1.0, h.1.1.1.0)
number_small (a ∷ b ∷ c ∷ d ∷ l) (suc i) h = number_small l i h.1.1.1.1

-- ---- bytes and numbers give each other back

pub bytes_length : (ns : List ℕ) → length (bytes_of ns) ≡ 4 * length ns
unfolding bytes_of
bytes_length [] = refl
bytes_length (n ∷ ns) = ap (λ (k : ℕ). suc (suc (suc (suc k)))) (bytes_length ns) ∙ omega arith

pub bytes_append : (ms ns : List ℕ) → bytes_of (ms ++ ns) ≡ bytes_of ms ++ bytes_of ns
unfolding bytes_of
bytes_append [] ns = refl
bytes_append (m ∷ ms) ns = ap (λ (l : List ℕ). four_of m ++ l) (bytes_append ms ns)

four_back : (n : ℕ) → n < 2 ^ 32 → n % 256 + 256 * (n / 256 % 256) + 65536 * (n / 65536 % 256 + 256 * (n / 16777216 % 256)) ≡ n
four_back n h =
    let q = n / 256 in
    let r = n / 65536 in
    let s = n / 16777216 in
    let a : n ≡ n % 256 + 256 * q = omega arith in
    let b : q ≡ q % 256 + 256 * r = omega arith in
    let c : r ≡ r % 256 + 256 * s = omega arith in
    let d : s ≡ s % 256 = omega arith in
    joined n q r s (n % 256) (q % 256) (r % 256) (s % 256) a b c d
  where
    joined : (n q r s a b c d : ℕ) → n ≡ a + 256 * q → q ≡ b + 256 * r → r ≡ c + 256 * s → s ≡ d → a + 256 * b + 65536 * (c + 256 * d) ≡ n
    joined n q r s a b c d e f g h = omega arith

pub numbers_back : (ns : List ℕ) → Numbers ns → numbers_in (bytes_of ns) ≡ ns
unfolding bytes_of numbers_in
numbers_back [] h = refl
numbers_back (n ∷ ns) h = rw (four_back n h.0, numbers_back ns h.1)

low_byte : (a b c d : ℕ) → a < 256 → b < 256 → c < 256 → d < 256 → (a + 256 * b + 65536 * (c + 256 * d)) % 256 ≡ a
low_byte a b c d h g k j = omega arith

second_byte : (a b c d : ℕ) → a < 256 → b < 256 → c < 256 → d < 256 → (a + 256 * b + 65536 * (c + 256 * d)) / 256 % 256 ≡ b
second_byte a b c d h g k j = omega arith

third_byte : (a b c d : ℕ) → a < 256 → b < 256 → c < 256 → d < 256 → (a + 256 * b + 65536 * (c + 256 * d)) / 65536 % 256 ≡ c
third_byte a b c d h g k j = omega arith

high_byte : (a b c d : ℕ) → a < 256 → b < 256 → c < 256 → d < 256 → (a + 256 * b + 65536 * (c + 256 * d)) / 16777216 % 256 ≡ d
high_byte a b c d h g k j = omega arith

pub bytes_back : (l : List ℕ) (k : ℕ) → length l ≡ 4 * k → Bytes l → bytes_of (numbers_in l) ≡ l
unfolding bytes_of numbers_in
bytes_back [] k e h = refl
bytes_back (a ∷ []) k e h = absurd (omega arith)
bytes_back (a ∷ b ∷ []) k e h = absurd (omega arith)
bytes_back (a ∷ b ∷ c ∷ []) k e h = absurd (omega arith)
bytes_back (a ∷ b ∷ c ∷ d ∷ l) zero e h = absurd (omega arith)
bytes_back (a ∷ b ∷ c ∷ d ∷ l) (suc k) e h =
    rw (low_byte a b c d h.0 h.1.0 h.1.1.0 h.1.1.1.0, second_byte a b c d h.0 h.1.0 h.1.1.0 h.1.1.1.0, third_byte a b c d h.0 h.1.0 h.1.1.0 h.1.1.1.0, high_byte a b c d h.0 h.1.0 h.1.1.0 h.1.1.1.0, bytes_back l k (omega arith) h.1.1.1.1)

-- ---- signed numbers

pub signed_unsigned : (z : ℤ) → mag z < 2 ^ 31 → signed_in (unsigned_of z) ≡ z
signed_unsigned (pos n) h = rw (lt-ltb n (2 ^ 31) h)
signed_unsigned (negsuc n) h = rw (le-ltb (2 ^ 32 - suc n) (2 ^ 31) (omega arith)) (ap negsuc (omega arith))

pub unsigned_signed : (u : ℕ) → u < 2 ^ 32 → unsigned_of (signed_in u) ≡ u
unsigned_signed u h = go (ltb u (2 ^ 31)) refl
  where
    go : (t : Bool) → ltb u (2 ^ 31) ≡ t → unsigned_of (cond t (pos u) (negsuc (2 ^ 32 - suc u))) ≡ u
    go true e = refl
    go false e = omega arith

pub unsigned_small : (z : ℤ) → mag z < 2 ^ 31 → unsigned_of z < 2 ^ 32
unsigned_small (pos n) h = omega arith
unsigned_small (negsuc n) h = omega arith

pub signed_small : (u : ℕ) → u < 2 ^ 32 → mag (signed_in u) < 2 ^ 31
signed_small u h = go (ltb u (2 ^ 31)) refl
  where
    go : (t : Bool) → ltb u (2 ^ 31) ≡ t → mag (cond t (pos u) (negsuc (2 ^ 32 - suc u))) < 2 ^ 31
    go true e = ltb-true u (2 ^ 31) e
    go false e = omega (arith, ltb-false u (2 ^ 31) e)

-- Assumes nothing.
