-- Laws of a byte's bits: a desk's bit by a remainder, and a byte with one bit changed.
use mathlib.Core.Path.{◌≡◌, refl, sym, ap, ◌∙◌}
use mathlib.Core.Bool.{Bool, true, false, cond}
use mathlib.Core.Logic.{◌⊎◌, inl, inr, ⊎_elim}
use Prim.Native.Nat.{ℕ, zero, suc, ◌+◌, ◌-◌, ◌*◌, ◌/◌, ◌%◌, ◌^◌, ◌<◌}
use native.Mathlib.Omega.{arith}
use lib.Dec.{eqb}
use lib.Pow.{shr-shr}
use Rattle.desks.specs.Desks.{bit_of}
use Rattle.desks.specs.Hide.{with_bit}

-- ---- the two bits by remainders

pub bit_first : (desk byte : ℕ) → desk ≡ 0 → bit_of desk byte ≡ eqb (byte % 2) 1
unfolding bit_of
bit_first desk byte e = rw e (let d : byte / 1 ≡ byte = omega arith in ap (λ (n : ℕ). eqb (n % 2) 1) d)

pub bit_second : (desk byte : ℕ) → desk ≡ 1 → bit_of desk byte ≡ eqb (byte / 2 % 2) 1
unfolding bit_of
bit_second desk byte e = rw e

-- ---- a byte with a bit as asked

pub with_first : (desk byte : ℕ) (hidden : Bool) → desk ≡ 0 → with_bit desk hidden byte ≡ byte - byte % 2 + cond hidden 1 0
unfolding with_bit
with_first desk byte hidden e = rw e (let d : byte / 1 ≡ byte = omega arith in rw d (omega arith))

pub with_second : (desk byte : ℕ) (hidden : Bool) → desk ≡ 1 → with_bit desk hidden byte ≡ byte - byte / 2 % 2 * 2 + cond hidden 2 0
unfolding with_bit
with_second desk byte hidden e = rw e

-- the same of a byte that was made
pub made_first : (desk byte : ℕ) (hidden : Bool) {m w : ℕ} → desk ≡ 0 → cond hidden 1 0 ≡ w → m ≡ byte - byte % 2 + w → m ≡ with_bit desk hidden byte
made_first desk byte hidden e p q = q ∙ ap (λ (w : ℕ). byte - byte % 2 + w) (sym p) ∙ sym (with_first desk byte hidden e)

pub made_second : (desk byte : ℕ) (hidden : Bool) {m w : ℕ} → desk ≡ 1 → cond hidden 2 0 ≡ w → m ≡ byte - byte / 2 % 2 * 2 + w → m ≡ with_bit desk hidden byte
made_second desk byte hidden e p q = q ∙ ap (λ (w : ℕ). byte - byte / 2 % 2 * 2 + w) (sym p) ∙ sym (with_second desk byte hidden e)

bit_at : (j m n : ℕ) → m / 2 ^ j % 2 ≡ n / 2 ^ j % 2 → bit_of j m ≡ bit_of j n
unfolding bit_of
bit_at j m n e = ap (λ (k : ℕ). eqb k 1) e

-- bit j of a number is bit 0 of the number without its first j bits
later : (i j m n : ℕ) → m / 2 ^ i ≡ n / 2 ^ i → m / 2 ^ (i + j) ≡ n / 2 ^ (i + j)
later i j m n e = sym (shr-shr m i j) ∙ ap (λ (k : ℕ). k / 2 ^ j) e ∙ shr-shr n i j

first_set : (hidden : Bool) (byte : ℕ) → bit_of 0 (byte - byte % 2 + cond hidden 1 0) ≡ hidden
first_set true byte = bit_first 0 _ refl ∙ (let e : (byte - byte % 2 + 1) % 2 ≡ 1 = omega arith in rw e)
first_set false byte = bit_first 0 _ refl ∙ (let e : (byte - byte % 2 + 0) % 2 ≡ 0 = omega arith in rw e)

second_set : (hidden : Bool) (byte : ℕ) → bit_of 1 (byte - byte / 2 % 2 * 2 + cond hidden 2 0) ≡ hidden
second_set true byte = bit_second 1 _ refl ∙ (let e : (byte - byte / 2 % 2 * 2 + 2) / 2 % 2 ≡ 1 = omega arith in rw e)
second_set false byte = bit_second 1 _ refl ∙ (let e : (byte - byte / 2 % 2 * 2 + 0) / 2 % 2 ≡ 0 = omega arith in rw e)

small : (hidden : Bool) (w : ℕ) → (cond hidden w 0 ≡ w) ⊎ (cond hidden w 0 ≡ 0)
small true w = inl refl
small false w = inr refl

either_desk : (desk : ℕ) → desk < 2 → (desk ≡ 0) ⊎ (desk ≡ 1)
either_desk zero h = inl refl
either_desk (suc zero) h = inr refl
either_desk (suc (suc n)) h = absurd (omega (arith, h))

-- the bit is as asked
pub bit_set : (desk : ℕ) (hidden : Bool) (byte : ℕ) → desk < 2 → bit_of desk (with_bit desk hidden byte) ≡ hidden
bit_set desk hidden byte h =
    ⊎_elim
    (λ e. ap (bit_of desk) (with_first desk byte hidden e) ∙ rw e (first_set hidden byte))
    (λ e. ap (bit_of desk) (with_second desk byte hidden e) ∙ rw e (second_set hidden byte))
    (either_desk desk h)

first_kept : (j : ℕ) (hidden : Bool) (byte : ℕ) → (j ≡ 0 → ⊥) → bit_of j (byte - byte % 2 + cond hidden 1 0) ≡ bit_of j byte
first_kept zero hidden byte n = absurd (n refl)
first_kept (suc j) hidden byte n = bit_at (suc j) _ _ (ap (λ (k : ℕ). k % 2) (rw (suc_first j) (later 1 j _ _ halves)))
  where
    halves : (byte - byte % 2 + cond hidden 1 0) / 2 ≡ byte / 2
    halves = ⊎_elim (λ e. rw e (omega arith)) (λ e. rw e (omega arith)) (small hidden 1)

    suc_first : (k : ℕ) → suc k ≡ 1 + k
    suc_first k = omega arith

second_kept : (j : ℕ) (hidden : Bool) (byte : ℕ) → (j ≡ 1 → ⊥) → bit_of j (byte - byte / 2 % 2 * 2 + cond hidden 2 0) ≡ bit_of j byte
second_kept zero hidden byte n = bit_first 0 _ refl ∙ ap (λ (k : ℕ). eqb k 1) low ∙ sym (bit_first 0 byte refl)
  where
    low : (byte - byte / 2 % 2 * 2 + cond hidden 2 0) % 2 ≡ byte % 2
    low = ⊎_elim (λ e. rw e (omega arith)) (λ e. rw e (omega arith)) (small hidden 2)
second_kept (suc zero) hidden byte n = absurd (n refl)
second_kept (suc (suc j)) hidden byte n = bit_at (suc (suc j)) _ _ (ap (λ (k : ℕ). k % 2) (rw (suc_second j) (later 2 j _ _ quarters)))
  where
    quarters : (byte - byte / 2 % 2 * 2 + cond hidden 2 0) / 4 ≡ byte / 4
    quarters = ⊎_elim (λ e. rw e (omega arith)) (λ e. rw e (omega arith)) (small hidden 2)

    suc_second : (k : ℕ) → suc (suc k) ≡ 2 + k
    suc_second k = omega arith

-- every other bit stays
pub bit_kept : (j desk : ℕ) (hidden : Bool) (byte : ℕ) → desk < 2 → (j ≡ desk → ⊥) → bit_of j (with_bit desk hidden byte) ≡ bit_of j byte
bit_kept j desk hidden byte h n =
    ⊎_elim
    (λ e. ap (bit_of j) (with_first desk byte hidden e) ∙ first_kept j hidden byte (λ p. n (p ∙ sym e)))
    (λ e. ap (bit_of j) (with_second desk byte hidden e) ∙ second_kept j hidden byte (λ p. n (p ∙ sym e)))
    (either_desk desk h)

-- Assumes nothing.
