-- The values of a format, counted in its smallest one: each is few digits at a place, so around a number that has more digits it is a multiple of 2 ^ k, or below all of those. And the last digit of a pattern.
use mathlib.Core.Path.{◌≡◌, refl, sym, ap, ◌∙◌, subst}
use mathlib.Core.Logic.{inl, inr}
use mathlib.Core.Bool.{Bool, true, false, not, ◌&&◌, cond}
use Prim.Native.Nat.{ℕ, zero, suc, ◌+◌, ◌-◌, ◌*◌, ◌/◌, ◌%◌, ◌^◌, ◌≤◌, ◌<◌, zero-le}
use native.Mathlib.Nat.{lt_irrefl, lt_of_not-le, mul_right_comm, mul-lt-mul_of_pos_right, lt_of_mul-lt-mul_right, le_of_mul-le-mul_right, le_trans, le_of_eq, lt_of_lt_of_le, lt_of_le_of_lt, eq-or-lt_of_le, zero-lt-suc, mul-one, mul_assoc, mul-le-mul_right, mul-div_cancel, eq_of_mul-eq-mul_right}
use native.Mathlib.Omega.{arith}
use lib.IntN.{ℤ, pos, negsuc}
use lib.Dec.{T, leb, ltb, eqb, leb→le, nleb→lt}
use lib.Pow.{pow-add, pow_pos, pow_mono, pow-lt, shl_lt}
use lib.Ieee.{Float, nan, inf, fin, Format, binary32, binary64, prec, emax, low, up, down, size, units, odd, fits, hid, top, to_bits}
use lib.Ieee.Digits.{size-lt, size-le, size_reaches}
use lib.Ieee.Fits.{two, two-le_pos, and_l, and_r, odd-fits, cond-fits, inf-fits}
use lib.Ieee.Exact.{HasValue, units_val}
use Rattle.wholes.proofs.Wholes.{digits, extent}
use Rattle.numbers.proofs.Powers.{pow_back}
use Rattle.numbers.proofs.Near.{size_is}
use Rattle.numbers.proofs.Unique.{pattern, bits_are}
use Rattle.ieee754.proofs.Grid.{Grid}

-- ---- a value that fits is m * 2 ^ j of the smallest ones, with few digits
low_place : (f : Format) (s : Bool) (m : ℕ) (e : ℤ) → T (fits f (fin s (suc m) e)) → down e ≤ 2 ^ low f
unfolding fits
low_place f s m e F =
    let a : Bool = eqb (suc m % 2) 1 && ltb (suc m) (2 ^ prec f) in
    leb→le (down e) (2 ^ low f) (and_r a (leb (down e) (2 ^ low f)) (and_l (a && leb (down e) (2 ^ low f)) (ltb (suc m * up e) (2 ^ suc (emax f) * down e)) F))

place : (f : Format) (y : Float) (s : Bool) (Y : ℕ) → T (fits f y) → HasValue y s Y (2 ^ low f) → (m : ℕ) × (j : ℕ) × (Y ≡ m * 2 ^ j) × (m < 2 ^ prec f)
place f nan t Y F v = absurd v
place f (inf s) t Y F v = absurd v
place f (fin s m (pos a)) t Y F v = (m, a + low f, sym (mul-one Y) ∙ sym v.1 ∙ mul_assoc m (2 ^ a) (2 ^ low f) ∙ ap (λ (z : ℕ). m * z) (sym (pow-add 2 a (low f))), digits f s m (pos a) F)
place f (fin s zero (negsuc a)) t Y F v = (0, 0, eq_of_mul-eq-mul_right (2 ^ suc a) (pow_pos (suc a)) Y (0 * 2 ^ 0) (sym v.1 ∙ go (2 ^ low f) (2 ^ suc a)), pow_pos (prec f))
  where
    go : (l d : ℕ) → 0 * 1 * l ≡ 0 * d
    go l d = omega arith
place f (fin s (suc m) (negsuc a)) t Y F v =
    let j = low f - suc a in
    let e : 2 ^ low f ≡ 2 ^ j * 2 ^ suc a = ap (λ (z : ℕ). 2 ^ z) (go (low f) (suc a) (pow_back (suc a) (low f) (low_place f s m (negsuc a) F))) ∙ pow-add 2 j (suc a) in
    (suc m, j, eq_of_mul-eq-mul_right (2 ^ suc a) (pow_pos (suc a)) Y (suc m * 2 ^ j) (sym v.1 ∙ ap (λ (z : ℕ). z * 2 ^ low f) (mul-one (suc m)) ∙ ap (λ (z : ℕ). suc m * z) e ∙ sym (mul_assoc (suc m) (2 ^ j) (2 ^ suc a))), digits f s (suc m) (negsuc a) F)
  where
    go : (l b : ℕ) → b ≤ l → l ≡ l - b + b
    go l b h = omega arith

-- and below the format's end
pub in_range_lem : (f : Format) (x : Float) (s : Bool) (n : ℕ) → T (fits f x) → HasValue x s n (2 ^ low f) → n < 2 ^ (suc (emax f) + low f)
in_range_lem f nan t n F v = absurd v
in_range_lem f (inf s) t n F v = absurd v
in_range_lem f (fin s m e) t n F v =
    lt_of_not-le (λ (g : 2 ^ (suc (emax f) + low f) ≤ n). lt_irrefl (n * down e) (lt_of_lt_of_le (lt_of_le_of_lt (le_of_eq (sym v.1)) (mul-lt-mul_of_pos_right (extent f s m e F) (pow_pos (low f))))
    (le_trans (le_of_eq (mul_right_comm (2 ^ suc (emax f)) (down e) (2 ^ low f) ∙ ap (λ (z : ℕ). z * down e) (sym (pow-add 2 (suc (emax f)) (low f))))) (mul-le-mul_right (down e) g))))

-- its digits q at the place k: all of them, where it is not the lowest place
pub record Normal (f : Format) (Y : ℕ) : Type 0 where
  pub q : ℕ
  pub k : ℕ
  pub is : Y ≡ q * 2 ^ k
  pub few : q < 2 ^ prec f
  pub full : 0 < k → 2 ^ (prec f - 1) ≤ q

pub normal : (f : Format) (y : Float) (s : Bool) (Y : ℕ) → T (fits f y) → HasValue y s Y (2 ^ low f) → Normal f Y
normal f y s Y F v = go (size Y - prec f) refl
  where
    p : (m : ℕ) × (j : ℕ) × (Y ≡ m * 2 ^ j) × (m < 2 ^ prec f)
    p = place f y s Y F v

    short : (z p : ℕ) → z - p ≡ 0 → z ≤ p
    short z p e = omega arith

    long : (z p i : ℕ) → z - p ≡ suc i → z ≡ p + suc i
    long z p i e = omega arith

    less : (p a b : ℕ) → p + a ≤ p + b → a ≤ b
    less p a b h = omega arith

    back : (k j : ℕ) → k ≤ j → j ≡ j - k + k
    back k j h = omega arith

    before : (p k z : ℕ) → 0 < p → z ≡ p + k → p - 1 + k < z
    before p k z h e = omega arith

    go : (k : ℕ) → size Y - prec f ≡ k → Normal f Y
    go zero e = record { q = Y; k = 0; is = sym (mul-one Y); few = lt_of_lt_of_le (size-lt Y) (pow_mono (short (size Y) (prec f) e)); full = λ h. absurd (lt_irrefl 0 h) }
    go (suc i) e =
        let k : ℕ = suc i in
        let j : ℕ = p.1 in
        let z : size Y ≡ prec f + k = long (size Y) (prec f) i e in
        let l : k ≤ j = less (prec f) k j (le_trans (le_of_eq (sym z)) (size-le Y (prec f + j) (lt_of_le_of_lt (le_of_eq p.2) (shl_lt (prec f) j p.3)))) in
        let w : Y ≡ p.0 * 2 ^ (j - k) * 2 ^ k = p.2 ∙ ap (λ (n : ℕ). p.0 * n) (ap (λ (n : ℕ). 2 ^ n) (back k j l) ∙ pow-add 2 (j - k) k) ∙ sym (mul_assoc p.0 (2 ^ (j - k)) (2 ^ k)) in
        record {
          q = p.0 * 2 ^ (j - k);
          k = k;
          is = w;
          few = lt_of_mul-lt-mul_right (2 ^ k) (lt_of_le_of_lt (le_of_eq (sym w)) (lt_of_lt_of_le (size-lt Y) (le_of_eq (ap (λ (n : ℕ). 2 ^ n) z ∙ pow-add 2 (prec f) k))));
          full = λ h. le_of_mul-le-mul_right (le_trans (le_of_eq (sym (pow-add 2 (prec f - 1) k))) (le_trans (size_reaches Y (prec f - 1 + k) (before (prec f) k (size Y) (two-le_pos (prec f) (two f)) z)) (le_of_eq w))) (pow_pos k);
        }

on_grid : (f : Format) (k m j : ℕ) → m < 2 ^ prec f → Grid (2 ^ k) (2 ^ (prec f - 1) * 2 ^ k) (m * 2 ^ j)
on_grid f k m j h = go (leb k j) (leb→le k j) (nleb→lt k j)
  where
    back : (k j : ℕ) → k ≤ j → j ≡ j - k + k
    back k j h = omega arith

    less : (p k j : ℕ) → 0 < p → j < k → p + j ≤ p - 1 + k
    less p k j a b = omega arith

    go : (t : Bool) → (T t → k ≤ j) → (T (not t) → j < k) → Grid (2 ^ k) (2 ^ (prec f - 1) * 2 ^ k) (m * 2 ^ j)
    go true a b = inl (m * 2 ^ (j - k), ap (λ (z : ℕ). m * z) (ap (λ (z : ℕ). 2 ^ z) (back k j (a tt)) ∙ pow-add 2 (j - k) k) ∙ sym (mul_assoc m (2 ^ (j - k)) (2 ^ k)))
    go false a b = inr (lt_of_lt_of_le (shl_lt (prec f) j h) (le_trans (pow_mono (less (prec f) k j (two-le_pos (prec f) (two f)) (b tt))) (le_of_eq (pow-add 2 (prec f - 1) k))))

-- ---- against a number that drops k digits and keeps q, which has all the others where it drops any
abbrev pub leading : ℕ → ℕ → ℕ
leading zero p = 0
leading (suc j) p = p

module _ (f : Format) (k q : ℕ) (full : 0 < k → 2 ^ (prec f - 1) ≤ q) where
  pub reach : leading k (2 ^ (prec f - 1)) * 2 ^ k ≤ q * 2 ^ k
  reach = go k full
    where
      go : (j : ℕ) → (0 < j → 2 ^ (prec f - 1) ≤ q) → leading j (2 ^ (prec f - 1)) * 2 ^ j ≤ q * 2 ^ j
      go zero h = mul-le-mul_right 1 zero-le
      go (suc j) h = mul-le-mul_right (2 ^ suc j) (h (zero-lt-suc j))

pub grid : (f : Format) (k : ℕ) (y : Float) (s : Bool) (Y : ℕ) → T (fits f y) → HasValue y s Y (2 ^ low f) → Grid (2 ^ k) (leading k (2 ^ (prec f - 1)) * 2 ^ k) Y
grid f zero y s Y F v = inl (Y, sym (mul-one Y))
grid f (suc j) y s Y F v =
    let p = place f y s Y F v in
    subst (λ (z : ℕ). Grid (2 ^ suc j) (2 ^ (prec f - 1) * 2 ^ suc j) z) (sym p.2) (on_grid f (suc j) p.0 p.1 p.3)

-- ---- a number of 2 ^ k units, as a value
module _ (f : Format) (s : Bool) (q k : ℕ) (few : q ≤ 2 ^ prec f) (fine : q * 2 ^ k < 2 ^ (low f + suc (emax f))) where
  pub units_held : T (fits f (units f s q k))
  unfolding units
  units_held = cond-fits f (ltb (q * 2 ^ k) (2 ^ (low f + suc (emax f)))) (odd (suc (prec f)) s q k (low f)) (inf s) (odd-fits f (suc (prec f)) s q k (lt_of_le_of_lt few (pow-lt (go (prec f)))) few fine) (inf-fits f s)
    where
      go : (p : ℕ) → p < suc p
      go p = omega arith

  bits : to_bits f (units f s q k) ≡ pattern f s (q * 2 ^ k)
  bits = bits_are f (units f s q k) s (q * 2 ^ k) (2 ^ low f) (pow_pos (low f)) (units_val f s q k fine) ∙ ap (λ (z : ℕ). pattern f s z) (mul-div_cancel (q * 2 ^ k) (pow_pos (low f)))

  -- the field and the sign weigh an even number
  weights : (g : Format) (t : Bool) (j r : ℕ) → (cond t (top g) 0 + j * hid g + r) % 2 ≡ r % 2
  weights binary32 true j r = go j r
    where
      go : (j r : ℕ) → (2147483648 + j * 8388608 + r) % 2 ≡ r % 2
      go j r = omega arith
  weights binary32 false j r = go j r
    where
      go : (j r : ℕ) → (0 + j * 8388608 + r) % 2 ≡ r % 2
      go j r = omega arith
  weights binary64 true j r = go j r
    where
      go : (j r : ℕ) → (9223372036854775808 + j * 4503599627370496 + r) % 2 ≡ r % 2
      go j r = omega arith
  weights binary64 false j r = go j r
    where
      go : (j r : ℕ) → (0 + j * 4503599627370496 + r) % 2 ≡ r % 2
      go j r = omega arith

  -- what the pattern keeps of q
  module _ (full : 0 < k → 2 ^ (prec f - 1) ≤ q) where
    abbrev kept : ℕ
    kept = q * 2 ^ k / 2 ^ (size (q * 2 ^ k) - prec f)

    at : (j w : ℕ) → size (q * 2 ^ k) - prec f ≡ j → q * 2 ^ k ≡ w * 2 ^ j → kept ≡ w
    at j w e h = ap (λ (z : ℕ). q * 2 ^ k / 2 ^ z) e ∙ ap (λ (z : ℕ). z / 2 ^ j) h ∙ mul-div_cancel w (pow_pos j)

    none : (j : ℕ) → j ≡ k → q < 2 ^ prec f → (0 < j → 2 ^ (prec f - 1) ≤ q) → size (q * 2 ^ k) - prec f ≡ k
    none zero e l h = ap (λ (z : ℕ). size (q * 2 ^ z) - prec f) (sym e) ∙ ap (λ (z : ℕ). size z - prec f) (mul-one q) ∙ go (size q) (prec f) (size-le q (prec f) l) ∙ e
      where
        go : (z p : ℕ) → z ≤ p → z - p ≡ 0
        go z p h = omega arith
    none (suc j) e l h =
        let p = prec f in
        let P : 0 < p = two-le_pos p (two f) in
        ap (λ (z : ℕ). z - p) (size_is (q * 2 ^ k) (p - 1 + k) (le_trans (le_of_eq (pow-add 2 (p - 1) k)) (mul-le-mul_right (2 ^ k) (h (zero-lt-suc j)))) (lt_of_lt_of_le (shl_lt p k l) (pow_mono (go2 p k P))))
        ∙ go p k P
      where
        go : (p k : ℕ) → 0 < p → suc (p - 1 + k) - p ≡ k
        go p k h = omega arith

        go2 : (p k : ℕ) → 0 < p → p + k ≤ suc (p - 1 + k)
        go2 p k h = omega arith

    all : q ≡ 2 ^ prec f → size (q * 2 ^ k) - prec f ≡ suc k
    all e =
        let p = prec f in
        let n : q * 2 ^ k ≡ 2 ^ (p + k) = ap (λ (z : ℕ). z * 2 ^ k) e ∙ sym (pow-add 2 p k) in
        ap (λ (z : ℕ). size z - p) n ∙ ap (λ (z : ℕ). z - p) (size_is (2 ^ (p + k)) (p + k) (le_of_eq refl) (pow-lt (go2 (p + k)))) ∙ go p k
      where
        go : (p k : ℕ) → suc (p + k) - p ≡ suc k
        go p k = omega arith

        go2 : (n : ℕ) → n < suc n
        go2 n = omega arith

    top_half : q ≡ 2 ^ prec f → q * 2 ^ k ≡ 2 ^ (prec f - 1) * 2 ^ suc k
    top_half e = ap (λ (z : ℕ). z * 2 ^ k) e ∙ sym (pow-add 2 (prec f) k) ∙ ap (λ (z : ℕ). 2 ^ z) (go (prec f) k (two-le_pos (prec f) (two f))) ∙ pow-add 2 (prec f - 1) (suc k)
      where
        go : (p k : ℕ) → 0 < p → p + k ≡ p - 1 + suc k
        go p k h = omega arith

    -- 2 ^ prec and its half are even
    powers_even : (g : Format) → 2 ^ (prec g - 1) % 2 ≡ 2 ^ prec g % 2
    powers_even binary32 = refl
    powers_even binary64 = refl

    kept_digit : kept % 2 ≡ q % 2
    kept_digit = elim (eq-or-lt_of_le few) [
      | inl e ↦ ap (λ (z : ℕ). z % 2) (at (suc k) (2 ^ (prec f - 1)) (all e) (top_half e)) ∙ powers_even f ∙ ap (λ (z : ℕ). z % 2) (sym e)
      | inr l ↦ ap (λ (z : ℕ). z % 2) (at k q (none k refl l full) refl)
    ]

    -- the last digit of the pattern is that of q
    pub last_digit : to_bits f (units f s q k) % 2 ≡ q % 2
    last_digit = ap (λ (z : ℕ). z % 2) bits ∙ weights f s (size (q * 2 ^ k) - prec f) kept ∙ kept_digit

-- Assumes nothing.
