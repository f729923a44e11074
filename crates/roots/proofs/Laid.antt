-- The numbers that `root_above` works out from the digits m and the place e. The digits are moved to 47 or 48 of them, so that their place is even.
use mathlib.Core.Path.{◌≡◌, sym, ap, ◌∙◌, subst}
use mathlib.Core.Bool.{Bool, false}
use Prim.Native.Nat.{ℕ, suc, ◌+◌, ◌-◌, ◌*◌, ◌/◌, ◌%◌, ◌^◌, ◌≤◌, ◌<◌}
use native.Mathlib.Nat.{le_trans, le_of_eq, lt_of_lt_of_le, lt_of_le_of_lt, mul_assoc, mul_right_comm, mul-le-mul_right, eq_of_mul-eq-mul_right}
use native.Mathlib.Omega.{arith}
use lib.Count.{count_leading_zeros, leading_top}
use lib.Dec.{T}
use lib.IntN.{pos}
use lib.Pow.{pow-add, pow_pos, pow_mono, shl_lt, shl_exact}
use lib.Ieee.{Float, nan, inf, fin, binary32, up, down, mul, of_int}
use lib.Ieee.Exact.{HasValue}
use lib.Ieee.Positive.{positive}
use Rattle.to_f32.specs.Digits.{Split, Power}
use Rattle.roots.specs.Root.{nearest_root, sqrt_of}
use Rattle.roots.proofs.RootOf.{made, sqrt_at, q_le}
use Rattle.numbers.proofs.Powers.{pow_lt_back}

pub revalue : (x : Float) (s : Bool) (a c b d : ℕ) → 0 < c → HasValue x s a c → a * d ≡ b * c → HasValue x s b d
revalue nan s a c b d C v e = v
revalue (inf t) s a c b d C v e = v
revalue (fin t m k) s a c b d C v e =
    (v.0, eq_of_mul-eq-mul_right c C (m * up k * d) (b * down k) (mul_right_comm (m * up k) d c ∙ ap (λ (z : ℕ). z * d) v.1 ∙ mul_right_comm a (down k) d ∙ ap (λ (z : ℕ). z * down k) e ∙ mul_right_comm b c (down k)))

abbrev pub h_of : ℕ → ℕ → ℕ
h_of e z = e + 166 - z

abbrev pub t_of : ℕ → ℕ → ℕ
t_of e z = z - 17 + h_of e z % 2

module _ (x : Float) (m e : ℕ) (S : Split binary32 x m e) where
  abbrev z : ℕ
  z = count_leading_zeros 64 m

  top : (j : ℕ) × (count_leading_zeros 64 m + suc j ≡ 64) × (2 ^ j ≤ m) × (m < 2 ^ suc j)
  top = leading_top 64 m S.some (lt_of_lt_of_le S.small (pow_mono (go)))
    where
      go : 24 ≤ 64
      go = omega arith

  j_lt : top.0 < 24
  j_lt = pow_lt_back top.0 24 (lt_of_le_of_lt top.2 S.small)

  pub z_lo : 40 ≤ count_leading_zeros 64 m
  z_lo = go (count_leading_zeros 64 m) top.0 top.1 j_lt
    where
      go : (z j : ℕ) → z + suc j ≡ 64 → j < 24 → 40 ≤ z
      go z j a b = omega arith

  pub z_hi : count_leading_zeros 64 m ≤ 63
  z_hi = go (count_leading_zeros 64 m) top.0 top.1
    where
      go : (z j : ℕ) → z + suc j ≡ 64 → z ≤ 63
      go z j a = omega arith

  abbrev t : ℕ
  t = t_of e (count_leading_zeros 64 m)

  abbrev w : ℕ
  w = h_of e (count_leading_zeros 64 m) / 2

  reach : 46 ≤ top.0 + t
  reach = go (count_leading_zeros 64 m) top.0 (h_of e (count_leading_zeros 64 m)) top.1
    where
      go : (z j h : ℕ) → z + suc j ≡ 64 → 46 ≤ j + (z - 17 + h % 2)
      go z j h a = omega arith

  over : suc top.0 + t ≤ 48
  over = go (count_leading_zeros 64 m) top.0 (h_of e (count_leading_zeros 64 m)) top.1 z_lo
    where
      go : (z j h : ℕ) → z + suc j ≡ 64 → 40 ≤ z → suc j + (z - 17 + h % 2) ≤ 48
      go z j h a b = omega arith

  exact : m * 2 ^ t_of e (count_leading_zeros 64 m) % 2 ^ 64 ≡ m * 2 ^ t_of e (count_leading_zeros 64 m)
  exact = shl_exact (suc top.0) t 64 top.3 (go (suc top.0 + t) over)
    where
      go : (a : ℕ) → a ≤ 48 → a ≤ 64
      go a h = omega arith

  n_lo : 2 ^ 46 ≤ m * 2 ^ t
  n_lo = le_trans (pow_mono reach) (le_trans (le_of_eq (pow-add 2 top.0 t)) (mul-le-mul_right (2 ^ t) top.2))

  n_hi : m * 2 ^ t < 2 ^ 48
  n_hi = lt_of_lt_of_le (shl_lt (suc top.0) t top.3) (pow_mono over)

  -- the code's number is what 64 bits keep of it, which is all
  pub moved_lt : m * 2 ^ t_of e (count_leading_zeros 64 m) % 2 ^ 64 < 2 ^ 48
  moved_lt = subst (λ (n : ℕ). n < 2 ^ 48) (sym exact) n_hi

  nearest_is : (q : ℕ) → q ≡ nearest_root (m * 2 ^ t % 2 ^ 64) → q ≡ nearest_root (m * 2 ^ t)
  nearest_is q h = h ∙ ap nearest_root exact

  pub root_le : (q : ℕ) → q ≡ nearest_root (m * 2 ^ t_of e (count_leading_zeros 64 m) % 2 ^ 64) → q ≤ 2 ^ 24
  root_le q h = subst (λ (r : ℕ). r ≤ 2 ^ 24) (sym (nearest_is q h)) (q_le binary32 (m * 2 ^ t) n_lo n_hi)

  sum : t + 2 * w ≡ e + 149
  sum = go (count_leading_zeros 64 m) e z_lo z_hi
    where
      go : (z e : ℕ) → 40 ≤ z → z ≤ 63 → z - 17 + (e + 166 - z) % 2 + 2 * ((e + 166 - z) / 2) ≡ e + 149
      go z e a b = omega arith

  pub w_lo : 23 ≤ h_of e (count_leading_zeros 64 m) / 2
  w_lo = go (count_leading_zeros 64 m) e z_hi
    where
      go : (z e : ℕ) → z ≤ 63 → 23 ≤ (e + 166 - z) / 2
      go z e b = omega arith

  pub w_hi : h_of e (count_leading_zeros 64 m) / 2 < 190
  w_hi = go (count_leading_zeros 64 m) e z_lo S.place
    where
      go : (z e : ℕ) → 40 ≤ z → e < 254 → (e + 166 - z) / 2 < 190
      go z e a b = omega arith

  same : m * 2 ^ e * 2 ^ 298 ≡ m * 2 ^ t * 2 ^ (2 * w) * 2 ^ 149
  same =
      mul_assoc m (2 ^ e) (2 ^ 298)
      ∙ ap (λ (k : ℕ). m * k) (sym (pow-add 2 e 298) ∙ ap (λ (k : ℕ). 2 ^ k) (go (t + 2 * w) e sum) ∙ pow-add 2 (t + 2 * w) 149 ∙ ap (λ (k : ℕ). k * 2 ^ 149) (pow-add 2 t (2 * w)))
      ∙ sym (mul_assoc m (2 ^ t * 2 ^ (2 * w)) (2 ^ 149))
      ∙ ap (λ (k : ℕ). k * 2 ^ 149) (sym (mul_assoc m (2 ^ t) (2 ^ (2 * w))))
    where
      go : (s e : ℕ) → s ≡ e + 149 → e + 298 ≡ s + 149
      go s e h = omega arith

  valued : HasValue x false (m * 2 ^ t * 2 ^ (2 * w)) (2 ^ 298)
  valued = revalue x false (m * 2 ^ e) (2 ^ 149) (m * 2 ^ t * 2 ^ (2 * w)) (2 ^ 298) (pow_pos 149) S.value same

  pub rooted :
      (q : ℕ) (s : Float)
      → q ≡ nearest_root (m * 2 ^ t_of e (count_leading_zeros 64 m) % 2 ^ 64)
      → T (positive x)
      → Power (h_of e (count_leading_zeros 64 m) / 2) s
      → mul binary32 (of_int binary32 (pos q)) s ≡ sqrt_of binary32 x
  rooted q s h p v =
      ap (λ (r : ℕ). mul binary32 (of_int binary32 (pos r)) s) (nearest_is q h)
      ∙ made binary32 (m * 2 ^ t) n_lo n_hi w s v.value
      ∙ sym (sqrt_at binary32 x (m * 2 ^ t * 2 ^ (2 * w)) p valued)

-- Assumes nothing.
