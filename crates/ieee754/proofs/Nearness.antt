-- The root of a number of squares of the smallest value is the nearest value of the format, a tie to the even one; so of every value above zero, and of every whole number of 64 bits.
use mathlib.Core.Path.{◌≡◌, refl, sym, ap, ◌∙◌, subst}
use mathlib.Core.Bool.{false}
use Prim.Native.Nat.{ℕ, suc, ◌+◌, ◌-◌, ◌*◌, ◌/◌, ◌%◌, ◌^◌, ◌≤◌, ◌<◌, compare, Ordering}
use native.Mathlib.Nat.{le_trans, le_of_lt, le_of_eq, lt_irrefl, lt_of_lt_of_le, lt_of_le_of_lt, lt_of_not-le, le_of_suc-le-suc, mul_assoc, mul-mul-mul_comm, mul-le-mul, mul-le-mul_right, add-mul, le-div_iff_mul-le, div-lt_iff_lt-mul}
use native.Mathlib.Omega.{arith}
use lib.IntN.{nat_abs}
use lib.Dec.{T, lit≤}
use lib.Pow.{pow-add, pow_pos, pow_mono, pow-lt, shl_lt}
use lib.Ieee.{Float, Format, binary32, binary64, prec, emax, low, size, nearest, fits, to_bits, hid}
use lib.Ieee.Digits.{size-lt, size-le}
use lib.Ieee.Fits.{two, two-le_pos, nearest-le}
use lib.Ieee.Exact.{HasValue}
use lib.Ieee.Positive.{positive}
use Rattle.roots.specs.Root.{IsRoot, Nearest, root, nearest_root_at, root_of, root_of_whole, sqrt_of}
use Rattle.roots.specs.Length.{squares, length_of}
use Rattle.numbers.proofs.Order.{Cmp, cmp}
use Rattle.roots.proofs.Roots.{root_is, twice_square}
use Rattle.roots.proofs.RootOf.{square, square_back, sqrt_at, root_lt}
use Rattle.to_f32.proofs.Pattern.{digits_of, value}
use Rattle.roots.proofs.Laid.{revalue}
use Rattle.ieee754.proofs.Values.{in_range_lem}
use Rattle.ieee754.specs.Ieee754.{NearestRoot, SquareRoot, WholeRoot, Length}
use Rattle.ieee754.proofs.Grid.{Beside}
use Rattle.ieee754.proofs.NearestEven.{nearest_kept}

pub not_more : (a b : ℕ) → b * b ≤ a * a → b ≤ a
not_more a b h = le_of_suc-le-suc (square_back b (suc a) (lt_of_le_of_lt h (go a)))
  where
    go : (a : ℕ) → a * a < suc a * suc a
    go a = omega arith

module _ (f : Format) (N : ℕ) where
  abbrev k : ℕ
  k = size (root N) - prec f

  abbrev u : ℕ
  u = 2 ^ (size (root N) - prec f)

  abbrev q : ℕ
  q = root (N / 2 ^ (2 * (size (root N) - prec f)))

  i : IsRoot (N / 2 ^ (2 * k)) q
  i = root_is (N / 2 ^ (2 * k))

  scale : (a : ℕ) → a * u * (a * u) ≡ a * a * 2 ^ (2 * k)
  scale a = mul-mul-mul_comm a u a u ∙ ap (λ (z : ℕ). a * a * z) (sym (square k))

  lo : q * u * (q * u) ≤ N
  lo = le_trans (le_of_eq (scale q)) ((le-div_iff_mul-le (pow_pos (2 * k))).0 i.low)

  hi : N < (q + 1) * u * ((q + 1) * u)
  hi = lt_of_lt_of_le ((div-lt_iff_lt-mul (pow_pos (2 * k))).0 i.high) (le_of_eq (sym (scale (q + 1))))

  four : (C : ℕ) → (C + C) * (C + C) ≡ 4 * (C * C)
  four C = ap (λ (z : ℕ). z * z) (go C) ∙ twice_square C
    where
      go : (C : ℕ) → C + C ≡ 2 * C
      go C = omega arith

  scaled : (p q : ℕ) → p ≤ q → 4 * p ≤ 4 * q
  scaled p q h = omega arith

  -- twice the middle of q and q + 1
  middle : (2 * q + 1) * (2 * q + 1) * 2 ^ (2 * k) ≡ (q * u + (q + 1) * u) * (q * u + (q + 1) * u)
  middle = sym (scale (2 * q + 1)) ∙ ap (λ (z : ℕ). z * z) (ap (λ (z : ℕ). z * u) (go q) ∙ add-mul q (q + 1) u)
    where
      go : (q : ℕ) → 2 * q + 1 ≡ q + (q + 1)
      go q = omega arith

  -- where digits are dropped, q has all of them
  full : 0 < k → 2 ^ (prec f - 1) ≤ q
  full h = go (2 ^ (prec f - 1)) q (square_back (2 ^ (prec f - 1)) (q + 1) (lt_of_le_of_lt ((le-div_iff_mul-le (pow_pos (2 * k))).1 reach) i.high))
    where
      go : (p r : ℕ) → p < r + 1 → p ≤ r
      go p r h = omega arith

      many : (z p : ℕ) → 0 < z - p → 0 < p → z - 1 ≡ p - 1 + (z - p)
      many z p a b = omega arith

      some : (z p : ℕ) → 0 < z - p → z ≤ z - 1 → ⊥
      some z p a b = omega arith

      top : 2 ^ (prec f - 1) * u ≤ root N
      top = le_of_suc-le-suc (lt_of_not-le (λ (g : suc (root N) ≤ 2 ^ (prec f - 1) * u). some (size (root N)) (prec f) h (size-le (root N) (size (root N) - 1)
          (lt_of_lt_of_le g (le_of_eq (sym (pow-add 2 (prec f - 1) k) ∙ ap (λ (z : ℕ). 2 ^ z) (sym (many (size (root N)) (prec f) h (two-le_pos (prec f) (two f))))))))))

      reach : 2 ^ (prec f - 1) * 2 ^ (prec f - 1) * 2 ^ (2 * k) ≤ N
      reach = le_trans (le_of_eq (sym (scale (2 ^ (prec f - 1))))) (le_trans (mul-le-mul top top) (root_is N).low)

  few : root N < 2 ^ (prec f + k)
  few = lt_of_lt_of_le (size-lt (root N)) (pow_mono (go (size (root N)) (prec f)))
    where
      go : (z p : ℕ) → z ≤ p + (z - p)
      go z p = omega arith

  q_lt : q < 2 ^ prec f
  q_lt = lt_of_not-le (λ (g : 2 ^ prec f ≤ q). lt_irrefl (root N + 1) (lt_of_le_of_lt (go (root N) (2 ^ (prec f + k)) few)
      (lt_of_le_of_lt (le_trans (le_of_eq (pow-add 2 (prec f) k)) (mul-le-mul_right u g)) (square_back (q * u) (root N + 1) (lt_of_le_of_lt lo (root_is N).high)))))
    where
      go : (r p : ℕ) → r < p → r + 1 ≤ p
      go r p h = omega arith

  abbrev o : Ordering
  o = compare (4 * N) ((2 * q + 1) * (2 * q + 1) * 2 ^ (2 * k))

  fine : size (root N) ≤ low f + emax f → nearest q o * u < 2 ^ (low f + suc (emax f))
  fine h = lt_of_le_of_lt (mul-le-mul_right u (le_trans (nearest-le q o) q_lt)) (lt_of_le_of_lt (le_of_eq (sym (pow-add 2 (prec f) k))) (pow-lt (go f (size (root N)) h)))
    where
      go : (g : Format) (z : ℕ) → z ≤ low g + emax g → prec g + (z - prec g) < low g + suc (emax g)
      go binary32 z h = omega arith
      go binary64 z h = omega arith

  beside : (w : Ordering) (m : ℕ) → Cmp w (4 * N) m → Beside w (m ≤ 4 * N) (4 * N ≤ m)
  beside Ordering.lt m h = (λ g. lt_irrefl m (lt_of_le_of_lt g h), le_of_lt h)
  beside Ordering.eq m h = (le_of_eq (sym h), le_of_eq h)
  beside Ordering.gt m h = (le_of_lt h, λ g. lt_irrefl m (lt_of_lt_of_le h g))

  pub root_nearest : size (root N) ≤ low f + emax f → NearestRoot f N (root_of f N)
  unfolding root_of nearest_root_at
  root_nearest h = nearest_kept f false (λ (M : ℕ). M * M ≤ 4 * N) (λ (M : ℕ). 4 * N ≤ M * M) (λ a b h g. le_trans (mul-le-mul h h) g) (λ a b h g. le_trans g (mul-le-mul h h))
      (λ a b h g l. lt_irrefl a (lt_of_lt_of_le h (not_more a b (le_trans l g)))) q k
      (le_trans (le_of_eq (four (q * u))) (scaled (q * u * (q * u)) N lo))
      (le_trans (scaled N ((q + 1) * u * ((q + 1) * u)) (le_of_lt hi)) (le_of_eq (sym (four ((q + 1) * u)))))
      full q_lt o (subst (λ (m : ℕ). Beside o (m ≤ 4 * N) (4 * N ≤ m)) middle (beside o ((2 * q + 1) * (2 * q + 1) * 2 ^ (2 * k)) (cmp (4 * N) ((2 * q + 1) * (2 * q + 1) * 2 ^ (2 * k))))) (fine h)

-- ---- the theorems
root_digits : (f : Format) (n : ℕ) → n < 2 ^ (suc (emax f) + low f) → size (root (n * 2 ^ low f)) ≤ low f + emax f
root_digits f n h = size-le (root (n * 2 ^ low f)) (low f + emax f) (square_back (root (n * 2 ^ low f)) (2 ^ (low f + emax f))
    (lt_of_le_of_lt (root_is (n * 2 ^ low f)).low (lt_of_lt_of_le (shl_lt (suc (emax f) + low f) (low f) h) (le_trans (pow_mono (go f)) (le_of_eq (square (low f + emax f)))))))
  where
    go : (g : Format) → suc (emax g) + low g + low g ≤ 2 * (low g + emax g)
    go binary32 = lit≤ tt
    go binary64 = lit≤ tt

above : (f : Format) (x : Float) → T (fits f x) → T (positive x) → (n : ℕ) × HasValue x false n (2 ^ (2 * low f)) × NearestRoot f n (sqrt_of f x)
above f x F p =
    let n : ℕ = digits_of f (to_bits f x / hid f) (to_bits f x % hid f) * 2 ^ (to_bits f x / hid f - 1) in
    let v : HasValue x false n (2 ^ low f) = value f x F p in
    let N : ℕ = n * 2 ^ low f in
    let w : HasValue x false N (2 ^ (2 * low f)) = revalue x false n (2 ^ low f) N (2 ^ (2 * low f)) (pow_pos (low f)) v (ap (λ (z : ℕ). n * z) (square (low f)) ∙ sym (mul_assoc n (2 ^ low f) (2 ^ low f))) in
    (N, w, subst (λ (z : Float). NearestRoot f N z) (sym (sqrt_at f x N p w)) (root_nearest f N (root_digits f n (in_range_lem f x false n F v))))

-- no value of the format lies nearer
pub nearest_root_lem : (f : Format) (x : Float) → T (fits f x) → T (positive x) → Nearest f x (sqrt_of f x)
nearest_root_lem f x F p =
    let a = above f x F p in
    record { square = a.0; root = a.2.size; of = a.1; is = a.2.is; below = a.2.below; above = a.2.above }

pub square_root : (f : Format) → SquareRoot f
unfolding sqrt_of
square_root f = record { above = above f; zero = λ s. refl; below = λ m e. refl; infinity = refl; minus_infinity = refl; no_number = refl }

pub whole_root : (f : Format) → WholeRoot f
unfolding root_of_whole
whole_root f n h = root_nearest f (n * 2 ^ (2 * low f)) (size-le (root (n * 2 ^ (2 * low f))) (low f + emax f) (lt_of_lt_of_le (root_lt (n * 2 ^ (2 * low f)) (32 + low f) (lt_of_lt_of_le (shl_lt 64 (2 * low f) h) (pow_mono (go (low f))))) (pow_mono (go2 f))))
  where
    go : (l : ℕ) → 64 + 2 * l ≤ 2 * (32 + l)
    go l = omega arith

    go2 : (g : Format) → 32 + low g ≤ low g + emax g
    go2 binary32 = lit≤ tt
    go2 binary64 = lit≤ tt

pub length_root : Length
unfolding length_of
length_root x y g h = whole_root binary32 (squares (nat_abs x) (nat_abs y)) (go (nat_abs x * nat_abs x) (nat_abs y * nat_abs y) (mul-le-mul g g) (mul-le-mul h h))
  where
    go : (a b : ℕ) → a ≤ 4611686018427387904 → b ≤ 4611686018427387904 → a + b < 18446744073709551616
    go a b g h = omega arith

-- Assumes nothing.
