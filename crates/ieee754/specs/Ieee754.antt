-- What IEEE 754 says of the numbers here, by its meaning: the nearest value with a tie to the even one, the root and the length, floor, ceil and R, and the conversions. Definitions only.
-- `fin s m e` is ±m * 2 ^ e, negative where s is true. `fits f x`: the format f has the value x. `HasValue x s a c`: x is finite, has the sign s, and is a / c in size.
use Rattle.std.specs.Prelude.{◌≡◌, Bool, true, false, cond, ℕ, suc, ◌+◌, ◌-◌, ◌*◌, ◌%◌, ◌^◌, ◌≤◌, ◌<◌, ℤ, pos, neg_ℤ, nat_abs, ◌+ℤ◌, ◌-ℤ◌, ◌*ℤ◌, ◌≤ℤ◌, ◌<ℤ◌, T, Float}
use Rattle.std.specs.Int.Signed.{lt_z}
use Rattle.std.specs.Float.{nan, inf, fin, Format, binary32}
use Rattle.std.specs.Float.Ieee.{prec, emax, low, up, down, fits, to_bits, of_int, to_signed, to_unsigned}
use Rattle.std.specs.Float.Ieee.Exact.{HasValue}
use Rattle.std.specs.Float.Ieee.Positive.{positive}
use Rattle.roots.specs.Root.{sqrt_of, root_of_whole}
use Rattle.roots.specs.Length.{squares, length_of}
use Rattle.wholes.specs.Whole.{floor_of, ceil_of, round_of}
use Rattle.to_f32.specs.Narrow.{narrow}
use Rattle.kinds.specs.Kind.{cut_i64, cut_i32, cut_u64}
use Rattle.kinds.specs.declared.Kind.TheVariants.{Exact, NotNumber, Below, Above}

-- ---- the nearest value, a tie to the even one

-- r is the value of the format f, with the sign s, that is nearest to a number; and where another value is as near, the last digit of r's pattern is 0.
-- All is counted in the format's smallest value: r is `size` of it. The number is known by its halves: `under M` says that M halves are at most the number, `over M` that they are at least it.
-- So the middle of r and a lesser value y lies at or below the number, and the middle of r and a greater one at or above it: no y is nearer. Where the middle is the number, the two are as near.
-- The values of the other sign lie beyond zero, which both signs have.
pub record NearestEven (f : Format) (s : Bool) (under over : ℕ → Type 0) (r : Float) : Type 0 where
  pub held : T (fits f r)
  pub size : ℕ
  pub is : HasValue r s size (2 ^ low f)
  pub below : (y : Float) (Y : ℕ) → T (fits f y) → HasValue y s Y (2 ^ low f) → Y < size → under (Y + size)
  pub above : (y : Float) (Y : ℕ) → T (fits f y) → HasValue y s Y (2 ^ low f) → size < Y → over (Y + size)
  pub even : (y : Float) (Y : ℕ) → T (fits f y) → HasValue y s Y (2 ^ low f) → (Y ≡ size → ⊥) → under (Y + size) → over (Y + size) → to_bits f r % 2 ≡ 0

-- nearest to the root of n, which counts squares of the smallest value: M halves are at most the root where M * M is at most 4 * n
abbrev pub NearestRoot : Format → ℕ → Float → Type 0
NearestRoot f n r = NearestEven f false (λ (M : ℕ). M * M ≤ 4 * n) (λ (M : ℕ). 4 * n ≤ M * M) r

-- nearest to the fraction ±a / c, which is a * 2 ^ low / c of the smallest values
abbrev pub NearestFraction : Format → Bool → ℕ → ℕ → Float → Type 0
NearestFraction f s a c r = NearestEven f s (λ (M : ℕ). M * c ≤ 2 * (a * 2 ^ low f)) (λ (M : ℕ). 2 * (a * 2 ^ low f) ≤ M * c) r

-- what is so near to a fraction, or to a root, is one value: the statements above leave no choice
pub record OneNearest (f : Format) : Type 0 where
  pub fraction : (s : Bool) (a c : ℕ) (r t : Float) → 0 < c → NearestFraction f s a c r → NearestFraction f s a c t → r ≡ t
  pub root : (n : ℕ) (r t : Float) → NearestRoot f n r → NearestRoot f n t → r ≡ t

-- half a step past the format's largest value: from there on a number has no nearest value, and an infinity stands for it
abbrev pub too_large : Format → ℕ
too_large f = (2 ^ suc (prec f) - 1) * 2 ^ (emax f - prec f)

-- ---- the root

-- The square root of every value of the format. A value above zero is n squares of the smallest value, and its root is the nearest value; either zero keeps its sign; below zero there is no number.
pub record SquareRoot (f : Format) : Type 0 where
  pub above : (x : Float) → T (fits f x) → T (positive x) → (n : ℕ) × HasValue x false n (2 ^ (2 * low f)) × NearestRoot f n (sqrt_of f x)
  pub zero : (s : Bool) → sqrt_of f (fin s 0 (pos 0)) ≡ fin s 0 (pos 0)
  pub below : (m : ℕ) (e : ℤ) → sqrt_of f (fin true (suc m) e) ≡ nan
  pub infinity : sqrt_of f (inf false) ≡ inf false
  pub minus_infinity : sqrt_of f (inf true) ≡ nan
  pub no_number : sqrt_of f nan ≡ nan

-- the root of a whole number of 64 bits is the nearest value
abbrev pub WholeRoot : Format → Type 0
WholeRoot f = (n : ℕ) → n < 2 ^ 64 → NearestRoot f (n * 2 ^ (2 * low f)) (root_of_whole f n)

-- The length of a difference of whole numbers: the f32 nearest to the root of x² + y², the exact sum.
abbrev pub Length : Type 0
Length = (x y : ℤ) → nat_abs x ≤ 2 ^ 31 → nat_abs y ≤ 2 ^ 31 → NearestRoot binary32 (squares (nat_abs x) (nat_abs y) * 2 ^ (2 * low binary32)) (length_of x y)

-- ---- floor, ceil and R

-- the whole number ±n
abbrev pub signed : Bool → ℕ → ℤ
signed s n = cond s (neg_ℤ (pos n)) (pos n)

-- r is the floor of the value x = ±m * 2 ^ e, which is the fraction signed s (m * up e) / down e: a whole number with x's sign, a zero's too, and r ≤ x < r + 1
pub record Floor (s : Bool) (m : ℕ) (e : ℤ) (r : Float) : Type 0 where
  pub size : ℕ
  pub is : HasValue r s size 1
  pub at_most : (signed s size *ℤ pos (down e)) ≤ℤ signed s (m * up e)
  pub within_one : signed s (m * up e) <ℤ ((signed s size +ℤ pos 1) *ℤ pos (down e))

-- its ceiling: r - 1 < x ≤ r
pub record Ceiling (s : Bool) (m : ℕ) (e : ℤ) (r : Float) : Type 0 where
  pub size : ℕ
  pub is : HasValue r s size 1
  pub at_least : signed s (m * up e) ≤ℤ (signed s size *ℤ pos (down e))
  pub within_one : ((signed s size -ℤ pos 1) *ℤ pos (down e)) <ℤ signed s (m * up e)

-- R of it, by the magnitude, since the sign stays: x is at most r and a half, r is at most x and a half, and where x is a whole number j and a half, r is j + 1, the one away from zero
pub record Round (s : Bool) (m : ℕ) (e : ℤ) (r : Float) : Type 0 where
  pub size : ℕ
  pub is : HasValue r s size 1
  pub x_within : 2 * (m * up e) ≤ (2 * size + 1) * down e
  pub r_within : 2 * size * down e ≤ 2 * (m * up e) + down e
  pub away : (j : ℕ) → 2 * (m * up e) ≡ (2 * j + 1) * down e → size ≡ j + 1

-- The three of every value of the format: again values of the format; an infinity and a NaN stay.
pub record WholeParts (f : Format) : Type 0 where
  pub floor : (s : Bool) (m : ℕ) (e : ℤ) → T (fits f (fin s m e)) → Floor s m e (floor_of f (fin s m e))
  pub ceil : (s : Bool) (m : ℕ) (e : ℤ) → T (fits f (fin s m e)) → Ceiling s m e (ceil_of f (fin s m e))
  pub round : (s : Bool) (m : ℕ) (e : ℤ) → T (fits f (fin s m e)) → Round s m e (round_of f (fin s m e))
  pub held : (x : Float) → T (fits f (floor_of f x)) × T (fits f (ceil_of f x)) × T (fits f (round_of f x))
  pub infinity : (s : Bool) → (floor_of f (inf s) ≡ inf s) × (ceil_of f (inf s) ≡ inf s) × (round_of f (inf s) ≡ inf s)
  pub no_number : (floor_of f nan ≡ nan) × (ceil_of f nan ≡ nan) × (round_of f nan ≡ nan)

-- ---- conversions

-- n is the magnitude of ±m * 2 ^ e without its fraction
pub record Cut (m : ℕ) (e : ℤ) (n : ℕ) : Type 0 where
  pub from : n * down e ≤ m * up e
  pub to : m * up e < (n + 1) * down e

-- k takes a float to the range from -2 ^ h to 2 ^ h - 1: the fraction is cut off, toward zero; what is then below or above the range, and a NaN, have answers of their own
pub record ToSigned {K : Type 0} (exact : ℤ → K) (notNumber below above : K) (h : ℕ) (k : Float → K) : Type 0 where
  pub plus : (m : ℕ) (e : ℤ) (n : ℕ) → Cut m e n → n < 2 ^ h → k (fin false m e) ≡ exact (pos n)
  pub minus : (m : ℕ) (e : ℤ) (n : ℕ) → Cut m e n → n ≤ 2 ^ h → k (fin true m e) ≡ exact (neg_ℤ (pos n))
  pub over : (m : ℕ) (e : ℤ) (n : ℕ) → Cut m e n → 2 ^ h ≤ n → k (fin false m e) ≡ above
  pub under : (m : ℕ) (e : ℤ) (n : ℕ) → Cut m e n → 2 ^ h < n → k (fin true m e) ≡ below
  pub infinity : k (inf false) ≡ above
  pub minus_infinity : k (inf true) ≡ below
  pub no_number : k nan ≡ notNumber

-- the same of the range from 0 to 2 ^ w - 1: what is above -1 has nothing left of it to be below
pub record ToUnsigned {K : Type 0} (exact : ℕ → K) (notNumber below above : K) (w : ℕ) (k : Float → K) : Type 0 where
  pub plus : (m : ℕ) (e : ℤ) (n : ℕ) → Cut m e n → n < 2 ^ w → k (fin false m e) ≡ exact n
  pub minus : (m : ℕ) (e : ℤ) → Cut m e 0 → k (fin true m e) ≡ exact 0
  pub over : (m : ℕ) (e : ℤ) (n : ℕ) → Cut m e n → 2 ^ w ≤ n → k (fin false m e) ≡ above
  pub under : (m : ℕ) (e : ℤ) (n : ℕ) → Cut m e n → 0 < n → k (fin true m e) ≡ below
  pub infinity : k (inf false) ≡ above
  pub minus_infinity : k (inf true) ≡ below
  pub no_number : k nan ≡ notNumber

-- To floats, over the format: `of_int` of lib.Ieee, which u32, u64, i32 and i64 to f32 are, and an f64 made an f32. To whole numbers: Rust's `as`, which is to_signed and to_unsigned of lib.Ieee and saturates,
-- and the answers by kind.
pub record Conversions : Type 0 where
  pub whole : (f : Format) (z : ℤ) → nat_abs z ≤ 2 ^ 64 → NearestFraction f (lt_z z (pos 0)) (nat_abs z) 1 (of_int f z)
  pub narrowed : (f : Format) (s : Bool) (m : ℕ) (e : ℤ) → m * up e < too_large f * down e → NearestFraction f s (m * up e) (down e) (narrow f (fin s m e))
  pub narrowed_large : (f : Format) (s : Bool) (m : ℕ) (e : ℤ) → too_large f * down e ≤ m * up e → narrow f (fin s m e) ≡ inf s
  pub narrowed_infinity : (f : Format) (s : Bool) → narrow f (inf s) ≡ inf s
  pub narrowed_no_number : (f : Format) → narrow f nan ≡ nan
  pub as_i64_lem : ToSigned (λ (z : ℤ). z) (pos 0) (neg_ℤ (pos (2 ^ 63))) (pos (2 ^ 63 - 1)) 63 (to_signed 63)
  pub as_i32 : ToSigned (λ (z : ℤ). z) (pos 0) (neg_ℤ (pos (2 ^ 31))) (pos (2 ^ 31 - 1)) 31 (to_signed 31)
  pub as_u64 : ToUnsigned (λ (n : ℕ). n) 0 0 (2 ^ 64 - 1) 64 (to_unsigned 64)
  pub kind_i64 : ToSigned Exact NotNumber Below Above 63 cut_i64
  pub kind_i32 : ToSigned Exact NotNumber Below Above 31 cut_i32
  pub kind_u64 : ToUnsigned Exact NotNumber Below Above 64 cut_u64

-- ---- all of it
pub record Ieee754 : Type 0 where
  pub one : (f : Format) → OneNearest f
  pub roots : (f : Format) → SquareRoot f
  pub whole_roots : (f : Format) → WholeRoot f
  pub lengths : Length
  pub parts : (f : Format) → WholeParts f
  pub conversions : Conversions
