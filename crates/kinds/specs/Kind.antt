-- A float as a whole number, by kind: the exact value after cutting the fraction, no number, below the range, or above it. Definitions only.
-- One definition over the range and over the enum's four cases; after R it is the same of the rounded float.
use Rattle.std.specs.Prelude.{ℕ, ◌-◌, ◌*◌, ◌/◌, ◌^◌, cond, ℤ, pos, negsuc, neg_ℤ, int_lt, unsigned_abs, Float}
use Rattle.std.specs.Float.{nan, inf, fin}
use Rattle.std.specs.Float.Ieee.{up, down}
use Rattle.kinds.specs.declared.Kind.{Kind}
use Rattle.kinds.specs.declared.Kind.TheVariants.{Exact, NotNumber, Below, Above}

-- a whole number against the range from the least to the most
abbrev pub within : {K : Type 0} → (ℤ → K) → K → K → ℤ → ℤ → ℤ → K
within exact below above least most z = cond (int_lt most z) above (cond (int_lt z least) below (exact z))

unfoldable pub kind_by : {K : Type 0} → (ℤ → K) → K → K → K → ℤ → ℤ → Float → K
kind_by exact notNumber below above least most nan = notNumber
kind_by exact notNumber below above least most (inf s) = cond s below above
kind_by exact notNumber below above least most (fin s m e) = let n = m * up e / down e in within exact below above least most (cond s (neg_ℤ (pos n)) (pos n))

-- ---- the three ranges in use
abbrev pub cut_i64 : Float → Kind ℤ
cut_i64 x = kind_by Exact NotNumber Below Above (neg_ℤ (pos (2 ^ 63))) (pos (2 ^ 63 - 1)) x

abbrev pub cut_i32 : Float → Kind ℤ
cut_i32 x = kind_by Exact NotNumber Below Above (neg_ℤ (pos (2 ^ 31))) (pos (2 ^ 31 - 1)) x

abbrev pub cut_u64 : Float → Kind ℕ
cut_u64 x = kind_by (λ z. Exact (unsigned_abs z)) NotNumber Below Above (pos 0) (pos (2 ^ 64 - 1)) x

-- a whole number against the range of an i32
abbrev pub within_i32 : ℤ → Kind ℤ
within_i32 z = within Exact Below Above (negsuc 2147483647) (pos 2147483647) z

-- what Rust's `as` makes of a kind, for a range from the least to the most
abbrev pub held : {N : Type 0} → N → N → N → Kind N → N
held least zero most (Exact z) = z
held least zero most NotNumber = zero
held least zero most Below = least
held least zero most Above = most

abbrev pub saturated_i64 : Kind ℤ → ℤ
saturated_i64 k = held (neg_ℤ (pos (2 ^ 63))) (pos 0) (pos (2 ^ 63 - 1)) k

abbrev pub saturated_i32 : Kind ℤ → ℤ
saturated_i32 k = held (neg_ℤ (pos (2 ^ 31))) (pos 0) (pos (2 ^ 31 - 1)) k

abbrev pub saturated_u64 : Kind ℕ → ℕ
saturated_u64 k = held 0 0 (2 ^ 64 - 1) k
