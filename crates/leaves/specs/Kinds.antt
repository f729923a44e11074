-- The kind of a float as a whole number, as a number for the host: 0 exact, 1 no number, 2 below the range, 3 above it. Definitions only.
use Rattle.std.specs.Prelude.{ℕ, ℤ}
use Rattle.kinds.specs.declared.Kind.{Kind}
use Rattle.kinds.specs.declared.Kind.TheVariants.{Exact, NotNumber, Below, Above}

abbrev pub number_of : {N : Type 0} → Kind N → ℕ
number_of (Exact z) = 0
number_of NotNumber = 1
number_of Below = 2
number_of Above = 3

abbrev pub number_i64 : Kind ℤ → ℕ
number_i64 k = number_of k

abbrev pub number_i32 : Kind ℤ → ℕ
number_i32 k = number_of k

abbrev pub number_u64 : Kind ℕ → ℕ
number_u64 k = number_of k
