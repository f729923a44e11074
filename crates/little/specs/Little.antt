-- Numbers of four bytes, the least byte first, and signed numbers among them.
use Rattle.std.specs.Prelude.{cond, List, [], ◌∷◌, ◌++◌, ℕ, suc, ◌+◌, ◌-◌, ◌*◌, ◌/◌, ◌%◌, ◌^◌, ◌<◌, ltb, ℤ, pos, negsuc}
use Rattle.std.specs.Int.Signed.{mag}

-- ---- numbers and bytes

-- the bytes of a number below 2^32
abbrev pub four_of : ℕ → List ℕ
four_of n = n % 256 ∷ n / 256 % 256 ∷ n / 65536 % 256 ∷ n / 16777216 % 256 ∷ []

-- the bytes of numbers, one after the other
unfoldable pub bytes_of : List ℕ → List ℕ
bytes_of [] = []
bytes_of (n ∷ ns) = four_of n ++ bytes_of ns

-- the numbers that stand in bytes; up to three bytes that are left make none
unfoldable pub numbers_in : List ℕ → List ℕ
numbers_in (a ∷ b ∷ c ∷ d ∷ l) = (a + 256 * b + 65536 * (c + 256 * d)) ∷ numbers_in l
numbers_in (a ∷ b ∷ c ∷ []) = []
numbers_in (a ∷ b ∷ []) = []
numbers_in (a ∷ []) = []
numbers_in [] = []

-- ---- signed numbers

-- the number that stands for a signed one: a negative one is told by what it is with 2^32 added
abbrev pub unsigned_of : ℤ → ℕ
unsigned_of (pos n) = n
unsigned_of (negsuc n) = 2 ^ 32 - suc n

-- the signed number that a number stands for
abbrev pub signed_in : ℕ → ℤ
signed_in u = cond (ltb u (2 ^ 31)) (pos u) (negsuc (2 ^ 32 - suc u))

-- ---- what can be lent

-- each is a byte
abbrev pub Bytes : List ℕ → Type 0
Bytes [] = Unit {0}
Bytes (b ∷ bs) = (b < 256) × Bytes bs

-- each is a number of 32 bits
abbrev pub Numbers : List ℕ → Type 0
Numbers [] = Unit {0}
Numbers (n ∷ ns) = (n < 2 ^ 32) × Numbers ns

-- each is a signed number of 32 bits
abbrev pub Signeds : List ℤ → Type 0
Signeds [] = Unit {0}
Signeds (z ∷ zs) = (mag z < 2 ^ 31) × Signeds zs
