-- The trace file of a description: a header of numbers, then counts, starts, double deltas and coefficients, each number four bytes, with no gaps.
-- The number of index k stands at byte 4 * k. Sizes and offsets are whole numbers here, and nothing wraps.
use Rattle.std.specs.Prelude.{Bool, List, [], ◌∷◌, ◌++◌, map, ℕ, suc, ◌+◌, ◌*◌, leb, length, take, drop, ℤ, nat_abs}
use Rattle.std.specs.Int.Signed.{mag}
use Rattle.codes.specs.declared.Code.{Code}
use Rattle.shape.specs.Shape.{points_of}
use Rattle.list.specs.List.{Described, described, pos_limit, delta_limit}
use Rattle.writer.specs.Write.{Check, check}
use Rattle.little.specs.Little.{bytes_of, unsigned_of}

-- ---- the layout

-- a version of the file: its number, and how many numbers its header has
pub record Layout : Type 0 where
  pub version : ℕ
  pub header : ℕ

abbrev pub layout_of : ℕ → ℕ → Layout
layout_of version header = record { version = version; header = header }

-- version 1: eight numbers, so that the parts begin at byte 32
abbrev pub version1 : Layout
version1 = record { version = 1; header = 8 }

-- the number at which each part begins, behind a header of h numbers, for s splines and p points
abbrev pub starts_from : ℕ → ℕ → ℕ
starts_from h s = h + s

abbrev pub deltas_from : ℕ → ℕ → ℕ
deltas_from h s = h + 3 * s

abbrev pub coefficients_from : ℕ → ℕ → ℕ → ℕ
coefficients_from h s p = h + (3 * s + 2 * p)

-- how many numbers the file has
abbrev pub numbers_of : ℕ → ℕ → ℕ → ℕ
numbers_of h s p = h + (131 * s + 2 * p)

-- the header: version, splines, points, adjustment, the byte offsets of the four parts, and what a later version has more
abbrev pub header_of : Layout → List ℕ → ℕ → ℕ → ℤ → List ℕ
header_of l more s p a =
    l.version ∷ s ∷ p ∷ unsigned_of a
    ∷ 4 * l.header ∷ 4 * starts_from l.header s ∷ 4 * deltas_from l.header s ∷ 4 * coefficients_from l.header s p ∷ more

-- the numbers of a file
abbrev pub file_numbers : Layout → List ℕ → Described → List ℕ
file_numbers l more (described a zs ns ds cs) =
    header_of l more (length ns) (points_of ns) a ++ (ns ++ (map unsigned_of zs ++ (map unsigned_of ds ++ map unsigned_of cs)))

-- the bytes of a file
unfoldable pub file_of : Layout → List ℕ → Described → List ℕ
file_of l more d = bytes_of (file_numbers l more d)

-- so many numbers from an index on
abbrev pub part : ℕ → ℕ → List ℕ → List ℕ
part from n ns = take n (drop from ns)

-- ---- what is refused

-- a start is from -2^23 up to but not including 2^23: `mag` is n both for n and for -(n + 1)
abbrev pub outside : ℤ → Bool
outside z = leb pos_limit (mag z)

-- a double delta of magnitude 2^30 or more
abbrev pub wild : ℤ → Bool
wild d = leb delta_limit (nat_abs d)

-- numbers one by one, the first of them number k of the file: each that fails gives the byte at which it stands
unfoldable pub number_checks : {A : Type 0} → (A → Bool) → Code → ℕ → List A → List Check
number_checks test c k [] = []
number_checks test c k (x ∷ xs) = check (test x) c (4 * k) ∷ number_checks test c (suc k) xs
