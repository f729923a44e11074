-- The codes that a trace file shares with every version: those of its offsets and of what follows the header, over how many numbers the header has and what was found before. Definitions only.
use Rattle.std.specs.Prelude.{◌≡◌, Bool, true, false, List, ℕ, ◌+◌, ◌*◌, ◌%◌, ◌^◌, ◌≤◌, ◌<◌, length, get_or, ℤ, pos, nat_abs, Float}
use Rattle.std.specs.Int.Signed.{mag}
use Rattle.std.specs.Float.{nan, inf, fin}
use Rattle.std.specs.Float.Ieee.{up, down}
use Rattle.codes.specs.declared.Code.{Code}
use Rattle.codes.specs.declared.Code.TheVariants.{Short, Coord, Delta, Trail, Shape, Header}
use Rattle.shape.specs.Shape.{points_of}
use Rattle.write_laws.specs.Refusals.{NoneOf}
use Rattle.little.specs.Little.{numbers_in, signed_in}
use Rattle.trace.specs.Trace.{part}

-- ---- what a file says, by the numbers of it

-- number k of a file, which stands at byte 4 * k
abbrev pub number : List ℕ → ℕ → ℕ
number bytes k = get_or (numbers_in bytes) k 0

-- the splines and the points that its header names
abbrev pub S : List ℕ → ℕ
S bytes = number bytes 1

abbrev pub P : List ℕ → ℕ
P bytes = number bytes 2

-- how long a file of s splines and p points is
abbrev pub file_long : ℕ → ℕ → ℕ → ℕ
file_long h s p = 4 * h + 524 * s + 8 * p

-- start number k is below -2^23, or 2^23 or more: `mag` is n both for n and for -(n + 1)
abbrev pub OutsideAt : ℕ → List ℕ → ℕ → Type 0
OutsideAt h bytes k = 2 ^ 23 ≤ mag (signed_in (number bytes (h + S bytes + k)))

-- double delta number k is of magnitude 2^30 or more
abbrev pub WildAt : ℕ → List ℕ → ℕ → Type 0
WildAt h bytes k = 2 ^ 30 ≤ nat_abs (signed_in (number bytes (h + 3 * S bytes + k)))

-- ---- reading: what holds once so many checks have passed, behind a header of h numbers

-- the offsets of the four parts are as they should be
pub record LaidBy (h : ℕ) (Before : Type 0) (bytes : List ℕ) : Type 0 where
  pub opened : Before
  pub counts : number bytes 4 ≡ 4 * h
  pub starts : number bytes 5 ≡ 4 * h + 4 * S bytes
  pub deltas : number bytes 6 ≡ 4 * h + 12 * S bytes
  pub coefficients : number bytes 7 ≡ 4 * h + 12 * S bytes + 8 * P bytes

-- it is as long as it should be, and its counts sum to its points
pub record SummedBy (h : ℕ) (Before : Type 0) (bytes : List ℕ) : Type 0 where
  pub laid : Before
  pub whole : length bytes ≡ file_long h (S bytes) (P bytes)
  pub sums : points_of (part h (S bytes) (numbers_in bytes)) ≡ P bytes

-- every start, and every double delta, is in range
pub record PlacedBy (h : ℕ) (Before : Type 0) (bytes : List ℕ) : Type 0 where
  pub summed : SummedBy h Before bytes
  pub inside : NoneOf (2 * S bytes) (OutsideAt h bytes)

pub record TamedBy (h : ℕ) (Before : Type 0) (bytes : List ℕ) : Type 0 where
  pub placed : PlacedBy h Before bytes
  pub tame : NoneOf (2 * P bytes) (WildAt h bytes)

-- 17: the first wrong offset
pub data OffsetRefusal (h : ℕ) (Before : Type 0) (bytes : List ℕ) : Code → ℕ → Type 0 where
  counts : Before → (number bytes 4 ≡ 4 * h → ⊥) → OffsetRefusal h Before bytes Header 16
  starts : Before → number bytes 4 ≡ 4 * h → (number bytes 5 ≡ 4 * h + 4 * S bytes → ⊥) → OffsetRefusal h Before bytes Header 20
  deltas : Before → number bytes 4 ≡ 4 * h → number bytes 5 ≡ 4 * h + 4 * S bytes → (number bytes 6 ≡ 4 * h + 12 * S bytes → ⊥) → OffsetRefusal h Before bytes Header 24
  coefficients : Before → number bytes 4 ≡ 4 * h → number bytes 5 ≡ 4 * h + 4 * S bytes → number bytes 6 ≡ 4 * h + 12 * S bytes
      → (number bytes 7 ≡ 4 * h + 12 * S bytes + 8 * P bytes → ⊥) → OffsetRefusal h Before bytes Header 28

-- what follows the header: the length, the counts, the starts and the double deltas
pub data BodyRefusal (h : ℕ) (Before : Type 0) (bytes : List ℕ) : Code → ℕ → Type 0 where
  -- 1: shorter than it should be
  short : Before → length bytes < file_long h (S bytes) (P bytes) → BodyRefusal h Before bytes Short (length bytes)
  -- 6: bytes left over
  trail : Before → file_long h (S bytes) (P bytes) < length bytes → BodyRefusal h Before bytes Trail (file_long h (S bytes) (P bytes))
  -- 9: counts that do not sum to the points
  shape : Before → length bytes ≡ file_long h (S bytes) (P bytes) → (points_of (part h (S bytes) (numbers_in bytes)) ≡ P bytes → ⊥) → BodyRefusal h Before bytes Shape 0
  -- 3: start number k is the first out of range
  coord : SummedBy h Before bytes → (k : ℕ) → k < 2 * S bytes → NoneOf k (OutsideAt h bytes) → OutsideAt h bytes k → BodyRefusal h Before bytes Coord (4 * h + 4 * S bytes + 4 * k)
  -- 5: double delta number k is the first out of range
  delta : PlacedBy h Before bytes → (k : ℕ) → k < 2 * P bytes → NoneOf k (WildAt h bytes) → WildAt h bytes k → BodyRefusal h Before bytes Delta (4 * h + 12 * S bytes + 4 * k)

-- ---- writing, behind a header of h numbers

-- a number that is no start of the file; `fin s m e` has the magnitude m * up e / down e, and is negative where s is true
pub data Misfit : Float → Type 0 where
  no_number : Misfit nan
  infinite : {s : Bool} → Misfit (inf s)
  -- below -2^23, or 2^23 or more
  below : {m : ℕ} {e : ℤ} → 2 ^ 23 * down e < m * up e → Misfit (fin true m e)
  above : {s : Bool} {m : ℕ} {e : ℤ} → s ≡ false → 2 ^ 23 * down e ≤ m * up e → Misfit (fin s m e)
  not_whole : {s : Bool} {m : ℕ} {e : ℤ} → (m * up e % down e ≡ 0 → ⊥) → Misfit (fin s m e)
  minus_zero : {e : ℤ} → Misfit (fin true 0 e)

abbrev pub MisfitAt : List Float → ℕ → Type 0
MisfitAt ss k = Misfit (get_or ss k nan)

abbrev pub WildIn : List ℤ → ℕ → Type 0
WildIn ds k = 2 ^ 30 ≤ nat_abs (get_or ds k (pos 0))

-- 32 bits hold the counts and the offsets of the header
pub record HeadedBy (h s p : ℕ) : Type 0 where
  pub splines : s < 2 ^ 32
  pub points : p < 2 ^ 32
  pub starts : 4 * h + 4 * s < 2 ^ 32
  pub deltas : 4 * h + 12 * s < 2 ^ 32
  pub coefficients : 4 * h + 12 * s + 8 * p < 2 ^ 32

-- the header can be written, and so can every start, and every double delta
pub record HeadableBy (h : ℕ) (Before : Type 0) (ns : List ℕ) : Type 0 where
  pub shaped : Before
  pub headed : HeadedBy h (length ns) (points_of ns)

pub record FittingBy (h : ℕ) (Before : Type 0) (ns : List ℕ) (ss : List Float) : Type 0 where
  pub headable : HeadableBy h Before ns
  pub fit : NoneOf (length ss) (MisfitAt ss)

pub record WritableBy (h : ℕ) (Before : Type 0) (ns : List ℕ) (ss : List Float) (ds : List ℤ) : Type 0 where
  pub fitting : FittingBy h Before ns ss
  pub tame : NoneOf (length ds) (WildIn ds)

-- the header's counts and offsets, the starts and the double deltas; the place is the byte at which the number would stand
pub data PutRefusal (h : ℕ) (Before : Type 0) (ns : List ℕ) (ss : List Float) (ds : List ℤ) : Code → ℕ → Type 0 where
  -- 17: the first count or offset of 2^32 or more
  splines : Before → 2 ^ 32 ≤ length ns → PutRefusal h Before ns ss ds Header 4
  points : Before → length ns < 2 ^ 32 → 2 ^ 32 ≤ points_of ns → PutRefusal h Before ns ss ds Header 8
  starts : Before → length ns < 2 ^ 32 → points_of ns < 2 ^ 32 → 2 ^ 32 ≤ 4 * h + 4 * length ns → PutRefusal h Before ns ss ds Header 20
  deltas : Before → points_of ns < 2 ^ 32 → 4 * h + 4 * length ns < 2 ^ 32 → 2 ^ 32 ≤ 4 * h + 12 * length ns → PutRefusal h Before ns ss ds Header 24
  coefficients : Before → points_of ns < 2 ^ 32 → 4 * h + 12 * length ns < 2 ^ 32 → 2 ^ 32 ≤ 4 * h + 12 * length ns + 8 * points_of ns → PutRefusal h Before ns ss ds Header 28
  -- 3: start number k is the first that can't be written
  coord : HeadableBy h Before ns → (k : ℕ) → k < length ss → NoneOf k (MisfitAt ss) → MisfitAt ss k → PutRefusal h Before ns ss ds Coord (4 * h + 4 * length ns + 4 * k)
  -- 5: double delta number k is the first of magnitude 2^30 or more
  delta : FittingBy h Before ns ss → (k : ℕ) → k < length ds → NoneOf k (WildIn ds) → WildIn ds k → PutRefusal h Before ns ss ds Delta (4 * h + 12 * length ns + 4 * k)
