-- The codes of reading and of writing a trace file, and when each is given: the table of codes, in the order of the checks. Definitions only.
-- That a call refuses exactly so is `read_exactly` and `write_exactly` of proofs/When.antt.
use Rattle.std.specs.Prelude.{◌≡◌, List, ℕ, ◌+◌, ◌*◌, ◌^◌, ◌≤◌, ◌<◌, length, ℤ, Float}
use Rattle.codes.specs.declared.Code.{Code}
use Rattle.codes.specs.declared.Code.TheVariants.{Short, Coord, Delta, Trail, Room, Shape, Header}
use Rattle.shape.specs.Shape.{points_of, Shaped}
use Rattle.list.specs.List.{ListRooms}
use Rattle.write_laws.specs.Refusals.{NoneOf}
use Rattle.little.specs.Little.{numbers_in}
use Rattle.trace.specs.Trace.{part}
use Rattle.trace_laws.specs.Behind.{number, S, P, OutsideAt, WildAt, LaidBy, SummedBy, PlacedBy, TamedBy, MisfitAt, WildIn, HeadedBy, HeadableBy, FittingBy, WritableBy}

-- ---- reading: what holds once so many checks have passed

-- how long a file of s splines and p points is
abbrev pub file_size : ℕ → ℕ → ℕ
file_size s p = 32 + 524 * s + 8 * p

-- the first eight numbers are there, the version is 1, and the offsets of the four parts are as they should be
pub record Opened (bytes : List ℕ) : Type 0 where
  pub long : 32 ≤ length bytes
  pub version : number bytes 0 ≡ 1

abbrev pub Laid : List ℕ → Type 0
Laid bytes = LaidBy 8 (Opened bytes) bytes

-- it is as long as it should be, and its counts sum to its points
abbrev pub Summed : List ℕ → Type 0
Summed bytes = SummedBy 8 (Laid bytes) bytes

-- every start, and every double delta, is in range
abbrev pub Placed : List ℕ → Type 0
Placed bytes = PlacedBy 8 (Laid bytes) bytes

abbrev pub Tamed : List ℕ → Type 0
Tamed bytes = TamedBy 8 (Laid bytes) bytes

-- a buffer is too short
pub data ListLacks (rooms : ListRooms) (s p : ℕ) : Type 0 where
  counts : rooms.counts < s → ListLacks rooms s p
  starts : rooms.starts < 2 * s → ListLacks rooms s p
  coefficients : rooms.coefficients < 128 * s → ListLacks rooms s p
  deltas : rooms.deltas < 2 * p → ListLacks rooms s p

-- the table of reading: the code and the place, when
pub data TraceReadRefusal (rooms : ListRooms) (bytes : List ℕ) : Code → ℕ → Type 0 where
  -- 1: below 32 bytes
  cut : length bytes < 32 → TraceReadRefusal rooms bytes Short (length bytes)
  -- 17: another version; then the first wrong offset
  version : 32 ≤ length bytes → (number bytes 0 ≡ 1 → ⊥) → TraceReadRefusal rooms bytes Header 0
  counts : Opened bytes → (number bytes 4 ≡ 32 → ⊥) → TraceReadRefusal rooms bytes Header 16
  starts : Opened bytes → number bytes 4 ≡ 32 → (number bytes 5 ≡ 32 + 4 * S bytes → ⊥) → TraceReadRefusal rooms bytes Header 20
  deltas : Opened bytes → number bytes 4 ≡ 32 → number bytes 5 ≡ 32 + 4 * S bytes → (number bytes 6 ≡ 32 + 12 * S bytes → ⊥) → TraceReadRefusal rooms bytes Header 24
  coefficients : Opened bytes → number bytes 4 ≡ 32 → number bytes 5 ≡ 32 + 4 * S bytes → number bytes 6 ≡ 32 + 12 * S bytes
      → (number bytes 7 ≡ 32 + 12 * S bytes + 8 * P bytes → ⊥) → TraceReadRefusal rooms bytes Header 28
  -- 1: shorter than it should be
  short : Laid bytes → length bytes < file_size (S bytes) (P bytes) → TraceReadRefusal rooms bytes Short (length bytes)
  -- 6: bytes left over
  trail : Laid bytes → file_size (S bytes) (P bytes) < length bytes → TraceReadRefusal rooms bytes Trail (file_size (S bytes) (P bytes))
  -- 9: counts that do not sum to the points
  shape : Laid bytes → length bytes ≡ file_size (S bytes) (P bytes) → (points_of (part 8 (S bytes) (numbers_in bytes)) ≡ P bytes → ⊥) → TraceReadRefusal rooms bytes Shape 0
  -- 3: start number k is the first out of range
  coord : Summed bytes → (k : ℕ) → k < 2 * S bytes → NoneOf k (OutsideAt 8 bytes) → OutsideAt 8 bytes k → TraceReadRefusal rooms bytes Coord (32 + 4 * S bytes + 4 * k)
  -- 5: double delta number k is the first out of range
  delta : Placed bytes → (k : ℕ) → k < 2 * P bytes → NoneOf k (WildAt 8 bytes) → WildAt 8 bytes k → TraceReadRefusal rooms bytes Delta (32 + 12 * S bytes + 4 * k)
  -- 7: nothing else is given, and a buffer is too short
  room : Tamed bytes → ListLacks rooms (S bytes) (P bytes) → TraceReadRefusal rooms bytes Room 0

-- 0: nothing is given
pub record TraceReadAccepted (rooms : ListRooms) (bytes : List ℕ) : Type 0 where
  pub tamed : Tamed bytes
  pub held : ListLacks rooms (S bytes) (P bytes) → ⊥

-- ---- writing

-- 32 bits hold the counts and the offsets of the header
abbrev pub Headed : ℕ → ℕ → Type 0
Headed s p = HeadedBy 8 s p

-- lengths agree, the header can be written, and so can every start, and every double delta
abbrev pub Headable : List ℕ → List Float → List ℤ → List ℤ → Type 0
Headable ns ss ds cs = HeadableBy 8 (Shaped ns ss ds cs) ns

abbrev pub Fitting : List ℕ → List Float → List ℤ → List ℤ → Type 0
Fitting ns ss ds cs = FittingBy 8 (Shaped ns ss ds cs) ns ss

abbrev pub Writable : List ℕ → List Float → List ℤ → List ℤ → Type 0
Writable ns ss ds cs = WritableBy 8 (Shaped ns ss ds cs) ns ss ds

-- the table of writing: the code and the place, when; the place is the byte at which the number would stand
pub data TraceWriteRefusal (ns : List ℕ) (ss : List Float) (ds cs : List ℤ) (room : ℕ) : Code → ℕ → Type 0 where
  -- 9: lengths disagree
  shape : (Shaped ns ss ds cs → ⊥) → TraceWriteRefusal ns ss ds cs room Shape 0
  -- 17: the first count or offset of 2^32 or more
  splines : Shaped ns ss ds cs → 2 ^ 32 ≤ length ns → TraceWriteRefusal ns ss ds cs room Header 4
  points : Shaped ns ss ds cs → length ns < 2 ^ 32 → 2 ^ 32 ≤ points_of ns → TraceWriteRefusal ns ss ds cs room Header 8
  starts : Shaped ns ss ds cs → length ns < 2 ^ 32 → points_of ns < 2 ^ 32 → 2 ^ 32 ≤ 32 + 4 * length ns → TraceWriteRefusal ns ss ds cs room Header 20
  deltas : Shaped ns ss ds cs → points_of ns < 2 ^ 32 → 32 + 4 * length ns < 2 ^ 32 → 2 ^ 32 ≤ 32 + 12 * length ns → TraceWriteRefusal ns ss ds cs room Header 24
  coefficients : Shaped ns ss ds cs → points_of ns < 2 ^ 32 → 32 + 12 * length ns < 2 ^ 32 → 2 ^ 32 ≤ 32 + 12 * length ns + 8 * points_of ns
      → TraceWriteRefusal ns ss ds cs room Header 28
  -- 3: start number k is the first that can't be written
  coord : Headable ns ss ds cs → (k : ℕ) → k < length ss → NoneOf k (MisfitAt ss) → MisfitAt ss k → TraceWriteRefusal ns ss ds cs room Coord (32 + 4 * length ns + 4 * k)
  -- 5: double delta number k is the first of magnitude 2^30 or more
  delta : Fitting ns ss ds cs → (k : ℕ) → k < length ds → NoneOf k (WildIn ds) → WildIn ds k → TraceWriteRefusal ns ss ds cs room Delta (32 + 12 * length ns + 4 * k)
  -- 7: nothing else is given, and the bytes are too few
  room : Writable ns ss ds cs → room < file_size (length ns) (points_of ns) → TraceWriteRefusal ns ss ds cs room Room 0

-- 0: nothing is given, and so many bytes are written
pub record TraceAccepted (ns : List ℕ) (ss : List Float) (ds cs : List ℤ) (room bytes : ℕ) : Type 0 where
  pub writable : Writable ns ss ds cs
  pub held : file_size (length ns) (points_of ns) ≤ room
  pub all : bytes ≡ file_size (length ns) (points_of ns)
