-- The codes of reading and of writing a trace file of either version, and when each is given: the table of codes, in the order of the checks. Definitions only.
-- That a call refuses exactly so is `read_exactly` of proofs/ReadWhen.antt and `write_exactly` of proofs/WriteWhen.antt. What the versions share is in Behind.antt of `trace_laws`, over how many numbers the header has.
use Rattle.std.specs.Prelude.{◌≡◌, ◌⊎◌, List, ℕ, ◌≤◌, ◌<◌, length, ℤ, Float}
use Rattle.codes.specs.declared.Code.{Code}
use Rattle.codes.specs.declared.Code.TheVariants.{Short, Room, Shape, Header, Edition}
use Rattle.shape.specs.Shape.{points_of, Shaped}
use Rattle.list.specs.List.{ListRooms}
use Rattle.trace_laws.specs.Behind.{number, S, P, file_long, LaidBy, TamedBy, OffsetRefusal, BodyRefusal, WritableBy, PutRefusal}
use Rattle.trace_laws.specs.Refusals.{ListLacks}

-- 1 and 2 are the versions, and the editions
abbrev pub Known : ℕ → Type 0
Known n = (n ≡ 1) ⊎ (n ≡ 2)

abbrev pub Unknown : ℕ → Type 0
Unknown n = (n ≡ 1 → ⊥) × (n ≡ 2 → ⊥)

-- ---- reading

-- the header of a file is there, with so many numbers and this edition: version 1 has eight and is edition 1, version 2 has nine, the ninth of which is the edition
pub data Says (bytes : List ℕ) : ℕ → ℕ → Type 0 where
  first : 32 ≤ length bytes → number bytes 0 ≡ 1 → Says bytes 8 1
  second : 36 ≤ length bytes → number bytes 0 ≡ 2 → Says bytes 9 (number bytes 8)

-- its offsets are as they should be, and the edition is 1 or 2
pub record Editioned (bytes : List ℕ) (h e : ℕ) : Type 0 where
  pub laid : LaidBy h (Says bytes h e) bytes
  pub known : Known e

-- the table of reading: the code and the place, when
pub data FileReadRefusal (rooms : ListRooms) (bytes : List ℕ) : Code → ℕ → Type 0 where
  -- 1: below 32 bytes
  cut : length bytes < 32 → FileReadRefusal rooms bytes Short (length bytes)
  -- 17: another version
  version : 32 ≤ length bytes → Unknown (number bytes 0) → FileReadRefusal rooms bytes Header 0
  -- 1: version 2 below 36 bytes
  cut_second : 32 ≤ length bytes → number bytes 0 ≡ 2 → length bytes < 36 → FileReadRefusal rooms bytes Short (length bytes)
  -- 17: the first wrong offset
  offset : {h e : ℕ} {c : Code} {q : ℕ} → OffsetRefusal h (Says bytes h e) bytes c q → FileReadRefusal rooms bytes c q
  -- 22: an edition other than 1 or 2
  edition : {h e : ℕ} → LaidBy h (Says bytes h e) bytes → Unknown e → FileReadRefusal rooms bytes Edition 32
  -- 1, 6, 9, 3, 5: the length, the counts, the starts, the double deltas
  body : {h e : ℕ} {c : Code} {q : ℕ} → BodyRefusal h (Editioned bytes h e) bytes c q → FileReadRefusal rooms bytes c q
  -- 7: nothing else is given, and a buffer is too short
  room : {h e : ℕ} → TamedBy h (Editioned bytes h e) bytes → ListLacks rooms (S bytes) (P bytes) → FileReadRefusal rooms bytes Room 0

-- ---- writing

-- an edition that a version does not hold
pub data Barred (v e : ℕ) : Type 0 where
  none : Unknown e → Barred v e
  second_in_first : v ≡ 1 → e ≡ 2 → Barred v e

-- a version and its edition, with so many numbers in the header
pub data Holds (v e : ℕ) : ℕ → Type 0 where
  first : v ≡ 1 → e ≡ 1 → Holds v e 8
  second : v ≡ 2 → Known e → Holds v e 9

-- lengths agree, and the version holds the edition
pub record Open (ns : List ℕ) (ss : List Float) (ds cs : List ℤ) (v e h : ℕ) : Type 0 where
  pub shaped : Shaped ns ss ds cs
  pub holds : Holds v e h

-- the table of writing: the code and the place, when; the place is the byte at which the number would stand
pub data FileWriteRefusal (ns : List ℕ) (ss : List Float) (ds cs : List ℤ) (v e room : ℕ) : Code → ℕ → Type 0 where
  -- 9: lengths disagree
  shape : (Shaped ns ss ds cs → ⊥) → FileWriteRefusal ns ss ds cs v e room Shape 0
  -- 22: an edition other than 1 or 2, or edition 2 in version 1
  edition : Shaped ns ss ds cs → Barred v e → FileWriteRefusal ns ss ds cs v e room Edition 32
  -- 17: another version
  version : Shaped ns ss ds cs → (Barred v e → ⊥) → Unknown v → FileWriteRefusal ns ss ds cs v e room Header 0
  -- 17, 3, 5: the first count or offset of 2^32 or more, then the starts and the double deltas
  put : {h : ℕ} {c : Code} {q : ℕ} → PutRefusal h (Open ns ss ds cs v e h) ns ss ds c q → FileWriteRefusal ns ss ds cs v e room c q
  -- 7: nothing else is given, and the bytes are too few
  room : {h : ℕ} → WritableBy h (Open ns ss ds cs v e h) ns ss ds → room < file_long h (length ns) (points_of ns) → FileWriteRefusal ns ss ds cs v e room Room 0

-- 0: nothing is given, and so many bytes are written
pub record FileAccepted (ns : List ℕ) (ss : List Float) (ds cs : List ℤ) (v e room bytes : ℕ) : Type 0 where
  pub header : ℕ
  pub writable : WritableBy header (Open ns ss ds cs v e header) ns ss ds
  pub held : file_long header (length ns) (points_of ns) ≤ room
  pub all : bytes ≡ file_long header (length ns) (points_of ns)
