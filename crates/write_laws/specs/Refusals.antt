-- The codes of writing, and when each is given: the table of codes, for a description. The checks stand in list order, and the first that fails is told.
-- That a call refuses exactly so is `refused_exactly_when` of proofs/Words.antt, and that it writes exactly otherwise is `done_exactly_when`.
use Rattle.std.specs.Prelude.{◌≡◌, Bool, true, List, ◌⊎◌, ℕ, suc, ◌+◌, ◌*◌, ◌%◌, ◌^◌, ◌≤◌, ◌<◌, eqb, length, take, replicate, get_or, ℤ, pos, nat_abs, Float}
use Rattle.std.specs.Float.{nan, inf, fin}
use Rattle.std.specs.Float.Ieee.{up, down}
use Rattle.codes.specs.Codes.{number_of}
use Rattle.codes.specs.declared.Code.{Code}
use Rattle.codes.specs.declared.Code.TheVariants.{Splines, Coord, Points, Delta, Room, Shape}
use Rattle.shape.specs.Shape.{points_of, Shaped}
use Rattle.writer.specs.Write.{WriteTold, WriteOutcome}
use Rattle.writer.specs.WriteAnswer.{Refused}

-- a number that can't be written as a start, which may be the first; `fin s m e` has the magnitude m * up e / down e, and is negative where s is true
pub data Unfit (first : Bool) : Float → Type 0 where
  no_number : Unfit first nan
  infinite : {s : Bool} → Unfit first (inf s)
  -- a magnitude of 2^23 or more
  far : {s : Bool} {m : ℕ} {e : ℤ} → 2 ^ 23 * down e ≤ m * up e → Unfit first (fin s m e)
  not_whole : {s : Bool} {m : ℕ} {e : ℤ} → (m * up e % down e ≡ 0 → ⊥) → Unfit first (fin s m e)
  minus_zero : {e : ℤ} → Unfit first (fin true 0 e)
  negative_first : {m : ℕ} {e : ℤ} → first ≡ true → 0 < m → Unfit first (fin true m e)

-- pair k of the starts, numbers 2k and 2k + 1, holds a number that can't be written
abbrev pub UnfitPair : List Float → ℕ → Type 0
UnfitPair ss k = Unfit (eqb k 0) (get_or ss (2 * k) nan) ⊎ Unfit (eqb k 0) (get_or ss (2 * k + 1) nan)

-- pair k of the double deltas holds one of magnitude 2^30 or more
abbrev pub WildPair : List ℤ → ℕ → Type 0
WildPair ds k = (2 ^ 30 ≤ nat_abs (get_or ds (2 * k) (pos 0))) ⊎ (2 ^ 30 ≤ nat_abs (get_or ds (2 * k + 1) (pos 0)))

-- none of the first n is so
abbrev pub NoneOf : ℕ → (ℕ → Type 0) → Type 0
NoneOf n P = (k : ℕ) → k < n → P k → ⊥

-- the points of the first k splines
abbrev pub points_before : ℕ → List ℕ → ℕ
points_before k ns = points_of (take k ns)

-- where the point count of spline k stands: behind the count, the starts, the adjustment, and a count, double deltas and 128 coefficients for each spline before it
abbrev pub count_place : ℕ → List ℕ → ℕ
count_place k ns = 2 + 2 * length ns + (2 * points_before k ns + 129 * k)

-- how many values the list of S splines and P points has
abbrev pub list_size : ℕ → ℕ → ℕ
list_size S P = 2 + 131 * S + 2 * P

-- nothing is given up to the starts: lengths agree, the count is from 1 through the limit, and every start can be written
pub record Started (ns : List ℕ) (ss : List Float) (ds cs : List ℤ) (limit : ℕ) : Type 0 where
  pub shaped : Shaped ns ss ds cs
  pub some : 0 < length ns
  pub few : length ns ≤ limit
  pub fit : NoneOf (length ns) (UnfitPair ss)

-- the table: a code and a place that a description gives, under a limit, where so many cells are lent
pub data WriteRefusal (ns : List ℕ) (ss : List Float) (ds cs : List ℤ) (limit room : ℕ) : Code → ℕ → Type 0 where
  -- 9: lengths disagree
  shape : (Shaped ns ss ds cs → ⊥) → WriteRefusal ns ss ds cs limit room Shape 0
  -- 2: a count of 0 or above the limit
  splines : Shaped ns ss ds cs → (length ns ≡ 0) ⊎ (limit < length ns) → WriteRefusal ns ss ds cs limit room Splines 0
  -- 3: pair k of the starts is the first that can't be written
  coord : Shaped ns ss ds cs → 0 < length ns → length ns ≤ limit
      → (k : ℕ) → k < length ns → NoneOf k (UnfitPair ss) → UnfitPair ss k
      → WriteRefusal ns ss ds cs limit room Coord (1 + 2 * k)
  -- 4: the running total passes the limit at the count of spline k, and no double delta before it is wild
  points : Started ns ss ds cs limit → (k : ℕ) → k < length ns → points_before k ns ≤ limit → limit < points_before (suc k) ns
      → NoneOf (points_before k ns) (WildPair ds)
      → WriteRefusal ns ss ds cs limit room Points (count_place k ns)
  -- 5: pair j of spline k is wild, the running total is within the limit there, and no double delta before it is wild
  delta : Started ns ss ds cs limit → (k j : ℕ) → k < length ns → j < get_or ns k 0 → points_before (suc k) ns ≤ limit
      → NoneOf (points_before k ns + j) (WildPair ds) → WildPair ds (points_before k ns + j)
      → WriteRefusal ns ss ds cs limit room Delta (count_place k ns + 1 + 2 * j)
  -- 7: nothing else is given, and the list is too short
  room : Started ns ss ds cs limit → points_of ns ≤ limit → NoneOf (points_of ns) (WildPair ds) → room < list_size (length ns) (points_of ns)
      → WriteRefusal ns ss ds cs limit room Room room

-- 0: nothing is given, and so many values are written
pub record WriteAccepted (ns : List ℕ) (ss : List Float) (ds cs : List ℤ) (limit room values : ℕ) : Type 0 where
  pub started : Started ns ss ds cs limit
  pub within : points_of ns ≤ limit
  pub tame : NoneOf (points_of ns) (WildPair ds)
  pub held : list_size (length ns) (points_of ns) ≤ room
  pub all : values ≡ list_size (length ns) (points_of ns)

-- an outcome of a refusal: the code's number, its place, no values, and nothing but zeros
pub record WriteRefused (room : ℕ) (c : Code) (p : ℕ) (o : WriteOutcome) : Type 0 where
  pub answer : o.answer ≡ Refused c p
  pub told : ◌≡◌ {A = WriteTold} o.told (record { number = number_of c; place = p; values = 0 })
  pub list : o.list ≡ replicate room 0
