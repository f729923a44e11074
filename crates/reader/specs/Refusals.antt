-- The codes of reading, and when each is given: the table of codes, for the list.
-- `Due` says what comes next, `Reached` how reading gets there with a rest of the list, and `DueRefusal` is the table.
-- That a call refuses exactly so is `refused_exactly` and `given_exactly` of proofs/Promises.antt.
use Rattle.std.specs.Prelude.{◌≡◌, Bool, true, false, cond, ◌⊎◌, List, ◌∷◌, ℕ, zero, suc, ◌+◌, ◌-◌, ◌*◌, ◌≤◌, ◌<◌, eqb, length, replicate, ℤ, pos, nat_abs}
use Rattle.codes.specs.Codes.{number_of}
use Rattle.codes.specs.declared.Code.{Code}
use Rattle.list.specs.List.{unpack_signed, pos_limit, delta_limit, ListRooms, coordinate}
use Rattle.list.specs.Steps.{zero_f32}
use Rattle.reader.specs.Read.{ReadTold, ReadOutcome}
use Rattle.codes.specs.Refusal.{refused}

-- what the list holds next
pub data Due : Type 0 where
  -- the spline count less one
  count : Due
  -- so many starts of s splines: is it the first, and the last one's x and y
  starts : (s left : ℕ) (first : Bool) (x y : ℤ) → Due
  -- the adjustment
  adjustment : (s : ℕ) → Due
  -- the point counts of so many splines, with the points before them
  points : (s used : ℕ) → Due
  -- so many pairs of double deltas, with splines to come and points up to here
  deltas : (s used left : ℕ) → Due
  -- so many coefficients
  coefficients : (s used left : ℕ) → Due
  -- nothing
  nothing : Due

-- how many values the next step takes
abbrev pub wants : Due → ℕ
wants count = 1
wants (starts s zero first x y) = 0
wants (starts s (suc n) first x y) = 2
wants (adjustment s) = 1
wants (points zero used) = 0
wants (points (suc s) used) = 1
wants (deltas s used zero) = 0
wants (deltas s used (suc n)) = 2
wants (coefficients s used zero) = 0
wants (coefficients s used (suc n)) = 1
wants nothing = 0

-- one of two numbers has a magnitude of at least the limit, or neither has
abbrev pub Far : ℕ → ℤ → ℤ → Type 0
Far limit x y = (limit ≤ nat_abs x) ⊎ (limit ≤ nat_abs y)

abbrev pub Close : ℕ → ℤ → ℤ → Type 0
Close limit x y = (nat_abs x < limit) × (nat_abs y < limit)

-- the cells for the counts, the starts or the coefficients of s splines are too few, or all are enough
abbrev pub FewCells : ListRooms → ℕ → Type 0
FewCells rooms s = (rooms.counts < s) ⊎ ((rooms.starts < 2 * s) ⊎ (rooms.coefficients < 128 * s))

abbrev pub EnoughCells : ListRooms → ℕ → Type 0
EnoughCells rooms s = (s ≤ rooms.counts) × ((2 * s ≤ rooms.starts) × (128 * s ≤ rooms.coefficients))

module _ (limit : ℕ) (rooms : ListRooms) where
  -- reading the list l, with no refusal so far, comes to what is due, with r left
  pub data Reached (l : List ℕ) : Due → List ℕ → Type 0 where
    begin : Reached l count l
    counted : {v : ℕ} {r : List ℕ} → Reached l count (v ∷ r) → v + 1 ≤ limit → EnoughCells rooms (v + 1)
        → Reached l (starts (v + 1) (v + 1) true (pos 0) (pos 0)) r
    started : {s n : ℕ} {first : Bool} {x y : ℤ} {a b : ℕ} {r : List ℕ} → Reached l (starts s (suc n) first x y) (a ∷ b ∷ r)
        → Close pos_limit (coordinate first x a) (coordinate first y b) → Reached l (starts s n false (coordinate first x a) (coordinate first y b)) r
    all_started : {s : ℕ} {first : Bool} {x y : ℤ} {r : List ℕ} → Reached l (starts s zero first x y) r → Reached l (adjustment s) r
    adjusted : {s u : ℕ} {r : List ℕ} → Reached l (adjustment s) (u ∷ r) → Reached l (points s 0) r
    pointed : {s used n : ℕ} {r : List ℕ} → Reached l (points (suc s) used) (n ∷ r) → used + n ≤ limit → 2 * (used + n) ≤ rooms.deltas
        → Reached l (deltas s (used + n) n) r
    moved : {s used n a b : ℕ} {r : List ℕ} → Reached l (deltas s used (suc n)) (a ∷ b ∷ r) → Close delta_limit (unpack_signed a) (unpack_signed b)
        → Reached l (deltas s used n) r
    all_moved : {s used : ℕ} {r : List ℕ} → Reached l (deltas s used zero) r → Reached l (coefficients s used 128) r
    weighed : {s used n u : ℕ} {r : List ℕ} → Reached l (coefficients s used (suc n)) (u ∷ r) → Reached l (coefficients s used n) r
    all_weighed : {s used : ℕ} {r : List ℕ} → Reached l (coefficients s used zero) r → Reached l (points s used) r
    all_pointed : {used : ℕ} {r : List ℕ} → Reached l (points zero used) r → Reached l nothing r

  -- the table: a code, what is due, and what is left of the list
  pub data DueRefusal : Code → Due → List ℕ → Type 0 where
    -- 1: the list ends before the next value
    short : {d : Due} {r : List ℕ} → length r < wants d → DueRefusal Code.Short d r
    -- 2: spline count above the limit
    many_splines : {v : ℕ} {r : List ℕ} → limit < v + 1 → DueRefusal Code.Splines count (v ∷ r)
    -- 3: a start with a coordinate of magnitude 2^23 or more
    far_start : {s n : ℕ} {first : Bool} {x y : ℤ} {a b : ℕ} {r : List ℕ} → Far pos_limit (coordinate first x a) (coordinate first y b)
        → DueRefusal Code.Coord (starts s (suc n) first x y) (a ∷ b ∷ r)
    -- 4: running total of points above the limit
    many_points : {s used n : ℕ} {r : List ℕ} → limit < used + n → DueRefusal Code.Points (points (suc s) used) (n ∷ r)
    -- 5: a double delta of magnitude 2^30 or more
    far_delta : {s used n a b : ℕ} {r : List ℕ} → Far delta_limit (unpack_signed a) (unpack_signed b) → DueRefusal Code.Delta (deltas s used (suc n)) (a ∷ b ∷ r)
    -- 6: values left over
    left_over : {a : ℕ} {r : List ℕ} → DueRefusal Code.Trail nothing (a ∷ r)
    -- 7: no room for counts, starts or coefficients, at the count; no room for double deltas, at a point count
    no_room : {v : ℕ} {r : List ℕ} → v + 1 ≤ limit → FewCells rooms (v + 1) → DueRefusal Code.Room count (v ∷ r)
    no_deltas : {s used n : ℕ} {r : List ℕ} → used + n ≤ limit → rooms.deltas < 2 * (used + n) → DueRefusal Code.Room (points (suc s) used) (n ∷ r)

-- the place: the list's length for SHORT, which is number 1, else the index of what is left
abbrev pub place_of : Code → ℕ → List ℕ → ℕ
place_of c total r = cond (eqb (number_of c) 1) total (total - length r)

-- a code is given at a place: reading reaches a point where the table has it
pub record ReadRefusal (limit : ℕ) (rooms : ListRooms) (l : List ℕ) (c : Code) (p : ℕ) : Type 0 where
  pub due : Due
  pub rest : List ℕ
  pub reached : Reached limit rooms l due rest
  pub given : DueRefusal limit rooms c due rest
  pub place : p ≡ place_of c (length l) rest

-- an outcome of a refusal: the code's number, its place, and nothing but zeros
pub record ReadRefused (rooms : ListRooms) (c : Code) (p : ℕ) (o : ReadOutcome) : Type 0 where
  pub answer : o.answer ≡ refused c p
  pub told : ◌≡◌ {A = ReadTold} o.told (record { number = number_of c; place = p; splines = 0; points = 0; adjustment = pos 0 })
  pub counts : o.counts ≡ replicate rooms.counts 0
  pub starts : o.starts ≡ replicate rooms.starts zero_f32
  pub deltas : o.deltas ≡ replicate rooms.deltas (pos 0)
  pub coefficients : o.coefficients ≡ replicate rooms.coefficients (pos 0)
