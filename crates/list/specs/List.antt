-- The value list: what `Splines::read` and `QuantizedSpline::read` of spline.rs make of it, with `unpack_signed` of decode.rs, and the list that a description has.
-- Reading a part gives its values and the rest of the list, or stops with a code and a place, which is the index of a value of the list.
-- `total` is the length of the whole list, so `total - length rest` is the index of the first value of a rest.
use Rattle.std.specs.Prelude.{◌≡◌, Bool, true, false, ◌||◌, cond, List, [], ◌∷◌, ◌++◌, map, ℕ, zero, suc, ◌+◌, ◌-◌, ◌*◌, ◌/◌, ◌%◌, ◌^◌, ◌≤◌, ◌<◌, min, eqb, leb, ltb, length, take, drop, ℤ, pos, negsuc, nat_abs, ◌+ℤ◌, ◌-ℤ◌}
use Rattle.codes.specs.declared.Code.{Code}
use Rattle.shape.specs.Shape.{points_of}

-- ---- signed values

-- even u gives u / 2, odd u gives -(u + 1) / 2, which is `negsuc (u / 2)`
abbrev pub unpack_signed : ℕ → ℤ
unpack_signed u = cond (eqb (u % 2) 0) (pos (u / 2)) (negsuc (u / 2))

-- the value of the list that unpacks to a number
abbrev pub pack_signed : ℤ → ℕ
pack_signed (pos n) = 2 * n
pack_signed (negsuc n) = 2 * n + 1

-- ---- limits

-- L, for spline count and points alike: the configured limit, or half the pixels where that is less
abbrev pub limit_of : ℕ → ℕ → ℕ
limit_of configured pixels = min configured (pixels / 2)

-- SPLINE_POS_LIMIT
abbrev pub pos_limit : ℕ
pos_limit = 2 ^ 23

-- DELTA_LIMIT
abbrev pub delta_limit : ℕ
delta_limit = 2 ^ 30

-- one of two numbers has a magnitude of at least the limit
abbrev pub beyond : ℕ → ℤ → ℤ → Bool
beyond limit x y = leb limit (nat_abs x) || leb limit (nat_abs y)

-- how many cells are lent for each kind of number
pub record ListRooms : Type 0 where
  pub counts : ℕ
  pub starts : ℕ
  pub deltas : ℕ
  pub coefficients : ℕ

-- ---- what is read

-- values and the rest of the list, or a code and a place
pub data Got (A : Type 0) : Type 0 where
  got : A → List ℕ → Got A
  stop : Code → ℕ → Got A

-- a spline: its point count, its double deltas (x, y by turns), its 128 coefficients (32 each for X, Y, B and sigma)
pub data Spline : Type 0 where
  spline : ℕ → List ℤ → List ℤ → Spline

-- splines: their point counts, double deltas and coefficients, each in one list
pub data Splines : Type 0 where
  splines : List ℕ → List ℤ → List ℤ → Splines

-- a whole list: the adjustment, the starts (x, y by turns), point counts, double deltas and coefficients
pub data Described : Type 0 where
  described : ℤ → List ℤ → List ℕ → List ℤ → List ℤ → Described

-- ---- reading

-- first one part, and then another from the rest
abbrev pub and_then : {A B : Type 0} → Got A → (A → List ℕ → Got B) → Got B
and_then (got a l) f = f a l
and_then (stop c p) f = stop c p

-- values that were read before others
abbrev pub onto : {A : Type 0} → List A → Got (List A) → Got (List A)
onto vs (got ws l) = got (vs ++ ws) l
onto vs (stop c p) = stop c p

-- a coordinate of a start: the first start is unsigned, each later one a signed difference to the last
abbrev pub coordinate : Bool → ℤ → ℕ → ℤ
coordinate true last u = pos u
coordinate false last u = last +ℤ unpack_signed u

-- n starts, where x and y are those of the last
unfoldable pub starts_in : ℕ → Bool → ℤ → ℤ → ℕ → List ℕ → Got (List ℤ)
starts_in total first x y zero l = got [] l
starts_in total first x y (suc n) [] = stop Code.Short total
starts_in total first x y (suc n) (a ∷ []) = stop Code.Short total
starts_in total first x y (suc n) (a ∷ b ∷ l) =
    cond (beyond pos_limit (coordinate first x a) (coordinate first y b)) (stop Code.Coord (total - length (a ∷ b ∷ l)))
    (onto (coordinate first x a ∷ coordinate first y b ∷ []) (starts_in total false (coordinate first x a) (coordinate first y b) n l))

-- n pairs of double deltas
unfoldable pub deltas_in : ℕ → ℕ → List ℕ → Got (List ℤ)
deltas_in total zero l = got [] l
deltas_in total (suc n) [] = stop Code.Short total
deltas_in total (suc n) (a ∷ []) = stop Code.Short total
deltas_in total (suc n) (a ∷ b ∷ l) =
    cond (beyond delta_limit (unpack_signed a) (unpack_signed b)) (stop Code.Delta (total - length (a ∷ b ∷ l)))
    (onto (unpack_signed a ∷ unpack_signed b ∷ []) (deltas_in total n l))

-- n coefficients
unfoldable pub coefficients_in : ℕ → ℕ → List ℕ → Got (List ℤ)
coefficients_in total zero l = got [] l
coefficients_in total (suc n) [] = stop Code.Short total
coefficients_in total (suc n) (a ∷ l) = onto (unpack_signed a ∷ []) (coefficients_in total n l)

-- a spline, of at most `left` points, with `room` cells for its double deltas
unfoldable pub spline_in : ℕ → ℕ → ℕ → List ℕ → Got Spline
spline_in total left room [] = stop Code.Short total
spline_in total left room (n ∷ l) =
    cond (ltb left n) (stop Code.Points (total - length (n ∷ l)))
    (cond (ltb room (2 * n)) (stop Code.Room (total - length (n ∷ l)))
    (and_then (deltas_in total n l) (λ ds l1. and_then (coefficients_in total 128 l1) (λ cs l2. got (spline n ds cs) l2))))

abbrev pub points : Spline → ℕ
points (spline n ds cs) = n

-- a spline that was read before others
abbrev pub onto_splines : Spline → Got Splines → Got Splines
onto_splines (spline n es bs) (got (splines ns ds cs) l) = got (splines (n ∷ ns) (es ++ ds) (bs ++ cs)) l
onto_splines s (stop c p) = stop c p

-- s splines, of at most `left` points together, with `room` cells for their double deltas
unfoldable pub splines_of : ℕ → ℕ → ℕ → ℕ → List ℕ → Got Splines
splines_of total left room zero l = got (splines [] [] []) l
splines_of total left room (suc s) l =
    and_then (spline_in total left room l)
    (λ x l1. onto_splines x (splines_of total (left - points x) (room - 2 * points x) s l1))

abbrev pub describe : ℤ → List ℤ → Splines → Described
describe a zs (splines ns ds cs) = described a zs ns ds cs

-- nothing may be left over
abbrev pub ended : ℕ → Described → List ℕ → Got Described
ended total x [] = got x []
ended total x (a ∷ l) = stop Code.Trail (total - length (a ∷ l))

-- after the starts zs: the adjustment, s splines, and the end
unfoldable pub after_starts : ℕ → ℕ → ℕ → ℕ → List ℤ → List ℕ → Got Described
after_starts total limit room s zs [] = stop Code.Short total
after_starts total limit room s zs (a ∷ l) =
    and_then (splines_of total limit room s l) (λ x l1. ended total (describe (unpack_signed a) zs x) l1)

-- no room for the counts, the starts or the coefficients of s splines
abbrev pub lacking : ListRooms → ℕ → Bool
lacking rooms s = ltb rooms.counts s || (ltb rooms.starts (2 * s) || ltb rooms.coefficients (128 * s))

-- the whole list
unfoldable pub read_of : ℕ → ListRooms → List ℕ → Got Described
read_of limit rooms [] = stop Code.Short 0
read_of limit rooms (v ∷ l) =
    cond (ltb limit (v + 1)) (stop Code.Splines 0)
    (cond (lacking rooms (v + 1)) (stop Code.Room 0)
    (and_then (starts_in (length (v ∷ l)) true (pos 0) (pos 0) (v + 1) l)
    (λ zs l1. after_starts (length (v ∷ l)) limit rooms.deltas (v + 1) zs l1)))

-- ---- writing

-- the starts: the first as it is, each later one as a signed difference to the last
abbrev pub starts_list : Bool → ℤ → ℤ → List ℤ → List ℕ
starts_list first x y [] = []
starts_list first x y (a ∷ []) = []
starts_list true x y (a ∷ b ∷ zs) = nat_abs a ∷ nat_abs b ∷ starts_list false a b zs
starts_list false x y (a ∷ b ∷ zs) = pack_signed (a -ℤ x) ∷ pack_signed (b -ℤ y) ∷ starts_list false a b zs

-- a spline: its point count, its double deltas, its coefficients, which stand first in ds and cs
abbrev pub spline_list : ℕ → List ℤ → List ℤ → List ℕ
spline_list n ds cs = n ∷ (map pack_signed (take (2 * n) ds) ++ map pack_signed (take 128 cs))

-- the splines
abbrev pub splines_list : List ℕ → List ℤ → List ℤ → List ℕ
splines_list [] ds cs = []
splines_list (n ∷ ns) ds cs = spline_list n ds cs ++ splines_list ns (drop (2 * n) ds) (drop 128 cs)

-- the list of a description
abbrev pub list_of : Described → List ℕ
list_of (described a zs ns ds cs) = (length ns - 1) ∷ (starts_list true (pos 0) (pos 0) zs ++ (pack_signed a ∷ splines_list ns ds cs))

-- ---- a description that has a list

-- starts below 2^23 in magnitude, the first of them not negative
abbrev pub Near : Bool → List ℤ → Type 0
Near first [] = Unit {0}
Near first (x ∷ []) = Unit {0}
Near true (x ∷ y ∷ zs) = (beyond pos_limit x y ≡ false) × (pos (nat_abs x) ≡ x) × (pos (nat_abs y) ≡ y) × Near false zs
Near false (x ∷ y ∷ zs) = (beyond pos_limit x y ≡ false) × Near false zs

-- double deltas below 2^30 in magnitude
abbrev pub Tame : List ℤ → Type 0
Tame [] = Unit {0}
Tame (x ∷ []) = Unit {0}
Tame (x ∷ y ∷ ds) = (beyond delta_limit x y ≡ false) × Tame ds

-- it can be written under the limit
pub record Valid (limit : ℕ) (zs : List ℤ) (ns : List ℕ) (ds cs : List ℤ) : Type 0 where
  pub some : 0 < length ns
  pub count : length ns ≤ limit
  pub total : points_of ns ≤ limit
  pub starts : length zs ≡ 2 * length ns
  pub deltas : length ds ≡ 2 * points_of ns
  pub coefficients : length cs ≡ 128 * length ns
  pub near : Near true zs
  pub tame : Tame ds
