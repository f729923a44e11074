-- Reading a points text: the checks pair by pair, the start and the double deltas, and what a call of `points_read` leaves.
use Rattle.std.specs.Prelude.{Bool, false, cond, ◌||◌, List, [], ◌∷◌, ◌++◌, ℕ, ◌-◌, ◌*◌, ltb, length, replicate, ℤ, pos, ◌-ℤ◌, Float, Option, Some}
use Rattle.codes.specs.declared.Code.TheVariants.{Room, Position, Coincide}
use Rattle.list.specs.Steps.{f32_of, zero_f32}
use Rattle.writer.specs.Write.{WriteTold, told_of}
use Rattle.write_judge.specs.Verdict.{Verdict}
use Rattle.write_judge.specs.Verdict.{Fine, Fault}
use Rattle.writer.specs.WriteAnswer.{WriteAnswer, Done, Refused}
use Rattle.control_points.specs.ControlPoints.{valid_point_pos, same_point, stand_at}
use Rattle.control_points.specs.declared.Pair.{Pair}
use Rattle.control_points.specs.declared.Stand.{Stand}
use Rattle.polyline.specs.declared.Spot.{Spot}
use Rattle.polyline.specs.declared.Track.{Track}
use Rattle.polyline.specs.Judged.{Judged, On, Stop}
use Rattle.polyline.specs.Tracked.{Empty, Tracked, Came, Halt}
use Rattle.polyline.specs.Stages.{text_of}
use Rattle.polyline.specs.Spots.{spots_of}

-- ---- pairs, one after the other

unfoldable pub minus_of : Pair → Pair → Pair
minus_of p q = record { x = p.x -ℤ q.x; y = p.y -ℤ q.y }

-- POSITION passes: the delta to the pair, where there is one, and the pair itself are in range
unfoldable pub placeable : Option Track → Pair → Bool
placeable Empty q = valid_point_pos q
placeable (Some t) q = cond (valid_point_pos (minus_of q t.place.point)) (valid_point_pos q) false

-- COINCIDE: the pair is the same point as the one before it
unfoldable pub meets : Option Track → Pair → Bool
meets Empty q = false
meets (Some t) q = same_point t.place.point q

-- the pair is the control point reached
unfoldable pub track_to : Option Track → Pair → Track
track_to Empty q = record { place = stand_at q; start = q }
track_to (Some t) q = record { place = record { delta = minus_of q t.place.point; point = q }; start = t.start }

-- the double delta that leads from a place to a pair
unfoldable pub double_delta : Stand → Pair → Pair
double_delta p q = minus_of (minus_of q p.point) p.delta

-- its two numbers; the first pair has none
unfoldable pub step_deltas : Option Track → Pair → List ℤ
step_deltas Empty q = []
step_deltas (Some t) q = (double_delta t.place q).x ∷ (double_delta t.place q).y ∷ []

-- a further pair: POSITION, then COINCIDE
unfoldable pub judged_of : Option Track → Pair → Judged
judged_of t q = cond (placeable t q) (cond (meets t q) (Stop Coincide) (On (track_to t q))) (Stop Position)

abbrev pub after_pair : Judged → ℕ → (Option Track → Tracked) → Tracked
after_pair (On t) at go = go (Some t)
after_pair (Stop code) at go = Halt code at

-- pair by pair; a refusal points to the first byte of the pair
unfoldable pub track_from : Option Track → List Spot → Tracked
track_from t [] = Came t
track_from t (s ∷ ss) = after_pair (judged_of t s.point) s.begin (λ u. track_from u ss)

abbrev pub track_verdict : Tracked → Verdict
track_verdict (Came t) = Fine
track_verdict (Halt c p) = Fault c p

-- the double deltas of pairs
unfoldable pub deltas_from : Option Track → List Spot → List ℤ
deltas_from t [] = []
deltas_from t (s ∷ ss) = step_deltas t s.point ++ deltas_from (Some (track_to t s.point)) ss

-- ---- the whole text

abbrev pub origin : Pair
origin = record { x = pos 0; y = pos 0 }

-- the first pair
abbrev pub first_point : List Spot → Pair
first_point [] = origin
first_point (s ∷ ss) = s.point

abbrev pub start_of : List Spot → List Float
start_of ss = f32_of (first_point ss).x ∷ f32_of (first_point ss).y ∷ []

-- the pairs behind the first
abbrev pub later_of : List Spot → ℕ
later_of ss = length ss - 1

-- a verdict, and where it is fine another
abbrev pub and_then : Verdict → Verdict → Verdict
and_then Fine v = v
and_then (Fault c p) v = Fault c p

-- 2 cells of start, and 2 a double delta
abbrev pub room_for : ℕ → ℕ → ℕ → Verdict
room_for start deltas pairs = cond (ltb start 2 || ltb deltas (2 * pairs)) (Fault Room 0) Fine

-- POSITION and COINCIDE pair by pair, then ROOM, with so many cells of start and of double deltas lent
unfoldable pub pairs_verdict : ℕ → ℕ → List Spot → Verdict
pairs_verdict start deltas ss = and_then (track_verdict (track_from Empty ss)) (room_for start deltas (later_of ss))

-- TEXT before all else
unfoldable pub points_verdict : ℕ → ℕ → List ℕ → Verdict
points_verdict start deltas text = and_then (text_of text) (pairs_verdict start deltas (spots_of text))

-- the answer, what it tells, and every cell of both buffers
pub record PointsOutcome : Type 0 where
  pub answer : WriteAnswer
  pub told : WriteTold
  pub start : List Float
  pub deltas : List ℤ

abbrev pub leaves : WriteAnswer → List Float → List ℤ → PointsOutcome
leaves r s d = record { answer = r; told = told_of r; start = s; deltas = d }

-- start and double deltas with zeros behind, or a refusal and zeros
abbrev pub outcome : ℕ → ℕ → List Spot → Verdict → PointsOutcome
outcome start deltas ss Fine =
    leaves (Done (later_of ss)) (start_of ss ++ replicate (start - 2) zero_f32)
    (deltas_from Empty ss ++ replicate (deltas - 2 * later_of ss) (pos 0))
outcome start deltas ss (Fault c p) = leaves (Refused c p) (replicate start zero_f32) (replicate deltas (pos 0))

-- what `points_read` answers and leaves
unfoldable pub read_points_of : ℕ → ℕ → List ℕ → PointsOutcome
read_points_of start deltas text = outcome start deltas (spots_of text) (points_verdict start deltas text)
