-- `for_each_equally_spaced_point` at a distance of 1: the points that it calls its closure with, and what a lent buffer then holds. Definitions only.
-- The walk need not end (a step of 1 can round away), so it is said for at most k points; the laws on k are in proofs/Fuel.
use Rattle.std.specs.Prelude.{◌≡◌, cond, List, [], ◌∷◌, ◌++◌, ℕ, zero, suc, ◌+◌, ◌-◌, ◌*◌, ◌/◌, min, length, get_or, pos, ◌-ℤ◌, Float}
use Rattle.std.specs.Float.{nan, binary32}
use Rattle.std.specs.Float.Ieee.{le, of_int}
use Rattle.numbers.specs.Arith.{0·0, 1·0, ◌⊕◌, ◌⊖◌, ◌⊗◌, ◌⊘◌}
use Rattle.roots.specs.Root.{sqrt_of}
use Rattle.buffers.specs.Onto.{onto}
use Rattle.curve.specs.declared.Point.{Point}
use Rattle.curve.specs.Points.{add_point, sub_point, mul_point}
use Rattle.walk.specs.declared.Stretch.{Stretch}
use Rattle.walk.specs.declared.Stretch.TheVariants.{Ends, Emits}
use Rattle.walk.specs.Walked.{Walked, Points, Room}

-- ---- one unit of length

-- sqrt(delta.x * delta.x + delta.y * delta.y)
unfoldable pub distance_of : Point → Float
distance_of delta = sqrt_of binary32 (delta.x ⊗ delta.x ⊕ delta.y ⊗ delta.y)

-- point i of a list that holds two numbers a point
unfoldable pub point_at : List Float → ℕ → Point
point_at path i = record { x = get_or path (2 * i) nan; y = get_or path (2 * i + 1) nan }

-- The inner loop: d was walked since the last point, previous is where it led, and k points are left, i the next.
unfoldable pub stretch_in : ℕ → List Float → ℕ → Point → Float → Stretch
stretch_in zero path i previous d = Ends previous d
stretch_in (suc k) path i previous d =
    let q = point_at path i in
    let delta = sub_point q previous in
    let l = distance_of delta in
    let rest = stretch_in k path (i + 1) q (d ⊕ l) in
    cond (le 1·0 (d ⊕ l)) (Emits (add_point previous (mul_point delta ((1·0 ⊖ d) ⊘ l))) i) rest

-- from current, which lies before point i
unfoldable pub stretch_of : List Float → ℕ → Point → Stretch
stretch_of path i current = stretch_in (length path / 2 - i) path i current 0·0

-- ---- the walk

-- what the closure is called with
pub record PointToDraw : Type 0 where
  pub point : Point
  pub multiplier : Float

abbrev pub to_draw : Point → Float → PointToDraw
to_draw p m = record { point = p; multiplier = m }

-- what is walked in at most some number of points: more are needed, or all of them
pub data Walk : Type 0 where
  More : Walk
  Ended : List PointToDraw → Walk

abbrev pub before : List PointToDraw → Walk → Walk
before xs More = More
before xs (Ended ys) = Ended (xs ++ ys)

-- the path's end is the last point; a point that is emitted has others behind it
abbrev pub after_stretch : Stretch → (Point → ℕ → Walk) → Walk
after_stretch (Ends q d) rest = Ended (to_draw q d ∷ [])
after_stretch (Emits q i) rest = before (to_draw q 1·0 ∷ []) (rest q i)

-- the outer loop, in at most k points
unfoldable pub walk_from : ℕ → List Float → ℕ → Point → Walk
walk_from zero path i current = More
walk_from (suc k) path i current = after_stretch (stretch_of path i current) (λ q j. walk_from k path j q)

-- the walk along a path of one point or more, in at most k points
unfoldable pub walk_in : ℕ → List Float → Walk
walk_in zero path = More
walk_in (suc k) path = before (to_draw (point_at path 0) 1·0 ∷ []) (walk_from k path 0 (point_at path 0))

-- the walk along a path ends with these points: it does so in some number of points, and then in every greater one
pub record Walks (path : List Float) (points : List PointToDraw) : Type 0 where
  pub most : ℕ
  pub ended : walk_in most path ≡ Ended points

-- `length`, of a walk of n points with the last multiplier
unfoldable pub walk_length : ℕ → Float → Float
walk_length n last = of_int binary32 (pos n -ℤ pos 2) ⊗ 1·0 ⊕ last

-- points_to_draw[points_to_draw.len() - 1].1
unfoldable pub last_multiplier : List PointToDraw → Float
last_multiplier [] = nan
last_multiplier (p ∷ []) = p.multiplier
last_multiplier (p ∷ q ∷ l) = last_multiplier (q ∷ l)

-- ---- in a lent buffer

-- three numbers a point
unfoldable pub flat : List PointToDraw → List Float
flat [] = []
flat (p ∷ l) = p.point.x ∷ p.point.y ∷ p.multiplier ∷ flat l

-- the point i of such a list
unfoldable pub to_draw_at : List Float → ℕ → PointToDraw
to_draw_at walk i = record { point = record { x = get_or walk (3 * i) nan; y = get_or walk (3 * i + 1) nan }; multiplier = get_or walk (3 * i + 2) nan }

-- how many points a buffer of n numbers has room for
abbrev pub walk_room : ℕ → ℕ
walk_room n = min (n / 3) 8388608

abbrev pub walked_of : Walk → Walked
walked_of More = Room
walked_of (Ended xs) = Points (length xs)

-- o is the buffer before, e after; without room nothing is said of it
abbrev pub WalkedOn : Walk → List Float → List Float → Type 0
WalkedOn More o e = Unit
WalkedOn (Ended xs) o e = e ≡ onto (flat xs) o
