-- How many points are allowed changes no answer of the walk: two allowances are compared by induction on both, and where each walk ends, it ends the same.
use mathlib.Core.Path.{◌≡◌, refl, sym, ap, ◌∙◌}
use mathlib.Core.Bool.{Bool, true, false}
use mathlib.Core.List.{List, [], ◌∷◌}
use Prim.Native.Nat.{ℕ, zero, suc, ◌+◌, ◌≤◌, ◌<◌}
use native.Mathlib.Omega.{arith}
use borrow.Author.Tests.{ltb-true, ltb-false}
use lib.Dec.{ltb}
use lib.ListN.{length}
use lib.Ieee.{Float}
use Rattle.numbers.specs.Arith.{1·0}
use Rattle.curve.specs.declared.Point.{Point}
use Rattle.walk.specs.declared.Stretch.{Stretch}
use Rattle.walk.specs.declared.Stretch.TheVariants.{Ends, Emits}
use Rattle.walk.specs.Walk.{point_at, stretch_of, PointToDraw, to_draw, Walk, More, Ended, before, after_stretch, walk_from, walk_in, Walks}

-- no walk needs more points and has ended
never : {A : Type 0} {xs : List PointToDraw} → More ≡ Ended xs → A
never e = absurd (cc)

-- a walk that ends after one point ends with the rest of it
record Rest (q : Point) (m : Float) (xs : List PointToDraw) (w : Walk) : Type 0 where
  rest : List PointToDraw
  ended : w ≡ Ended rest
  is : xs ≡ to_draw q m ∷ rest

rest_of : (q : Point) (m : Float) (xs : List PointToDraw) (w : Walk) → before (to_draw q m ∷ []) w ≡ Ended xs → Rest q m xs w
rest_of q m xs More e = never e
rest_of q m xs (Ended ys) e = record { rest = ys; ended = refl; is = cc }

-- where a walk in at most a points ends, it has at most a, and it is the walk in at most b points if it has at most b
record Within (a b : ℕ) (xs : List PointToDraw) (w : Walk) : Type 0 where
  few : length xs ≤ a
  same : length xs ≤ b → w ≡ Ended xs

abbrev Agree : (a b : ℕ) → List Float → Type 0
Agree a b path = (i : ℕ) (p : Point) (xs : List PointToDraw) → walk_from a path i p ≡ Ended xs → Within a b xs (walk_from b path i p)

some : (a : ℕ) (path : List Float) (xs : List PointToDraw) (r : Stretch) → after_stretch r (λ q j. walk_from a path j q) ≡ Ended xs → 0 < length xs
some a path xs (Ends q d) e = let g : (to_draw q d ∷ []) ≡ xs = cc in omega (arith, ap length g)
some a path xs (Emits q j) e = let r = rest_of q 1·0 xs (walk_from a path j q) e in omega (arith, ap length r.is)

step : (a b : ℕ) (path : List Float) → Agree a b path → (xs : List PointToDraw) (r : Stretch) → after_stretch r (λ q j. walk_from a path j q) ≡ Ended xs
    → Within (suc a) (suc b) xs (after_stretch r (λ q j. walk_from b path j q))
step a b path ih xs (Ends q d) e =
    let g : (to_draw q d ∷ []) ≡ xs = cc in
    record { few = omega (arith, ap length g); same = λ h. e }
step a b path ih xs (Emits q j) e =
    let r = rest_of q 1·0 xs (walk_from a path j q) e in
    let l : length xs ≡ suc (length r.rest) = ap length r.is in
    let k = ih j q r.rest r.ended in
    record {
      few = omega (arith, k.few);
      same = λ h. ap (before (to_draw q 1·0 ∷ [])) (k.same (omega arith)) ∙ ap Ended (sym r.is);
    }

agree : (a b : ℕ) (path : List Float) → Agree a b path
unfolding walk_from
agree zero b path i p xs e = never e
agree (suc a) zero path i p xs e =
    let s = some a path xs (stretch_of path i p) e in
    let k = step a a path (agree a a path) xs (stretch_of path i p) e in
    record { few = k.few; same = λ h. absurd (omega arith) }
agree (suc a) (suc b) path i p xs e = step a b path (agree a b path) xs (stretch_of path i p) e

-- ---- the whole walk

-- a walk that ends within a points has no more than those
pub walk_within : (a : ℕ) (path : List Float) (xs : List PointToDraw) → walk_in a path ≡ Ended xs → length xs ≤ a
unfolding walk_in
walk_within zero path xs e = never e
walk_within (suc a) path xs e =
    let p = point_at path 0 in
    let r = rest_of p 1·0 xs (walk_from a path 0 p) e in
    omega (arith, ap length r.is, (agree a a path 0 p r.rest r.ended).few)

-- it has the first point and the last
pub walk_two : (a : ℕ) (path : List Float) (xs : List PointToDraw) → walk_in a path ≡ Ended xs → 2 ≤ length xs
unfolding walk_in walk_from
walk_two zero path xs e = never e
walk_two (suc zero) path xs e = never e
walk_two (suc (suc a)) path xs e =
    let p = point_at path 0 in
    let r = rest_of p 1·0 xs (walk_from (suc a) path 0 p) e in
    omega (arith, ap length r.is, some a path r.rest (stretch_of path 0 p) r.ended)

-- more room changes no answer: a walk that ends within a points is the same within b, if it has at most b
pub walk_enough : (a b : ℕ) (path : List Float) (xs : List PointToDraw) → walk_in a path ≡ Ended xs → length xs ≤ b → walk_in b path ≡ Ended xs
unfolding walk_in
walk_enough zero b path xs e h = never e
walk_enough (suc a) zero path xs e h =
    let p = point_at path 0 in
    let r = rest_of p 1·0 xs (walk_from a path 0 p) e in
    absurd (omega (arith, ap length r.is))
walk_enough (suc a) (suc b) path xs e h =
    let p = point_at path 0 in
    let r = rest_of p 1·0 xs (walk_from a path 0 p) e in
    let l : length xs ≡ suc (length r.rest) = ap length r.is in
    ap (before (to_draw p 1·0 ∷ [])) ((agree a b path 0 p r.rest r.ended).same (omega arith)) ∙ ap Ended (sym r.is)

-- no room exactly where more are needed: a walk that ends with more than b points needs more than b
pub walk_short : (a b : ℕ) (path : List Float) (xs : List PointToDraw) → walk_in a path ≡ Ended xs → b < length xs → walk_in b path ≡ More
walk_short a b path xs e h = go (walk_in b path) refl
  where
    go : (w : Walk) → walk_in b path ≡ w → w ≡ More
    go More g = refl
    go (Ended ys) g =
        let s : length ys ≤ b = walk_within b path ys g in
        let t : length xs ≤ a = walk_within a path xs e in
        let u : walk_in (a + b) path ≡ Ended ys = walk_enough b (a + b) path ys g (omega arith) in
        let v : walk_in (a + b) path ≡ Ended xs = walk_enough a (a + b) path xs e (omega arith) in
        let z : ys ≡ xs = cc in
        absurd (omega (arith, ap length z))

-- and where b are not enough, a walk that ends has more than b points
pub walk_needs : (a b : ℕ) (path : List Float) (xs : List PointToDraw) → walk_in b path ≡ More → walk_in a path ≡ Ended xs → b < length xs
walk_needs a b path xs m e = go (ltb b (length xs)) refl
  where
    go : (t : Bool) → ltb b (length xs) ≡ t → b < length xs
    go true h = ltb-true b (length xs) h
    go false h = never (sym m ∙ walk_enough a b path xs e (ltb-false b (length xs) h))

-- ---- with no word of how many are allowed

-- a walk has one end
pub walk_one : (path : List Float) (xs ys : List PointToDraw) → Walks path xs → Walks path ys → xs ≡ ys
walk_one path xs ys v w =
    let m = v.most + w.most in
    let e : walk_in m path ≡ Ended xs = walk_enough v.most m path xs v.ended (omega (arith, walk_within v.most path xs v.ended)) in
    let f : walk_in m path ≡ Ended ys = walk_enough w.most m path ys w.ended (omega (arith, walk_within w.most path ys w.ended)) in
    cc

-- a walk that needs more than b points needs more than a lesser number
pub walk_fewer : (a b : ℕ) (path : List Float) → a ≤ b → walk_in b path ≡ More → walk_in a path ≡ More
walk_fewer a b path h m = go (walk_in a path) refl
  where
    go : (w : Walk) → walk_in a path ≡ w → w ≡ More
    go More e = refl
    go (Ended xs) e = never (sym m ∙ walk_enough a b path xs e (omega (arith, walk_within a path xs e)))

-- Assumes nothing.
