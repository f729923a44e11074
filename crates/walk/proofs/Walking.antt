-- A buffer that takes a walk point by point: what is written and what is still to come make up the whole walk at every moment.
use mathlib.Core.Path.{◌≡◌, refl, sym, ap, ◌∙◌}
use mathlib.Core.List.{List, [], ◌∷◌, ◌++◌, append_assoc}
use Prim.Native.Nat.{ℕ, zero, suc, ◌+◌, ◌-◌, ◌*◌, ◌≤◌, ◌<◌}
use native.Mathlib.Omega.{arith}
use lib.ListN.{length, length-append}
use lib.Seq.{sets}
use lib.Ieee.{Float}
use Rattle.numbers.specs.Arith.{1·0}
use Rattle.buffers.specs.Onto.{onto}
use Rattle.buffers.proofs.Fronts.{onto_none, onto_over, sets_onto}
use Rattle.curve.specs.declared.Point.{Point}
use Rattle.walk.specs.declared.Stretch.{Stretch}
use Rattle.walk.specs.declared.Stretch.TheVariants.{Ends, Emits}
use Rattle.walk.specs.Walked.{Walked, Points, Room}
use Rattle.walk.specs.Walk.{point_at, stretch_of, PointToDraw, to_draw, Walk, More, Ended, before, walk_from, walk_in, flat, walked_of, WalkedOn}

-- ---- three numbers a point

pub flat_append : (xs ys : List PointToDraw) → flat (xs ++ ys) ≡ flat xs ++ flat ys
unfolding flat
flat_append [] ys = refl
flat_append (p ∷ xs) ys = ap (λ (t : List Float). p.point.x ∷ p.point.y ∷ p.multiplier ∷ t) (flat_append xs ys)

pub length_flat : (xs : List PointToDraw) → length (flat xs) ≡ 3 * length xs
unfolding flat
length_flat [] = refl
length_flat (p ∷ xs) = omega (arith, length_flat xs)

-- a point's three numbers
abbrev pub three : Point → Float → List Float
three p m = p.x ∷ p.y ∷ m ∷ []

-- ---- one turn of the outer loop

module _ (k n : ℕ) (path : List Float) (i : ℕ) (p : Point) (h : n < k) where
  one_more : k - n ≡ suc (k - (n + 1))
  one_more = omega arith

  pub walk_ends : {r : Stretch} (q : Point) (d : Float) → r ≡ stretch_of path i p → r ≡ Ends q d → walk_from (k - n) path i p ≡ Ended (to_draw q d ∷ [])
  unfolding walk_from
  walk_ends q d e g = rw (one_more, ← e, g)

  pub walk_emits : {r : Stretch} (q : Point) (j : ℕ) → r ≡ stretch_of path i p → r ≡ Emits q j
      → walk_from (k - n) path i p ≡ before (to_draw q 1·0 ∷ []) (walk_from (k - (n + 1)) path j q)
  unfolding walk_from
  walk_emits q j e g = rw (one_more, ← e, g)

pub walk_none : (k n : ℕ) (path : List Float) (i : ℕ) (p : Point) → k ≤ n → walk_from (k - n) path i p ≡ More
unfolding walk_from
walk_none k n path i p h = let e : k - n ≡ 0 = omega arith in rw e

walk_begin : (k : ℕ) (path : List Float) → (k ≡ 0 → ⊥) → walk_in k path ≡ before (to_draw (point_at path 0) 1·0 ∷ []) (walk_from (k - 1) path 0 (point_at path 0))
unfolding walk_in
walk_begin zero path h = absurd (h refl)
walk_begin (suc k) path h = let e : suc k - 1 ≡ k = omega arith in rw e

-- ---- a walk under way

before_before : (xs ys : List PointToDraw) (w : Walk) → before xs (before ys w) ≡ before (xs ++ ys) w
before_before xs ys More = refl
before_before xs ys (Ended zs) = ap Ended (sym (append_assoc xs ys zs))

-- A buffer that was o₀ takes the walk whole: n points are written, and rest is still to come.
pub record Walking (whole rest : Walk) (o₀ o : List Float) (n : ℕ) : Type 0 where
  pub done : List PointToDraw
  pub parts : whole ≡ before done rest
  pub size : length done ≡ n
  pub buffer : o ≡ onto (flat done) o₀

-- one more point is stored
stored : (o₀ o : List Float) (n : ℕ) (q : Point) (m : Float) (done : List PointToDraw) → length done ≡ n → o ≡ onto (flat done) o₀ → 3 * n + 3 ≤ length o₀
    → sets o (3 * n) (three q m) ≡ onto (flat (done ++ (to_draw q m ∷ []))) o₀
unfolding flat
stored o₀ o n q m done e g h =
    ap (λ (t : List Float). sets t (3 * n) (three q m)) g
    ∙ sets_onto (flat done) (three q m) o₀ (3 * n) (length_flat done ∙ ap (λ (t : ℕ). 3 * t) e) h
    ∙ ap (λ (t : List Float). onto t o₀) (sym (flat_append done (to_draw q m ∷ [])))

module _ {whole : Walk} {o₀ o : List Float} {n : ℕ} where
  pub walking_more : (q : Point) (m : Float) (rest : Walk) → Walking whole (before (to_draw q m ∷ []) rest) o₀ o n → 3 * n + 3 ≤ length o₀
      → Walking whole rest o₀ (sets o (3 * n) (three q m)) (n + 1)
  walking_more q m rest w h = record {
    done = w.done ++ (to_draw q m ∷ []);
    parts = w.parts ∙ before_before w.done (to_draw q m ∷ []) rest;
    size = length-append w.done (to_draw q m ∷ []) ∙ omega (arith, w.size);
    buffer = stored o₀ o n q m w.done w.size w.buffer h;
  }

  -- no more points: no room
  pub walking_room : (e : List Float) → Walking whole More o₀ o n → (Room ≡ walked_of whole) × WalkedOn whole o₀ e
  walking_room e w = (rw w.parts, rw w.parts tt)

  -- the last point is written
  pub walking_end : (q : Point) (m : Float) → Walking whole (Ended (to_draw q m ∷ [])) o₀ o n → 3 * n + 3 ≤ length o₀
      → (Points (n + 1) ≡ walked_of whole) × WalkedOn whole o₀ (sets o (3 * n) (three q m))
  walking_end q m w h = (
    rw w.parts (ap Points (sym (length-append w.done (to_draw q m ∷ []) ∙ omega (arith, w.size)))),
    rw w.parts (stored o₀ o n q m w.done w.size w.buffer h),
  )

-- ---- the first point

-- a walk that was begun on o and goes on over it
walked_over : (whole : Walk) (xs : List PointToDraw) (o e : List Float) (rest : Walk) → whole ≡ before xs rest → WalkedOn whole (onto (flat xs) o) e → WalkedOn whole o e
walked_over whole xs o e rest h w = go rest h
  where
    go : (r : Walk) → whole ≡ before xs r → WalkedOn whole o e
    go More h = rw h tt
    go (Ended ys) h =
        let g : e ≡ onto (flat (xs ++ ys)) (onto (flat xs) o) = rw h at w in
        rw h (g ∙ rw (flat_append xs ys) (onto_over (flat xs) (flat ys) o))

-- q is the first point, and o₁ the buffer once it is written
module _ (k : ℕ) (path o : List Float) {q : Point} {o₁ : List Float} (eq : q ≡ point_at path 0) (h : k ≡ 0 → ⊥) (r : 3 ≤ length o) (e : o₁ ≡ sets o 0 (three q 1·0)) where
  begun : o₁ ≡ onto (flat (to_draw q 1·0 ∷ [])) o
  unfolding flat
  begun = e ∙ ap (λ (t : List Float). sets t 0 (three q 1·0)) (sym (onto_none o)) ∙ sets_onto [] (three q 1·0) o 0 refl r

  begun_walk : walk_in k path ≡ before (to_draw q 1·0 ∷ []) (walk_from (k - 1) path 0 q)
  begun_walk = rw eq (walk_begin k path h)

  pub walking_begin : Walking (walk_in k path) (walk_from (k - 1) path 0 q) o₁ o₁ 1
  unfolding flat
  walking_begin = record {
    done = to_draw q 1·0 ∷ [];
    parts = begun_walk;
    size = refl;
    buffer = begun ∙ sym (ap (onto (three q 1·0)) begun ∙ onto_over (three q 1·0) [] o);
  }

  pub walking_over : (a : Walked) (x : List Float) → (a ≡ walked_of (walk_in k path)) × WalkedOn (walk_in k path) o₁ x → (a ≡ walked_of (walk_in k path)) × WalkedOn (walk_in k path) o x
  walking_over a x w = (w.0, walked_over (walk_in k path) (to_draw q 1·0 ∷ []) o x (walk_from (k - 1) path 0 q) begun_walk (rw begun at w.1))

-- Assumes nothing.
