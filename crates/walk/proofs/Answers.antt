-- What an answer of `walk` tells its caller, by cases on whether the walk had room; and the points in the buffer, read one by one.
use mathlib.Core.Path.{◌≡◌, refl, sym, ap, ◌∙◌}
use mathlib.Core.List.{List, [], ◌∷◌}
use Prim.Native.Nat.{ℕ, zero, suc, ◌+◌, ◌-◌, ◌*◌, ◌≤◌, ◌<◌}
use native.Mathlib.Omega.{arith}
use lib.ListN.{length, take, get_or}
use lib.Seq.{get_or-take}
use lib.Ieee.{Float, nan}
use Rattle.buffers.proofs.Fronts.{take_onto}
use Rattle.walk.specs.Walked.{Points, Room}
use Rattle.walk.specs.Walk.{PointToDraw, Walk, More, Ended, walk_in, last_multiplier, flat, to_draw_at, walked_of, WalkedOn}
use Rattle.walk.proofs.Walking.{length_flat}
use Rattle.walk.proofs.Fuel.{walk_within, walk_two}

-- a walk of n points had room and stands on the front of the buffer e
pub record Taken (room : ℕ) (path e : List Float) (n : ℕ) : Type 0 where
  pub points : List PointToDraw
  pub ended : walk_in room path ≡ Ended points
  pub count : n ≡ length points
  pub two : 2 ≤ n
  pub fits : n ≤ room
  pub front : take (3 * n) e ≡ flat points

pub walked-got : (room : ℕ) (path o e : List Float) (n : ℕ) → Points n ≡ walked_of (walk_in room path) → WalkedOn (walk_in room path) o e → Taken room path e n
walked-got room path o e n a b = go (walk_in room path) refl a b
  where
    go : (w : Walk) → walk_in room path ≡ w → Points n ≡ walked_of w → WalkedOn w o e → Taken room path e n
    go More h a b = absurd (cc)
    go (Ended xs) h a b =
        let k : n ≡ length xs = cc in
        let l : length (flat xs) ≡ 3 * n = length_flat xs ∙ ap (λ (i : ℕ). 3 * i) (sym k) in
        record {
          points = xs;
          ended = h;
          count = k;
          two = omega (arith, walk_two room path xs h);
          fits = omega (arith, walk_within room path xs h);
          front = rw b (take_onto (flat xs) o (3 * n) l);
        }

pub walked_none : (room : ℕ) (path : List Float) → Room ≡ walked_of (walk_in room path) → walk_in room path ≡ More
walked_none room path a = go (walk_in room path) a
  where
    go : (w : Walk) → Room ≡ walked_of w → w ≡ More
    go More a = refl
    go (Ended xs) a = absurd (cc)

-- ---- point by point

at-flat : (xs : List PointToDraw) (i : ℕ) (d : PointToDraw) → i < length xs → to_draw_at (flat xs) i ≡ get_or xs i d
unfolding to_draw_at flat
at-flat [] i d h = absurd (omega arith)
at-flat (p ∷ xs) zero d h = refl
at-flat (p ∷ xs) (suc i) d h =
    let e : 3 * suc i ≡ suc (suc (suc (3 * i))) = omega arith in
    let f : 3 * suc i + 1 ≡ suc (suc (suc (3 * i + 1))) = omega arith in
    let g : 3 * suc i + 2 ≡ suc (suc (suc (3 * i + 2))) = omega arith in
    rw (f, g, e) (at-flat xs i d (omega arith))

last_flat : (xs : List PointToDraw) → 0 < length xs → get_or (flat xs) (3 * length xs - 1) nan ≡ last_multiplier xs
unfolding flat last_multiplier
last_flat [] h = absurd (omega arith)
last_flat (p ∷ []) h = refl
last_flat (p ∷ q ∷ xs) h =
    let e : 3 * suc (suc (length xs)) - 1 ≡ suc (suc (suc (3 * suc (length xs) - 1))) = omega arith in
    rw e (last_flat (q ∷ xs) (omega arith))

module _ (room : ℕ) (path e : List Float) (n : ℕ) (t : Taken room path e n) where
  pub taken_at : (i : ℕ) (d : PointToDraw) → i < n → to_draw_at e i ≡ get_or t.points i d
  unfolding to_draw_at
  taken_at i d h =
      rw (← get_or-take (3 * n) e (3 * i) nan (omega arith), ← get_or-take (3 * n) e (3 * i + 1) nan (omega arith), ← get_or-take (3 * n) e (3 * i + 2) nan (omega arith), t.front)
      (at-flat t.points i d (omega (arith, t.count)))

  pub taken-last : get_or e (3 * n - 1) nan ≡ last_multiplier t.points
  taken-last =
      sym (get_or-take (3 * n) e (3 * n - 1) nan (omega (arith, t.two)))
      ∙ ap (λ (l : List Float). get_or l (3 * n - 1) nan) t.front
      ∙ ap (λ (i : ℕ). get_or (flat t.points) (3 * i - 1) nan) t.count
      ∙ last_flat t.points (omega (arith, t.count, t.two))

-- Assumes nothing.
