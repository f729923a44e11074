-- A buffer that takes the segments of a walk point by point: what is written and what is still to come make up all segments at every moment.
use mathlib.Core.Path.{◌≡◌, refl, sym, ap, ◌∙◌}
use mathlib.Core.Bool.{Bool, true, false, cond}
use mathlib.Core.List.{List, [], ◌∷◌, ◌++◌, append_assoc, append-nil}
use Prim.Native.Nat.{ℕ, suc, ◌+◌, ◌-◌, ◌*◌, ◌/◌, ◌≤◌, ◌<◌}
use native.Mathlib.Omega.{arith}
use native.Mathlib.Numerals.{add-one}
use lib.ListN.{length, length-append}
use lib.Seq.{sets}
use lib.Ieee.{Float}
use lib.Dec.{leb}
use borrow.Author.Tests.{le-leb, lt-leb, leb-true, leb-false}
use Rattle.numbers.specs.Arith.{1·0, ◌⊘◌}
use Rattle.buffers.proofs.Fronts.{sets_more}
use Rattle.dequantize.specs.declared.Spline.{Spline}
use Rattle.segments.specs.declared.Segment.{Segment}
use Rattle.std.specs.Prelude.{Option, Some, None}
use Rattle.segments.specs.Segment.{eight_of}
use Rattle.points.specs.Filled.{Filled, Count, Room}
use Rattle.points.specs.Points.{point_segment, made_of, segments_from, add_segments_from_points, eights, filled_of, FilledOn}

pub eights_append : (xs ys : List Segment) → eights (xs ++ ys) ≡ eights xs ++ eights ys
unfolding eights
eights_append [] ys = refl
eights_append (s ∷ xs) ys = rw (eights_append xs ys) (sym (append_assoc (eight_of s) (eights xs) (eights ys)))

pub length_eights : (xs : List Segment) → length (eights xs) ≡ 8 * length xs
unfolding eights
length_eights [] = refl
length_eights (s ∷ xs) = omega (arith, length-append (eight_of s) (eights xs), length_eights xs)

-- ---- what an answer says

pub count_got : (room from : ℕ) (segs : List Segment) (n : ℕ) → Count n ≡ filled_of room from segs → (n ≡ from + length segs) × (from + length segs ≤ room)
unfolding filled_of
count_got room from segs n e = go (leb (from + length segs) room) refl e
  where
    go : (b : Bool) → leb (from + length segs) room ≡ b → Count n ≡ cond b (Count (from + length segs)) Room → (n ≡ from + length segs) × (from + length segs ≤ room)
    go true h q = (cc, leb-true (from + length segs) room h)
    go false h q = absurd (cc)

pub room_got : (room from : ℕ) (segs : List Segment) → Room ≡ filled_of room from segs → room < from + length segs
unfolding filled_of
room_got room from segs e = go (leb (from + length segs) room) refl e
  where
    go : (b : Bool) → leb (from + length segs) room ≡ b → Room ≡ cond b (Count (from + length segs)) Room → room < from + length segs
    go true h q = absurd (cc)
    go false h q = leb-false (from + length segs) room h

pub on_count : (r : Filled) (n from : ℕ) (segs : List Segment) (o e : List Float) → r ≡ Count n → FilledOn r from segs o e → e ≡ sets o (8 * from) (eights segs)
on_count (Count m) n from segs o e q w = w
on_count Room n from segs o e q w = absurd (cc)

-- one segment, or none
pub made_none : (room count : ℕ) (o : List Float) → count ≤ room → (Count count ≡ filled_of room count (made_of None)) × FilledOn (Count count) count (made_of None) o o
unfolding filled_of eights
made_none room count o h =
    let e : count + 0 ≡ count = omega arith in
    rw (e, le-leb count room h) (refl, refl)

pub made_one : (room count : ℕ) (s : Segment) (o : List Float) → count < room
    → (Count (count + 1) ≡ filled_of room count (made_of (Some s))) × FilledOn (Count (count + 1)) count (made_of (Some s)) o (sets o (8 * count) (eight_of s))
unfolding filled_of eights
made_one room count s o h = rw (le-leb (count + 1) room (omega arith)) (refl, ap (sets o (8 * count)) (sym (append-nil (eight_of s))))

pub made_room : (room count : ℕ) (s : Segment) → room ≤ count → Room ≡ filled_of room count (made_of (Some s))
unfolding filled_of
made_room room count s h = rw (lt-leb (count + 1) room (omega arith))

-- ---- point by point

-- points below i are done, and count segments are in the buffer o, that was o₀
pub record Adding (s : Spline) (l : Float) (high : Bool) (walk o₀ : List Float) (from room : ℕ) (o : List Float) (i count : ℕ) : Type 0 where
  pub done : List Segment
  pub parts : add_segments_from_points s walk l high ≡ done ++ segments_from s (1·0 ⊘ l) high walk i (length walk / 3 - i)
  pub size : from + length done ≡ count
  pub fits : count ≤ room
  pub buffer : o ≡ sets o₀ (8 * from) (eights done)

module _ (s : Spline) (l : Float) (high : Bool) (walk o₀ : List Float) (from room : ℕ) where
  pub adding_none : from ≤ room → Adding s l high walk o₀ from room o₀ 0 from
  unfolding add_segments_from_points eights
  adding_none h = record {
    done = [];
    parts = (let e : length walk / 3 - 0 ≡ length walk / 3 = omega arith in rw e);
    size = omega arith;
    fits = h;
    buffer = refl;
  }

  module _ (o : List Float) (i count : ℕ) (a : Adding s l high walk o₀ from room o i count) where
    -- all points are done
    pub adding_all : length walk / 3 ≤ i → (Count count ≡ filled_of room from (add_segments_from_points s walk l high)) × FilledOn (Count count) from (add_segments_from_points s walk l high) o₀ o
    unfolding segments_from filled_of
    adding_all h =
        let e : length walk / 3 - i ≡ 0 = omega arith in
        let p : add_segments_from_points s walk l high ≡ a.done = a.parts ∙ rw e (append-nil a.done) in
        rw (p, le-leb (from + length a.done) room (omega (arith, a.size, a.fits))) (ap Count (sym a.size), a.buffer)

    module _ (h : i < length walk / 3) where
      next : {v : Option Segment} → v ≡ point_segment s (1·0 ⊘ l) high walk i
          → add_segments_from_points s walk l high ≡ a.done ++ (made_of v ++ segments_from s (1·0 ⊘ l) high walk (i + 1) (length walk / 3 - (i + 1)))
      unfolding segments_from
      next e = let g : length walk / 3 - i ≡ suc (length walk / 3 - (i + 1)) = omega arith in a.parts ∙ rw (g, e, add-one i)

      module _ {v : Option Segment} {r : Filled} (e : v ≡ point_segment s (1·0 ⊘ l) high walk i) (f : r ≡ filled_of room count (made_of v)) where
        pub adding_more : {o' : List Float} (n : ℕ) → FilledOn r count (made_of v) o o' → r ≡ Count n → Adding s l high walk o₀ from room o' (i + 1) n
        adding_more {o'} n w q =
            let g = count_got room count (made_of v) n (sym q ∙ f) in
            let b : o' ≡ sets o (8 * count) (eights (made_of v)) = on_count r n count (made_of v) o o' q w in
            record {
              done = a.done ++ made_of v;
              parts = next e ∙ sym (append_assoc a.done (made_of v) (segments_from s (1·0 ⊘ l) high walk (i + 1) (length walk / 3 - (i + 1))));
              size = omega (arith, length-append a.done (made_of v), a.size, g.0);
              fits = omega (arith, g.0, g.1);
              buffer = b
                  ∙ ap (λ (t : List Float). sets t (8 * count) (eights (made_of v))) a.buffer
                  ∙ sets_more (eights a.done) (eights (made_of v)) o₀ (8 * from) (8 * count) (omega (arith, length_eights a.done, a.size))
                  ∙ ap (sets o₀ (8 * from)) (sym (eights_append a.done (made_of v)));
            }

        pub adding_full : r ≡ Room → Room ≡ filled_of room from (add_segments_from_points s walk l high)
        unfolding filled_of
        adding_full q =
            let rest = segments_from s (1·0 ⊘ l) high walk (i + 1) (length walk / 3 - (i + 1)) in
            let n : room < from + length (add_segments_from_points s walk l high) =
            omega (arith, ap length (next e), length-append a.done (made_of v ++ rest), length-append (made_of v) rest, a.size, room_got room count (made_of v) (sym q ∙ f)) in
            rw (lt-leb (from + length (add_segments_from_points s walk l high)) room n)

-- Assumes nothing.
