-- A description has one list of segments with their owners; drawing gives it where every spline has room, whatever more is lent, and stops at the first spline that lacks room.
use mathlib.Core.Path.{◌≡◌, refl, sym, ap, subst, ◌∙◌}
use mathlib.Core.Bool.{Bool, true, false, cond}
use mathlib.Core.List.{List, [], ◌++◌}
use mathlib.Core.Logic.{◌↔◌, ◌⊎◌, inl, inr}
use Prim.Native.Nat.{ℕ, zero, suc, ◌+◌, ◌-◌, ◌*◌, ◌/◌, ◌^◌, ◌≤◌, ◌<◌, min}
use native.Mathlib.Omega.{arith}
use lib.Dec.{leb}
use lib.ListN.{length, get_or, take, drop, length-append, length-drop, length-replicate}
use lib.Seq.{length-take-le}
use lib.Ieee.{Float}
use borrow.Author.Tests.{leb-true, leb-false, le-leb, lt-leb}
use Rattle.dequantize.specs.declared.Given.{Given}
use Rattle.control_points.specs.declared.Pair.{Pair}
use Rattle.control_points.specs.Answers.{Start, At, Out}
use Rattle.control_points.specs.ControlPoints.{starting_point}
use Rattle.dequantize.specs.Judge.{Description, Shaped, start_x, start_y, deltas_at, deltas_of, spline_of}
use Rattle.dequantize.proofs.Judging.{deltas_fit}
use Rattle.dequantize.proofs.Judgement.{fine_accepted}
use Rattle.segments.specs.declared.Segment.{Segment}
use Rattle.curve.specs.Curve as Curve
use Rattle.curve.specs.Curve.{path_of, path_room}
use Rattle.curve.proofs.Paths.{length_path}
use Rattle.walk.specs.Walk.{Walk, More, Ended, walk_in, Walks, walk_room}
use Rattle.walk.proofs.Fuel.{walk_within, walk_enough, walk_one, walk_fewer}
use Rattle.points.specs.Filled.{Count, Room}
use Rattle.points.specs.Points.{filled_of}
use Rattle.owners.specs.Owners.{owned_room, owners_of}
use Rattle.strand.specs.Strand.{Strand, NoRoom, Segments, walk_segments, after_walk, strand_of, strand_filled, segments_of}
use Rattle.strand_at.specs.Strands.{strand_at}
use Rattle.painting.specs.Painting.{strand_of_spline, Painted, All, NoRoomAt, after_strand, paint_from, paint_of, Passed}
use Rattle.painting.specs.Segments.{SplineMakes, MakesUpTo, none_made, one_made, path_needs, SplineFits, DrawnUpTo, none_drawn, one_drawn, SplineLacks, path_lacks, walk_lacks, segments_lack, FirstLacks}

-- ---- one list of segments

module _ (d : Description) (g : Given) (high : Bool) where
  pub spline_one : (k : ℕ) (xs ys : List Segment) → SplineMakes d g high k xs → SplineMakes d g high k ys → xs ≡ ys
  spline_one k xs ys a b =
      let q : At a.start ≡ At b.start = sym a.begins ∙ b.begins in
      let s : a.start ≡ b.start = cc in
      let v : Walks (Curve.flat (path_of b.start (deltas_of d k))) a.points = subst (λ (p : Pair). Walks (Curve.flat (path_of p (deltas_of d k))) a.points) s a.walks in
      let w = walk_one (Curve.flat (path_of b.start (deltas_of d k))) a.points b.points v b.walks in
      a.are ∙ ap (walk_segments (spline_of d g k) high) w ∙ sym b.are

  pub makes_one : {n : ℕ} {xs ys : List Segment} {us vs : List ℕ} → MakesUpTo d g high n xs us → MakesUpTo d g high n ys vs → (xs ≡ ys) × (us ≡ vs)
  makes_one none_made none_made = (refl, refl)
  makes_one (one_made {k = k} {own = ps} a m) (one_made {own = qs} b n) =
      let e = makes_one a b in
      rw (e.0, e.1, spline_one k ps qs m n) (refl, refl)

  -- every segment has an owner
  pub makes_owned : {n : ℕ} {segs : List Segment} {owners : List ℕ} → MakesUpTo d g high n segs owners → length owners ≡ length segs
  makes_owned none_made = refl
  makes_owned (one_made {k = k} {segs = segs} {own = own} {owners = owners} a m) =
      omega (arith, makes_owned a, length-append segs own, length-append owners (owners_of k own), length-replicate (length own) k)

-- the start of the spline k is a place
pub record Begins (d : Description) (k : ℕ) : Type 0 where
  pub start : Pair
  pub is : starting_point (start_x d k) (start_y d k) ≡ At start

-- ---- room in records

-- the lesser of what is lent and of the limit
enough : {lent limit needed : ℕ} → (needed ≤ lent) × (needed ≤ limit) → needed ≤ min lent limit
enough {lent} {limit} {needed} (a, b) = omega arith

suffices : {lent limit needed : ℕ} → needed ≤ min lent limit → (needed ≤ lent) × (needed ≤ limit)
suffices {lent} {limit} {needed} h = (omega arith, omega arith)

short : {lent limit needed : ℕ} → (lent < needed) ⊎ (limit < needed) → min lent limit < needed
short {lent} {limit} {needed} (inl h) = omega arith
short {lent} {limit} {needed} (inr h) = omega arith

lacks : (lent limit needed : ℕ) → min lent limit < needed → (lent < needed) ⊎ (limit < needed)
lacks lent limit needed h = go (leb needed lent) refl
  where
    go : (b : Bool) → leb needed lent ≡ b → (lent < needed) ⊎ (limit < needed)
    go false e = inl (leb-false needed lent e)
    go true e = let l : needed ≤ lent = leb-true needed lent e in inr (omega arith)

walk_short : (a b : ℕ) (path : List Float) → (walk_in a path ≡ More) ⊎ (walk_in b path ≡ More) → walk_in (min a b) path ≡ More
walk_short a b path (inl h) = walk_fewer (min a b) a path (omega arith) h
walk_short a b path (inr h) = walk_fewer (min a b) b path (omega arith) h

walk_lacking : (a b : ℕ) (path : List Float) → walk_in (min a b) path ≡ More → (walk_in a path ≡ More) ⊎ (walk_in b path ≡ More)
walk_lacking a b path h = go (leb a b) refl
  where
    go : (t : Bool) → leb a b ≡ t → (walk_in a path ≡ More) ⊎ (walk_in b path ≡ More)
    go true e = let l : a ≤ b = leb-true a b e in let m : min a b ≡ a = omega arith in inl (rw m at h)
    go false e = let l : b < a = leb-false a b e in let m : min a b ≡ b = omega arith in inr (rw m at h)

-- ---- one spline

-- the records of its path are those that it needs
needs_are : (d : Description) (k : ℕ) (start : Pair) → Shaped d → k < length d.counts → length (path_of start (deltas_of d k)) ≡ path_needs d k
unfolding deltas_of
needs_are d k start s h =
    let f = deltas_fit d k h s in
    let e : length (take (2 * get_or d.counts k 0) (drop (deltas_at d k) d.deltas)) ≡ 2 * get_or d.counts k 0 =
    length-take-le (2 * get_or d.counts k 0) (drop (deltas_at d k) d.deltas) (omega (arith, length-drop (deltas_at d k) d.deltas)) in
    omega (arith, length_path start (take (2 * get_or d.counts k 0) (drop (deltas_at d k) d.deltas)))

module _ (d : Description) (g : Given) (high : Bool) (p w k : ℕ) where
  -- a strand that has room for its path and its walk
  record Ample (segs : List Segment) : Type 0 where
    makes : SplineMakes d g high k segs
    path : length (path_of makes.start (deltas_of d k)) ≤ p
    walk : length makes.points ≤ w

  strand_is : (segs : List Segment) → Ample segs → strand_of_spline d g high p w k ≡ Segments segs
  unfolding strand_of_spline strand_of
  strand_is segs a =
      let m = a.makes in
      let path = Curve.flat (path_of m.start (deltas_of d k)) in
      rw (m.begins, le-leb (length (path_of m.start (deltas_of d k))) p a.path, walk_enough m.walks.most w path m.points m.walks.ended a.walk, m.are)

  -- what a strand is, by its start
  abbrev Comes : Strand → Type 0
  Comes (Segments segs) = Ample segs
  Comes NoRoom = (start : Pair) → starting_point (start_x d k) (start_y d k) ≡ At start
      → (p < length (path_of start (deltas_of d k))) ⊎ ((length (path_of start (deltas_of d k)) ≤ p) × (walk_in w (Curve.flat (path_of start (deltas_of d k))) ≡ More))

  same_start : {a b : Pair} → At a ≡ At b → a ≡ b
  same_start e = cc

  comes : Comes (strand_of_spline d g high p w k)
  unfolding strand_of_spline strand_of
  comes = by_start (starting_point (start_x d k) (start_y d k)) refl
    where
      by_walk : (start : Pair) → starting_point (start_x d k) (start_y d k) ≡ At start → length (path_of start (deltas_of d k)) ≤ p
          → (v : Walk) → walk_in w (Curve.flat (path_of start (deltas_of d k))) ≡ v → Comes (after_walk (spline_of d g k) high v)
      by_walk start b l More e = λ other q. subst
          (λ (s : Pair). (p < length (path_of s (deltas_of d k))) ⊎ ((length (path_of s (deltas_of d k)) ≤ p) × (walk_in w (Curve.flat (path_of s (deltas_of d k))) ≡ More)))
          (same_start (sym b ∙ q)) (inr (l, e))
      by_walk start b l (Ended points) e = record {
        makes = record { start = start; begins = b; points = points; walks = record { most = w; ended = e }; are = refl };
        path = l;
        walk = walk_within w (Curve.flat (path_of start (deltas_of d k))) points e;
      }

      by_path : (start : Pair) → starting_point (start_x d k) (start_y d k) ≡ At start → (t : Bool) → leb (length (path_of start (deltas_of d k))) p ≡ t
          → Comes (cond t (after_walk (spline_of d g k) high (walk_in w (Curve.flat (path_of start (deltas_of d k))))) NoRoom)
      by_path start b true e = by_walk start b (leb-true (length (path_of start (deltas_of d k))) p e) (walk_in w (Curve.flat (path_of start (deltas_of d k)))) refl
      by_path start b false e = λ other q. subst
          (λ (s : Pair). (p < length (path_of s (deltas_of d k))) ⊎ ((length (path_of s (deltas_of d k)) ≤ p) × (walk_in w (Curve.flat (path_of s (deltas_of d k))) ≡ More)))
          (same_start (sym b ∙ q)) (inl (leb-false (length (path_of start (deltas_of d k))) p e))

      by_start : (s : Start) → starting_point (start_x d k) (start_y d k) ≡ s → Comes (strand_at p w s (deltas_of d k) (spline_of d g k) high)
      by_start Out e = λ start q. absurd (cc)
      by_start (At start) e = by_path start e (leb (length (path_of start (deltas_of d k))) p) refl

-- ---- all splines

module _ (d : Description) (g : Given) (high : Bool) where
  -- what is drawn is what is made
  pub drawn_makes : {path walk segments owned n : ℕ} {segs : List Segment} {owners : List ℕ} → DrawnUpTo d g high path walk segments owned n segs owners → MakesUpTo d g high n segs owners
  drawn_makes none_drawn = none_made
  drawn_makes (one_drawn a f) = one_made (drawn_makes a) f.makes

  -- and it is drawn with any more room
  pub drawn_more : {path walk segments owned path' walk' segments' owned' n : ℕ} {segs : List Segment} {owners : List ℕ} → path ≤ path' → walk ≤ walk' → segments ≤ segments' → owned ≤ owned'
      → DrawnUpTo d g high path walk segments owned n segs owners → DrawnUpTo d g high path' walk' segments' owned' n segs owners
  drawn_more p w s o none_drawn = none_drawn
  drawn_more p w s o (one_drawn a f) =
      one_drawn (drawn_more p w s o a)
      (record {
        makes = f.makes;
        path_fits = (omega (arith, f.path_fits.0), f.path_fits.1);
        walk_fits = (omega (arith, f.walk_fits.0), f.walk_fits.1);
        segments_fit = (omega (arith, f.segments_fit.0), f.segments_fit.1);
      })

module _ (d : Description) (g : Given) (high : Bool) (path walk segments owned : ℕ) (shape : Shaped d) where
  abbrev Segmented : ℕ → List Segment → List ℕ → Type 0
  Segmented n segs owners = DrawnUpTo d g high path walk segments owned n segs owners

  abbrev room : ℕ
  room = owned_room segments owned

  abbrev strand : ℕ → Strand
  strand k = strand_of_spline d g high (path_room path) (walk_room walk) k

  abbrev paints : ℕ → ℕ → List Segment → List ℕ → Painted
  paints n k done owners = paint_from d g high (path_room path) (walk_room walk) room n k done owners

  -- ---- from the statements to the drawing

  fits_strand : (before k : ℕ) (own : List Segment) → k < length d.counts → SplineFits d g high path walk segments owned before k own
      → (strand k ≡ Segments own) × (before + length own ≤ room)
  fits_strand before k own h f =
      let e = needs_are d k f.makes.start shape h in (
        strand_is d g high (path_room path) (walk_room walk) k own (record { makes = f.makes; path = omega (arith, f.path_fits.0, f.path_fits.1); walk = enough f.walk_fits }),
        enough f.segments_fit,
      )

  one_step : (n k : ℕ) (done own : List Segment) (owners : List ℕ) → strand k ≡ Segments own → length done + length own ≤ room
      → paints (suc n) k done owners ≡ paints n (suc k) (done ++ own) (owners ++ owners_of k own)
  unfolding paint_from filled_of
  one_step n k done own owners e l = rw (e, le-leb (length done + length own) room l)

  up_to : {k : ℕ} {segs : List Segment} {owners : List ℕ} → Segmented k segs owners → (n : ℕ) → k + n ≤ length d.counts → paints (k + n) 0 [] [] ≡ paints n k segs owners
  up_to none_drawn n h = let e : 0 + n ≡ n = omega arith in rw e
  up_to (one_drawn {k = k} {segs = segs} {own = own} {owners = owners} a f) n h =
      let e : suc k + n ≡ k + suc n = omega arith in
      let q = fits_strand (length segs) k own (omega arith) f in
      rw e (up_to a (suc n) (omega arith) ∙ one_step n k segs own owners q.0 q.1)

  drawn_all : (segs : List Segment) (owners : List ℕ) → Segmented (length d.counts) segs owners → paint_of d g high (path_room path) (walk_room walk) room ≡ All segs owners
  unfolding paint_of paint_from
  drawn_all segs owners a = let e : length d.counts + 0 ≡ length d.counts = omega arith in rw e at (up_to a 0 (omega arith))

  path_none : (k : ℕ) → k < length d.counts → path_room path < path_needs d k → strand k ≡ NoRoom
  unfolding strand_of_spline strand_of
  path_none k h l = go (starting_point (start_x d k) (start_y d k))
    where
      go : (s : Start) → strand_at (path_room path) (walk_room walk) s (deltas_of d k) (spline_of d g k) high ≡ NoRoom
      go Out = refl
      go (At start) = rw (lt-leb (length (path_of start (deltas_of d k))) (path_room path) (omega (arith, needs_are d k start shape h)))

  lacks_filled : (before k : ℕ) → k < length d.counts → SplineLacks d g high path walk segments owned before k → strand_filled room before (strand k) ≡ Room
  unfolding strand_of_spline strand_of filled_of
  lacks_filled before k h (path_lacks l) = rw (path_none k h (short l))
  lacks_filled before k h (walk_lacks start b s v) =
      rw (b, le-leb (length (path_of start (deltas_of d k))) (path_room path) (omega (arith, needs_are d k start shape h, s.0, s.1)), walk_short (walk / 3) (2 ^ 23) (Curve.flat (path_of start (deltas_of d k))) v)
  lacks_filled before k h (segments_lack {own = own} m s v l) =
      let e = strand_is d g high (path_room path) (walk_room walk) k own (record { makes = m; path = omega (arith, needs_are d k m.start shape h, s.0, s.1); walk = enough v }) in
      rw (e, lt-leb (before + length own) room (short l))

  lacks_room : (k : ℕ) → FirstLacks d g high path walk segments owned k → paint_of d g high (path_room path) (walk_room walk) room ≡ NoRoomAt k
  unfolding paint_of paint_from
  lacks_room k f =
      let m = length d.counts - suc k in
      let h : k < length d.counts = f.is_there in
      let e : k + suc m ≡ length d.counts = omega arith in
      rw e at (up_to f.before (suc m) (omega arith)) ∙ rw (lacks_filled (length f.segs) k h f.why)

  -- ---- and back, where every start is a place

  module _ (places : (k : ℕ) → k < length d.counts → Begins d k) where
    abbrev Comes-to : Painted → Type 0
    Comes-to (All segs owners) = Segmented (length d.counts) segs owners
    Comes-to (NoRoomAt k) = FirstLacks d g high path walk segments owned k

    comes_to : (n k : ℕ) (done : List Segment) (owners : List ℕ) → k + n ≡ length d.counts → Segmented k done owners → Comes-to (paints n k done owners)
    unfolding paint_from filled_of
    comes_to zero k done owners e a = let q : k ≡ length d.counts = omega arith in subst (λ (m : ℕ). Segmented m done owners) q a
    comes_to (suc n) k done owners e a = step (strand k) (comes d g high (path_room path) (walk_room walk) k) (λ xs us b. comes_to n (suc k) xs us (omega arith) b)
      where
        inside : k < length d.counts
        inside = omega arith

        no_room : (start : Pair) → starting_point (start_x d k) (start_y d k) ≡ At start
            → (path_room path < length (path_of start (deltas_of d k))) ⊎ ((length (path_of start (deltas_of d k)) ≤ path_room path) × (walk_in (walk_room walk) (Curve.flat (path_of start (deltas_of d k))) ≡ More))
            → SplineLacks d g high path walk segments owned (length done) k
        no_room start b (inl l) = path_lacks (lacks (path / 2) (2 ^ 23) (path_needs d k) (omega (arith, needs_are d k start shape inside)))
        no_room start b (inr (l, m)) =
            walk_lacks start b (suffices (omega (arith, needs_are d k start shape inside))) (walk_lacking (walk / 3) (2 ^ 23) (Curve.flat (path_of start (deltas_of d k))) m)

        by_count : (own : List Segment) → Ample d g high (path_room path) (walk_room walk) k own → ((xs : List Segment) (us : List ℕ) → Segmented (suc k) xs us → Comes-to (paints n (suc k) xs us))
            → (b : Bool) → leb (length done + length own) room ≡ b
            → Comes-to (after_strand (cond b (Count (length done + length own)) Room) k (paints n (suc k) (done ++ own) (owners ++ owners_of k own)))
        by_count own c ih b q =
            let m = c.makes in
            let p : (path_needs d k ≤ path / 2) × (path_needs d k ≤ 2 ^ 23) = suffices (omega (arith, c.path, needs_are d k m.start shape inside)) in
            let v : (length m.points ≤ walk / 3) × (length m.points ≤ 2 ^ 23) = suffices c.walk in
            go m p v b q
          where
            go : (m : SplineMakes d g high k own) → (path_needs d k ≤ path / 2) × (path_needs d k ≤ 2 ^ 23) → (length m.points ≤ walk / 3) × (length m.points ≤ 2 ^ 23)
                → (b : Bool) → leb (length done + length own) room ≡ b
                → Comes-to (after_strand (cond b (Count (length done + length own)) Room) k (paints n (suc k) (done ++ own) (owners ++ owners_of k own)))
            go m p v true q =
                ih (done ++ own) (owners ++ owners_of k own) (one_drawn a (record { makes = m; path_fits = p; walk_fits = v; segments_fit = suffices (leb-true (length done + length own) room q) }))
            go m p v false q = record {
              is_there = inside;
              segs = done;
              owners = owners;
              before = a;
              why = segments_lack m p v (lacks (min (segments / 8) owned) (2 ^ 24) (length done + length own) (leb-false (length done + length own) room q));
            }

        step : (s : Strand) → Comes d g high (path_room path) (walk_room walk) k s → ((xs : List Segment) (us : List ℕ) → Segmented (suc k) xs us → Comes-to (paints n (suc k) xs us))
            → Comes-to (after_strand (strand_filled room (length done) s) k (paints n (suc k) (done ++ segments_of s) (owners ++ owners_of k (segments_of s))))
        step NoRoom c ih =
            let b = places k inside in
            record { is_there = inside; segs = done; owners = owners; before = a; why = no_room b.start b.is (c b.start b.is) }
        step (Segments own) c ih = by_count own c ih (leb (length done + length own) room) refl

-- ---- exactly

module _ (d : Description) (g : Given) (high : Bool) (path walk segments owned : ℕ) (shape : Shaped d) (passed : Passed d g) where
  places : (k : ℕ) → k < length d.counts → Begins d k
  places k h = let a = fine_accepted d g passed.total passed.fine k h in record { start = a.start; is = a.begins }

  comes_at_last : Comes-to d g high path walk segments owned shape places (paint_of d g high (path_room path) (walk_room walk) (owned_room segments owned))
  unfolding paint_of
  comes_at_last = comes_to d g high path walk segments owned shape places (length d.counts) 0 [] [] (omega arith) none_drawn

  -- every spline is drawn exactly where each has room
  pub all_exactly : (segs : List Segment) (owners : List ℕ) → (paint_of d g high (path_room path) (walk_room walk) (owned_room segments owned) ≡ All segs owners) ↔ DrawnUpTo d g high path walk segments owned (length d.counts) segs owners
  all_exactly segs owners = (
    λ e. subst (Comes-to d g high path walk segments owned shape places) e comes_at_last,
    drawn_all d g high path walk segments owned shape segs owners,
  )

  -- and the spline k has no room exactly where it is the first that lacks it
  pub room_exactly : (k : ℕ) → (paint_of d g high (path_room path) (walk_room walk) (owned_room segments owned) ≡ NoRoomAt k) ↔ FirstLacks d g high path walk segments owned k
  room_exactly k = (
    λ e. subst (Comes-to d g high path walk segments owned shape places) e comes_at_last,
    lacks_room d g high path walk segments owned shape k,
  )

-- Assumes nothing.
