-- Two buffers that take the segments of all splines and their owners, spline by spline: what is drawn and what is still to come make up the whole at every moment.
use mathlib.Core.Path.{◌≡◌, refl, sym, ap, ◌∙◌}
use mathlib.Core.Bool.{Bool}
use mathlib.Core.List.{List, [], ◌++◌}
use Prim.Native.Nat.{ℕ, suc, ◌+◌, ◌-◌, ◌*◌, ◌≤◌, ◌<◌}
use native.Mathlib.Omega.{arith}
use native.Mathlib.Numerals.{add-one}
use lib.ListN.{length, get_or, take, drop, replicate, length-append, length-replicate}
use lib.Seq.{sets}
use lib.Ieee.{Float}
use Rattle.buffers.proofs.Fronts.{sets_more}
use Rattle.dequantize.specs.declared.Given.{Given}
use Rattle.dequantize.specs.Judge.{Description, deltas_at, deltas_of}
use Rattle.dequantize.proofs.Judging.{deltas_more}
use Rattle.segments.specs.declared.Segment.{Segment}
use Rattle.points.specs.Filled.{Filled, Count, Room}
use Rattle.points.specs.Points.{eights, FilledOn}
use Rattle.points.proofs.Adding.{eights_append, length_eights, count_got, on_count}
use Rattle.strand.specs.Strand.{Strand, NoRoom, Segments, strand_filled, segments_of}
use Rattle.owners.specs.Owners.{owners_of}
use Rattle.painting.specs.Painting.{strand_of_spline, All, NoRoomAt, after_strand, paint_from, paint_of}

-- the double deltas of the spline k, cut from all of them
pub part_is : (d : Description) (k at w : ℕ) → w ≡ get_or d.counts k 0 → at ≡ deltas_at d k → take (at + 2 * w - at) (drop at d.deltas) ≡ deltas_of d k
unfolding deltas_of
part_is d k at w e f = let j : at + 2 * w - at ≡ 2 * w = omega arith in rw (j, e, f)

-- a strand that had room
strand_got : (room count : ℕ) (s : Strand) (n : ℕ) → Count n ≡ strand_filled room count s → (n ≡ count + length (segments_of s)) × (n ≤ room)
strand_got room count NoRoom n e = absurd (cc)
strand_got room count (Segments segs) n e = let g = count_got room count segs n e in omega (arith, g.0, g.1)

module _ (d : Description) (g : Given) (high : Bool) (p w room : ℕ) (o₀ : List Float) (u₀ : List ℕ) where
  -- the splines below k are done, whose double deltas end at `at`, and count segments are in the buffer o, with their owners in u
  pub record Painting (o : List Float) (u : List ℕ) (k at count : ℕ) : Type 0 where
    pub done : List Segment
    pub owners : List ℕ
    pub left : paint_of d g high p w room ≡ paint_from d g high p w room (length d.counts - k) k done owners
    pub used : at ≡ deltas_at d k
    pub size : length done ≡ count
    pub owned : length owners ≡ count
    pub fits : count ≤ room
    pub buffer : o ≡ sets o₀ 0 (eights done)
    pub numbers : u ≡ sets u₀ 0 owners

  pub painting_none : Painting o₀ u₀ 0 0 0
  unfolding paint_of eights deltas_at
  painting_none = record {
    done = [];
    owners = [];
    left = (let e : length d.counts - 0 ≡ length d.counts = omega arith in rw e);
    used = refl;
    size = refl;
    owned = refl;
    fits = omega arith;
    buffer = refl;
    numbers = refl;
  }

  module _ (o : List Float) (u : List ℕ) (k at count : ℕ) (a : Painting o u k at count) where
    pub painting_all : length d.counts ≤ k → paint_of d g high p w room ≡ All a.done a.owners
    unfolding paint_from
    painting_all h = let e : length d.counts - k ≡ 0 = omega arith in a.left ∙ rw e

    module _ (h : k < length d.counts) {r : Filled} (f : r ≡ strand_filled room count (strand_of_spline d g high p w k)) where
      next : paint_of d g high p w room
          ≡ after_strand r k (paint_from d g high p w room (length d.counts - (k + 1)) (k + 1) (a.done ++ segments_of (strand_of_spline d g high p w k)) (a.owners ++ owners_of k (segments_of (strand_of_spline d g high p w k))))
      unfolding paint_from
      next = let e : length d.counts - k ≡ suc (length d.counts - (k + 1)) = omega arith in a.left ∙ rw (e, a.size, f, add-one k)

      pub painting_room : r ≡ Room → paint_of d g high p w room ≡ NoRoomAt k
      painting_room q = next ∙ rw q

      -- how far the count goes
      pub painting_fits : (n : ℕ) → r ≡ Count n → (count ≤ n) × (n ≤ room)
      painting_fits n q = let c = strand_got room count (strand_of_spline d g high p w k) n (sym q ∙ f) in (omega (arith, c.0), c.1)

      pub painting_more : {o' : List Float} {u' : List ℕ} (n : ℕ) → FilledOn r count (segments_of (strand_of_spline d g high p w k)) o o' → u' ≡ sets u count (replicate (n - count) k) → r ≡ Count n
          → Painting o' u' (k + 1) (at + 2 * get_or d.counts k 0) n
      painting_more {o'} {u'} n t v q =
          let s = strand_of_spline d g high p w k in
          let c = strand_got room count s n (sym q ∙ f) in
          let grows : n - count ≡ length (segments_of s) = omega (arith, c.0) in
          let b : o' ≡ sets o (8 * count) (eights (segments_of s)) = on_count r n count (segments_of s) o o' q t in
          record {
            done = a.done ++ segments_of s;
            owners = a.owners ++ owners_of k (segments_of s);
            left = next ∙ rw q;
            used = omega (arith, a.used, deltas_more d k h);
            size = omega (arith, length-append a.done (segments_of s), a.size, c.0);
            owned = omega (arith, length-append a.owners (owners_of k (segments_of s)), length-replicate (length (segments_of s)) k, a.owned, c.0);
            fits = c.1;
            buffer = b
                ∙ ap (λ (x : List Float). sets x (8 * count) (eights (segments_of s))) a.buffer
                ∙ sets_more (eights a.done) (eights (segments_of s)) o₀ 0 (8 * count) (omega (arith, length_eights a.done, a.size))
                ∙ ap (sets o₀ 0) (sym (eights_append a.done (segments_of s)));
            numbers = v
                ∙ ap (λ (m : ℕ). sets u count (replicate m k)) grows
                ∙ ap (λ (x : List ℕ). sets x count (owners_of k (segments_of s))) a.numbers
                ∙ sets_more a.owners (owners_of k (segments_of s)) u₀ 0 count (omega (arith, a.owned));
          }

-- Assumes nothing.
