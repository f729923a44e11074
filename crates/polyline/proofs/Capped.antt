-- Sizes that are held up to 2^24 give the same verdict on every pair, and the same pairs where all pass.
use mathlib.Core.Path.{◌≡◌, refl, sym, ap, ◌∙◌}
use mathlib.Core.Bool.{Bool, true, false, cond}
use Rattle.std.specs.Prelude.{Option, Some}
use mathlib.Core.List.{List, [], ◌∷◌, ◌++◌, map}
use Prim.Native.Nat.{ℕ, zero, suc, ◌+◌, ◌-◌, ◌*◌, ◌≤◌, ◌<◌}
use native.Mathlib.Omega.{arith}
use lib.Dec.{eqb, leb}
use lib.IntN.{ℤ, pos, negsuc}
use borrow.Author.Tests.{le-leb, lt-leb, leb-true, leb-false}
use Rattle.control_points.specs.ControlPoints.{in_range, valid_point_pos}
use Rattle.control_points.proofs.Pairs.{in_range_mag, point_range}
use Rattle.control_points.specs.declared.Pair.{Pair}
use Rattle.polyline.specs.declared.Figure.{Figure}
use Rattle.polyline.specs.declared.Spot.{Spot}
use Rattle.polyline.specs.declared.Track.{Track}
use Rattle.polyline.specs.Judged.{Judged, On, Stop}
use Rattle.polyline.specs.Tracked.{Came}
use Rattle.polyline.specs.Spots.{signed_by, figure_at, grown_by, spot_of, spots_from, uncapped, capped, spots_of, capped_spots}
use Rattle.polyline.specs.Read.{judged_of, after_pair, track_from, track_to}
use Rattle.polyline.proofs.Tracks.{placeable_valid, unplaceable, walk_came}

-- ---- numbers

pub cap_big : (n : ℕ) → 16777216 ≤ n → capped n ≡ 16777216
cap_big n h = rw (le-leb 16777216 n h)

pub cap_small : (n : ℕ) → n < 16777216 → capped n ≡ n
cap_small n h = rw (lt-leb 16777216 n h)

cap_digit : (n d : ℕ) → capped (10 * capped n + d) ≡ capped (10 * n + d)
cap_digit n d = go (leb 16777216 n) refl
  where
    go : (t : Bool) → leb 16777216 n ≡ t → capped (10 * capped n + d) ≡ capped (10 * n + d)
    go true e =
        let h : 16777216 ≤ n = leb-true 16777216 n e in
        ap (λ (k : ℕ). capped (10 * k + d)) (cap_big n h) ∙ cap_big (10 * 16777216 + d) (omega arith) ∙ sym (cap_big (10 * n + d) (omega arith))
    go false e = ap (λ (k : ℕ). capped (10 * k + d)) (cap_small n (leb-false 16777216 n e))

abbrev pub cap_z : ℤ → ℤ
cap_z (pos n) = pos (capped n)
cap_z (negsuc n) = signed_by true (capped (suc n))

value_capped : (s : Bool) (n : ℕ) → signed_by s (capped n) ≡ cap_z (signed_by s n)
value_capped false n = refl
value_capped true zero = refl
value_capped true (suc n) = refl

cap_in : (v : ℤ) → in_range v ≡ true → cap_z v ≡ v
cap_in (pos n) h = ap pos (cap_small n (omega (arith, in_range_mag (pos n) h)))
cap_in (negsuc n) h = ap (λ (k : ℕ). signed_by true k) (cap_small (suc n) (omega (arith, in_range_mag (negsuc n) h)))

cap_out : (v : ℤ) → in_range v ≡ false → in_range (cap_z v) ≡ false
cap_out (pos n) h = go (leb 16777216 n) refl
  where
    go : (t : Bool) → leb 16777216 n ≡ t → in_range (pos (capped n)) ≡ false
    go true e = ap (λ (k : ℕ). in_range (pos k)) (cap_big n (leb-true 16777216 n e))
    go false e = ap (λ (k : ℕ). in_range (pos k)) (cap_small n (leb-false 16777216 n e)) ∙ h
cap_out (negsuc n) h = go (leb 16777216 (suc n)) refl
  where
    go : (t : Bool) → leb 16777216 (suc n) ≡ t → in_range (signed_by true (capped (suc n))) ≡ false
    go true e = ap (λ (k : ℕ). in_range (signed_by true k)) (cap_big (suc n) (leb-true 16777216 (suc n) e))
    go false e = ap (λ (k : ℕ). in_range (signed_by true k)) (cap_small (suc n) (leb-false 16777216 (suc n) e)) ∙ h

range_capped : (v : ℤ) → in_range (cap_z v) ≡ in_range v
range_capped v = go (in_range v) refl
  where
    go : (t : Bool) → in_range v ≡ t → in_range (cap_z v) ≡ in_range v
    go true e = ap in_range (cap_in v e)
    go false e = cap_out v e ∙ sym e

-- ---- pairs

abbrev pub cap_pair : Pair → Pair
cap_pair q = record { x = cap_z q.x; y = cap_z q.y }

abbrev pub cap_spot : Spot → Spot
cap_spot s = record { begin = s.begin; point = cap_pair s.point }

abbrev pub cap_figure : Figure → Figure
cap_figure f = record { begin = f.begin; x = cap_z f.x; negative = f.negative; size = capped f.size }

pair_in : (q : Pair) → valid_point_pos q ≡ true → cap_pair q ≡ q
pair_in q h =
    let r = point_range q h in
    rw (cap_in q.x r.0, cap_in q.y r.1)

valid_capped : (q : Pair) → valid_point_pos (cap_pair q) ≡ valid_point_pos q
unfolding valid_point_pos
valid_capped q = rw (range_capped q.x, range_capped q.y)

judged_capped : (t : Option Track) (q : Pair) → judged_of t (cap_pair q) ≡ judged_of t q
judged_capped t q = go (valid_point_pos q) refl
  where
    go : (b : Bool) → valid_point_pos q ≡ b → judged_of t (cap_pair q) ≡ judged_of t q
    go true e = ap (judged_of t) (pair_in q e)
    go false e = unplaceable t (cap_pair q) (valid_capped q ∙ e) ∙ sym (unplaceable t q e)

pub walk_capped : (ss : List Spot) (t : Option Track) → track_from t (map cap_spot ss) ≡ track_from t ss
unfolding track_from
walk_capped [] t = refl
walk_capped (s ∷ ss) t = rw (judged_capped t s.point) (go (judged_of t s.point) (λ u. walk_capped ss u))
  where
    go : (j : Judged) → ((u : Option Track) → track_from u (map cap_spot ss) ≡ track_from u ss) → after_pair j s.begin (λ u. track_from u (map cap_spot ss)) ≡ after_pair j s.begin (λ u. track_from u ss)
    go (On u) h = h (Some u)
    go (Stop c) h = refl

pub came_same : (ss : List Spot) (t v : Option Track) → track_from t ss ≡ Came v → map cap_spot ss ≡ ss
came_same [] t v e = refl
came_same (s ∷ ss) t v e =
    let w = walk_came t s ss v e in
    rw (pair_in s.point (placeable_valid t s.point w.passes.placed), came_same ss (Some (track_to t s.point)) v w.rest)

-- ---- texts

grown_capped : (f : Figure) (b : ℕ) → grown_by capped (cap_figure f) b ≡ cap_figure (grown_by uncapped f b)
unfolding grown_by
grown_capped f b = go (eqb b 44) (eqb b 45)
  where
    go : (s t : Bool) →
        cond s (record { begin = f.begin; x = signed_by f.negative (capped f.size); negative = false; size = 0 })
        (cond t (record { begin = f.begin; x = cap_z f.x; negative = true; size = capped f.size })
        (record { begin = f.begin; x = cap_z f.x; negative = f.negative; size = capped (10 * capped f.size + (b - 48)) }))
        ≡ cap_figure (cond s (record { begin = f.begin; x = signed_by f.negative f.size; negative = false; size = 0 })
        (cond t (record { begin = f.begin; x = f.x; negative = true; size = f.size })
        (record { begin = f.begin; x = f.x; negative = f.negative; size = 10 * f.size + (b - 48) })))
    go true t = rw (value_capped f.negative f.size)
    go false true = refl
    go false false = rw (cap_digit f.size (b - 48))

spot_capped : (f : Figure) → spot_of (cap_figure f) ≡ cap_spot (spot_of f)
unfolding spot_of
spot_capped f = rw (value_capped f.negative f.size)

spots_capped : (bs : List ℕ) (f : Figure) (at : ℕ) → spots_from capped (cap_figure f) at bs ≡ map cap_spot (spots_from uncapped f at bs)
unfolding spots_from
spots_capped [] f at = refl
spots_capped (b ∷ bs) f at = go (eqb b 32) (λ g. spots_capped bs g (suc at))
  where
    go : (t : Bool) → ((g : Figure) → spots_from capped (cap_figure g) (suc at) bs ≡ map cap_spot (spots_from uncapped g (suc at) bs)) →
        cond t (spot_of (cap_figure f) ∷ spots_from capped (figure_at (suc at)) (suc at) bs) (spots_from capped (grown_by capped (cap_figure f) b) (suc at) bs)
        ≡ map cap_spot (cond t (spot_of f ∷ spots_from uncapped (figure_at (suc at)) (suc at) bs) (spots_from uncapped (grown_by uncapped f b) (suc at) bs))
    go true h = rw (spot_capped f, h (figure_at (suc at)))
    go false h = rw (grown_capped f b) (h (grown_by uncapped f b))

pub capped_is : (text : List ℕ) → capped_spots text ≡ map cap_spot (spots_of text)
unfolding capped_spots spots_of
capped_is text = spots_capped (text ++ 32 ∷ []) (figure_at 0) 0

-- Assumes nothing.
