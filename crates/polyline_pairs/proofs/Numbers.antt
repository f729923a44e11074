-- Numbers that fit: differences and signs in the machine's words, and what stays small on the way through a text.
use mathlib.Core.Path.{◌≡◌, refl, sym, ap, ◌∙◌}
use mathlib.Core.Bool.{Bool, true, false, cond, ◌&&◌}
use Prim.Native.Nat.{ℕ, zero, suc, ◌+◌, ◌-◌, ◌*◌, ◌≤◌}
use native.Mathlib.Omega.{arith}
use lib.Dec.{ltb, leb, eqb}
use Rattle.std.proofs.Common.{int_eq}
use Rattle.std.proofs.lemmas.Bool.Decides.{Decides-int_eq}
use lib.IntN.{ℤ, pos, negsuc, neg_ℤ, ◌+ℤ◌, ◌-ℤ◌}
use lib.Signed.{mag}
use borrow.Author.Tests.{leb-false}
use mir.Syntax.{w32}
use mir.Val.{to_z, of_z}
use mir.Facts.{to_z-of_z}
use Rattle.control_points.specs.ControlPoints.{valid_point_pos, same_point, stand_at}
use Rattle.control_points.specs.declared.Pair.{Pair}
use Rattle.control_points.proofs.Coincide.{same_point_lem}
use Rattle.control_points.proofs.Pairs.{in_range_mag, point_range}
use Rattle.polyline.specs.declared.Figure.{Figure}
use Rattle.polyline.specs.declared.Track.{Track}
use Rattle.polyline.specs.Tracked.{Empty}
use Rattle.std.specs.Prelude.{Option, Some}
use Rattle.polyline.specs.Spots.{signed_by, figure_at, grown_by, spot_of, capped}
use Rattle.polyline.specs.Read.{minus_of, placeable, track_to}
use Rattle.polyline.proofs.Tracks.{Passes}
use Rattle.codes.proofs.Decides.{both}
use Rattle.polyline_pairs.specs.Fits.{Near, Small, Held, OnTrack}

-- ---- differences

mag_sub : (a b : ℕ) (t : Bool) → mag (cond t (negsuc (b - suc a)) (pos (a - b))) ≤ a + b
mag_sub a b true = omega arith
mag_sub a b false = omega arith

mag_sum : (x y : ℤ) → mag (x +ℤ y) ≤ mag x + mag y + 1
mag_sum (pos a) (pos b) = omega arith
mag_sum (pos a) (negsuc b) = omega (arith, mag_sub a (suc b) (ltb a (suc b)))
mag_sum (negsuc a) (pos b) = omega (arith, mag_sub b (suc a) (ltb b (suc a)))
mag_sum (negsuc a) (negsuc b) = omega arith

mag_neg : (y : ℤ) → mag (neg_ℤ y) ≤ mag y + 1
mag_neg (pos zero) = omega arith
mag_neg (pos (suc n)) = omega arith
mag_neg (negsuc n) = omega arith

pub mag_minus : (x y : ℤ) → mag (x -ℤ y) ≤ mag x + mag y + 2
mag_minus x y = omega (arith, mag_sum x (neg_ℤ y), mag_neg y)

back : (z : ℤ) → mag z ≤ 1073741824 → to_z w32 (of_z w32 z) ≡ z
back z h = to_z-of_z {w = w32} {z = z} (record { sfits = omega arith })

module _ (x y : ℤ) (g : mag x ≤ 268435456) (h : mag y ≤ 268435456) where
  pub minus_is : to_z w32 (of_z w32 (to_z w32 (of_z w32 x) -ℤ to_z w32 (of_z w32 y))) ≡ x -ℤ y
  minus_is = rw (back x (omega arith), back y (omega arith)) (to_z-of_z {w = w32} (record { sfits = omega (arith, mag_minus x y) }))

-- ---- signs

pub signed_mag : (s : Bool) (n : ℕ) → mag (signed_by s n) ≤ n
signed_mag false n = omega arith
signed_mag true zero = omega arith
signed_mag true (suc n) = omega arith

-- ---- what stays small

cap_most : (n : ℕ) → capped n ≤ 16777216
cap_most n = go (leb 16777216 n) refl
  where
    go : (t : Bool) → leb 16777216 n ≡ t → cond t 16777216 n ≤ 16777216
    go true e = omega arith
    go false e = omega (arith, leb-false 16777216 n e)

pub figure_held : (at : ℕ) → Held (figure_at at)
figure_held at = record { x = omega arith; size = omega arith }

pub grown_held : (f : Figure) (b : ℕ) → Held f → Held (grown_by capped f b)
unfolding grown_by
grown_held f b h = go (eqb b 44) (eqb b 45)
  where
    go : (s t : Bool) →
        Held (cond s (record { begin = f.begin; x = signed_by f.negative f.size; negative = false; size = 0 })
        (cond t (record { begin = f.begin; x = f.x; negative = true; size = f.size })
        (record { begin = f.begin; x = f.x; negative = f.negative; size = capped (10 * f.size + (b - 48)) })))
    go true t = record { x = omega (arith, signed_mag f.negative f.size, h.size); size = omega arith }
    go false true = record { x = h.x; size = h.size }
    go false false = record { x = h.x; size = cap_most (10 * f.size + (b - 48)) }

pub spot_small : (f : Figure) → Held f → Small (spot_of f).point
unfolding spot_of
spot_small f h = record { x = omega (arith, h.x); y = omega (arith, signed_mag f.negative f.size, h.size) }

pub small_near : (q : Pair) → Small q → Near q
small_near q h = record { x = omega (arith, h.x); y = omega (arith, h.y) }

pub valid_small : (q : Pair) → valid_point_pos q ≡ true → Small q
valid_small q h =
    let r = point_range q h in
    record { x = omega (arith, in_range_mag q.x r.0); y = omega (arith, in_range_mag q.y r.1) }

pub minus_near : (p q : Pair) → Small p → Small q → Near (minus_of p q)
unfolding minus_of
minus_near p q g h = record { x = omega (arith, mag_minus p.x q.x, g.x, h.x); y = omega (arith, mag_minus p.y q.y, g.y, h.y) }

pub valid_near : (q : Pair) → valid_point_pos q ≡ true → Near q
valid_near q h = small_near q (valid_small q h)

-- a track stays held
pub track_held : (t : Option Track) (q : Pair) (u : Track) → OnTrack t → Passes t q u → OnTrack (Some u)
unfolding placeable track_to stand_at valid_point_pos
track_held Empty q u h p = rw p.is (record { held = (refl, p.placed) })
track_held (Some t) q u h p =
    let b = both (valid_point_pos (minus_of q t.place.point)) (valid_point_pos q) p.placed in
    rw p.is (record { held = (b.0, b.1) })

-- ---- the same point: that of the same numbers

module _ (p q : Pair) where
  equal : (int_eq p.x q.x && int_eq p.y q.y) ≡ true → p ≡ q
  equal e = go (int_eq p.x q.x) (int_eq p.y q.y) refl refl e
    where
      go : (a b : Bool) → int_eq p.x q.x ≡ a → int_eq p.y q.y ≡ b → (a && b) ≡ true → p ≡ q
      go true true x y e = rw ((Decides-int_eq p.x q.x).0 x, (Decides-int_eq p.y q.y).0 y)
      go true false x y e = cc
      go false b x y e = cc

  equals : p ≡ q → (int_eq p.x q.x && int_eq p.y q.y) ≡ true
  equals e = rw ((Decides-int_eq p.x q.x).1 (ap (λ (r : Pair). r.x) e), (Decides-int_eq p.y q.y).1 (ap (λ (r : Pair). r.y) e))

  -- as `==` of two pairs compares them
  pub same_is : valid_point_pos p ≡ true → valid_point_pos q ≡ true → (int_eq p.x q.x && int_eq p.y q.y) ≡ same_point p q
  same_is g h = go (int_eq p.x q.x && int_eq p.y q.y) (same_point p q) refl refl
    where
      go : (s t : Bool) → (int_eq p.x q.x && int_eq p.y q.y) ≡ s → same_point p q ≡ t → s ≡ t
      go true true x y = refl
      go false false x y = refl
      go true false x y = sym ((same_point_lem p q g h).1 (equal x)) ∙ y
      go false true x y = sym x ∙ equals ((same_point_lem p q g h).0 y)

-- Assumes nothing.
