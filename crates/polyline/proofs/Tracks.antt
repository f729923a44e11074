-- Laws of going through pairs: one pair further, and what pairs that all pass have led to.
use mathlib.Core.Path.{◌≡◌, refl, ap, ◌∙◌}
use mathlib.Core.Bool.{Bool, true, false, cond}
use Rattle.std.specs.Prelude.{Option, Some}
use mathlib.Core.List.{List, [], ◌∷◌, ◌++◌}
use Prim.Native.Nat.{ℕ, suc, ◌*◌, ◌<◌}
use native.Mathlib.Omega.{arith}
use lib.Dec.{eqb}
use lib.ListN.{length}
use Rattle.codes.specs.declared.Code.{Code}
use Rattle.codes.specs.declared.Code.TheVariants.{Position, Coincide}
use Rattle.codes.proofs.Decides.{both}
use Rattle.control_points.specs.ControlPoints.{valid_point_pos}
use Rattle.control_points.specs.declared.Pair.{Pair}
use Rattle.control_points.specs.declared.Stand.{Stand}
use Rattle.polyline.specs.declared.Figure.{Figure}
use Rattle.polyline.specs.declared.Spot.{Spot}
use Rattle.polyline.specs.declared.Track.{Track}
use Rattle.polyline.specs.Tracked.{Empty, At, Came, Halt}
use Rattle.polyline.specs.Judged.{Judged, On, Stop}
use Rattle.polyline.specs.Spots.{figure_at, grown_by, spot_of, spots_from}
use Rattle.polyline.specs.Read.{minus_of, placeable, meets, track_to, step_deltas, judged_of, after_pair, track_from, deltas_from, first_point, later_of}

-- ---- one pair

pub record Passes (t : Option Track) (q : Pair) (u : Track) : Type 0 where
  pub placed : placeable t q ≡ true
  pub apart : meets t q ≡ false
  pub is : u ≡ track_to t q

pub judged_on : (t : Option Track) (q : Pair) (u : Track) → judged_of t q ≡ On u → Passes t q u
unfolding judged_of
judged_on t q u e = go (placeable t q) (meets t q) refl refl e
  where
    go : (a b : Bool) → placeable t q ≡ a → meets t q ≡ b → cond a (cond b (Stop Coincide) (On (track_to t q))) (Stop Position) ≡ On u → Passes t q u
    go true false x y e = record { placed = x; apart = y; is = cc }
    go true true x y e = cc
    go false b x y e = cc

pub judged_passes : (t : Option Track) (q : Pair) → placeable t q ≡ true → meets t q ≡ false → judged_of t q ≡ On (track_to t q)
unfolding judged_of
judged_passes t q a b = rw (a, b)

-- a pair that passes is in range
pub placeable_valid : (t : Option Track) (q : Pair) → placeable t q ≡ true → valid_point_pos q ≡ true
unfolding placeable
placeable_valid Empty q e = e
placeable_valid (Some t) q e = (both (valid_point_pos (minus_of q t.place.point)) (valid_point_pos q) e).1

pub unplaceable : (t : Option Track) (q : Pair) → valid_point_pos q ≡ false → judged_of t q ≡ Stop Position
unfolding judged_of placeable
unplaceable Empty q e = rw e
unplaceable (Some t) q e = rw e (go (valid_point_pos (minus_of q t.place.point)))
  where
    go : (a : Bool) → cond (cond a false false) (cond (meets (Some t) q) (Stop Coincide) (On (track_to (Some t) q))) (Stop Position) ≡ Stop Position
    go true = refl
    go false = refl

-- ---- one pair further

module _ (t : Option Track) (s : Spot) (ss : List Spot) where
  pub walk_on : (u : Track) → judged_of t s.point ≡ On u → track_from t (s ∷ ss) ≡ track_from (Some u) ss
  unfolding track_from
  walk_on u e = rw e

  pub walk_stop : (c : Code) → judged_of t s.point ≡ Stop c → track_from t (s ∷ ss) ≡ Halt c s.begin
  unfolding track_from
  walk_stop c e = rw e

  pub record Further (v : Option Track) : Type 0 where
    pub passes : Passes t s.point (track_to t s.point)
    pub rest : track_from (Some (track_to t s.point)) ss ≡ Came v

  pub walk_came : (v : Option Track) → track_from t (s ∷ ss) ≡ Came v → Further v
  unfolding track_from
  walk_came v e = go (judged_of t s.point) refl e
    where
      go : (j : Judged) → judged_of t s.point ≡ j → after_pair j s.begin (λ u. track_from u ss) ≡ Came v → Further v
      go (On u) h e =
          let p = judged_on t s.point u h in
          record { passes = record { placed = p.placed; apart = p.apart; is = refl }; rest = rw p.is at e }
      go (Stop c) h e = cc

-- ---- all pairs

-- the first pair is kept
pub record Keeps (start : Pair) (t : Option Track) : Type 0 where
  pub place : Stand
  pub is : t ≡ At place start

pub walk_keeps : (ss : List Spot) (p : Stand) (start : Pair) (v : Option Track) → track_from (At p start) ss ≡ Came v → Keeps start v
unfolding track_from track_to
walk_keeps [] p start v e = record { place = p; is = cc }
walk_keeps (s ∷ ss) p start v e = walk_keeps ss _ start v (walk_came (At p start) s ss v e).rest

pub record First (ss : List Spot) (v : Option Track) : Type 0 where
  pub valid : valid_point_pos (first_point ss) ≡ true
  pub keeps : Keeps (first_point ss) v

pub walk_first : (ss : List Spot) (v : Option Track) → 0 < length ss → track_from Empty ss ≡ Came v → First ss v
unfolding track_to
walk_first [] v h e = absurd (omega arith)
walk_first (s ∷ ss) v h e =
    let w = walk_came Empty s ss v e in
    record { valid = placeable_valid Empty s.point w.passes.placed; keeps = walk_keeps ss _ s.point v w.rest }

-- two numbers for each pair behind the first
pub deltas_length_at : (ss : List Spot) (p : Stand) (start : Pair) → length (deltas_from (At p start) ss) ≡ 2 * length ss
unfolding deltas_from step_deltas track_to
deltas_length_at [] p start = refl
deltas_length_at (s ∷ ss) p start = ap (λ (k : ℕ). suc (suc k)) (deltas_length_at ss _ start) ∙ omega arith

pub deltas_length : (ss : List Spot) → length (deltas_from Empty ss) ≡ 2 * later_of ss
unfolding deltas_from step_deltas track_to
deltas_length [] = refl
deltas_length (s ∷ ss) = deltas_length_at ss _ s.point ∙ omega arith

-- ---- a text has a pair, since its end is a space

pub spots_some : (hold : ℕ → ℕ) (text : List ℕ) (f : Figure) (at : ℕ) → 0 < length (spots_from hold f at (text ++ 32 ∷ []))
unfolding spots_from
spots_some hold [] f at = omega arith
spots_some hold (b ∷ bs) f at = go (eqb b 32) (spots_some hold bs (grown_by hold f b) (suc at))
  where
    go : (t : Bool) → 0 < length (spots_from hold (grown_by hold f b) (suc at) (bs ++ 32 ∷ []))
        → 0 < length (cond t (spot_of f ∷ spots_from hold (figure_at (suc at)) (suc at) (bs ++ 32 ∷ [])) (spots_from hold (grown_by hold f b) (suc at) (bs ++ 32 ∷ [])))
    go true h = omega arith
    go false h = h

-- Assumes nothing.
