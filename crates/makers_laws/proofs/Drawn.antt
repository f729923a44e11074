-- Two right tables over the same segments give every desk the same outcomes of draw and reach, in any row.
use mathlib.Core.Path.{◌≡◌, refl, sym, ◌∙◌}
use mathlib.Core.Logic.{⊎_elim}
use Prim.Native.Nat.{ℕ, ◌*◌, ◌^◌, ◌<◌, ◌≤◌}
use native.Mathlib.Omega.{arith}
use lib.ListN.{length, take}
use Rattle.codes.specs.declared.Code.{Code}
use Rattle.segments.specs.Segment.{segment_at}
use Rattle.rows.proofs.Counts.{split}
use Rattle.desks.specs.Desks.{Sight}
use Rattle.checks.specs.Tables.{Table, table_of}
use Rattle.checks.specs.Refusals.{CountsFit, CountsFitFor, owners_short}
use Rattle.checks.specs.Alike.{AlikeFor, Kept}
use Rattle.checks.proofs.Alike.{kept_segment}
use Rattle.draw.specs.Draw.{Channels, draw_of}
use Rattle.draw.specs.Refusals.{DrawRefusal}
use Rattle.draw.specs.Refusals as drawing
use Rattle.draw.proofs.Refusals.{draw_refused}
use Rattle.draw.proofs.Alike.{drawn_alike}
use Rattle.hull.specs.Reach.{reach_of}
use Rattle.hull.specs.Refusals.{ReachRefusal}
use Rattle.hull.specs.Refusals as reaching
use Rattle.hull.proofs.Refusals.{reach_refused}
use Rattle.hull.proofs.Alike.{reached_alike}
use Rattle.makers_laws.proofs.Tables.{Right}
use Rattle.makers_laws.proofs.Alike.{right_alike}

-- the segments in use are the same where their floats are
module _ (t u : Table) (same : take (8 * t.segment_count) t.segments ≡ take (8 * t.segment_count) u.segments) where
  beside : Kept t (table_of u.segments t.segment_count t.entries t.entry_count t.row_starts t.height)
  beside = record { segment_count_lem = refl; entry_count_lem = refl; height = refl; segments = same; entries = refl; starts = refl }

  same_segments : (i : ℕ) → i < t.segment_count → segment_at t.segments i ≡ segment_at u.segments i
  same_segments = kept_segment beside

module _ {t u : Table} (count : t.segment_count ≡ u.segment_count) (height : t.height ≡ u.height) (floats : take (8 * t.segment_count) t.segments ≡ take (8 * t.segment_count) u.segments)
    (r : Right t) (q : Right u) (f : CountsFit t) (g : CountsFit u) (s : Sight) (y : ℕ) where
  alike : y < t.height → AlikeFor y t s u s
  alike h = record {
    tables = right_alike count height (same_segments t u floats) r q f g y h;
    sights = record { desk = refl; splines = refl; lent = (λ h. h, λ h. h); own_bits = record { own_bits = λ j h. refl } };
    owners_fit = (λ h. omega (arith, h, count), λ h. omega (arith, h, count));
    owners = λ j h m. refl;
  }

  -- where t has its owners, so has u
  module _ (w : t.segment_count ≤ length s.owners) where
    first : CountsFitFor t s
    first = record { table = f; owners_fit = w }

    second : CountsFitFor u s
    second = record { table = g; owners_fit = omega (arith, w, count) }

  module _ (x0 n : ℕ) (a : Channels) where
    drawn_by : {c : Code} {p : ℕ} → DrawRefusal t s y x0 n (length a.r0) (length a.r1) (length a.r2) c p
        → DrawRefusal u s y x0 n (length a.r0) (length a.r1) (length a.r2) c p → draw_of t s y x0 n a ≡ draw_of u s y x0 n a
    drawn_by l m = sym (draw_refused t s y x0 n a l) ∙ draw_refused u s y x0 n a m

    -- in a row past the image both are refused alike
    drawn_past : t.height ≤ y → draw_of t s y x0 n a ≡ draw_of u s y x0 n a
    drawn_past h =
        ⊎_elim
        (λ d.
        ⊎_elim (λ o. drawn_by (drawing.counts d (owners_short o)) (drawing.counts d (owners_short (omega (arith, o, count)))))
        (λ w.
        ⊎_elim (λ b. drawn_by (drawing.trace d (first w) b) (drawing.trace d (second w) b))
        (λ b. drawn_by (drawing.row (record { desk = d; counts = first w; bytes = b }) h) (drawing.row (record { desk = d; counts = second w; bytes = b }) (omega (arith, h, height))))
        (split (length s.bits) s.splines))
        (split (length s.owners) t.segment_count))
        (λ d. drawn_by (drawing.desk d) (drawing.desk d))
        (split s.desk 2)

    pub drawn_same : draw_of t s y x0 n a ≡ draw_of u s y x0 n a
    drawn_same = ⊎_elim (λ h. drawn_alike (alike h) x0 n a) drawn_past (split y t.height)

  module _ (W : ℕ) where
    reached_by : {c : Code} {p : ℕ} → ReachRefusal t s y W c p → ReachRefusal u s y W c p → reach_of t s y W ≡ reach_of u s y W
    reached_by l m = sym (reach_refused t s y W l) ∙ reach_refused u s y W m

    reached_past : t.height ≤ y → reach_of t s y W ≡ reach_of u s y W
    reached_past h =
        ⊎_elim
        (λ d.
        ⊎_elim (λ z. reached_by (reaching.size d z) (reaching.size d z))
        (λ z.
        ⊎_elim (λ o. reached_by (reaching.counts d z (owners_short o)) (reaching.counts d z (owners_short (omega (arith, o, count)))))
        (λ w.
        ⊎_elim (λ b. reached_by (reaching.trace d z (first w) b) (reaching.trace d z (second w) b))
        (λ b. reached_by (reaching.row z (record { desk = d; counts = first w; bytes = b }) h) (reaching.row z (record { desk = d; counts = second w; bytes = b }) (omega (arith, h, height))))
        (split (length s.bits) s.splines))
        (split (length s.owners) t.segment_count))
        (split (2 ^ 23) W))
        (λ d. reached_by (reaching.desk d) (reaching.desk d))
        (split s.desk 2)

    pub reached_same : reach_of t s y W ≡ reach_of u s y W
    reached_same = ⊎_elim (λ h. reached_alike (alike h) W) reached_past (split y t.height)

-- Assumes nothing.
