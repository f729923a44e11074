-- A built table as it is kept: it passes the checks of drawing, and each of its rows is the row of the table that the build left.
use mathlib.Core.Path.{◌≡◌, refl, sym, ap, ◌∙◌}
use mathlib.Core.Bool.{Bool, true, not, ◌&&◌}
use mathlib.Core.List.{List}
use Prim.Native.Nat.{ℕ, ◌^◌, ◌≤◌, ◌<◌}
use native.Mathlib.Omega.{arith}
use lib.ListN.{length, get_or, length-take}
use lib.Ieee.{Float}
use borrow.Author.Tests.{lt-ltb, le-leb}
use Rattle.dequantize.specs.Judge.{Description}
use Rattle.segments.specs.declared.Segment.{Segment}
use Rattle.segments.specs.Segment.{segment_at}
use Rattle.segments.specs.Ranges.{has_row}
use Rattle.rows.specs.Rows.{in_row, listed}
use Rattle.table.specs.Table.{BuildRooms, Setting, BuildOutcome, given_of}
use Rattle.painting.proofs.Segments.{makes_owned}
use Rattle.desks.specs.Desks.{Sight, owner_in, hidden_in, shown, desk_good, bytes_good, all_owned}
use Rattle.checks.specs.Tables.{Table, row_of, shown_of}
use Rattle.checks.specs.Checks.{counts_good, counts_good_for, row_good, row_good_for, judge_draw}
use Rattle.draw.specs.Draw.{pixel, updates}
use Rattle.hull.specs.Reach.{judge_reach_of}
use Rattle.checks.specs.Refusals.{SpanFits}
use Rattle.checks.specs.Alike.{AlikeIn, AlikeFor, Kept}
use Rattle.checks.specs.Verdict.{Fine}
use Rattle.checks.proofs.Checks.{counts_facts, RowFacts, row_facts, RowFactsFor}
use Rattle.checks.proofs.Refusals.{counts_fit, span_fits}
use Rattle.checks.proofs.Alike.{alike_row, kept_fits, kept_segment, kept_alike}
use Rattle.draw.proofs.Alike.{alike_pixel, alike_updates}
use Rattle.picture.specs.Picture.{Built, built, pixel_of, row_pairs, Lists}
use Rattle.picture.proofs.InRooms.{segments_in_rooms}
use Rattle.picture.specs.Sights.{not_hidden, KeptSight}
use Rattle.picture.proofs.Shown.{seen, all_owned_lem}
use Rattle.picture.proofs.Makes.{built_are}
use Rattle.picture.proofs.Owners.{makes_ascend}
use Rattle.picture.proofs.Tables.{facts as table-facts, segments_are, segment_is, owner_is, row_shown, row_pixel, row_pairs_lem, counts_good_lem, row_good_lem, built_table}
use Rattle.picture.proofs.Listings.{listed_lists, lists}

-- a list of numbers below n, by another test that says the same of them
lists_same : (f g : ℕ → Bool) (n m : ℕ) (row rest : List ℕ) → n ≡ m → row ≡ rest → ((i : ℕ) → i < n → f i ≡ g i) → Lists f n row → Lists g m rest
lists_same f g n m row rest p q same l =
    rw (← p, ← q) (record {
      passes = λ j k. let h = l.passes j k in (h.0, sym (same (get_or row j 0) h.0) ∙ h.1);
      ascends = l.ascends;
      complete = λ i k e. l.complete i k (same i k ∙ e);
    })

module _ {d : Description} {i : Setting} {r : BuildRooms} {o : BuildOutcome} {s e estimate : ℕ} (b : Built d i r o s e estimate) {t : Table} (k : Kept (built i o s e) t) where
  pub kept_counts : counts_good t ≡ true
  kept_counts = counts_fit t (kept_fits k (counts_facts (built i o s e) (counts_good_lem b)))

  -- its segments are those of the description, number by number
  pub kept_count : t.segment_count ≡ length (segments_in_rooms d i r)
  kept_count = sym k.segment_count_lem ∙ (built_table b).count

  pub kept_is : (j : ℕ) (m : Segment) → j < t.segment_count → segment_at t.segments j ≡ get_or (segments_in_rooms d i r) j m
  kept_is j m h =
      let n : j < s = omega (arith, k.segment_count_lem, h) in
      sym (kept_segment k j n) ∙ segment_is b j m (omega (arith, (table-facts b).size, n)) ∙ ap (λ (l : List Segment). get_or l j m) (segments_are b)

  module _ (y : ℕ) (l : y < t.height) where
    low : y < i.height
    low = omega (arith, k.height, l)

    alike : AlikeIn y (built i o s e) t
    alike = kept_alike k y low (counts_good_lem b) (row_good_lem b y low)

    facts : RowFacts (built i o s e) y
    facts = row_facts (built i o s e) y (row_good_lem b y low)

    pub kept_row : row_good t y ≡ true
    kept_row = sym (alike_row alike) ∙ row_good_lem b y low

    -- the row lists the segments of the table that have it, once each, ascending
    pub kept_lists : Lists (λ j. in_row t.segments j y) t.segment_count (row_of t y)
    kept_lists =
        lists_same (λ j. in_row o.segments j y) (λ j. in_row t.segments j y) s t.segment_count (row_of (built i o s e) y) (row_of t y) k.segment_count_lem alike.entries
        (λ j h. ap (λ (m : Segment). has_row m y) (kept_segment k j h)) (lists (built_table b) y low)

  -- ---- with what is lent beside it for a desk

  module _ {segments : List Segment} {owners : List ℕ} {z : Sight} (w : KeptSight d i segments owners z) where
    as_many : length owners ≡ length (segments_in_rooms d i r)
    as_many = makes_owned d (given_of i) i.high w.makes ∙ ap length (built_are b segments (record { owners = owners; made = w.makes }))

    -- an owner is lent for each segment, and it is the number of a spline
    enough : t.segment_count ≤ length z.owners
    enough = omega (arith, kept_count, as_many, ap length w.kept, length-take (length owners) z.owners)

    pub kept_owner : (j : ℕ) → j < t.segment_count → owner_in z j ≡ get_or owners j 0
    kept_owner j h = owner_is b z owners as_many w.kept j (omega (arith, h, kept_count, as_many))

    pub owner_below : (j : ℕ) → j < t.segment_count → owner_in z j < z.splines
    owner_below j h =
        let below = (makes_ascend d (given_of i) i.high w.makes).below j (omega (arith, h, kept_count, as_many)) in
        omega (arith, kept_owner j h, below, w.splines)

    pub counts_for : counts_good_for t z ≡ true
    unfolding counts_good_for
    counts_for = rw (kept_counts, le-leb t.segment_count (length z.owners) enough)

    pub desk_for : desk_good z ≡ true
    desk_for = lt-ltb z.desk 2 w.desk

    pub bytes_for : bytes_good z ≡ true
    bytes_for = le-leb z.splines (length z.bits) w.bytes

    module _ (y : ℕ) (l : y < t.height) where
      pub owned_for : all_owned z.owners z.splines (row_of t y) ≡ true
      owned_for = all_owned_lem z (row_of t y) (λ j h. owner_below (get_or (row_of t y) j 0) ((kept_lists y l).passes j h).0)

      pub row_for : row_good_for t z y ≡ true
      unfolding row_good_for
      row_for = rw (kept_row y l, owned_for)

      alike_for : AlikeFor y (built i o s e) z t z
      alike_for = record {
        tables = alike y l;
        sights = record { desk = refl; splines = refl; lent = (λ h. h, λ h. h); own_bits = record { own_bits = λ j h. refl } };
        owners_fit = (λ h. omega (arith, h, k.segment_count_lem), λ h. omega (arith, h, k.segment_count_lem));
        owners = λ j h m. refl;
      }

      facts_for : RowFactsFor (built i o s e) z y
      facts_for = record { table = facts y l; all_owned_lem = rw (alike y l).entries owned_for }

      -- a pixel of the row, drawn by what is shown of it, and the updates of its first W pixels
      pub kept_pixel : (c x : ℕ) (v : Float) → pixel c t.segments y x (shown_of t z y) v ≡ pixel_of c (not_hidden z owners (segments_in_rooms d i r)) y x v
      kept_pixel c x v = sym (alike_pixel alike_for facts_for c x v) ∙ row_pixel b z owners as_many w.kept y (low y l) c x v

      pub kept_pairs : (W : ℕ) → updates t.segments 0 W (shown_of t z y) ≡ row_pairs (not_hidden z owners (segments_in_rooms d i r)) W y
      kept_pairs W = sym (alike_updates alike_for facts_for 0 W) ∙ row_pairs_lem b z owners as_many w.kept y (low y l) W

      -- the desk is shown the segments of the table that have the row and are not hidden, once each, ascending
      pub shown_lists : Lists (λ j. in_row t.segments j y && not (hidden_in z j)) t.segment_count (shown_of t z y)
      unfolding seen
      shown_lists =
          lists_same (λ j. seen z (in_row o.segments) j y) (λ j. in_row t.segments j y && not (hidden_in z j)) s t.segment_count (listed (seen z (in_row o.segments)) y s) (shown_of t z y) k.segment_count_lem
          (sym (row_shown b z owners as_many w.kept y (low y l)) ∙ ap (shown z) (alike y l).entries)
          (λ j h. ap (λ (m : Segment). has_row m y && not (hidden_in z j)) (kept_segment k j h)) (listed_lists (seen z (in_row o.segments)) y s)

      -- no check of drawing or of reach refuses the table
      pub draw_fine : (x0 n l0 l1 l2 : ℕ) → SpanFits x0 n l0 l1 l2 → judge_draw t z y x0 n l0 l1 l2 ≡ Fine
      unfolding judge_draw
      draw_fine x0 n l0 l1 l2 f =
          rw (desk_for, counts_for, bytes_for, lt-ltb y t.height l, span_fits x0 n l0 l1 l2 f, row_for)

      pub reach_fine : (W : ℕ) → W ≤ 2 ^ 23 → judge_reach_of t z y W ≡ Fine
      unfolding judge_reach_of
      reach_fine W v =
          rw (desk_for, le-leb W (2 ^ 23) v, counts_for, bytes_for, lt-ltb y t.height l, row_for)

-- Assumes nothing.
