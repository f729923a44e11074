-- A built table, drawn in parts for a desk wherever it is kept, is the picture of its segments that are not hidden: the theorems of drawing over any good table, at the table of a build.
use mathlib.Core.Path.{◌≡◌, refl, ◌∙◌}
use mathlib.Core.List.{List, Permᴰ}
use Prim.Native.Nat.{ℕ, zero, suc, ◌+◌, ◌*◌, ◌^◌, ◌≤◌, ◌<◌}
use native.Mathlib.Omega.{arith}
use lib.ListN.{length}
use lib.Ieee.{Float}
use Rattle.dequantize.specs.Judge.{Description}
use Rattle.shade.specs.Edit.{edit}
use Rattle.shade.proofs.Edits.{edit_cong}
use Rattle.table.specs.Table.{BuildRooms, Setting, BuildOutcome}
use Rattle.segments.specs.declared.Segment.{Segment}
use Rattle.desks.specs.Desks.{Sight}
use Rattle.checks.specs.Tables.{Table, shown_of}
use Rattle.draw.specs.Draw.{pixel, Channels}
use Rattle.checks.specs.Alike.{Kept}
use Rattle.draw.specs.Parts.{Part, cuts, total, Wide, Drawn, Whole}
use Rattle.draw.specs.Image as image
use Rattle.draw.specs.Image.{Job, jobs, Each, DrawnAll, pairs, most_pairs}
use Rattle.draw.proofs.Parts as parts
use Rattle.draw.proofs.Image as images
use Rattle.picture.specs.Picture.{Built, built, pixel_of, row_pairs, image_pairs, RowPicture}
use Rattle.picture.proofs.InRooms.{segments_in_rooms}
use Rattle.picture.specs.Sights.{not_hidden, KeptSight}
use Rattle.picture.proofs.Keeping.{desk_for, counts_for, bytes_for, row_for, kept_pixel, kept_pairs}

module _ {d : Description} {i : Setting} {r : BuildRooms} {o : BuildOutcome} {s e estimate : ℕ} (b : Built d i r o s e estimate) {t : Table} (kept : Kept (built i o s e) t)
    {segments : List Segment} {owners : List ℕ} {z : Sight} (lent : KeptSight d i segments owners z) (W : ℕ) (h : W ≤ 2 ^ 23) where
  -- the segments of the build that are not hidden for the desk
  abbrev own : List Segment
  own = not_hidden z owners (segments_in_rooms d i r)

  whole_picture : (y : ℕ) → y < t.height → {a w : Channels} {sum : ℕ} → Whole t z y W a sum w → RowPicture own y a w
  whole_picture y k {a} {w} q = record { channel0 = q.channel0 ∙ same 0 a.r0; channel1 = q.channel1 ∙ same 1 a.r1; channel2 = q.channel2 ∙ same 2 a.r2 }
    where
      same : (c : ℕ) (xs : List Float) → edit (λ x v. pixel c t.segments y x (shown_of t z y) v) xs ≡ edit (pixel_of c own y) xs
      same c xs = edit_cong (λ x v. pixel c t.segments y x (shown_of t z y) v) (pixel_of c own y) xs (λ x v l. kept_pixel b kept lent y k c x v)

  all_pairs : (y n : ℕ) → y + n ≤ t.height → pairs t z W y n ≡ image_pairs own W y n
  all_pairs y zero k = refl
  all_pairs y (suc n) k = omega (arith, kept_pairs b kept lent y (omega arith) W, all_pairs (suc y) n (omega arith))

  module _ (y : ℕ) (k : y < t.height) (ws : List ℕ) (cut : total ws ≡ W) (ps : List Part) (order : Permᴰ (cuts 0 ws) ps)
      (a w : Channels) (wide : Wide W a) (sum : ℕ) (drawn : Drawn t z y ps a sum w) where
    row_whole : Whole t z y W a sum w
    row_whole = parts.row_in_parts t z y W (desk_for b kept lent) (counts_for b kept lent) (bytes_for b kept lent) k (row_for b kept lent y k) h ws ps a w sum cut order wide drawn

    pub row_in_parts : RowPicture own y a w
    row_in_parts = whole_picture y k row_whole

    pub row_updates : sum ≡ row_pairs own W y
    row_updates = row_whole.pairs ∙ kept_pairs b kept lent y k W

    -- each entry of the row is added at most once at each pixel
    pub row_updates_most : sum ≤ W * length (shown_of t z y)
    row_updates_most = rw row_whole.pairs (images.updates_most t.segments 0 W (shown_of t z y))

  module _ (wss : List (List ℕ)) (tall : length wss ≡ t.height) (cut : Each W wss) (js : List Job) (order : Permᴰ (jobs 0 wss) js)
      (a w : image.Image) (wide : (y : ℕ) → Wide W (a y)) (sum : ℕ) (drawn : DrawnAll t z js a sum w) where
    whole_image : image.WholeImage t z W t.height a sum w
    whole_image = images.image_in_parts t z W t.height (desk_for b kept lent) (counts_for b kept lent) (bytes_for b kept lent) (omega arith) (row_for b kept lent) h wss js a w sum tall cut order wide drawn

    pub image_in_parts : (y : ℕ) → y < t.height → RowPicture own y (a y) (w y)
    image_in_parts y k = whole_picture y k (whole_image.each_row y k)

    pub image_updates : sum ≡ image_pairs own W 0 t.height
    image_updates = whole_image.all_pairs ∙ all_pairs 0 t.height (omega arith)

    pub image_updates_most : sum ≤ most_pairs t z W 0 t.height
    image_updates_most = rw whole_image.all_pairs (images.pairs_most t z W 0 t.height)

-- Assumes nothing.
