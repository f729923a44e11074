-- A built table passes the checks of drawing for every row, and each row lists the segments that have it, of which a desk is shown those that are not hidden: the laws of the row table, over the segments that were drawn.
use mathlib.Core.Path.{◌≡◌, refl, sym, ap, ◌∙◌}
use mathlib.Core.Bool.{Bool, true, not, ◌&&◌}
use mathlib.Core.Logic.{⊎_elim}
use mathlib.Core.List.{List, [], ◌∷◌, ◌++◌}
use Prim.Native.Nat.{ℕ, zero, suc, ◌+◌, ◌-◌, ◌*◌, ◌^◌, ◌≤◌, ◌<◌}
use native.Mathlib.Omega.{arith}
use native.Mathlib.Numerals.{add-one}
use lib.Dec.{ltb}
use lib.ListN.{length, get_or, take, length-append}
use lib.Seq.{get_or-take}
use lib.Ieee.{Float}
use borrow.Author.Tests.{lt-ltb, le-leb}
use Rattle.numbers.specs.Arith.{0·0}
use Rattle.buffers.specs.Padded.{padded}
use Rattle.dequantize.specs.Judge.{Description}
use Rattle.segments.specs.declared.Segment.{Segment}
use Rattle.segments.specs.Segment.{segment_at}
use Rattle.segments.specs.Ranges.{has_row}
use Rattle.points.specs.Points.{eights}
use Rattle.points.proofs.Adding.{length_eights}
use Rattle.rows.specs.Listed.{Listed}
use Rattle.rows.specs.Listed as Listed
use Rattle.rows.specs.Rows as rows
use Rattle.rows.specs.Rows.{in_row, listed, up_to, start_of, RowsOutcome}
use Rattle.rows.proofs.Counts.{listed_in, by_row}
use Rattle.rows.proofs.Table.{rest_same}
use Rattle.rows.proofs.Users as users
use Rattle.table.specs.Table.{BuildRooms, Setting, BuildOutcome, zeros}
use Rattle.checks.proofs.Entries.{and_left, and_right}
use Rattle.desks.specs.Desks.{Sight, owner_in, shown}
use Rattle.checks.specs.Tables.{row_of, shown_of}
use Rattle.checks.specs.Checks.{all_below, counts_good, entries_good, row_good}
use Rattle.draw.specs.Draw.{pixel, updates}
use Rattle.picture.specs.Picture.{Built, built, BuiltTable, pixel_of, row_pairs}
use Rattle.picture.proofs.InRooms.{segments_in_rooms}
use Rattle.picture.specs.Sights.{hides, not_hidden}
use Rattle.picture.proofs.Flat.{segment_at_lem}
use Rattle.picture.proofs.Shown.{seen, shown_listed}
use Rattle.picture.proofs.Pixels.{pixel_is, pairs_are}
use Rattle.picture.proofs.Accepted.{BuildAccepted, accepted}

-- ---- a listing that was accepted

entries_in : Listed → ℕ
entries_in (Listed.Entries n) = n
entries_in Listed.Room = 0

-- the table, also where there is no row
record Fits (has : ℕ → ℕ → Bool) (S H ns ne e : ℕ) (o : RowsOutcome) : Type 0 where
  count : e ≡ start_of has S H
  starts : o.starts ≡ padded ns 0 (up_to (start_of has S) (suc H))
  entries : o.entries ≡ padded ne 0 (rows.rows has S H)
  few : e ≤ 2 ^ 30
  room : e ≤ length o.entries
  tall : H + 1 ≤ length o.starts

fits_listing : (has : ℕ → ℕ → Bool) (S H ns ne e : ℕ) → H < ns → (rows.listed_rows has S H ns ne).answer ≡ Listed.Entries e → Fits has S H ns ne e (rows.listed_rows has S H ns ne)
unfolding entries_in
fits_listing has S H ns ne e w q =
    ⊎_elim
    (λ f.
    let t = users.table_when has S H ns ne f in
    let n : start_of has S H ≡ e = ap entries_in (sym (ap (λ (o : RowsOutcome). o.answer) t) ∙ q) in
    record {
      count = sym n;
      starts = ap (λ (o : RowsOutcome). o.starts) t;
      entries = ap (λ (o : RowsOutcome). o.entries) t;
      few = omega (arith, n, f.1);
      room = omega (arith, n, f.0, ap (λ (o : RowsOutcome). length o.entries) t, users.length_padded ne (rows.rows has S H) f.0);
      tall = omega (arith, ap (λ (o : RowsOutcome). length o.starts) t, users.length_padded ns (up_to (start_of has S) (suc H)) (omega (arith, users.length_up_to (start_of has S) (suc H))));
    })
    (λ f. let z : ◌≡◌ {A = ℕ} 0 1 = cc (ap (λ (o : RowsOutcome). o.answer) (users.room_when has S H ns ne f), q) in absurd (omega arith))
    (users.either has S H ns ne)

checks_of : (has : ℕ → ℕ → Bool) (S H ns ne e : ℕ) → H < ns → (rows.listed_rows has S H ns ne).answer ≡ Listed.Entries e
    → (y : ℕ) → y < H → {ss es : List ℕ} → ss ≡ (rows.listed_rows has S H ns ne).starts → es ≡ (rows.listed_rows has S H ns ne).entries → users.Checks has S H e y ss es
checks_of has S H ns ne e w q y h p s = rw (p, s) (users.accepted has S H ns ne e y h w q)

-- a row's list names segments
below_append : (m : ℕ) (is js : List ℕ) → all_below m is ≡ true → all_below m js ≡ true → all_below m (is ++ js) ≡ true
below_append m [] js h k = k
below_append m (i ∷ is) js h k =
    rw (and_left (ltb i m) (all_below m is) h) (below_append m is js (and_right (ltb i m) (all_below m is) h) k)

listed_below : (has : ℕ → ℕ → Bool) (m y n : ℕ) → n ≤ m → all_below m (listed has y n) ≡ true
unfolding listed
listed_below has m y zero h = refl
listed_below has m y (suc n) h =
    by_row has (all_below m (listed has y (suc n)) ≡ true) y n
    (λ e. rw (listed_in has y n e) (below_append m (listed has y n) (n ∷ []) (listed_below has m y n (omega arith)) (rw (lt-ltb n m h))))
    (λ e. rw e (listed_below has m y n (omega arith)))

-- ---- the built table

-- what stands where no segment is
abbrev none : Segment
none = segment_at [] 0

module _ {d : Description} {i : Setting} {r : BuildRooms} {o : BuildOutcome} {s e estimate : ℕ} (b : Built d i r o s e estimate) where
  pub facts : BuildAccepted d i r o s e estimate
  facts = accepted d i r o s e estimate b.faint b.outcome b.done

  -- the segments that were drawn are those of the table, in their order
  pub segments_are : facts.segs ≡ segments_in_rooms d i r
  unfolding segments_in_rooms
  segments_are = rw facts.drawn

  pub segment_is : (k : ℕ) (m : Segment) → k < length facts.segs → segment_at o.segments k ≡ get_or facts.segs k m
  segment_is k m h = ap (λ (l : List Float). segment_at l k) facts.segments ∙ segment_at_lem facts.segs _ m k h

  in_row_lem : (k y : ℕ) → k < length facts.segs → in_row o.segments k y ≡ has_row (get_or facts.segs k none) y
  in_row_lem k y l = ap (λ (m : Segment). has_row m y) (segment_is k none l)

  -- what stands behind the segments changes no row
  same_listing : rows.listed_rows (in_row (eights facts.segs)) (length facts.segs) i.height r.starts r.entries
      ≡ rows.listed_rows (in_row o.segments) s i.height r.starts r.entries
  same_listing =
      sym (rest_same (eights facts.segs) _ (length facts.segs) i.height r.starts r.entries (omega (arith, length_eights facts.segs)))
      ∙ ap (λ (l : List Float). rows.listed_rows (in_row l) (length facts.segs) i.height r.starts r.entries) (sym facts.segments)
      ∙ ap (λ (n : ℕ). rows.listed_rows (in_row o.segments) n i.height r.starts r.entries) facts.size

  listing : Fits (in_row o.segments) s i.height r.starts r.entries e (rows.listed_rows (in_row o.segments) s i.height r.starts r.entries)
  listing = fits_listing (in_row o.segments) s i.height r.starts r.entries e facts.fits_starts (sym (ap (λ (l : RowsOutcome). l.answer) same_listing) ∙ facts.listed)

  starts_are : o.starts ≡ (rows.listed_rows (in_row o.segments) s i.height r.starts r.entries).starts
  starts_are = facts.starts ∙ ap (λ (l : RowsOutcome). l.starts) same_listing

  entries_are : o.entries ≡ (rows.listed_rows (in_row o.segments) s i.height r.starts r.entries).entries
  entries_are = facts.entries ∙ ap (λ (l : RowsOutcome). l.entries) same_listing

  pub counts_good_lem : counts_good (built i o s e) ≡ true
  unfolding counts_good
  counts_good_lem =
      let n = ap length facts.segments ∙ length-append (eights facts.segs) (zeros (r.segments - length (eights facts.segs))) in
      rw (
        le-leb s (2 ^ 24) (omega (arith, facts.size, facts.fits_segments)),
        le-leb (8 * s) (length o.segments) (omega (arith, facts.size, n, length_eights facts.segs)),
        le-leb e (2 ^ 30) listing.few,
        le-leb e (length o.entries) (rw entries_are listing.room),
        le-leb i.height (2 ^ 23) facts.low,
        le-leb (i.height + 1) (length o.starts) (rw starts_are listing.tall),
      )

  module _ (y : ℕ) (h : y < i.height) where
    checks : users.Checks (in_row o.segments) s i.height e y o.starts o.entries
    checks =
        checks_of (in_row o.segments) s i.height r.starts r.entries e facts.fits_starts
        (sym (ap (λ (l : RowsOutcome). l.answer) same_listing) ∙ facts.listed) y h starts_are entries_are

    -- the row lists, ascending, the segments of the table that have it
    pub row_listed : row_of (built i o s e) y ≡ listed (in_row o.segments) y s
    row_listed = rw (add-one y) checks.row

    pub row_good_lem : row_good (built i o s e) y ≡ true
    unfolding entries_good
    row_good_lem =
        let n : all_below s (row_of (built i o s e) y) ≡ true = rw row_listed (listed_below (in_row o.segments) s y s (omega arith)) in
        rw (
          le-leb (get_or o.starts y 0) (get_or o.starts (y + 1) 0) (rw (add-one y) checks.rises),
          le-leb (get_or o.starts (y + 1) 0) e (rw (add-one y) checks.ends),
          n,
        )

  -- what a desk is shown of a row, with the owners of the segments lent
  module _ (z : Sight) (owners : List ℕ) (owned : length owners ≡ length (segments_in_rooms d i r)) (lent : take (length owners) z.owners ≡ owners) where
    as_many : length owners ≡ length facts.segs
    as_many = owned ∙ ap length (sym segments_are)

    pub owner_is : (k : ℕ) → k < length owners → owner_in z k ≡ get_or owners k 0
    owner_is k h = sym (get_or-take (length owners) z.owners k 0 h) ∙ ap (λ (l : List ℕ). get_or l k 0) lent

    shown_in_lem : (k y : ℕ) → k < length facts.segs → seen z (in_row o.segments) k y ≡ (has_row (get_or facts.segs k none) y && not (hides z (get_or owners k 0)))
    unfolding seen
    shown_in_lem k y l = rw (in_row_lem k y l, owner_is k (omega (arith, l, as_many)))

    module _ (y : ℕ) (h : y < i.height) where
      pub row_shown : shown_of (built i o s e) z y ≡ listed (seen z (in_row o.segments)) y s
      row_shown = ap (shown z) (row_listed y h) ∙ shown_listed z (in_row o.segments) y s

      shown_is : shown_of (built i o s e) z y ≡ listed (seen z (in_row o.segments)) y (length facts.segs)
      shown_is = row_shown ∙ ap (listed (seen z (in_row o.segments)) y) (sym facts.size)

      -- a pixel of the row, drawn by what is shown of it, and the updates of its first W pixels
      pub row_pixel : (c x : ℕ) (v : Float) → pixel c o.segments y x (shown_of (built i o s e) z y) v ≡ pixel_of c (not_hidden z owners (segments_in_rooms d i r)) y x v
      row_pixel c x v =
          ap (λ (l : List ℕ). pixel c o.segments y x l v) shown_is
          ∙ pixel_is o.segments facts.segs none (λ k l. segment_is k none l) z owners as_many (seen z (in_row o.segments)) shown_in_lem c y x v
          ∙ ap (λ (l : List Segment). pixel_of c (not_hidden z owners l) y x v) segments_are

      pub row_pairs_lem : (W : ℕ) → updates o.segments 0 W (shown_of (built i o s e) z y) ≡ row_pairs (not_hidden z owners (segments_in_rooms d i r)) W y
      row_pairs_lem W =
          ap (updates o.segments 0 W) shown_is
          ∙ pairs_are o.segments facts.segs none (λ k l. segment_is k none l) z owners as_many (seen z (in_row o.segments)) shown_in_lem W y
          ∙ ap (λ (l : List Segment). row_pairs (not_hidden z owners l) W y) segments_are

  pub built_table : BuiltTable d i r (segments_in_rooms d i r) o s e estimate
  built_table = record {
    judged = facts.judged;
    count = sym facts.size ∙ ap length segments_are;
    segments = facts.segments ∙ ap (λ (l : List Segment). padded r.segments 0·0 (eights l)) segments_are;
    entry_count_lem = listing.count;
    entries = entries_are ∙ listing.entries;
    starts = starts_are ∙ listing.starts;
    row = row_listed;
    no_path = facts.path;
    no_walk = facts.walk;
  }

-- Assumes nothing.
