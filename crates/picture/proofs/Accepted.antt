-- What an accepted build leaves: a refusal is not done, so every check of `build_of` has passed, and the cells are those of the last step.
use mathlib.Core.Path.{◌≡◌, refl, sym, ap, ◌∙◌}
use mathlib.Core.Bool.{Bool}
use mathlib.Core.List.{List, [], ◌++◌}
use Prim.Native.Nat.{ℕ, zero, suc, ◌+◌, ◌^◌, ◌≤◌, ◌<◌}
use native.Mathlib.Omega.{arith}
use lib.ListN.{length, length-append}
use Rattle.numbers.specs.Arith.{0·0}
use Rattle.buffers.specs.Padded.{padded}
use Rattle.codes.specs.declared.Code.{Code}
use Rattle.dequantize.specs.declared.Given.{Given}
use Rattle.dequantize.specs.Answers.{Judged}
use Rattle.dequantize.specs.Answers as Judged
use Rattle.dequantize.specs.Judge.{Description, judge_of}
use Rattle.segments.specs.declared.Segment.{Segment}
use Rattle.curve.specs.Curve.{path_room}
use Rattle.walk.specs.Walk.{walk_room}
use Rattle.points.specs.Filled.{Filled, Count, Room}
use Rattle.points.specs.Points.{eights}
use Rattle.points.proofs.Adding.{count_got}
use Rattle.strand.specs.Strand.{Strand, NoRoom, Segments, strand_filled, segments_of}
use Rattle.rows.specs.Listed.{Listed}
use Rattle.rows.specs.Listed as Listed
use Rattle.rows.specs.Rows.{in_row, RowsOutcome, outcome, listed_rows}
use Rattle.owners.specs.Owners.{owned_room, owners_of}
use Rattle.painting.specs.Painting.{strand_of_spline, Painted, All, NoRoomAt, after_strand, paint_from, paint_of}
use Rattle.faint.specs.Faint.{faint_in}
use Rattle.table.specs.Table.{BuildRooms, Setting, BuildOutcome, given_of, refused_with, zeros, after_rows, after_judge, build_of}
use Rattle.verdict.specs.Verdict.{verdict_of}
use Rattle.table.proofs.InRooms.{painted}
use Rattle.verdict.proofs.Checks.{ready}
use Rattle.build_answer.specs.BuildAnswer.{Done}
use Rattle.build_answer.proofs.Ends.{done_same}

-- ---- the segments have room

strand_fits : (room count : ℕ) (s : Strand) (n : ℕ) → Count n ≡ strand_filled room count s → count + length (segments_of s) ≤ room
strand_fits room count NoRoom n e = absurd (let z : ◌≡◌ {A = ℕ} 0 1 = cc in omega arith)
strand_fits room count (Segments segs) n e = (count_got room count segs n e).1

paint_fits : (d : Description) (g : Given) (high : Bool) (p w room n k : ℕ) (done segs : List Segment) (before owners : List ℕ) → length done ≤ room → paint_from d g high p w room n k done before ≡ All segs owners → length segs ≤ room
unfolding paint_from
paint_fits d g high p w room zero k done segs before owners h e = let q : done ≡ segs = cc in rw q at h
paint_fits d g high p w room (suc n) k done segs before owners h e =
    go (strand_filled room (length done) s) refl (paint_fits d g high p w room n (suc k) (done ++ segments_of s) segs (before ++ owners_of k (segments_of s)) owners) e
  where
    s : Strand
    s = strand_of_spline d g high p w k

    rest : Painted
    rest = paint_from d g high p w room n (suc k) (done ++ segments_of s) (before ++ owners_of k (segments_of s))

    go : (f : Filled) → strand_filled room (length done) s ≡ f → (length (done ++ segments_of s) ≤ room → rest ≡ All segs owners → length segs ≤ room) → after_strand f k rest ≡ All segs owners → length segs ≤ room
    go Room q ih e = absurd (let z : ◌≡◌ {A = ℕ} 0 1 = cc in omega arith)
    go (Count m) q ih e = ih (omega (arith, length-append done (segments_of s), strand_fits room (length done) s m (sym q))) e

all_fit : (d : Description) (g : Given) (high : Bool) (p w room : ℕ) (segs : List Segment) (owners : List ℕ) → paint_of d g high p w room ≡ All segs owners → length segs ≤ room
unfolding paint_of
all_fit d g high p w room segs owners e = paint_fits d g high p w room (length d.counts) 0 [] segs [] owners (omega arith) e

-- ---- from the end of the checks to their beginning

module _ (r : BuildRooms) (t : BuildOutcome) (s e est faint : ℕ) (done : t.answer ≡ Done s e est faint) where
  -- a refusal is not done
  refused_not : (c : Code) (k : ℕ) → t ≡ refused_with r c k → ⊥
  unfolding refused_with
  refused_not c k q = let z : ◌≡◌ {A = ℕ} 0 1 = cc (sym (ap (λ (b : BuildOutcome). b.answer) q) ∙ done) in omega arith

  -- the rows were listed
  record Listing (estimate : ℕ) (segs : List Segment) (o : RowsOutcome) : Type 0 where
    same : estimate ≡ est
    size : length segs ≡ s
    listed : o.answer ≡ Listed.Entries e
    path : t.path ≡ zeros r.path
    walk : t.walk ≡ zeros r.walk
    segments : t.segments ≡ padded r.segments 0·0 (eights segs)
    starts : t.starts ≡ o.starts
    entries : t.entries ≡ o.entries

  rows_listed : (estimate : ℕ) (segs : List Segment) (owners : List ℕ) (l : Listed) (ss es : List ℕ) → t ≡ after_rows r estimate (length segs) (eights segs) owners (outcome l ss es)
      → Listing estimate segs (outcome l ss es)
  rows_listed estimate segs owners Listed.Room ss es q = absurd (refused_not Code.Room 0 q)
  rows_listed estimate segs owners (Listed.Entries n) ss es q =
      let a : Done (length segs) n estimate (faint_in (eights segs) (length segs)) ≡ Done s e est faint = sym (ap (λ (b : BuildOutcome). b.answer) q) ∙ done in
      let made = done_same _ _ _ _ s e est faint a in
      record {
        same = made.estimate;
        size = made.segments;
        listed = ap Listed.Entries made.entries;
        path = ap (λ (b : BuildOutcome). b.path) q;
        walk = ap (λ (b : BuildOutcome). b.walk) q;
        segments = ap (λ (b : BuildOutcome). b.segments) q;
        starts = ap (λ (b : BuildOutcome). b.starts) q;
        entries = ap (λ (b : BuildOutcome). b.entries) q;
      }

  -- every spline was judged and drawn
  record Ended (H : ℕ) (j : Judged) (p : Painted) : Type 0 where
    segs : List Segment
    owners : List ℕ
    estimate : ℕ
    judged : j ≡ Judged.Fine estimate
    drawn : p ≡ All segs owners
    listing : Listing estimate segs (listed_rows (in_row (eights segs)) (length segs) H r.starts r.entries)

  ended : (H : ℕ) (j : Judged) (p : Painted) → t ≡ after_judge r H j p → Ended H j p
  ended H (Judged.Refused c k) p q = absurd (refused_not c k q)
  ended H (Judged.Fine estimate) (NoRoomAt k) q = absurd (refused_not Code.Room k q)
  ended H (Judged.Fine estimate) (All segs owners) q =
      let o = listed_rows (in_row (eights segs)) (length segs) H r.starts r.entries in
      record { segs = segs; owners = owners; estimate = estimate; judged = refl; drawn = refl; listing = rows_listed estimate segs owners o.answer o.starts o.entries q }

-- what an accepted build is
pub record BuildAccepted (d : Description) (i : Setting) (r : BuildRooms) (t : BuildOutcome) (s e est : ℕ) : Type 0 where
  pub segs : List Segment
  pub owners : List ℕ
  pub low : i.height ≤ 2 ^ 23
  pub fits_starts : i.height < r.starts
  pub judged : judge_of d (given_of i) ≡ Judged.Fine est
  pub drawn : painted d i r ≡ All segs owners
  pub fits_segments : length segs ≤ owned_room r.segments r.owners
  pub size : length segs ≡ s
  pub listed : (listed_rows (in_row (eights segs)) (length segs) i.height r.starts r.entries).answer ≡ Listed.Entries e
  pub path : t.path ≡ zeros r.path
  pub walk : t.walk ≡ zeros r.walk
  pub segments : t.segments ≡ padded r.segments 0·0 (eights segs)
  pub starts : t.starts ≡ (listed_rows (in_row (eights segs)) (length segs) i.height r.starts r.entries).starts
  pub entries : t.entries ≡ (listed_rows (in_row (eights segs)) (length segs) i.height r.starts r.entries).entries

pub accepted : (d : Description) (i : Setting) (r : BuildRooms) (t : BuildOutcome) (s e est faint : ℕ) → t ≡ build_of d i r → t.answer ≡ Done s e est faint → BuildAccepted d i r t s e est
unfolding build_of
accepted d i r t s e est faint q done =
    let g = ended r t s e est faint done i.height (verdict_of d (given_of i) i.width i.height r.starts) (painted d i r) q in
    let f = ready d (given_of i) i.width i.height r.starts g.estimate g.judged in
    record {
      segs = g.segs;
      owners = g.owners;
      low = f.low;
      fits_starts = f.tall;
      judged = f.fine ∙ ap Judged.Fine g.listing.same;
      drawn = g.drawn;
      fits_segments = all_fit d (given_of i) i.high (path_room r.path) (walk_room r.walk) (owned_room r.segments r.owners) g.segs g.owners g.drawn;
      size = g.listing.size;
      listed = g.listing.listed;
      path = g.listing.path;
      walk = g.listing.walk;
      segments = g.listing.segments;
      starts = g.listing.starts;
      entries = g.listing.entries;
    }

-- Assumes nothing.
