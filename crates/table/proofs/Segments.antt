-- The segments of a description and the build: one list, a build whose needs are met is done, a build that is done made it, and more room changes nothing.
use mathlib.Core.Path.{◌≡◌, refl, sym, ap, ◌∙◌}
use mathlib.Core.List.{List, ◌++◌}
use mathlib.Core.Logic.{◌⊎◌, inl, inr}
use Prim.Native.Nat.{ℕ, suc, ◌*◌}
use native.Mathlib.Omega.{arith}
use lib.ListN.{length, take}
use lib.Seq.{take_at}
use Rattle.dequantize.specs.Judge.{Description, total_of}
use Rattle.segments.specs.declared.Segment.{Segment}
use Rattle.points.specs.Points.{eights}
use Rattle.points.proofs.Adding.{length_eights}
use Rattle.painting.specs.Painting.{All}
use Rattle.painting.proofs.Segments.{makes_one, makes_owned, drawn_makes, drawn_more}
use Rattle.rows.specs.Rows.{in_row, start_of, rows, up_to}
use Rattle.rows.proofs.Users.{length_up_to}
use Rattle.faint.specs.Faint.{faint_in}
use Rattle.build_answer.specs.BuildAnswer.{Done}
use Rattle.build_answer.proofs.Ends.{done_same}
use Rattle.table.specs.Table.{BuildRooms, Setting, BuildOutcome, given_of, refused_with, build_of}
use Rattle.table.specs.Segments.{entry_total, NeedsMet, done_with, BuildMakes, NoLess, MakesOne, OwnsOne, EnoughIsDone, DoneMakes, MoreRoomNeverRefuses}
use Rattle.table.proofs.InRooms.{painted}
use Rattle.table.proofs.Users.{is_drawn, refused, met, Accepts, Refuses, either_way}

pub one_owned : OwnsOne
one_owned d i xs ys us vs a b = makes_one d (given_of i) i.high a b

pub one_list : MakesOne
one_list d i xs ys a b = (one_owned d i xs ys a.owners b.owners a.made b.made).0

pub enough_is_done : EnoughIsDone
enough_is_done d i r segs owners n = met d i r segs owners n

-- and they are what is drawn with the lent room
pub drawn_are : (d : Description) (i : Setting) (r : BuildRooms) (segs : List Segment) (owners : List ℕ) → NeedsMet d i r segs owners → painted d i r ≡ All segs owners
drawn_are d i r segs owners n = is_drawn d i r n.fits n.passes segs owners n.drawn

pub build_makes : DoneMakes
unfolding refused_with done_with
build_makes d i r s e estimate faint h = go (either_way d i r)
  where
    go : Accepts d i r ⊎ Refuses d i r → BuildMakes d i r s e estimate faint
    go (inr w) = absurd (cc (ap (λ (t : BuildOutcome). t.answer) (refused d i r w.why), h))
    go (inl a) =
        let m = met d i r a.segs a.owners a.needs in
        let q : Done (length a.segs) (entry_total i a.segs) (total_of d (given_of i) (length d.counts)) (faint_in (eights a.segs) (length a.segs)) ≡ Done s e estimate faint = sym (ap (λ (t : BuildOutcome). t.answer) m) ∙ h in
        let same = done_same _ _ _ _ s e estimate faint q in
        record {
          segs = a.segs;
          owners = a.owners;
          makes = drawn_makes d (given_of i) i.high a.needs.drawn;
          needs = a.needs;
          count = same.segments;
          entry_count_lem = same.entries;
          estimated = same.estimate;
          faint_count = same.faint;
          numbers = ap (λ (t : BuildOutcome). t.segments) m;
          leaves_them = m;
        }

-- ---- more room

more_needs : (d : Description) (i : Setting) (r r' : BuildRooms) (segs : List Segment) (owners : List ℕ) → NoLess r r' → NeedsMet d i r segs owners → NeedsMet d i r' segs owners
more_needs d i r r' segs owners l n = record {
  fits = record { narrow = n.fits.narrow; low = n.fits.low; shape = n.fits.shape; tall = omega (arith, n.fits.tall, l.starts) };
  passes = n.passes;
  drawn = drawn_more d (given_of i) i.high l.path l.walk l.segments l.owners n.drawn;
  entries = (omega (arith, n.entries.0, l.entries), n.entries.1);
}

-- the table stands on the front of the lent cells
front : {A : Type 0} (xs ys zs : List A) (n : ℕ) → length xs ≡ n → take n (xs ++ ys) ≡ take n (xs ++ zs)
front xs ys zs n e = take_at xs ys n e ∙ sym (take_at xs zs n e)

pub more_room_never_refuses : MoreRoomNeverRefuses
unfolding done_with
more_room_never_refuses d i r r' s e estimate faint l h =
    let b = build_makes d i r s e estimate faint h in
    let xs = b.segs in
    let us = b.owners in
    let p : build_of d i r ≡ done_with d i r xs us = b.leaves_them in
    let q : build_of d i r' ≡ done_with d i r' xs us = met d i r' xs us (more_needs d i r r' xs us l b.needs) in
    rw (p, q)
    (record {
      answer = refl;
      segments = front (eights xs) _ _ (8 * s) (omega (arith, length_eights xs, b.count));
      owners = front us _ _ s (makes_owned d (given_of i) i.high b.makes ∙ b.count);
      entries = front (rows (in_row (eights xs)) (length xs) i.height) _ _ e b.entry_count_lem;
      starts = front (up_to (start_of (in_row (eights xs)) (length xs)) (suc i.height)) _ _ (suc i.height) (length_up_to (start_of (in_row (eights xs)) (length xs)) (suc i.height));
    })

-- Assumes nothing.
