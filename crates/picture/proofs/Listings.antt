-- What a row of a built table lists: the segments that have it and no other, once each, ascending; and the last start is the entry count. Each is a law of the row table.
use mathlib.Core.Path.{◌≡◌, sym, ap, subst, ◌∙◌}
use mathlib.Core.Bool.{Bool}
use mathlib.Core.List.{List, []}
use Prim.Native.Nat.{ℕ, suc, ◌-◌, ◌<◌}
use native.Mathlib.Omega.{arith}
use lib.ListN.{length, get_or, replicate, get_or-append}
use lib.Seq.{get_or-append_seam}
use Rattle.buffers.specs.Padded.{padded}
use Rattle.dequantize.specs.Judge.{Description}
use Rattle.rows.specs.Rows.{in_row, listed, start_of, up_to}
use Rattle.rows.specs.Steps.{cnt}
use Rattle.rows.proofs.Counts.{cnt_lt}
use Rattle.rows.proofs.Users.{each, found, rows_ascend, length_up_to}
use Rattle.table.specs.Table.{BuildRooms, Setting}
use Rattle.table.specs.Table as build
use Rattle.draw.specs.Draw.{row_of}
use Rattle.segments.specs.declared.Segment.{Segment}
use Rattle.picture.specs.Picture.{built, BuiltTable, Lists}

last_of : (f : ℕ → ℕ) (n m : ℕ) → get_or (padded m 0 (up_to f (suc n))) n 0 ≡ f n
unfolding up_to
last_of f n m =
    get_or-append (up_to f (suc n)) (replicate (m - length (up_to f (suc n))) 0) 0 n (omega (arith, length_up_to f (suc n)))
    ∙ subst (λ (k : ℕ). get_or (up_to f (suc n)) k 0 ≡ f n) (length_up_to f n) (get_or-append_seam (up_to f n) (f n) [] 0)

-- what is listed by a test has the numbers that pass it, once each, ascending
pub listed_lists : (has : ℕ → ℕ → Bool) (y s : ℕ) → Lists (λ k. has k y) s (listed has y s)
listed_lists has y s = record {
  passes = λ j l. let m = each has y s j l in (m.below, m.has_it);
  ascends = rows_ascend has y s;
  complete = λ k l a. record { index = cnt has y k; in_row_lem = cnt_lt has y k s l a; is = found has y s k l a };
}

module _ {d : Description} {i : Setting} {r : BuildRooms} {own : List Segment} {o : build.BuildOutcome} {s e estimate : ℕ} (t : BuiltTable d i r own o s e estimate) where
  pub last_start : get_or o.starts i.height 0 ≡ e
  last_start = ap (λ (l : List ℕ). get_or l i.height 0) t.starts ∙ last_of (start_of (in_row o.segments) s) i.height r.starts ∙ sym t.entry_count_lem

  -- each row lists the segments that have it, once each, ascending
  pub lists : (y : ℕ) → y < i.height → Lists (λ k. in_row o.segments k y) s (row_of (built i o s e) y)
  lists y h = rw (t.row y h) (listed_lists (in_row o.segments) y s)

-- Assumes nothing.
