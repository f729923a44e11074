-- How a build ends: no room for the entries, or the table, with zeros behind what is kept.
use mathlib.Core.Path.{◌≡◌, ap, ◌∙◌}
use mathlib.Core.List.{List, ◌++◌}
use Prim.Native.Nat.{ℕ, ◌-◌, ◌≤◌}
use lib.ListN.{length, take, replicate}
use lib.Seq.{length-take-le}
use lib.Ieee.{Float}
use Rattle.numbers.specs.Arith.{0·0}
use Rattle.buffers.specs.Padded.{padded}
use Rattle.codes.specs.declared.Code.TheVariants as Code
use Rattle.rows.specs.Listed.{Listed}
use Rattle.rows.specs.Listed as Listed
use Rattle.rows.specs.Rows.{RowsOutcome, outcome}
use Rattle.faint.specs.Faint.{faint_in}
use Rattle.build_answer.specs.BuildAnswer.{Done}
use Rattle.build_answer.specs.declared.Built.{Built}
use Rattle.build_answer.specs.Answer.{BuildRooms, leaves, zeros, refused_with, after_rows}

-- ---- a buffer that is cleared behind what it keeps

pub kept : {A : Type 0} (z : A) (o : List A) {e : List A} (n : ℕ) → n ≤ length o → e ≡ take n o ++ replicate (length o - n) z → e ≡ take n o ++ replicate (length o - length (take n o)) z
kept z o n h e = e ∙ rw (length-take-le n o h)

-- ---- the rows

module _ (r : BuildRooms) (estimate count : ℕ) (numbers : List Float) (owned : List ℕ) (o : RowsOutcome) {a : Listed} {starts entries : List ℕ} (e : outcome a starts entries ≡ o) where
  pub rows_room : a ≡ Listed.Room → refused_with r Code.Room 0 ≡ after_rows r estimate count numbers owned o
  rows_room q = rw (← e, q)

  pub rows_done : {path walk segments : List Float} {owners : List ℕ} (n : ℕ) {faint : ℕ} → faint ≡ faint_in numbers count → a ≡ Listed.Entries n → path ≡ zeros r.path → walk ≡ zeros r.walk → segments ≡ padded r.segments 0·0 numbers
      → owners ≡ padded r.owners 0 owned → leaves (Done count n estimate faint) path walk segments owners starts entries ≡ after_rows r estimate count numbers owned o
  rows_done n f q p w s h = rw (← e, q, p, w, s, h, f)

-- ---- equal answers

-- two builds that answer the same have made the same
pub record Same (s n a f s' n' a' f' : ℕ) : Type 0 where
  pub segments : s ≡ s'
  pub entries : n ≡ n'
  pub estimate : a ≡ a'
  pub faint : f ≡ f'

pub done_same : (s n a f s' n' a' f' : ℕ) → Done s n a f ≡ Done s' n' a' f' → Same s n a f s' n' a' f'
done_same s n a f s' n' a' f' e =
    let b : ◌≡◌ {A = Built} (record { segments = s; entries = n; estimate = a; faint = f }) (record { segments = s'; entries = n'; estimate = a'; faint = f' }) = cc in
    record {
      segments = ap (λ (x : Built). x.segments) b;
      entries = ap (λ (x : Built). x.entries) b;
      estimate = ap (λ (x : Built). x.estimate) b;
      faint = ap (λ (x : Built). x.faint) b;
    }

-- Assumes nothing.
