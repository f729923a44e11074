-- What the first rows should list, as a sum over the segments.
use mathlib.Core.Path.{◌≡◌, refl, ap}
use mathlib.Core.Bool.{Bool}
use mathlib.Core.List.{List}
use Prim.Native.Nat.{ℕ, zero, suc, ◌^◌, ◌≤◌, ◌<◌}
use native.Mathlib.Omega.{arith}
use lib.Ieee.{Float}
use lib.ListN.{length, get_or}
use Rattle.rows.specs.Rows.{listed, rows, start_of, in_row}
use Rattle.rows.specs.Steps.{within, first_of, past_of, entries_of}
use Rattle.rows.proofs.Table.{within_rows}

-- tests that agree on the image have rows of one length
module _ (has other : ℕ → ℕ → Bool) (S H : ℕ) (same : (i y : ℕ) → i < S → y < H → has i y ≡ other i y) where
  pub listed_same : (y s : ℕ) → y < H → s ≤ S → listed has y s ≡ listed other y s
  unfolding listed
  listed_same y zero h k = refl
  listed_same y (suc s) h k = rw (same s y k h, listed_same y s h (omega arith))

  pub rows_same : (y : ℕ) → y ≤ H → rows has S y ≡ rows other S y
  unfolding rows
  rows_same zero h = refl
  rows_same (suc y) h = rw (rows_same y (omega arith), listed_same y S h (omega arith))

-- what the rows of an image hold is what they are due
pub due_is : (segs : List Float) (S n : ℕ) → n ≤ 2 ^ 23 → entries_of segs S n ≡ start_of (in_row segs) S n
due_is segs S n h = ap length (rows_same (within (first_of segs) (past_of segs n)) (in_row segs) S n (within_rows segs S n h) n (omega arith))

-- before the first row nothing is due
module _ (has : ℕ → ℕ → Bool) (S : ℕ) (starts : List ℕ) (begins : get_or starts 0 0 ≡ 0) where
  pub begin_full : start_of has S 0 ≤ get_or starts 0 0
  unfolding rows
  begin_full = omega (arith, begins)

  pub some_rows : (bad : ℕ) → get_or starts bad 0 < start_of has S bad → 0 < bad
  unfolding rows
  some_rows zero h = absurd (omega (arith, begins))
  some_rows (suc b) h = omega arith

-- Assumes nothing.
