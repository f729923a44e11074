-- What an export lends the call behind it, as one value: a description, a table, a sight. Where the value lies is nothing that a contract speaks of, so it lies nowhere.
use Prim.Native.Nat.{ℕ}
use mathlib.Core.Bool.{Bool}
use mathlib.Core.List.{List}
use lib.IntN.{ℤ}
use lib.Ieee.{Float}
use denote.Bor.{Bor}
use Rattle.shape.specs.declared.Description.{Description}
use Rattle.table.specs.declared.Setting.{Setting}
use Rattle.checks.specs.declared.Table.{Table}
use Rattle.desks.specs.declared.Sight.{Sight}

abbrev lent : {X : Type 0} → X → Bor X
lent x = record { ref_ptr = (0, 0); now = x }

abbrev pub lent_description : Bor (List ℕ) → Bor (List Float) → Bor (List ℤ) → Bor (List ℤ) → Bor Description
lent_description counts starts deltas coefficients = lent (record { counts = counts; starts = starts; deltas = deltas; coefficients = coefficients })

abbrev pub setting : ℤ → ℕ → ℕ → Float → Float → Bool → Bool → Setting
setting adjustment width height ytox ytob high level10 = record { adjustment = adjustment; width = width; height = height; y_to_x = ytox; y_to_b = ytob; high_precision = high; level10 = level10 }

abbrev pub lent_table : Bor (List Float) → ℕ → Bor (List ℕ) → ℕ → Bor (List ℕ) → ℕ → Bor Table
lent_table segments segment_count entries entry_count row_starts height = lent (record {
  segments = segments;
  segment_count = segment_count;
  entries = entries;
  entry_count = entry_count;
  row_starts = row_starts;
  height = height;
})

abbrev pub lent_sight : Bor (List ℕ) → ℕ → Bor (List ℕ) → ℕ → Bor Sight
lent_sight owners splines bits desk = lent (record { owners = owners; splines = splines; bits = bits; desk = desk })

-- Assumes nothing.
