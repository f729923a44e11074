-- An outcome of reading a trace file of either version is what its export leaves.
use mathlib.Core.Path.{◌≡◌}
use mathlib.Core.List.{List}
use Prim.Native.Nat.{ℕ}
use lib.IntN.{ℤ}
use lib.Ieee.{Float}
use Rattle.std.specs.Prelude.{Ok, Err}
use Rattle.trace2.specs.Read.{FileAnswer, FileOutcome, file_leaves}
use Rattle.told.specs.Told.{told_file, told_in}
use Rattle.aktyrbuz.specs.Exported.{read_leaves}
use Rattle.aktyrbuz.specs.Trace2Exported.{file_export}

pub file_exported : {o : FileOutcome} (r : FileAnswer) (k : ℕ) (five : List ℤ) (ns : List ℕ) (zs : List Float) (ds cs : List ℤ)
    → file_leaves r ns zs ds cs ≡ o → k ≡ (told_file r).number → five ≡ told_in (told_file r) → read_leaves k five ns zs ds cs ≡ file_export o
file_exported (Ok r) k five ns zs ds cs p q s = rw (← p, s, q)
file_exported (Err e) k five ns zs ds cs p q s = rw (← p, s, q)

-- Assumes nothing.
