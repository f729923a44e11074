-- The contracts of making and refreshing are equations, and an outcome is what its export leaves.
use mathlib.Core.Path.{◌≡◌}
use mathlib.Core.List.{List}
use Prim.Native.Nat.{ℕ}
use lib.IntN.{ℤ}
use Rattle.desks.specs.Desks.{Sight}
use Rattle.checks.specs.Tables.{Table}
use Rattle.bands.specs.BandsAnswer.{BandsAnswer}
use Rattle.bands.specs.Calls.{BandsOutcome, leaves, bands_of, band_of}
use Rattle.bands_laws.specs.Summaries.{Refreshes}
use Rattle.bands_laws.specs.Summaries as runs
use Rattle.told.specs.Told.{told_bands, told_in}
use Rattle.aktyrbuz.specs.BandsExported.{bands_leaves, bands_export}
use Rattle.aktyrbuz.specs.BandsCalls.{BandsCall, makes, BandCall, refreshes, BandCalls}
use Rattle.aktyrbuz.specs.BandsCalls as calls

pub bands_exported : {o : BandsOutcome} (r : BandsAnswer) (k : ℕ) (five : List ℤ) (cells : List ℕ)
    → leaves r cells ≡ o → k ≡ (told_bands r).number → five ≡ told_in (told_bands r)
    → bands_leaves k five cells ≡ bands_export o
bands_exported r k five cells p q s = rw (← p, s, q)

pub bands_equation : (t : Table) (s : Sight) (W room : ℕ) (o : BandsOutcome) → BandsCall t s W room o → o ≡ bands_of t s W room
bands_equation t s W room o (makes κs _ _ _ _ _ _ _ _ _ p) = p

pub band_equation : (t : Table) (s : Sight) (W b : ℕ) (cells : List ℕ) (o : BandsOutcome) → BandCall t s W b cells o → o ≡ band_of t s W b cells
band_equation t s W b cells o (refreshes κs _ _ _ _ _ _ _ _ _ _ _ p) = p

pub refreshes_by : {t : Table} {s : Sight} {W : ℕ} {bs c z : List ℕ} → BandCalls t s W bs c z → Refreshes t s W bs c z
refreshes_by calls.none = runs.none
refreshes_by {t} {s} {W} (calls.more {b} {bs} {c} {z} {o} {n} k d rest) = runs.more (band_equation t s W b c o k) d (refreshes_by rest)

-- Assumes nothing.
