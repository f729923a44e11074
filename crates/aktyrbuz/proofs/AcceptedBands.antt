-- Two right tables over the same segments give every desk the same summary and the same refreshes.
use mathlib.Core.Path.{◌≡◌, refl}
use mathlib.Core.List.{List}
use Prim.Native.Nat.{ℕ, ◌*◌}
use native.Mathlib.Omega.{arith}
use lib.ListN.{take}
use Rattle.desks.specs.Desks.{Sight}
use Rattle.checks.specs.Tables.{Table, table_of}
use Rattle.checks.specs.Refusals.{CountsFit}
use Rattle.checks.specs.Alike.{Kept}
use Rattle.checks.proofs.Alike.{kept_segment}
use Rattle.bands.specs.Calls.{bands_of, band_of}
use Rattle.makers_laws.proofs.Tables.{Right}
use Rattle.makers_laws.proofs.Alike.{right_alike}
use Rattle.bands_laws.specs.Summaries.{AlikeWhole}
use Rattle.bands_laws.proofs.Alike.{bands_alike, refreshed_alike}

module _ {t u : Table} (count : t.segment_count ≡ u.segment_count) (height : t.height ≡ u.height) (floats : take (8 * t.segment_count) t.segments ≡ take (8 * t.segment_count) u.segments)
    (r : Right t) (q : Right u) (f : CountsFit t) (g : CountsFit u) (s : Sight) where
  -- the segments in use are the same where their floats are
  beside : Kept t (table_of u.segments t.segment_count t.entries t.entry_count t.row_starts t.height)
  beside = record { segment_count_lem = refl; entry_count_lem = refl; height = refl; segments = floats; entries = refl; starts = refl }

  alike : AlikeWhole t s u s
  alike = record {
    fit = (λ h. record { table = g; owners_fit = omega (arith, h.owners_fit, count) }, λ h. record { table = f; owners_fit = omega (arith, h.owners_fit, count) });
    height = height;
    sights = record { desk = refl; splines = refl; lent = (λ h. h, λ h. h); own_bits = record { own_bits = λ j h. refl } };
    rows = λ y h. record {
      tables = right_alike count height (kept_segment beside) r q f g y h;
      sights = record { desk = refl; splines = refl; lent = (λ h. h, λ h. h); own_bits = record { own_bits = λ j h. refl } };
      owners_fit = (λ h. omega (arith, h, count), λ h. omega (arith, h, count));
      owners = λ j h m. refl;
    };
  }

  pub bands_same : (W room : ℕ) → bands_of t s W room ≡ bands_of u s W room
  bands_same = bands_alike alike

  pub band_same : (W b : ℕ) (cells : List ℕ) → band_of t s W b cells ≡ band_of u s W b cells
  band_same = refreshed_alike alike

-- Assumes nothing.
