-- The export for the shared bytes of two desks by its contract, as in Exports.antt: which outcomes the contract allows, that each is an outcome of its call told in C's terms, and that any two are equal. Definitions only.
use Rattle.std.specs.Prelude.{◌≡◌, Bool, List, ℕ}
use contract.Lifetimes.{Lfts}
use Rattle.aktyrbuz.specs.Exported.{HideExport, hide_leaves, hide_export}
use Rattle.aktyrbuz.specs.Calls.{HideCall}
use Rattle.aktyrbuz.proofs.hiding.aktyrbuz_hide.Reads as hide-contract
use Rattle.exports.specs.Exports.{Tells}

-- of the shared bytes, for a desk, a spline, and whether it is to be hidden
pub data HideExportCall : List ℕ → ℕ → ℕ → Bool → HideExport → Type 0 where
  hides : (κs : Lfts 2) (bits : _) (desk : _) (spline : _) (hidden : _) (answer : _) (r : _) (bits' : _) (desk' : _) (spline' : _) (hidden' : _) (answer' : _)
      → hide-contract.Post κs (bits, (desk, (spline, (hidden, (answer, tt))))) r (bits', (desk', (spline', (hidden', (answer', tt)))))
      → HideExportCall bits.now desk spline hidden (hide_leaves r answer'.now bits'.now)

-- whatever the export's contract allows is an outcome that the call's contract allows, the five numbers included
abbrev pub HideExportTellsTheCall : Type 0
HideExportTellsTheCall = (a : List ℕ) (desk spline : ℕ) (hidden : Bool) (x : HideExport) → HideExportCall a desk spline hidden x → Tells (HideCall a desk spline hidden) hide_export x

-- any two outcomes that the export's contract allows are equal
abbrev pub HideOneOutcomeExported : Type 0
HideOneOutcomeExported = (a : List ℕ) (desk spline : ℕ) (hidden : Bool) (x z : HideExport) → HideExportCall a desk spline hidden x → HideExportCall a desk spline hidden z → x ≡ z
