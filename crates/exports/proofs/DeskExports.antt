-- The export for the shared bytes tells the call: its contract's equation gives back the answer, and with the lent bytes it is an outcome that the call's own contract allows.
use mathlib.Core.Path.{◌≡◌, refl, sym, ap, ◌∙◌}
use mathlib.Core.Bool.{Bool, true, false, cond}
use mathlib.Core.List.{List}
use Prim.Native.Nat.{ℕ}
use lib.Dec.{ltb}
use lib.ListN.{length, get_or, set}
use Rattle.codes.specs.declared.Code.TheVariants as Code
use Rattle.desks.specs.Hide.{HideOutcome, with_bit, hide_of}
use Rattle.desks.specs.Hide as hiding
use Rattle.desks.specs.HideAnswer as Hiding
use Rattle.aktyrbuz.specs.Exported.{HideExport, hide_export}
use Rattle.aktyrbuz.specs.Calls as calls
use Rattle.exports.specs.DeskExports.{HideExportCall, hides, HideExportTellsTheCall, HideOneOutcomeExported}

abbrev HideWhole : HideOutcome → Type 0
HideWhole o = hiding.leaves o.answer o.bits ≡ o

whole_by : (b c : Bool) (x z : List ℕ)
    → HideWhole (cond b (cond c (hiding.leaves Hiding.Done x) (hiding.leaves (Hiding.Refused Code.Trace 0) z)) (hiding.leaves (Hiding.Refused Code.Desk 0) z))
whole_by true true x z = refl
whole_by true false x z = refl
whole_by false c x z = refl

hide_whole : (a : List ℕ) (desk spline : ℕ) (hidden : Bool) → HideWhole (hide_of a desk spline hidden)
unfolding hide_of
hide_whole a desk spline hidden = whole_by (ltb desk 2) (ltb spline (length a)) (set a spline (with_bit desk hidden (get_or a spline 0))) a

pub hide_export_tells_the_call : HideExportTellsTheCall
hide_export_tells_the_call a desk spline hidden x (hides κs bits _ _ _ answer r bits' desk' spline' hidden' answer' p) =
    let o = hide_of a desk spline hidden in
    let same : hiding.leaves o.answer bits'.now ≡ o = rw (ap (λ (u : HideExport). u.bits) p) (hide_whole a desk spline hidden) in
    record {
      outcome = hiding.leaves o.answer bits'.now;
      called = calls.hides κs.1 bits desk spline hidden o.answer bits' desk' spline' hidden' same;
      is = p ∙ ap hide_export (sym same);
    }

hide_equation : (a : List ℕ) (desk spline : ℕ) (hidden : Bool) (x : HideExport) → HideExportCall a desk spline hidden x → x ≡ hide_export (hide_of a desk spline hidden)
hide_equation a desk spline hidden x (hides κs _ _ _ _ _ _ _ _ _ _ _ p) = p

pub hide_one_outcome_exported : HideOneOutcomeExported
hide_one_outcome_exported a desk spline hidden x z c e = hide_equation a desk spline hidden x c ∙ sym (hide_equation a desk spline hidden z e)

-- Assumes nothing.
