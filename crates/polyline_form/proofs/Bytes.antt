-- A turn of the loop over the bytes of a text, and its end.
use mathlib.Core.Path.{◌≡◌, sym, ap}
use mathlib.Core.Bool.{Bool, true, false}
use mathlib.Core.List.{List}
use Prim.Native.Nat.{ℕ, ◌+◌, ◌<◌, ◌≤◌}
use native.Mathlib.Numerals.{add-one}
use native.Mathlib.Omega.{arith}
use lib.ListN.{length, get_or, drop, drop_of_length-le}
use lib.Seq.{drop-cons}
use Rattle.std.specs.Prelude.{Result, Err}
use Rattle.std.specs.Option.{ok_or}
use Rattle.codes.specs.declared.Code.TheVariants.{Text}
use Rattle.codes.specs.Refusal.{Refusal}
use Rattle.write_judge.specs.Verdict.{Verdict, Fine, Fault}
use Rattle.polyline.specs.declared.Stage.{Stage}
use Rattle.polyline.specs.Step.{Step, To, Stranger}
use Rattle.polyline.specs.Stages.{next_of, may_end, text_from}

module _ (text : List ℕ) (s : Stage) (i : ℕ) where
  pub turn_stray : (n : Step) (f : Refusal) (r : Verdict) → i < length text → n ≡ next_of s (get_or text i 0) → n ≡ Stranger → ◌≡◌ {A = Result Stage Refusal} (Err f) (ok_or n (Text, i)) → r ≡ Err f
      → text_from s i (drop i text) ≡ r
  unfolding text_from
  turn_stray n f r h e g stray is =
      let same : ◌≡◌ {A = Refusal} f (Text, i) = cc (rw g at stray) in
      rw (is, drop-cons text i 0 h, ← e, g) (ap (λ (k : Refusal). Err k) (sym same))

  pub turn_on : (n : Step) (t : Stage) → i < length text → n ≡ next_of s (get_or text i 0) → n ≡ To t → text_from s i (drop i text) ≡ text_from t (i + 1) (drop (i + 1) text)
  unfolding text_from
  turn_on n t h e g = rw (drop-cons text i 0 h, ← e, g, add-one i)

  pub turn_fine : (e : Bool) → length text ≤ i → e ≡ may_end s → e ≡ true → text_from s i (drop i text) ≡ Fine
  unfolding text_from
  turn_fine e h m t = rw (drop_of_length-le text h, ← m, t)

  pub turn_early : (e : Bool) → length text ≤ i → i ≤ length text → e ≡ may_end s → e ≡ false → text_from s i (drop i text) ≡ Fault Text (length text)
  unfolding text_from
  turn_early e h g m t = let is : i ≡ length text = omega arith in rw (drop_of_length-le text h, ← m, t) (ap (λ k. Fault Text k) is)

-- Assumes nothing.
