-- Laws of the rules: a turn of the loop over splines, which rule decides, and when a description meets them.
use mathlib.Core.Path.{◌≡◌, ap}
use mathlib.Core.Bool.{true}
use mathlib.Core.List.{List}
use Prim.Native.Nat.{ℕ, ◌+◌, ◌≤◌, ◌<◌}
use native.Mathlib.Numerals.{add-one}
use native.Mathlib.Omega.{arith}
use lib.IntN.{ℤ}
use lib.ListN.{length, get_or, drop, drop_of_length-le}
use lib.Seq.{drop-cons}
use Rattle.std.specs.Prelude.{Ok, Err}
use Rattle.std.specs.Option.{ok_or}
use Rattle.editions.specs.declared.Limits.{Limits}
use Rattle.profile_rules.specs.declared.Rule.{Rule}
use Rattle.profile_rules.specs.declared.Rule.TheVariants.{Splines, Adjustment}
use Rattle.profile_rules.specs.Checked.{Kept}
use Rattle.shape.specs.Shape.{shaped}
use Rattle.dequantize.specs.Judge.{Description}
use Rattle.editions.specs.Editions.{Edition, Known, Unknown}
use Rattle.profile.specs.declared.Unmet.{Unmet}
use Rattle.profile.specs.Answers.{Meets}
use Rattle.profile.specs.Profile.{limits_of, kept, counted, within, check_spline, check_splines, check_rules, tells, answer_of, profile_of}

module _ (l : Limits) (ns : List ℕ) (cs : List ℤ) (k : ℕ) where
  -- the spline k is next: what it says, or the rest
  pub spline_kept : k < length ns → check_spline l (get_or ns k 0) cs k ≡ Kept → check_splines l (drop k ns) cs k ≡ check_splines l (drop (k + 1) ns) cs (k + 1)
  unfolding check_splines
  spline_kept h e = rw (drop-cons ns k 0 h, e, add-one k)

  pub spline_broken : k < length ns → {broken : Rule × ℕ} → check_spline l (get_or ns k 0) cs k ≡ Err broken → check_splines l (drop k ns) cs k ≡ Err broken
  unfolding check_splines
  spline_broken h e = rw (drop-cons ns k 0 h, e)

  pub splines_end : length ns ≤ k → check_splines l (drop k ns) cs k ≡ Kept
  unfolding check_splines
  splines_end h = rw (drop_of_length-le ns h)

-- ---- the rules in their order

module _ (l : Limits) (ns : List ℕ) (cs : List ℤ) (adjustment : ℤ) where
  -- where the first two are kept, the splines decide
  pub splines_decide : kept (counted 4096 (length ns)) Splines 0 ≡ Kept → kept (within l.least l.greatest adjustment) Adjustment 0 ≡ Kept → check_splines l ns cs 0 ≡ check_rules l ns cs adjustment
  unfolding check_rules
  splines_decide many adjusted = rw (many, adjusted)

-- an edition with limits is known
pub known_at : (e : Edition) (u : Unmet) (l : Limits) → ok_or e u ≡ Ok l → e ≡ Known l
known_at (Known m) u l h = let e : m ≡ l = cc in ap Known e
known_at Unknown u l h = absurd (let z : ◌≡◌ {A = ℕ} 0 1 = cc in omega arith)

-- a description meets the profile where every rule is kept
pub meets : (d : Description) (adjustment : ℤ) (edition : ℕ) (l : Limits) → shaped d.counts d.starts d.deltas d.coefficients ≡ true → limits_of edition ≡ Known l → check_rules l d.counts d.coefficients adjustment ≡ Kept
    → tells Meets ≡ profile_of d adjustment edition
unfolding profile_of answer_of
meets d adjustment edition l s known keeps = rw (s, known, keeps)

-- Assumes nothing.
