-- Laws of one segment, hidden or drawn: what a channel comes to and what is counted.
use mathlib.Core.Path.{◌≡◌, refl, sym}
use mathlib.Core.Bool.{Bool, true, false, cond}
use mathlib.Core.List.{List, [], ◌∷◌}
use Prim.Native.Nat.{ℕ, ◌+◌}
use native.Mathlib.Omega.{arith}
use lib.ListN.{get_or}
use lib.Dec.{ltb}
use lib.Ieee.{Float, nan}
use Rattle.segments.specs.Segment.{segment_at}
use Rattle.segments.specs.Ranges.{has_column}
use Rattle.shade.specs.Edit.{edit, first_cells}
use Rattle.shade.proofs.Edits.{is_edit}
use Rattle.desks.specs.Desks.{Sight, hidden_in, shown}
use Rattle.columns.specs.Columns.{shaded_in_column, pixel, count, updates}

-- a channel with listed segments still to be drawn
abbrev pub rest : ℕ → List Float → ℕ → ℕ → ℕ → List ℕ → List Float → List Float
rest c segs y x0 n es xs = edit (first_cells n (λ k v. pixel c segs y (x0 + k) es v)) xs

same_cond : (b : Bool) (v : Float) → cond b v v ≡ v
same_cond true v = refl
same_cond false v = refl

pub nothing_drawn : (n : ℕ) (xs : List Float) → xs ≡ edit (first_cells n (λ j v. v)) xs
nothing_drawn n xs = is_edit (first_cells n (λ j v. v)) xs xs refl (λ j m. sym (same_cond (ltb j n) (get_or xs j nan)))

module _ (s : Sight) (segs : List Float) (y x0 n i : ℕ) where
  pub hidden_kept : (c : ℕ) (xs : List Float) → hidden_in s i ≡ true → xs ≡ rest c segs y x0 n (shown s (i ∷ [])) xs
  hidden_kept c xs e = rw e (nothing_drawn n xs)

  pub hidden_counts : hidden_in s i ≡ true → 0 ≡ updates segs x0 n (shown s (i ∷ []))
  hidden_counts e = rw e

  pub shown_drawn : (c : ℕ) (xs ys : List Float) → hidden_in s i ≡ false → ys ≡ edit (first_cells n (λ k v. shaded_in_column c segs y (x0 + k) v i)) xs → ys ≡ rest c segs y x0 n (shown s (i ∷ [])) xs
  shown_drawn c xs ys e q = rw e q

  pub shown_counts : {r : ℕ} → hidden_in s i ≡ false → r ≡ count (has_column (segment_at segs i)) x0 n → r ≡ updates segs x0 n (shown s (i ∷ []))
  shown_counts {r} e q = rw e (omega (arith, q))

-- Assumes nothing.
