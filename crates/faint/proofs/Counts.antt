-- Laws of the count: a segment is counted once at most, and the cells behind the segments do not matter.
use mathlib.Core.Path.{◌≡◌, refl, sym, ap, ◌∙◌}
use mathlib.Core.Bool.{Bool, true, false, cond}
use mathlib.Core.List.{List, ◌++◌}
use Prim.Native.Nat.{ℕ, zero, suc, ◌+◌, ◌*◌, ◌≤◌}
use native.Mathlib.Omega.{arith}
use native.Mathlib.Numerals.{add-one}
use lib.ListN.{length, take, drop, take-append-drop, get_or-append}
use lib.Seq.{length-take-le}
use lib.Ieee.{Float, nan, is_nan}
use Rattle.segments.specs.Segment.{field}
use Rattle.faint.specs.Faint.{faint_in}

at_most_one : (b : Bool) → cond b 1 0 ≤ 1
at_most_one true = omega arith
at_most_one false = omega arith

pub faint_most : (segs : List Float) (n : ℕ) → faint_in segs n ≤ n
unfolding faint_in
faint_most segs zero = omega arith
faint_most segs (suc n) = omega (arith, faint_most segs n, at_most_one (is_nan (field segs n 2)))

pub faint_more : (segs : List Float) (i found v : ℕ) → found ≡ faint_in segs i → v ≡ cond (is_nan (field segs i 2)) 1 0 → found + v ≡ faint_in segs (i + 1)
unfolding faint_in
faint_more segs i found v p q = ap (λ (m : ℕ). m + v) p ∙ ap (λ (m : ℕ). faint_in segs i + m) q ∙ sym (ap (faint_in segs) (add-one i))

-- in front of other cells
pub faint_front : (xs ys : List Float) (n : ℕ) → 8 * n ≤ length xs → faint_in (xs ++ ys) n ≡ faint_in xs n
unfolding faint_in
faint_front xs ys zero h = refl
faint_front xs ys (suc n) h =
    ap (λ (m : ℕ). m + cond (is_nan (field (xs ++ ys) n 2)) 1 0) (faint_front xs ys n (omega arith))
    ∙ ap (λ (x : Float). faint_in xs n + cond (is_nan x) 1 0) (get_or-append xs ys nan (8 * n + 2) (omega arith))

-- the cells of the segments alone
pub faint_take : (xs : List Float) (n : ℕ) → 8 * n ≤ length xs → faint_in xs n ≡ faint_in (take (8 * n) xs) n
faint_take xs n h =
    ap (λ (l : List Float). faint_in l n) (sym (take-append-drop (8 * n) xs))
    ∙ faint_front (take (8 * n) xs) (drop (8 * n) xs) n (omega (arith, length-take-le (8 * n) xs h))

-- Assumes nothing.
