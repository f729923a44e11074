-- Signed numbers of a slice, taken one by one.
use mathlib.Core.Path.{subst}
use mathlib.Core.List.{List, [], ◌∷◌, ◌++◌}
use Prim.Native.Nat.{ℕ, ◌+◌, ◌^◌, ◌≤◌, ◌<◌}
use native.Mathlib.Numerals.{add-one}
use lib.ListN.{length, take, get_or}
use lib.Seq.{take-suc, take_all}
use lib.IntN.{ℤ, pos}
use lib.Signed.{mag}
use Rattle.little.specs.Little.{Signeds}

behind : (zs : List ℤ) (z : ℤ) → Signeds zs → mag z < 2 ^ 31 → Signeds (zs ++ (z ∷ []))
behind [] z s h = (h, tt)
behind (y ∷ zs) z s h = (s.0, behind zs z s.1 h)

pub signed_more : (zs : List ℤ) (i : ℕ) → i < length zs → Signeds (take i zs) → mag (get_or zs i (pos 0)) < 2 ^ 31 → Signeds (take (i + 1) zs)
signed_more zs i h s m = rw (add-one, take-suc zs i (pos 0) h) (behind (take i zs) (get_or zs i (pos 0)) s m)

pub signed_all : (zs : List ℤ) (i : ℕ) → length zs ≤ i → Signeds (take i zs) → Signeds zs
signed_all zs i h s = subst Signeds (take_all i zs h) s

-- Assumes nothing.
