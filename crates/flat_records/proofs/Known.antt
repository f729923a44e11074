-- When a number is known, and when it is not.
use mathlib.Core.Path.{◌≡◌, refl}
use mathlib.Core.Bool.{Bool, true, false, ◌&&◌}
use mathlib.Core.List.{List}
use Prim.Native.Nat.{ℕ, ◌*◌, ◌<◌, ◌≤◌}
use lib.Dec.{ltb}
use lib.ListN.{length}
use lib.Ieee.{Float}
use borrow.Author.Tests.{lt-ltb, le-ltb, lt-leb, le-leb}
use Rattle.flat_records.specs.Records.{is_known}

and_no : (t : Bool) → t && false ≡ false
and_no true = refl
and_no false = refl

module _ (xs : List Float) (c i : ℕ) where
  pub known_here : i < c → 8 * c ≤ length xs → is_known xs c i ≡ true
  unfolding is_known
  known_here p q = rw (lt-ltb i c p, le-leb (8 * c) (length xs) q) refl

  pub not_counted : c ≤ i → is_known xs c i ≡ false
  unfolding is_known
  not_counted p = rw (le-ltb i c p) refl

  pub not_fitting : length xs < 8 * c → is_known xs c i ≡ false
  unfolding is_known
  not_fitting p = rw (lt-leb (8 * c) (length xs) p) (and_no (ltb i c))

-- Assumes nothing.
