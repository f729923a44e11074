-- A buffer that is blank behind what it keeps.
use mathlib.Core.Path.{◌≡◌}
use mathlib.Core.List.{List, ◌++◌, append-nil}
use Prim.Native.Nat.{ℕ, ◌-◌, ◌≤◌}
use native.Mathlib.Omega.{arith}
use lib.ListN.{length, take, drop, replicate, length-drop, drop_of_length-le}
use lib.Seq.{length-take-le}

module _ {A : Type 0} where
  -- the cells from k on were lent, and came back blank
  pub blank_behind : (k : ℕ) (z : A) (o : List A) {e : List A} → e ≡ replicate (length (take (length o - k) (drop k o))) z
      → take k o ++ (e ++ drop (length o - k) (drop k o)) ≡ take k o ++ replicate (length o - k) z
  blank_behind k z o h =
      let d : length (drop k o) ≡ length o - k = length-drop k o in
      let l : length (drop k o) ≤ length o - k = omega arith in
      let n : length (take (length o - k) (drop k o)) ≡ length o - k = length-take-le (length o - k) (drop k o) (omega arith) in
      rw (h, n, drop_of_length-le (drop k o) l, append-nil)

-- Assumes nothing.
