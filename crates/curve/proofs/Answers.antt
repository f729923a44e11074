-- What an answer of `curve` tells its caller, by cases on whether the path had room.
use mathlib.Core.Path.{◌≡◌, refl, sym, ap, ◌∙◌}
use mathlib.Core.Bool.{Bool, true, false, cond}
use mathlib.Core.List.{List}
use Prim.Native.Nat.{ℕ, ◌*◌, ◌≤◌, ◌<◌}
use native.Mathlib.Omega.{arith}
use borrow.Author.Tests.{leb-true, leb-false}
use lib.Dec.{leb}
use lib.ListN.{length, take}
use lib.Ieee.{Float}
use Rattle.buffers.specs.Onto.{onto}
use Rattle.buffers.proofs.Fronts.{take_onto}
use Rattle.curve.specs.declared.Point.{Point}
use Rattle.curve.specs.Curved.{Points, Room}
use Rattle.curve.specs.Curve.{flat, curved_of, curved_on}
use Rattle.curve.proofs.Paths.{length_flat}

-- a path of n points had room and stands on the front of the buffer e
pub record OnFront (room : ℕ) (path : List Point) (e : List Float) (n : ℕ) : Type 0 where
  pub count : n ≡ length path
  pub fits : n ≤ room
  pub front : take (2 * n) e ≡ flat path

pub curved-got : (room : ℕ) (path : List Point) (o e : List Float) (n : ℕ) → Points n ≡ curved_of room path → e ≡ curved_on room path o → OnFront room path e n
unfolding curved_of curved_on
curved-got room path o e n a b = go (leb (length path) room) refl a b
  where
    go : (t : Bool) → leb (length path) room ≡ t → Points n ≡ cond t (Points (length path)) Room → e ≡ cond t (onto (flat path) o) o → OnFront room path e n
    go false h a b = absurd (cc)
    go true h a b =
        let k : n ≡ length path = cc in
        let l : length (flat path) ≡ 2 * n = length_flat path ∙ ap (λ (i : ℕ). 2 * i) (sym k) in
        record { count = k; fits = omega (arith, leb-true (length path) room h); front = rw b (take_onto (flat path) o (2 * n) l) }

pub curved-none : (room : ℕ) (path : List Point) → Room ≡ curved_of room path → room < length path
unfolding curved_of
curved-none room path a = go (leb (length path) room) refl a
  where
    go : (t : Bool) → leb (length path) room ≡ t → Room ≡ cond t (Points (length path)) Room → room < length path
    go true h a = absurd (cc)
    go false h a = leb-false (length path) room h

-- Assumes nothing.
