-- A list written on a buffer's front: stores after it make it longer. Each law is one append, or one drop of a drop.
use mathlib.Core.Path.{◌≡◌, refl, sym, ap, ◌∙◌}
use mathlib.Core.List.{List, [], ◌∷◌, ◌++◌, append_assoc}
use Prim.Native.Nat.{ℕ, suc, ◌+◌, ◌-◌, ◌≤◌}
use native.Mathlib.Omega.{arith}
use lib.ListN.{length, take, drop, set, length-append, length-drop}
use borrow.Rule.Slice.PartMut.{put_mid}
use lib.Seq.{sets, sets-eq, take_at, drop-drop, drop-append-add}
use Rattle.buffers.specs.Onto.{onto}

module _ {A : Type 0} where
  pub onto_none : (o : List A) → onto [] o ≡ o
  unfolding onto
  onto_none o = refl

  pub length_onto : (xs o : List A) → length xs ≤ length o → length (onto xs o) ≡ length o
  unfolding onto
  length_onto xs o h = simp (length-append, length-drop) (omega arith)

  -- the next vs are stored
  pub sets_onto : (xs vs o : List A) (n : ℕ) → length xs ≡ n → n + length vs ≤ length o → sets (onto xs o) n vs ≡ onto (xs ++ vs) o
  unfolding onto
  sets_onto xs vs o n e h =
      let l : length (xs ++ drop (length xs) o) ≡ length o = simp (length-append, length-drop) (omega arith) in
      let k : n + length vs ≤ length (xs ++ drop (length xs) o) = omega arith in
      let d : drop (n + length vs) (xs ++ drop (length xs) o) ≡ drop (length (xs ++ vs)) o =
      rw (← e, drop-append-add, drop-drop, length-append) in
      sets-eq vs (xs ++ drop (length xs) o) n k ∙ rw (take_at, d, append_assoc)

  -- stores from the first cell on
  pub sets_front : (xs o : List A) → length xs ≤ length o → sets o 0 xs ≡ onto xs o
  sets_front xs o h = ap (λ (t : List A). sets t 0 xs) (sym (onto_none o)) ∙ sets_onto [] xs o 0 refl (omega arith)

  -- the front is what was written
  pub take_onto : (xs o : List A) (n : ℕ) → length xs ≡ n → take n (onto xs o) ≡ xs
  unfolding onto
  take_onto xs o n e = take_at xs (drop (length xs) o) n e

  -- a run of stores after a run of stores
  pub sets_more : (xs ys l : List A) (i j : ℕ) → i + length xs ≡ j → sets (sets l i xs) j ys ≡ sets l i (xs ++ ys)
  sets_more [] ys l i j e = ap (λ (k : ℕ). sets l k ys) (omega arith)
  sets_more (a ∷ xs) ys l i j e = sets_more xs ys (set l i a) (suc i) j (omega arith)

  -- a part that was lent comes back as a run of stores
  pub put_mid-sets : (vs o : List A) (a k : ℕ) {vs' : List A} → vs' ≡ vs → k ≡ a + length vs → k ≤ length o → put_mid a (k - a) o vs' ≡ sets o a vs
  put_mid-sets vs o a k e n h =
      let w : k - a ≡ length vs = omega arith in
      rw (e, w, drop-drop, sets-eq vs o a (omega arith), append_assoc)

  -- what is written over a front that was written before
  pub onto_over : (xs ys o : List A) → onto (xs ++ ys) (onto xs o) ≡ onto (xs ++ ys) o
  unfolding onto
  onto_over xs ys o = rw (length-append, drop-append-add, drop-drop)

-- Assumes nothing.
