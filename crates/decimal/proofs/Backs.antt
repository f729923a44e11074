-- Laws of storing digits, the last of them first: what is stored stands behind what is left; and numbers with a sign.
use mathlib.Core.Path.{◌≡◌, refl, sym, ap, ◌∙◌}
use mathlib.Core.List.{List, [], ◌∷◌, ◌++◌, append_assoc}
use Prim.Native.Nat.{ℕ, suc, ◌+◌, ◌-◌, ◌/◌, ◌%◌, ◌≤◌, ◌<◌}
use native.Mathlib.Numerals.{add-one}
use native.Mathlib.Omega.{arith}
use lib.IntN.{ℤ, pos, negsuc}
use lib.ListN.{length, set, length-set}
use lib.Seq.{sets, set_comm}
use Rattle.control_points.specs.ControlPoints.{in_range}
use Rattle.control_points.proofs.Pairs.{in_range_mag}
use mathlib.Core.Bool.{true}
use Rattle.polyline.specs.Write.{digits_of, number_text}
use Rattle.polyline.proofs.Digits.{digits_small, digits_large, length_small, length_large, length_some, length_most}

set_sets : (vs l : List ℕ) (i j b : ℕ) → j < i → set (sets l i vs) j b ≡ sets (set l j b) i vs
set_sets [] l i j b h = refl
set_sets (v ∷ vs) l i j b h =
    set_sets vs (set l i v) (suc i) j b (omega arith) ∙ ap (λ (k : List ℕ). sets k (suc i) vs) (set_comm l i j v b (λ e. omega arith))

-- the digits from byte i on are stored, and those of `left` are not
pub record Back (text₀ : List ℕ) (end n : ℕ) (text : List ℕ) (left i : ℕ) : Type 0 where
  pub done : List ℕ
  pub is : digits_of n ≡ digits_of left ++ done
  pub at : i ≡ end - length (digits_of n) + length (digits_of left)
  pub kept : length text ≡ length text₀
  pub so : text ≡ sets text₀ i done

append_none : (l : List ℕ) → l ++ [] ≡ l
append_none [] = refl
append_none (x ∷ l) = ap (λ (k : List ℕ). x ∷ k) (append_none l)

pub back_begin : (text : List ℕ) (end n : ℕ) → length (digits_of n) ≤ end → Back text end n text n end
back_begin text end n h = record { done = []; is = sym (append_none (digits_of n)); at = omega arith; kept = refl; so = refl }

pub back_some : {text₀ : List ℕ} {end n : ℕ} {text : List ℕ} {left i : ℕ} → Back text₀ end n text left i → 1 ≤ i
back_some {left = left} b = omega (arith, b.at, length_some left)

pub back_more : {text₀ : List ℕ} {end n : ℕ} {text : List ℕ} {left i : ℕ} → Back text₀ end n text left i → 10 ≤ left → (c : ℕ) (text' : List ℕ) → c ≡ 48 + left % 10
    → text' ≡ set text (i - 1) c → Back text₀ end n text' (left / 10) (i - 1)
back_more {text₀} {end} {n} {text} {left} {i} b h c text' e s =
    let one : 1 ≤ i = back_some b in
    let k : suc (i - 1) ≡ i = omega arith in
    record {
      done = c ∷ b.done;
      is = b.is ∙ rw (digits_large left h, ← e) (append_assoc (digits_of (left / 10)) (c ∷ []) b.done);
      at = omega (arith, b.at, length_large left h);
      kept = ap length s ∙ length-set text (i - 1) c ∙ b.kept;
      so = s ∙ ap (λ (l : List ℕ). set l (i - 1) c) b.so ∙ set_sets b.done text₀ i (i - 1) c (omega arith) ∙ ap (λ (j : ℕ). sets (set text₀ (i - 1) c) j b.done) (sym k);
    }

pub back_end : {text₀ : List ℕ} {end n : ℕ} {text : List ℕ} {left i : ℕ} → Back text₀ end n text left i → left < 10 → (c : ℕ) (text' : List ℕ) → c ≡ 48 + left
    → text' ≡ set text (i - 1) c → text' ≡ sets text₀ (end - length (digits_of n)) (digits_of n)
back_end {text₀} {end} {n} {text} {left} {i} b h c text' e s =
    let one : 1 ≤ i = back_some b in
    let k : suc (i - 1) ≡ i = omega arith in
    let j : end - length (digits_of n) ≡ i - 1 = omega (arith, b.at, length_small left h) in
    let d : digits_of n ≡ c ∷ b.done = b.is ∙ rw (digits_small left h, e) in
    s ∙ ap (λ (l : List ℕ). set l (i - 1) c) b.so ∙ set_sets b.done text₀ i (i - 1) c (omega arith) ∙ ap (λ (j : ℕ). sets (set text₀ (i - 1) c) j b.done) (sym k)
    ∙ sym (ap (λ (p : ℕ). sets text₀ p (digits_of n)) j ∙ ap (λ (l : List ℕ). sets text₀ (i - 1) l) d)

-- ---- numbers with a sign

module _ (v : ℤ) (r : in_range v ≡ true) where
  pub minus_text : (k : ℕ) → v ≡ negsuc k → (l l1 l2 : List ℕ) (at e : ℕ) → l1 ≡ set l at 45 → (l2 ≡ sets l1 (at + 1) (digits_of (suc k))) × (e ≡ at + 1 + length (digits_of (suc k)))
      → (l2 ≡ sets l at (number_text v)) × (e ≡ at + length (number_text v)) × (e ≤ at + 8)
  unfolding number_text
  minus_text k is l l1 l2 at e a b =
      let small : suc k < 10000000 = omega (arith, rw is at (in_range_mag v r)) in
      rw is (b.0 ∙ rw (a, add-one at), omega (arith, b.1), omega (arith, b.1, length_most 6 (suc k) small))

  pub plain_text : (n : ℕ) → v ≡ pos n → (l l1 : List ℕ) (at e : ℕ) → (l1 ≡ sets l at (digits_of n)) × (e ≡ at + length (digits_of n))
      → (l1 ≡ sets l at (number_text v)) × (e ≡ at + length (number_text v)) × (e ≤ at + 8)
  unfolding number_text
  plain_text n is l l1 at e b =
      let small : n < 10000000 = omega (arith, rw is at (in_range_mag v r)) in
      rw is (b.0, b.1, omega (arith, b.1, length_most 6 n small))

-- Assumes nothing.
