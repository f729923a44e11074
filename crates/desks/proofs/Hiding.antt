-- Laws of `hide`: one bit is as asked and every other stays, a desk's bits depend on its own, and each code is given exactly when its table says.
use mathlib.Core.Path.{◌≡◌, refl, sym, ap, ◌∙◌}
use mathlib.Core.Bool.{Bool, true, false}
use mathlib.Core.Logic.{◌⊎◌, inl, inr, ⊎_elim, ◌↔◌}
use mathlib.Core.List.{List}
use Prim.Native.Nat.{ℕ, ◌<◌, ◌≤◌}
use native.Mathlib.Omega.{arith}
use lib.Dec.{eqb, ltb}
use lib.ListN.{length, get_or, set, length-set}
use lib.Seq.{get_or-set_same, get_or-set_other}
use borrow.Author.Tests.{lt-ltb, le-ltb, ltb-true, ltb-false, eqb-true, eqb-false}
use Rattle.codes.specs.declared.Code.{Code}
use Rattle.codes.specs.Refusal.{Refusal}
use Rattle.desks.specs.Desks.{bit_of}
use Rattle.desks.specs.Agree.{OwnBitsAlike}
use Rattle.desks.specs.Hide.{with_bit, HideOutcome, leaves, hide_of, HideRefusal, Hides, none, more}
use Rattle.desks.specs.Hide as codes
use Rattle.desks.specs.HideAnswer as Hiding
use Rattle.desks.proofs.Bits.{bit_set, bit_kept}

either : (b : Bool) → (b ≡ true) ⊎ (b ≡ false)
either true = inl refl
either false = inr refl

-- ---- the ways out

module _ (bits : List ℕ) (desk spline : ℕ) (hidden : Bool) where
  pub hide_refused : {c : Code} {p : ℕ} → HideRefusal bits desk spline c p → hide_of bits desk spline hidden ≡ leaves (Hiding.Refused c p) bits
  unfolding hide_of
  hide_refused (codes.desk h) = rw (le-ltb desk 2 h)
  hide_refused (codes.trace h l) = rw (lt-ltb desk 2 h, le-ltb spline (length bits) l)

  pub hide_done : desk < 2 → spline < length bits → hide_of bits desk spline hidden ≡ leaves Hiding.Done (set bits spline (with_bit desk hidden (get_or bits spline 0)))
  unfolding hide_of
  hide_done h l = rw (lt-ltb desk 2 h, lt-ltb spline (length bits) l)

  pub hide_place : {c : Code} {p : ℕ} → HideRefusal bits desk spline c p → p ≡ 0
  hide_place (codes.desk h) = refl
  hide_place (codes.trace h l) = refl

  -- the three ways, told apart by the two tests
  pub data Way : Type 0 where
    no_desk : 2 ≤ desk → Way
    no_byte : desk < 2 → length bits ≤ spline → Way
    one_bit : desk < 2 → spline < length bits → Way

  pub way : Way
  way =
      ⊎_elim
      (λ d. ⊎_elim (λ l. one_bit (ltb-true desk 2 d) (ltb-true spline (length bits) l)) (λ l. no_byte (ltb-true desk 2 d) (ltb-false spline (length bits) l)) (either (ltb spline (length bits))))
      (λ d. no_desk (ltb-false desk 2 d))
      (either (ltb desk 2))

  module _ {c : Code} {p : ℕ} (e : (hide_of bits desk spline hidden).answer ≡ Hiding.Refused c p) where
    hide_which : {k : Code} {q : ℕ} → HideRefusal bits desk spline k q → HideRefusal bits desk spline c p
    hide_which {k} {q} l =
        let g : Hiding.Refused k q ≡ Hiding.Refused c p = sym (ap (λ (o : HideOutcome). o.answer) (hide_refused l)) ∙ e in
        let same : ◌≡◌ {A = Refusal} (k, q) (c, p) = cc in
        let u : k ≡ c = ap (λ (r : Refusal). r.0) same in
        let v : q ≡ p = ap (λ (r : Refusal). r.1) same in
        rw (← u, ← v) l

    hide_line : Way → HideRefusal bits desk spline c p
    hide_line (no_desk h) = hide_which (codes.desk h)
    hide_line (no_byte h l) = hide_which (codes.trace h l)
    hide_line (one_bit h l) =
        let g : Hiding.Done ≡ Hiding.Refused c p = sym (ap (λ (o : HideOutcome). o.answer) (hide_done h l)) ∙ e in
        let z : ◌≡◌ {A = ℕ} 0 1 = cc in
        absurd (omega (arith, z))

  -- a code is given exactly when its line of the table says
  pub hide_refused_exactly : (c : Code) (p : ℕ) → ((hide_of bits desk spline hidden).answer ≡ Hiding.Refused c p) ↔ HideRefusal bits desk spline c p
  hide_refused_exactly c p = (λ e. hide_line e way, λ l. ap (λ (o : HideOutcome). o.answer) (hide_refused l))

  -- ---- what it leaves

  pub hide_length : length (hide_of bits desk spline hidden).bits ≡ length bits
  hide_length = go way
    where
      go : Way → length (hide_of bits desk spline hidden).bits ≡ length bits
      go (no_desk h) = ap (λ (o : HideOutcome). length o.bits) (hide_refused (codes.desk h))
      go (no_byte h l) = ap (λ (o : HideOutcome). length o.bits) (hide_refused (codes.trace h l))
      go (one_bit h l) = ap (λ (o : HideOutcome). length o.bits) (hide_done h l) ∙ length-set bits spline (with_bit desk hidden (get_or bits spline 0))

  -- the desk's bit of the spline is as asked
  pub hide_sets : desk < 2 → spline < length bits → bit_of desk (get_or (hide_of bits desk spline hidden).bits spline 0) ≡ hidden
  hide_sets h l =
      ap (λ (o : HideOutcome). bit_of desk (get_or o.bits spline 0)) (hide_done h l)
      ∙ ap (bit_of desk) (get_or-set_same bits spline (with_bit desk hidden (get_or bits spline 0)) 0 l)
      ∙ bit_set desk hidden (get_or bits spline 0) h

  -- every other bit of every byte stays, and all of them where it is refused
  pub hide_keeps : (k j : ℕ) → (k ≡ spline → j ≡ desk → ⊥) → bit_of j (get_or (hide_of bits desk spline hidden).bits k 0) ≡ bit_of j (get_or bits k 0)
  hide_keeps k j other = go way
    where
      go : Way → bit_of j (get_or (hide_of bits desk spline hidden).bits k 0) ≡ bit_of j (get_or bits k 0)
      go (no_desk h) = ap (λ (o : HideOutcome). bit_of j (get_or o.bits k 0)) (hide_refused (codes.desk h))
      go (no_byte h l) = ap (λ (o : HideOutcome). bit_of j (get_or o.bits k 0)) (hide_refused (codes.trace h l))
      go (one_bit h l) =
          ap (λ (o : HideOutcome). bit_of j (get_or o.bits k 0)) (hide_done h l)
          ∙ ⊎_elim
          (λ q.
          let e : k ≡ spline = eqb-true k spline q in
          rw e (ap (bit_of j) (get_or-set_same bits spline (with_bit desk hidden (get_or bits spline 0)) 0 l) ∙ bit_kept j desk hidden (get_or bits spline 0) h (other e)))
          (λ q. ap (bit_of j) (get_or-set_other bits spline k (with_bit desk hidden (get_or bits spline 0)) 0 (eqb-false k spline q)))
          (either (eqb k spline))

-- ---- a desk's bits after its own hide depend on its own bits alone

pub own_bits_alone : (desk n spline : ℕ) (hidden : Bool) (a b : List ℕ) → n ≤ length a → n ≤ length b → spline < n → OwnBitsAlike desk n a b → OwnBitsAlike desk n (hide_of a desk spline hidden).bits (hide_of b desk spline hidden).bits
own_bits_alone desk n spline hidden a b la lb h same = record {
  own_bits = λ k l.
      ⊎_elim
      (λ d. ⊎_elim
      (λ q. let e : k ≡ spline = eqb-true k spline q in rw e (hide_sets a desk spline hidden (ltb-true desk 2 d) (omega (arith, h, la)) ∙ sym (hide_sets b desk spline hidden (ltb-true desk 2 d) (omega (arith, h, lb)))))
      (λ q. kept k l (λ e z. eqb-false k spline q e))
      (either (eqb k spline)))
      (λ d. refused k l (ltb-false desk 2 d))
      (either (ltb desk 2));
}
  where
    kept : (k : ℕ) → k < n → (k ≡ spline → desk ≡ desk → ⊥) → bit_of desk (get_or (hide_of a desk spline hidden).bits k 0) ≡ bit_of desk (get_or (hide_of b desk spline hidden).bits k 0)
    kept k l other = hide_keeps a desk spline hidden k desk other ∙ same.own_bits k l ∙ sym (hide_keeps b desk spline hidden k desk other)

    refused : (k : ℕ) → k < n → 2 ≤ desk → bit_of desk (get_or (hide_of a desk spline hidden).bits k 0) ≡ bit_of desk (get_or (hide_of b desk spline hidden).bits k 0)
    refused k l d =
        ap (λ (o : HideOutcome). bit_of desk (get_or o.bits k 0)) (hide_refused a desk spline hidden (codes.desk d))
        ∙ same.own_bits k l
        ∙ sym (ap (λ (o : HideOutcome). bit_of desk (get_or o.bits k 0)) (hide_refused b desk spline hidden (codes.desk d)))

-- ---- a run of hides by the other desk

pub hides_length : {desk : ℕ} {a b : List ℕ} → Hides desk a b → length b ≡ length a
hides_length none = refl
hides_length {desk} (more {a = a} spline hidden e n) = hides_length n ∙ ap (λ (o : HideOutcome). length o.bits) e ∙ hide_length a desk spline hidden

pub hides_keep : {other : ℕ} {a b : List ℕ} (desk : ℕ) → (desk ≡ other → ⊥) → Hides other a b → (k : ℕ) → bit_of desk (get_or b k 0) ≡ bit_of desk (get_or a k 0)
hides_keep desk apart none k = refl
hides_keep {other} desk apart (more {a = a} spline hidden e n) k =
    hides_keep desk apart n k
    ∙ ap (λ (o : HideOutcome). bit_of desk (get_or o.bits k 0)) e
    ∙ hide_keeps a other spline hidden k desk (λ p q. apart q)

-- ---- one outcome

pub one_outcome : (bits : List ℕ) (desk spline : ℕ) (hidden : Bool) {o q : HideOutcome} → o ≡ hide_of bits desk spline hidden → q ≡ hide_of bits desk spline hidden → o ≡ q
one_outcome bits desk spline hidden p q = p ∙ sym q

-- Assumes nothing.
