-- Laws of SHAPE: each comparison of lengths by itself, the test against the three equations, and the running sum of the counts.
use mathlib.Core.Path.{◌≡◌, refl, sym, ◌∙◌}
use mathlib.Core.Bool.{Bool, true, false, ◌&&◌, true≢false}
use mathlib.Core.List.{List}
use Prim.Native.Nat.{ℕ, zero, suc, ◌+◌, ◌-◌, ◌*◌, ◌/◌, ◌%◌, ◌≤◌, ◌<◌}
use native.Mathlib.Numerals.{add-one}
use native.Mathlib.Omega.{arith}
use lib.Dec.{eqb}
use lib.ListN.{length, get_or, drop, drop_of_length-le}
use lib.Seq.{drop-cons}
use lib.IntN.{ℤ}
use lib.Ieee.{Float}
use borrow.Author.Tests.{eqb-true, eqb-false, eq-eqb, ne_eqb}
use Rattle.shape.specs.Shape.{points_of, Shaped, shaped}

-- the sum of what is left of the counts
pub sum_turn : (ns : List ℕ) (i : ℕ) → i < length ns → points_of (drop i ns) ≡ get_or ns i 0 + points_of (drop (i + 1) ns)
sum_turn ns i h = rw (add-one, drop-cons ns i 0)

pub sum_end : (ns : List ℕ) (i : ℕ) → length ns ≤ i → points_of (drop i ns) ≡ 0
sum_end ns i h = rw (drop_of_length-le ns h)

pub sum_left : (ns : List ℕ) (points left : ℕ) → left ≤ points → 0 + (points - left) ≡ points_of ns → eqb left 0 ≡ eqb (points_of ns) points
sum_left ns points zero h e = sym (eq-eqb (points_of ns) points (omega arith))
sum_left ns points (suc left) h e = ne_eqb (suc left) 0 (λ s. omega arith) ∙ sym (ne_eqb (points_of ns) points (λ s. omega arith))

-- both of two tests
both : (a b : Bool) → a && b ≡ true → (a ≡ true) × (b ≡ true)
both true true e = (refl, refl)
both true false e = absurd (let z : ◌≡◌ {A = ℕ} 0 1 = cc in omega arith)
both false b e = absurd (let z : ◌≡◌ {A = ℕ} 0 1 = cc in omega arith)

-- the value of `s && t`, where a test takes one of two ways
pub and_then : {v t s : Bool} → s ≡ true → v ≡ t → v ≡ s && t
and_then {v} {t} {s} p q = rw (p, q)

pub and_else : {v s : Bool} (t : Bool) → s ≡ false → v ≡ s → v ≡ s && t
and_else {v} {s} t p q = rw (q, p)

module _ (ns : List ℕ) (ss : List Float) (ds cs : List ℤ) where
  -- the test is the three equations, both ways
  pub is_shaped : Shaped ns ss ds cs → shaped ns ss ds cs ≡ true
  unfolding shaped
  is_shaped s = rw (eq-eqb (length ss) (2 * length ns) s.starts, eq-eqb (length ds) (2 * points_of ns) s.deltas, eq-eqb (length cs) (128 * length ns) s.coefficients)

  pub shaped_is : shaped ns ss ds cs ≡ true → Shaped ns ss ds cs
  unfolding shaped
  shaped_is e =
      let a = both (eqb (length ss) (2 * length ns)) (eqb (length ds) (2 * points_of ns) && eqb (length cs) (128 * length ns)) e in
      let b = both (eqb (length ds) (2 * points_of ns)) (eqb (length cs) (128 * length ns)) a.1 in
      record {
        starts = eqb-true (length ss) (2 * length ns) a.0;
        deltas = eqb-true (length ds) (2 * points_of ns) b.0;
        coefficients = eqb-true (length cs) (128 * length ns) b.1;
      }

  pub not_shaped : (Shaped ns ss ds cs → ⊥) → shaped ns ss ds cs ≡ false
  not_shaped n = go (shaped ns ss ds cs) refl
    where
      go : (t : Bool) → shaped ns ss ds cs ≡ t → t ≡ false
      go true p = absurd (n (shaped_is p))
      go false p = refl

  -- the tests of lengths, of which each stands on those before it
  module _ (a b d : Bool) (first : a ≡ eqb (length ss) (2 * length ns) && eqb (length ds % 2) 0) (second : b ≡ a && eqb (length cs % 128) 0) (third : d ≡ b && eqb (length cs / 128) (length ns)) where
    -- where they pass, the sum decides
    pub by_sum : d ≡ true → eqb (points_of ns) (length ds / 2) ≡ shaped ns ss ds cs
    by_sum e = go (eqb (points_of ns) (length ds / 2)) refl
      where
        tests : ((length ss ≡ 2 * length ns) × (length ds % 2 ≡ 0)) × ((length cs % 128 ≡ 0) × (length cs / 128 ≡ length ns))
        tests =
            let h = both b (eqb (length cs / 128) (length ns)) (sym third ∙ e) in
            let g = both a (eqb (length cs % 128) 0) (sym second ∙ h.0) in
            let f = both (eqb (length ss) (2 * length ns)) (eqb (length ds % 2) 0) (sym first ∙ g.0) in
            ((eqb-true _ _ f.0, eqb-true _ _ f.1), (eqb-true _ _ g.1, eqb-true _ _ h.1))

        go : (t : Bool) → eqb (points_of ns) (length ds / 2) ≡ t → t ≡ shaped ns ss ds cs
        go true q = sym (is_shaped (let n = eqb-true (points_of ns) (length ds / 2) q in record { starts = tests.0.0; deltas = omega (arith, tests.0.1); coefficients = omega (arith, tests.1) }))
        go false q = sym (not_shaped (λ s. eqb-false (points_of ns) (length ds / 2) q (omega (arith, s.deltas, tests.0.1))))

    -- where one fails, so does SHAPE
    pub by_tests : d ≡ false → d ≡ shaped ns ss ds cs
    by_tests e = e ∙ sym (not_shaped (λ s. true≢false (sym (passes s) ∙ e)))
      where
        passes : Shaped ns ss ds cs → d ≡ true
        passes s =
            let p = eq-eqb (length ss) (2 * length ns) s.starts in
            let q = eq-eqb (length ds % 2) 0 (omega (arith, s.deltas)) in
            let r = eq-eqb (length cs % 128) 0 (omega (arith, s.coefficients)) in
            let t = eq-eqb (length cs / 128) (length ns) (omega (arith, s.coefficients)) in
            rw (third, second, first, p, q, r, t)
