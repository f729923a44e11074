-- Each test of the profile against its rule: it passes exactly where the rule holds.
use mathlib.Core.Path.{◌≡◌, refl, sym, ap, subst, ◌∙◌}
use mathlib.Core.Bool.{Bool, true, false, true≢false}
use mathlib.Core.List.{List}
use Prim.Native.Nat.{ℕ, zero, suc, ◌+◌, ◌-◌, ◌*◌, ◌≤◌, ◌<◌}
use native.Mathlib.Omega.{arith}
use lib.Dec.{T, leb}
use lib.IntN.{ℤ, pos, negsuc}
use lib.Signed.{le_z, ◌≤ℤ◌, le_z_yes}
use lib.ListN.{length, get_or}
use borrow.Author.Tests.{leb-true, le-leb}
use Rattle.codes.proofs.Decides.{both}
use Rattle.dequantize.specs.Judge.{Description}
use Rattle.editions.specs.declared.Limits.{Limits}
use Rattle.profile.specs.Profile.{counted, within, zero_from}
use Rattle.profile_laws.specs.Rules.{FromTo, FromToℤ, Rule1, Rule2, Rule3, Rule4, Rule5, Rule6}

-- the test passes exactly where the statement holds
pub record Settles (b : Bool) (R : Type 0) : Type 0 where
  pub passed : b ≡ true → R
  pub passes : R → b ≡ true

module _ {b : Bool} {R : Type 0} (s : Settles b R) where
  pub failed : b ≡ false → R → ⊥
  failed e y = true≢false (sym (s.passes y) ∙ e)

  pub fails : (R → ⊥) → b ≡ false
  fails n = go b refl
    where
      go : (t : Bool) → b ≡ t → t ≡ false
      go true e = absurd (n (s.passed e))
      go false e = refl

-- ---- tests of numbers

pub counted_settles : (most n : ℕ) → Settles (counted most n) (FromTo 1 most n)
counted_settles most n = record {
  passed = λ h. let k = both (leb 1 n) (leb n most) h in (leb-true 1 n k.0, leb-true n most k.1);
  passes = λ y. rw (le-leb 1 n y.0, le-leb n most y.1);
}

yes : (b : Bool) → T b → b ≡ true
yes true t = refl
yes false t = absurd t

at_most : (y z : ℤ) → le_z y z ≡ true → y ≤ℤ z
at_most y z e = le_z_yes (subst T (sym e) tt)

pub within_settles : (least greatest z : ℤ) → Settles (within least greatest z) (FromToℤ least greatest z)
within_settles least greatest z = record {
  passed = λ h. let k = both (le_z least z) (le_z z greatest) h in (at_most least z k.0, at_most z greatest k.1);
  passes = λ y. rw (yes (le_z least z) y.0.le, yes (le_z z greatest) y.1.le);
}

-- ---- zeros

is_zero : (z : ℤ) → within (pos 0) (pos 0) z ≡ true → z ≡ pos 0
is_zero (pos n) h =
    let k : n ≤ 0 = leb-true n 0 (both (le_z (pos 0) (pos n)) (le_z (pos n) (pos 0)) h).1 in
    let e : n ≡ 0 = omega arith in
    ap (λ (m : ℕ). pos m) e
is_zero (negsuc n) h = absurd (true≢false (sym h))

all_zero : (cs : List ℤ) (from n : ℕ) → zero_from cs from n ≡ true → (i : ℕ) → i < n → get_or cs (from + i) (pos 0) ≡ pos 0
unfolding zero_from
all_zero cs from zero h i l = absurd (omega arith)
all_zero cs from (suc n) h zero l =
    let q : from + 0 ≡ from = omega arith in
    rw q (is_zero (get_or cs from (pos 0)) (both (within (pos 0) (pos 0) (get_or cs from (pos 0))) (zero_from cs (suc from) n) h).0)
all_zero cs from (suc n) h (suc i) l =
    let q : from + suc i ≡ suc from + i = omega arith in
    rw q (all_zero cs (suc from) n (both (within (pos 0) (pos 0) (get_or cs from (pos 0))) (zero_from cs (suc from) n) h).1 i (omega arith))

zero_all : (cs : List ℤ) (from n : ℕ) → ((i : ℕ) → i < n → get_or cs (from + i) (pos 0) ≡ pos 0) → zero_from cs from n ≡ true
unfolding zero_from
zero_all cs from zero f = refl
zero_all cs from (suc n) f =
    let q : from + 0 ≡ from = omega arith in
    let z : get_or cs from (pos 0) ≡ pos 0 = rw q at (f 0 (omega arith)) in
    rw z (zero_all cs (suc from) n (λ i l. let p : suc from + i ≡ from + suc i = omega arith in rw p (f (suc i) (omega arith))))

-- ---- the rules

module _ (l : Limits) (d : Description) (a : ℤ) where
  abbrev at : ℕ → ℤ
  at i = get_or d.coefficients i (pos 0)

  pub rule1 : Settles (counted 4096 (length d.counts)) (Rule1 l d a)
  rule1 = counted_settles 4096 (length d.counts)

  pub rule2 : (k : ℕ) → Settles (counted l.deltas (get_or d.counts k 0)) (Rule2 l d a k)
  rule2 k = counted_settles l.deltas (get_or d.counts k 0)

  pub rule3 : Settles (within l.least l.greatest a) (Rule3 l d a)
  rule3 = within_settles l.least l.greatest a

  pub rule4 : (k : ℕ) → Settles (zero_from d.coefficients (128 * k + 97) 31) (Rule4 l d a k)
  rule4 k = record {
    passed = λ h i p q.
        let e : 128 * k + 96 + i ≡ 128 * k + 97 + (i - 1) = omega arith in
        ap at e ∙ all_zero d.coefficients (128 * k + 97) 31 h (i - 1) (omega arith);
    passes = λ f. zero_all d.coefficients (128 * k + 97) 31 (λ j q.
        let e : 128 * k + 97 + j ≡ 128 * k + 96 + suc j = omega arith in
        ap at e ∙ f (suc j) (omega arith) (omega arith));
  }

  pub rule5 : (k : ℕ) → Settles (within (pos 1) l.sigma (get_or d.coefficients (128 * k + 96) (pos 0))) (Rule5 l d a k)
  rule5 k =
      let e : 128 * k + 96 + 0 ≡ 128 * k + 96 = omega arith in
      rw e (within_settles (pos 1) l.sigma (at (128 * k + 96)))

  -- both tests of rule 6
  pub colours_hold : (k : ℕ) → zero_from d.coefficients (128 * k) 32 ≡ true → zero_from d.coefficients (128 * k + 64) 32 ≡ true → Rule6 l d a k
  colours_hold k x b i q = (all_zero d.coefficients (128 * k) 32 x i q, all_zero d.coefficients (128 * k + 64) 32 b i q)

  pub x_zero : (k : ℕ) → Rule6 l d a k → zero_from d.coefficients (128 * k) 32 ≡ true
  x_zero k f = zero_all d.coefficients (128 * k) 32 (λ i q. (f i q).0)

  pub b_zero : (k : ℕ) → Rule6 l d a k → zero_from d.coefficients (128 * k + 64) 32 ≡ true
  b_zero k f = zero_all d.coefficients (128 * k + 64) 32 (λ i q. (f i q).1)

-- Assumes nothing.
