-- A table of codes speaks of numbers, the code tests: each test decides between two statements.
use mathlib.Core.Path.{◌≡◌, refl, sym}
use mathlib.Core.Bool.{Bool, true, false, ◌||◌, cond, true≢false}
use mathlib.Core.Logic.{◌⊎◌, inl, inr}
use Prim.Native.Nat.{ℕ, ◌≤◌, ◌<◌}
use lib.Dec.{leb, ltb}
use borrow.Author.Tests.{leb-true, leb-false, le-leb, lt-leb, ltb-true, ltb-false, lt-ltb, le-ltb}

-- the test b passes exactly where yes, and fails exactly where no
pub record Decides (b : Bool) (yes no : Type 0) : Type 0 where
  pub passed : b ≡ true → yes
  pub passes : yes → b ≡ true
  pub failed : b ≡ false → no
  pub fails : no → b ≡ false

pub at_most : (m n : ℕ) → Decides (leb m n) (m ≤ n) (n < m)
at_most m n = record { passed = leb-true m n; passes = le-leb m n; failed = leb-false m n; fails = lt-leb m n }

pub less_than : (m n : ℕ) → Decides (ltb m n) (m < n) (n ≤ m)
less_than m n = record { passed = ltb-true m n; passes = lt-ltb m n; failed = ltb-false m n; fails = le-ltb m n }

pub both : (s t : Bool) → cond s t false ≡ true → (s ≡ true) × (t ≡ true)
both true t h = (refl, h)
both false t h = absurd (true≢false (sym h))

module _ {a b : Bool} {A B A' B' : Type 0} (p : Decides a A A') (q : Decides b B B') where
  -- of two tests both pass, or one fails
  pub both_decide : Decides (cond a b false) (A × B) (A' ⊎ B')
  both_decide = record {
    passed = λ h. let k = both a b h in (p.passed k.0, q.passed k.1);
    passes = λ y. rw (p.passes y.0, q.passes y.1);
    failed = λ h. one a refl h;
    fails = λ n. other n;
  }
    where
      one : (t : Bool) → a ≡ t → cond t b false ≡ false → A' ⊎ B'
      one true e h = inr (q.failed h)
      one false e h = inl (p.failed e)

      last : (t : Bool) → b ≡ false → cond t b false ≡ false
      last true e = e
      last false e = refl

      other : A' ⊎ B' → cond a b false ≡ false
      other (inl n) = rw (p.fails n)
      other (inr n) = last a (q.fails n)

  -- of two tests one passes, or both fail
  pub either_decides : Decides (a || b) (A ⊎ B) (A' × B')
  either_decides = record {
    passed = λ h. one a refl h;
    passes = λ y. other y;
    failed = λ h. none a refl h;
    fails = λ n. rw (p.fails n.0, q.fails n.1);
  }
    where
      one : (t : Bool) → a ≡ t → (t || b) ≡ true → A ⊎ B
      one true e h = inl (p.passed e)
      one false e h = inr (q.passed h)

      last : (t : Bool) → b ≡ true → (t || b) ≡ true
      last true e = refl
      last false e = e

      other : A ⊎ B → (a || b) ≡ true
      other (inl y) = rw (p.passes y)
      other (inr y) = last a (q.passes y)

      none : (t : Bool) → a ≡ t → (t || b) ≡ false → A' × B'
      none true e h = absurd (true≢false h)
      none false e h = (p.failed e, q.failed h)
