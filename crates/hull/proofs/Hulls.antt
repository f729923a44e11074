-- Laws of hulls: the least range of a set of columns is one, a join is the least range of two sets, and so a range gathered from segment to segment is the hull of their columns.
use mathlib.Core.Path.{◌≡◌, refl, sym, ap, subst, ◌∙◌}
use mathlib.Core.Bool.{Bool, true, false, cond, ◌&&◌, ◌||◌}
use mathlib.Core.Logic.{◌⊎◌, inl, inr, ⊎_elim}
use mathlib.Core.List.{List, [], ◌∷◌, foldl}
use Prim.Native.Nat.{ℕ, zero, suc, ◌^◌, ◌<◌, ◌≤◌, min}
use native.Mathlib.Omega.{arith}
use lib.Dec.{leb, ltb}
use lib.ListN.{length, get_or}
use lib.Ieee.{Float}
use borrow.Author.Tests.{lt-ltb, le-ltb, le-leb, ltb-true, leb-true}
use Rattle.segments.specs.Segment.{segment_at}
use Rattle.segments.specs.Ranges.{has_column, column_first, column_past}
use Rattle.segments.specs.declared.Segment.{Segment}
use Rattle.segments.specs.declared.Range.{Range}
use Rattle.segments.proofs.Ranges.{has_column_lem}
use Rattle.shade.proofs.Edits.{lt_or_ge}
use Rattle.checks.proofs.Entries.{and_left, and_right}
use Rattle.joins.specs.Joins.{joined, columns_below}
use Rattle.joins.proofs.Joins.{same_range}
use Rattle.hull.specs.Reach.{none, hull, touched, reach_over}

-- ---- the least range of a set of columns

-- a range that holds every column of the set, begins and ends with one of them, and is 0, 0 where it has none
pub record Least (In : ℕ → Type 0) (r : Range) : Type 0 where
  pub holds : (x : ℕ) → In x → (r.first ≤ x) × (x < r.past)
  pub begins : r.first < r.past → In r.first
  pub ends : (x : ℕ) → r.first < r.past → suc x ≡ r.past → In x
  pub empty : r.past ≤ r.first → r ≡ none

pub one_less : (a b : ℕ) → a < b → (x : ℕ) × (suc x ≡ b)
one_less a zero h = absurd (omega arith)
one_less a (suc b) h = (b, refl)

module _ {In : ℕ → Type 0} {r s : Range} (a : Least In r) (b : Least In s) where
  -- the one lies in the other
  inside : r.first < r.past → (s.first ≤ r.first) × (r.past ≤ s.past)
  inside h =
      let e = one_less r.first r.past h in
      ((b.holds r.first (a.begins h)).0, omega (arith, e.1, (b.holds e.0 (a.ends e.0 h e.1)).1))

-- there is one at most
pub one_least : {In : ℕ → Type 0} {r s : Range} → Least In r → Least In s → r ≡ s
one_least {In} {r} {s} a b =
    ⊎_elim
    (λ h.
    let p = inside a b h in
    let k : s.first < s.past = omega (arith, p.0, p.1, h) in
    let q = inside b a k in
    same_range r s (omega (arith, p.0, q.0)) (omega (arith, p.1, q.1)))
    (λ h. ⊎_elim (λ k. let q = inside b a k in absurd (omega (arith, q.0, q.1, h, k))) (λ k. a.empty h ∙ sym (b.empty k)) (lt_or_ge s.first s.past))
    (lt_or_ge r.first r.past)

-- the same columns by other words
pub least_by : {In On : ℕ → Type 0} {r : Range} → ((x : ℕ) → In x → On x) → ((x : ℕ) → On x → In x) → Least In r → Least On r
least_by f g a = record { holds = λ x i. a.holds x (g x i); begins = λ h. f _ (a.begins h); ends = λ x h e. f x (a.ends x h e); empty = a.empty }

pub least_none : {In : ℕ → Type 0} → ((x : ℕ) → In x → ⊥) → Least In none
least_none f = record { holds = λ x i. absurd (f x i); begins = λ h. absurd (omega arith); ends = λ x h e. absurd (omega arith); empty = λ h. refl }

-- ---- a join

-- a range as the set of its columns
abbrev pub Within : Range → ℕ → Type 0
Within r x = (r.first ≤ x) × (x < r.past)

pub least_joined : {In : ℕ → Type 0} {a : Range} → Least In a → (b : Range) → Least (λ x. In x ⊎ Within b x) (joined a b)
unfolding joined
least_joined {In} {a} l b = ⊎_elim (λ h. ⊎_elim (λ k. both h k) (λ k. second h k) (lt_or_ge a.first a.past)) (λ h. skipped h) (lt_or_ge b.first b.past)
  where
    both : b.first < b.past → a.first < a.past → Least (λ x. In x ⊎ Within b x) (joined a b)
    both h k = rw (lt-ltb _ _ h, lt-ltb _ _ k) (record {
      holds = λ x i. ⊎_elim (λ u. let w = l.holds x u in (omega (arith, w.0), omega (arith, w.1))) (λ u. (omega (arith, u.0), omega (arith, u.1))) i;
      begins = λ g.
          ⊎_elim
          (λ u. let e : a.first ≡ min a.first b.first = omega (arith, u) in inl (subst In e (l.begins k)))
          (λ u. inr (omega (arith, u), omega (arith, u, h)))
          (lt_or_ge a.first b.first);
      ends = λ x g e.
          ⊎_elim
          (λ u. inr (omega (arith, u, e, h), omega (arith, u, e)))
          (λ u. inl (l.ends x k (omega (arith, u, e))))
          (lt_or_ge a.past b.past);
      empty = λ g. absurd (omega arith);
    })

    second : b.first < b.past → a.past ≤ a.first → Least (λ x. In x ⊎ Within b x) (joined a b)
    second h k = rw (lt-ltb _ _ h, le-ltb _ _ k) (record {
      holds = λ x i. ⊎_elim (λ u. let w = l.holds x u in absurd (omega (arith, w.0, w.1))) (λ u. u) i;
      begins = λ g. inr (omega arith, h);
      ends = λ x g e. inr (omega (arith, e), omega (arith, e));
      empty = λ g. absurd (omega arith);
    })

    skipped : b.past ≤ b.first → Least (λ x. In x ⊎ Within b x) (joined a b)
    skipped h = rw (le-ltb _ _ h) (least_by (λ x i. inl i) (λ x i. ⊎_elim (λ u. u) (λ u. absurd (omega (arith, u.0, u.1))) i) l)

-- ---- the hull of the columns below W that pass a test

abbrev pub Passing : (ℕ → Bool) → ℕ → ℕ → Type 0
Passing test W x = (x < W) × (test x ≡ true)

true_or_not : {b : Bool} → b ≡ true → b ≡ false → ⊥
true_or_not p q = let z : ◌≡◌ {A = ℕ} 0 1 = ap (λ (b : Bool). cond b 0 1) (sym p ∙ q) in omega (arith, z)

pub least_hull : (test : ℕ → Bool) (W : ℕ) → Least (Passing test W) (hull test W)
unfolding hull
least_hull test zero = least_none (λ x i. omega (arith, i.0))
least_hull test (suc n) = go (least_hull test n) (test n) refl
  where
    at_last : {x : ℕ} → x < suc n → n ≤ x → n ≡ x
    at_last h k = omega (arith, h, k)

    go : Least (Passing test n) (hull test n) → (b : Bool) → test n ≡ b → Least (Passing test (suc n)) (cond b (joined (hull test n) (record { first = n; past = suc n })) (hull test n))
    go before true e =
        least_by
        (λ x i. ⊎_elim (λ u. (omega (arith, u.0), u.1)) (λ u. (u.1, ap test (sym (at_last u.1 u.0)) ∙ e)) i)
        (λ x i. ⊎_elim (λ u. inl (u, i.1)) (λ u. inr (u, i.0)) (lt_or_ge x n))
        (least_joined before (record { first = n; past = suc n }))
    go before false e =
        least_by
        (λ x i. (omega (arith, i.0), i.1))
        (λ x i. ⊎_elim (λ u. (u, i.1)) (λ u. absurd (true_or_not i.1 (ap test (sym (at_last i.0 u)) ∙ e))) (lt_or_ge x n))
        before

-- ---- from segment to segment

-- what was found, joined with the columns of the listed segments
abbrev pub joined_over : List Float → ℕ → Range → List ℕ → Range
joined_over segments W r listed = foldl (λ a i. joined a (columns_below W (segment_at segments i))) r listed

either : (a b : Bool) → a || b ≡ true → (a ≡ true) ⊎ (b ≡ true)
either true b h = inl refl
either false b h = inr h

or_left : (a b : Bool) → a ≡ true → a || b ≡ true
or_left true b h = refl
or_left false b h = absurd (true_or_not h refl)

or_right : (a b : Bool) → b ≡ true → a || b ≡ true
or_right true b h = refl
or_right false b h = h

-- the columns of a segment below a width that an image may have
module _ (W : ℕ) (w : W ≤ 2 ^ 23) (s : Segment) where
  has_within : (x : ℕ) → Passing (has_column s) W x → Within (columns_below W s) x
  has_within x i =
      let l : x < 2 ^ 24 = omega (arith, i.0, w) in
      let e : leb (column_first s) x && ltb x (column_past s) ≡ true = sym (has_column_lem s x l) ∙ i.1 in
      let p = ltb-true x (column_past s) (and_right (leb (column_first s) x) (ltb x (column_past s)) e) in
      (leb-true (column_first s) x (and_left (leb (column_first s) x) (ltb x (column_past s)) e), omega (arith, i.0, p))

  within_has : (x : ℕ) → Within (columns_below W s) x → Passing (has_column s) W x
  within_has x i =
      let l : x < 2 ^ 24 = omega (arith, i.1, w) in
      (omega (arith, i.1), has_column_lem s x l ∙ rw (le-leb (column_first s) x i.0, lt-ltb x (column_past s) (omega (arith, i.1))))

module _ (segs : List Float) (W : ℕ) (w : W ≤ 2 ^ 23) where
  least_over : {In : ℕ → Type 0} {r : Range} → Least In r → (l : List ℕ) → Least (λ x. In x ⊎ Passing (touched segs l) W x) (joined_over segs W r l)
  least_over {In} a [] = least_by (λ x i. inl i) (λ x i. ⊎_elim (λ u. u) (λ u. absurd (true_or_not u.1 refl)) i) a
  least_over {In} {r} a (k ∷ l) =
      least_by
      (λ x i. ⊎_elim (λ u. ⊎_elim (λ v. inl v) (λ v. inr (now x v)) u) (λ u. inr (later x u)) i)
      (λ x i. ⊎_elim (λ u. inl (inl u)) (λ u. back x u) i)
      (least_over {In = λ x. In x ⊎ Within (columns_below W s) x} (least_joined a (columns_below W s)) l)
    where
      s : Segment
      s = segment_at segs k

      now : (x : ℕ) → Within (columns_below W s) x → Passing (touched segs (k ∷ l)) W x
      now x i = let h = within_has W w s x i in (h.0, or_left (has_column s x) (touched segs l x) h.1)

      later : (x : ℕ) → Passing (touched segs l) W x → Passing (touched segs (k ∷ l)) W x
      later x i = (i.0, or_right (has_column s x) (touched segs l x) i.1)

      back : (x : ℕ) → Passing (touched segs (k ∷ l)) W x → (In x ⊎ Within (columns_below W s) x) ⊎ Passing (touched segs l) W x
      back x i = ⊎_elim (λ u. inl (inr (has_within W w s x (i.0, u)))) (λ u. inr (i.0, u)) (either (has_column s x) (touched segs l x) i.1)

  -- the ranges of the listed segments, joined, are the hull of the columns that they touch
  pub joined_over_lem : (l : List ℕ) → joined_over segs W none l ≡ reach_over segs W l
  joined_over_lem l =
      one_least
      (least_by (λ x i. ⊎_elim (λ u. absurd u) (λ u. u) i) (λ x i. inr i) (least_over (least_none {In = λ x. ⊥} (λ x i. i)) l))
      (least_hull (touched segs l) W)

-- ---- which columns are touched

-- column x is touched exactly when a listed segment has it
pub record Touches (segs : List Float) (l : List ℕ) (x : ℕ) : Type 0 where
  pub entry : ℕ
  pub in_list : entry < length l
  pub has : has_column (segment_at segs (get_or l entry 0)) x ≡ true

pub touched_by : (segs : List Float) (l : List ℕ) (x : ℕ) → touched segs l x ≡ true → Touches segs l x
touched_by segs [] x h = absurd (true_or_not h refl)
touched_by segs (k ∷ l) x h =
    ⊎_elim
    (λ u. record { entry = 0; in_list = omega arith; has = u })
    (λ u. let t = touched_by segs l x u in record { entry = suc t.entry; in_list = omega (arith, t.in_list); has = t.has })
    (either (has_column (segment_at segs k) x) (touched segs l x) h)

pub touched_if : (segs : List Float) (l : List ℕ) (x j : ℕ) → j < length l → has_column (segment_at segs (get_or l j 0)) x ≡ true → touched segs l x ≡ true
touched_if segs [] x j h e = absurd (omega (arith, h))
touched_if segs (k ∷ l) x zero h e = or_left (has_column (segment_at segs k) x) (touched segs l x) e
touched_if segs (k ∷ l) x (suc j) h e = or_right (has_column (segment_at segs k) x) (touched segs l x) (touched_if segs l x j (omega (arith, h)) e)

-- the hull asks the test below W only
pub hull_cong : (p q : ℕ → Bool) (W : ℕ) → ((x : ℕ) → x < W → p x ≡ q x) → hull p W ≡ hull q W
unfolding hull
hull_cong p q zero h = refl
hull_cong p q (suc n) h = rw (h n (omega arith), hull_cong p q n (λ x l. h x (omega (arith, l))))

-- Assumes nothing.
