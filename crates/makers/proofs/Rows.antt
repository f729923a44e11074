-- Laws of one row, of lists that ascend, and of the first wrong row.
-- A list that ascends and names only segments that have the row is no longer than the row's own, and as long only if it is that.
use mathlib.Core.Path.{◌≡◌, refl, sym, ap, ◌∙◌, subst}
use mathlib.Core.Logic.{◌⊎◌, inl, inr, ⊎_elim}
use mathlib.Core.Bool.{Bool, true, false, ◌&&◌}
use mathlib.Core.List.{List, [], ◌∷◌, ◌++◌, append-nil, append_assoc}
use Prim.Native.Nat.{ℕ, zero, suc, ◌+◌, ◌-◌, ◌^◌, ◌≤◌, ◌<◌}
use native.Mathlib.Nat.{eq-or-lt_of_le}
use native.Mathlib.Numerals.{add-one}
use native.Mathlib.Omega.{arith}
use lib.Dec.{leb, ltb, eqb}
use lib.ListN.{length, get_or}
use lib.Seq.{slice, slice-cons, slice_empty}
use borrow.Author.Tests.{le-leb, leb-true, lt-ltb, ltb-true, eq-eqb, eqb-true}
use Rattle.segments.specs.declared.Segment.{Segment}
use Rattle.segments.specs.declared.Range.{Range}
use Rattle.segments.specs.Ranges.{has_row, rows_of}
use Rattle.segments.proofs.Ranges.{has_row_lem}
use Rattle.rows.specs.Rows.{only, listed, entries_between}
use Rattle.rows.specs.Steps.{cnt}
use Rattle.rows.proofs.Counts.{three}
use Rattle.makers.specs.Check.{same_list, starts_good, row_right, RowRight, wrong_from}
use Rattle.makers.specs.Steps.{rising, row_fits}

-- ---- tests

pub and_left : (a b : Bool) → a && b ≡ true → a ≡ true
and_left true b h = refl
and_left false b h = h

pub and_right : (a b : Bool) → a && b ≡ true → b ≡ true
and_right true b h = h
and_right false b h = absurd (apart h)
  where
    is_false : Bool → Type 0
    is_false true = ⊥
    is_false false = Unit

    apart : false ≡ true → ⊥
    apart p = subst is_false p tt

pub is_false : (b : Bool) → (b ≡ true → ⊥) → b ≡ false
is_false true h = absurd (h refl)
is_false false h = refl

pub true_or_false : (b : Bool) → (b ≡ true) ⊎ (b ≡ false)
true_or_false true = inl refl
true_or_false false = inr refl

pub false_not_true : (b : Bool) → b ≡ false → b ≡ true → ⊥
false_not_true b p q = apart (sym p ∙ q)
  where
    is_no : Bool → Type 0
    is_no true = ⊥
    is_no false = Unit

    apart : false ≡ true → ⊥
    apart e = subst is_no e tt

pub same_true : (xs ys : List ℕ) → same_list xs ys ≡ true → xs ≡ ys
same_true [] [] h = refl
same_true [] (b ∷ ys) h = absurd (false_not_true false refl h)
same_true (a ∷ xs) [] h = absurd (false_not_true false refl h)
same_true (a ∷ xs) (b ∷ ys) h =
    rw (eqb-true a b (and_left (eqb a b) (same_list xs ys) h), same_true xs ys (and_right (eqb a b) (same_list xs ys) h))

pub same_self : (xs : List ℕ) → same_list xs xs ≡ true
same_self [] = refl
same_self (a ∷ xs) = rw (eq-eqb a a refl, same_self xs)

-- ---- the first wrong row

-- w is the first wrong row from y on, or the one after m rows
pub record First (right : ℕ → Bool) (y m w : ℕ) : Type 0 where
  pub from : y ≤ w
  pub within : w ≤ y + m
  pub before : (z : ℕ) → y ≤ z → z < w → right z ≡ true
  pub wrong : w < y + m → right w ≡ false

module _ (right : ℕ → Bool) where
  pub first_is : (y m : ℕ) → First right y m (wrong_from right y m)
  unfolding wrong_from
  first_is y zero = record { from = omega arith; within = omega arith; before = λ z a b. absurd (omega arith); wrong = λ h. absurd (omega arith) }
  first_is y (suc m) =
      ⊎_elim
      (λ e.
      let f = first_is (suc y) m in
      rw e (record {
        from = omega (arith, f.from);
        within = omega (arith, f.within);
        before = λ z a b. ⊎_elim (λ q. rw (← q) e) (λ l. f.before z l b) (eq-or-lt_of_le a);
        wrong = λ h. f.wrong (omega (arith, h));
      }))
      (λ e. rw e (record { from = omega arith; within = omega arith; before = λ z a b. absurd (omega arith); wrong = λ h. e }))
      (true_or_false (right y))

  -- there is one only
  pub first_one : (y m w v : ℕ) → First right y m w → First right y m v → w ≡ v
  first_one y m w v f g =
      three (w ≡ v) w v
      (λ l. absurd (false_not_true (right w) (f.wrong (omega (arith, l, g.within))) (g.before w f.from l)))
      (λ e. e)
      (λ l. absurd (false_not_true (right v) (g.wrong (omega (arith, l, f.within))) (f.before v g.from l)))

  -- the scan begins; a turn of it, its stop and its end
  pub first_begin : (H : ℕ) → wrong_from right 0 H ≡ wrong_from right 0 (H - 0)
  first_begin H = let k : H - 0 ≡ H = omega arith in rw k

  pub first_next : (y H : ℕ) → y < H → right y ≡ true → wrong_from right y (H - y) ≡ wrong_from right (y + 1) (H - (y + 1))
  unfolding wrong_from
  first_next y H h e = let k : H - y ≡ suc (H - suc y) = omega arith in rw (add-one y, k, e)

  pub first_stop : (y H : ℕ) → y < H → right y ≡ false → wrong_from right y (H - y) ≡ y
  unfolding wrong_from
  first_stop y H h e = let k : H - y ≡ suc (H - suc y) = omega arith in rw (k, e)

  pub first_end : (y H : ℕ) → H ≤ y → wrong_from right y (H - y) ≡ y
  unfolding wrong_from
  first_end y H h = let k : H - y ≡ 0 = omega arith in rw k

-- ---- lists that ascend

-- of n segments from a on those that pass the test, from the front
from : (ℕ → Bool) → ℕ → ℕ → List ℕ
from here a zero = []
from here a (suc n) = only (here a) a ++ from here (suc a) n

module _ (here : ℕ → Bool) where
  from_in : (a n : ℕ) → here a ≡ true → from here a (suc n) ≡ a ∷ from here (suc a) n
  unfolding from only
  from_in a n h = rw h

  from_out : (a n : ℕ) → here a ≡ false → from here a (suc n) ≡ from here (suc a) n
  unfolding from only
  from_out a n h = rw h

  from_more : (a n : ℕ) → from here a (suc n) ≡ from here a n ++ only (here (a + n)) (a + n)
  unfolding from only
  from_more a zero = let e : a + 0 ≡ a = omega arith in rw e (append-nil (only (here a) a))
  from_more a (suc n) =
      let e : a + suc n ≡ suc a + n = omega arith in
      rw e (ap (λ (l : List ℕ). only (here a) a ++ l) (from_more (suc a) n) ∙ sym (append_assoc (only (here a) a) (from here (suc a) n) (only (here (suc a + n)) (suc a + n))))

  -- the parts of a test that was passed
  record Head (S least i : ℕ) (is : List ℕ) : Type 0 where
    low : least ≤ i
    below : i < S
    passes : here i ≡ true
    rest : rising here S (suc i) is ≡ true

  head_of : (S least i : ℕ) (is : List ℕ) → rising here S least (i ∷ is) ≡ true → Head S least i is
  unfolding rising
  head_of S least i is h =
      let a = and_right (leb least i) _ h in
      let b = and_right (ltb i S) _ a in
      record {
        low = leb-true least i (and_left (leb least i) _ h);
        below = ltb-true i S (and_left (ltb i S) _ a);
        passes = and_left (here i) _ b;
        rest = and_right (here i) _ b;
      }

  pub head_made : (S least i : ℕ) (is : List ℕ) → least ≤ i → i < S → here i ≡ true → rising here S least (i ∷ is) ≡ rising here S (suc i) is
  unfolding rising
  head_made S least i is a b p = rw (le-leb least i a, lt-ltb i S b, p)

  lower : (S a b : ℕ) (l : List ℕ) → a ≤ b → rising here S b l ≡ true → rising here S a l ≡ true
  unfolding rising
  lower S a b [] h r = refl
  lower S a b (i ∷ is) h r = let k = head_of S b i is r in head_made S a i is (omega (arith, k.low)) k.below k.passes ∙ k.rest

  -- no longer than the row's own list, and as long only if it is that
  record Fewer (l full : List ℕ) : Type 0 where
    short : length l ≤ length full
    whole : length full ≤ length l → l ≡ full

  fewer_more : {a i : ℕ} {l full : List ℕ} → a ≡ i → Fewer l full → Fewer (i ∷ l) (a ∷ full)
  fewer_more {a} {i} {l} {full} q f = record {
    short = omega (arith, f.short);
    whole = λ h. ap (λ (xs : List ℕ). i ∷ xs) (f.whole (omega (arith, h))) ∙ ap (λ (v : ℕ). v ∷ full) (sym q);
  }

  fewer_less : {a : ℕ} {l full : List ℕ} → Fewer l full → Fewer l (a ∷ full)
  fewer_less f = record { short = omega (arith, f.short); whole = λ h. absurd (omega (arith, f.short, h)) }

  nil_of : (xs : List ℕ) → length xs ≤ 0 → [] ≡ xs
  nil_of [] h = refl
  nil_of (x ∷ xs) h = absurd (omega arith)

  fewer : (S a n : ℕ) (l : List ℕ) → S ≡ a + n → rising here S a l ≡ true → Fewer l (from here a n)
  unfolding from rising
  fewer S a zero [] e r = record { short = omega arith; whole = λ h. refl }
  fewer S a zero (i ∷ is) e r = let k = head_of S a i is r in absurd (omega (arith, k.low, k.below))
  fewer S a (suc n) [] e r = record { short = omega arith; whole = λ h. nil_of (from here a (suc n)) h }
  fewer S a (suc n) (i ∷ is) e r =
      let k : Head S a i is = head_of S a i is r in
      ⊎_elim
      (λ (q : a ≡ i).
      let p : here a ≡ true = rw q k.passes in
      let f : Fewer is (from here (suc a) n) = fewer S (suc a) n is (omega arith) (rw q k.rest) in
      rw (from_in a n p) (fewer_more q f))
      (λ (l : suc a ≤ i).
      let f : Fewer (i ∷ is) (from here (suc a) n) = fewer S (suc a) n (i ∷ is) (omega arith) (head_made S (suc a) i is l k.below k.passes ∙ k.rest) in
      ⊎_elim (λ p. rw (from_in a n p) (fewer_less f)) (λ p. rw (from_out a n p) f) (true_or_false (here a)))
      (eq-or-lt_of_le k.low)

  from_rises : (S a n : ℕ) → S ≡ a + n → rising here S a (from here a n) ≡ true
  unfolding from rising
  from_rises S a zero e = refl
  from_rises S a (suc n) e =
      let r = from_rises S (suc a) n (omega arith) in
      ⊎_elim
      (λ p. rw (from_in a n p) (head_made S a a (from here (suc a) n) (omega arith) (omega arith) p ∙ r))
      (λ p. rw (from_out a n p) (lower S a (suc a) (from here (suc a) n) (omega arith) r))
      (true_or_false (here a))

  -- a turn of the scan of a row
  pub rising_next : (S least j e : ℕ) (l : List ℕ) → j < e → e ≤ length l
      → rising here S least (slice j e l) ≡ leb least (get_or l j 0) && (ltb (get_or l j 0) S && (here (get_or l j 0) && rising here S (get_or l j 0 + 1) (slice (j + 1) e l)))
  unfolding rising
  rising_next S least j e l h k = rw (add-one j, add-one (get_or l j 0), slice-cons j e l 0 h k)

  pub rising_turn : (S least j e : ℕ) (l : List ℕ) {v : ℕ} → j < e → e ≤ length l → least ≤ get_or l j 0 → get_or l j 0 < S → here (get_or l j 0) ≡ true → get_or l j 0 + 1 ≡ v
      → rising here S least (slice j e l) ≡ rising here S v (slice (j + 1) e l)
  rising_turn S least j e l h k a b p q =
      rising_next S least j e l h k ∙ rw (le-leb least (get_or l j 0) a, lt-ltb (get_or l j 0) S b, p, q)

  pub rising_none : (S least j e : ℕ) (l : List ℕ) → j ≤ e → e ≤ j → rising here S least (slice j e l) ≡ true
  unfolding rising
  rising_none S least j e l h k = let q : j ≡ e = omega arith in rw (q, slice_empty e l)

-- ---- a row

-- the rows of a segment as a range
pub has_by : (s : Segment) (y : ℕ) {r : Range} → r ≡ rows_of s → y < 2 ^ 24 → has_row s y ≡ leb r.first y && ltb y r.past
unfolding rows_of
has_by s y e h = has_row_lem s y h ∙ ap (λ (r : Range). leb r.first y && ltb y r.past) (sym e)

module _ (has : ℕ → ℕ → Bool) where
  from_listed : (y S : ℕ) → from (λ i. has i y) 0 S ≡ listed has y S
  unfolding from listed
  from_listed y zero = refl
  from_listed y (suc S) =
      let e : 0 + S ≡ S = omega arith in
      let m : from (λ i. has i y) 0 (suc S) ≡ from (λ i. has i y) 0 S ++ only (has S y) S = rw e at (from_more (λ i. has i y) 0 S) in
      m ∙ ap (λ (l : List ℕ). l ++ only (has S y) S) (from_listed y S)

  pub listed_rises : (y S : ℕ) → rising (λ i. has i y) S 0 (listed has y S) ≡ true
  listed_rises y S = rw (← from_listed y S) (from_rises (λ i. has i y) S 0 S (omega arith))

  pub no_longer : (y S : ℕ) (l : List ℕ) → rising (λ i. has i y) S 0 l ≡ true → length l ≤ cnt has y S
  no_longer y S l r = rw (← from_listed y S) (fewer (λ i. has i y) S 0 S l (omega arith) r).short

  pub as_long : (y S : ℕ) (l : List ℕ) → rising (λ i. has i y) S 0 l ≡ true → cnt has y S ≤ length l → l ≡ listed has y S
  as_long y S l r h = (fewer (λ i. has i y) S 0 S l (omega arith) r).whole (rw (from_listed y S) h) ∙ from_listed y S

  module _ (S : ℕ) (starts entries : List ℕ) (n : ℕ) where
    -- the parts of a row's test
    pub right_facts : (y : ℕ) → row_right has S starts entries n y ≡ true → RowRight has S starts entries n y
    unfolding row_right
    right_facts y h =
        let a = and_left (starts_good starts n y) _ h in
        record {
          rises = leb-true _ _ (and_left (leb (get_or starts y 0) (get_or starts (suc y) 0)) _ a);
          ends = leb-true _ _ (and_right (leb (get_or starts y 0) (get_or starts (suc y) 0)) _ a);
          lists = same_true _ _ (and_right (starts_good starts n y) _ h);
        }

    pub right_made : (y : ℕ) → RowRight has S starts entries n y → row_right has S starts entries n y ≡ true
    unfolding row_right
    right_made y f =
        rw (le-leb (get_or starts y 0) (get_or starts (suc y) 0) f.rises, le-leb (get_or starts (suc y) 0) n f.ends, f.lists) (same_self (listed has y S))

    pub record RowFits (y : ℕ) : Type 0 where
      pub rises : get_or starts y 0 ≤ get_or starts (suc y) 0
      pub ends : get_or starts (suc y) 0 ≤ n
      pub ascends : rising (λ i. has i y) S 0 (entries_between starts entries y) ≡ true

    pub fit_facts : (y : ℕ) → row_fits has S starts entries n y ≡ true → RowFits y
    unfolding row_fits
    fit_facts y h =
        let a = and_left (starts_good starts n y) _ h in
        record {
          rises = leb-true _ _ (and_left (leb (get_or starts y 0) (get_or starts (suc y) 0)) _ a);
          ends = leb-true _ _ (and_right (leb (get_or starts y 0) (get_or starts (suc y) 0)) _ a);
          ascends = and_right (starts_good starts n y) _ h;
        }

    fit_made : (y : ℕ) → RowFits y → row_fits has S starts entries n y ≡ true
    unfolding row_fits
    fit_made y f = rw (le-leb (get_or starts y 0) (get_or starts (suc y) 0) f.rises, le-leb (get_or starts (suc y) 0) n f.ends, f.ascends)

    -- the test as the code reads it
    pub fits_by : (y : ℕ) → row_fits has S starts entries n y
        ≡ ((leb (get_or starts y 0) (get_or starts (y + 1) 0) && leb (get_or starts (y + 1) 0) n) && rising (λ i. has i y) S 0 (slice (get_or starts y 0) (get_or starts (y + 1) 0) entries))
    unfolding row_fits
    fits_by y = rw (add-one y)

    -- what is right fits
    pub right_fits : (y : ℕ) → row_right has S starts entries n y ≡ true → row_fits has S starts entries n y ≡ true
    right_fits y h =
        let f = right_facts y h in
        fit_made y (record { rises = f.rises; ends = f.ends; ascends = rw f.lists (listed_rises y S) })

-- Assumes nothing.
