-- The check accepts exactly the table that is right, and refuses with a code at a place exactly when the request says.
use mathlib.Core.Path.{◌≡◌, refl, sym, ap, ◌∙◌, subst}
use mathlib.Core.Logic.{◌↔◌, ◌⊎◌, inl, inr, ⊎_elim}
use mathlib.Core.Bool.{true, false}
use mathlib.Core.List.{List}
use Prim.Native.Nat.{ℕ, zero, suc, ◌*◌, ◌^◌, ◌≤◌, ◌<◌}
use native.Mathlib.Omega.{arith}
use lib.Dec.{eqb}
use lib.Ieee.{Float}
use lib.ListN.{length, get_or}
use borrow.Author.Tests.{le-leb, eqb-true, eqb-false}
use Rattle.codes.specs.declared.Code.{Code}
use Rattle.rows.specs.Rows.{in_row}
use Rattle.rows.proofs.Counts.{split}
use Rattle.makers.specs.CheckAnswer.{CheckAnswer}
use Rattle.makers.specs.CheckAnswer.{Done, Refused}
use Rattle.makers.specs.Check.{row_right, RowRight, wrong_from, offered_counts_good, check_of}
use Rattle.makers.specs.Refusals.{OfferedCountsFit, OfferedOverrun, many_segments, segments_short, many_entries, entries_short, Fits, RowGood, FirstWrong, wrong_row, first_start, left_over, CheckAccepted, CheckRefusal, size, shape, counts, row}
use Rattle.makers.proofs.Rows.{first_is, first_one, is_false, true_or_false, false_not_true, right_facts, right_made}
use Rattle.makers_search.proofs.Answers.{counts_facts, at_size, at-shape, at-counts, at_first, at_row, at-end, at_done}

same_or_not : (a b : ℕ) → (a ≡ b) ⊎ (a ≡ b → ⊥)
same_or_not a b = ⊎_elim (λ h. inl (eqb-true a b h)) (λ h. inr (eqb-false a b h)) (true_or_false (eqb a b))

-- ---- the counts

module _ (segs : List Float) (S : ℕ) (entries : List ℕ) (n : ℕ) where
  pub counts_fit : OfferedCountsFit segs S entries n → offered_counts_good segs S entries n ≡ true
  unfolding offered_counts_good
  counts_fit f =
      rw (
        le-leb S (2 ^ 24) f.few_segments,
        le-leb (8 * S) (length segs) f.segments_fit,
        le-leb n (2 ^ 30) f.few_entries,
        le-leb n (length entries) f.entries_fit,
      )

  unfit : OfferedOverrun segs S entries n → OfferedCountsFit segs S entries n → ⊥
  unfit (many_segments h) f = omega (arith, h, f.few_segments)
  unfit (segments_short h) f = omega (arith, h, f.segments_fit)
  unfit (many_entries h) f = omega (arith, h, f.few_entries)
  unfit (entries_short h) f = omega (arith, h, f.entries_fit)

  overrun : OfferedOverrun segs S entries n → offered_counts_good segs S entries n ≡ false
  overrun o = is_false (offered_counts_good segs S entries n) (λ e. unfit o (counts_facts segs S entries n e))

  fit_or_overrun : OfferedCountsFit segs S entries n ⊎ OfferedOverrun segs S entries n
  fit_or_overrun =
      ⊎_elim (λ h. inr (many_segments h)) (λ a.
      ⊎_elim (λ h. inr (segments_short h)) (λ b.
      ⊎_elim (λ h. inr (many_entries h)) (λ c.
      ⊎_elim (λ h. inr (entries_short h)) (λ d. inl (record { few_segments = a; segments_fit = b; few_entries = c; entries_fit = d }))
      (split (length entries) n))
      (split (2 ^ 30) n))
      (split (length segs) (8 * S)))
      (split (2 ^ 24) S)

-- ---- the rows

module _ (segs : List Float) (S H : ℕ) (starts entries : List ℕ) (n : ℕ) where
  -- a code and a place that the table of refusals gives
  record Refusing : Type 0 where
    code : Code
    place : ℕ
    refusal : CheckRefusal segs S H starts entries n code place

  module _ (f : Fits segs S H starts entries n) where
    good : offered_counts_good segs S entries n ≡ true
    good = counts_fit segs S entries n f.counts

    module _ (begins : get_or starts 0 0 ≡ 0) where
      row_good_lem : (y : ℕ) → row_right (in_row segs) S starts entries n y ≡ true → RowGood segs S H starts entries n y
      row_good_lem y h = record { begins = λ e. begins; right = right_facts (in_row segs) S starts entries n y h }

      first_told : {w : ℕ} → w ≤ H → ((y : ℕ) → y < w → RowRight (in_row segs) S starts entries n y) → (w < H → row_right (in_row segs) S starts entries n w ≡ false)
          → w ≡ wrong_from (row_right (in_row segs) S starts entries n) 0 H
      first_told {w} l before wrong =
          first_one (row_right (in_row segs) S starts entries n) 0 H w _
          (record { from = omega arith; within = omega arith; before = λ z a b. right_made (in_row segs) S starts entries n z (before z b); wrong = λ h. wrong (omega arith) })
          (first_is (row_right (in_row segs) S starts entries n) 0 H)

      wrong_told : {w : ℕ} → w < H → ((y : ℕ) → y < w → RowGood segs S H starts entries n y) → (RowGood segs S H starts entries n w → ⊥) → check_of segs S H starts entries n ≡ Refused Code.Table w
      wrong_told {w} h before wrong =
          sym (at_row segs S H starts entries n f.low f.tall good begins
          (first_told (omega arith) (λ y l. (before y l).right) (λ l. is_false (row_right (in_row segs) S starts entries n w) (λ e. wrong (row_good_lem w e)))) h)

      left_told : ((y : ℕ) → y < H → RowGood segs S H starts entries n y) → get_or starts H 0 < n → check_of segs S H starts entries n ≡ Refused Code.Table H
      left_told before h =
          sym (at-end segs S H starts entries n f.low f.tall good begins (first_told (omega arith) (λ y l. (before y l).right) (λ l. absurd (omega arith))) refl (λ e. omega (arith, e, h)))

      done_told : ((y : ℕ) → y < H → RowRight (in_row segs) S starts entries n y) → get_or starts H 0 ≡ n → check_of segs S H starts entries n ≡ Done n
      done_told before h =
          sym (at_done segs S H starts entries n f.low f.tall good begins (first_told (omega arith) before (λ l. absurd (omega arith))) (omega arith) h)

    start_told : (get_or starts 0 0 ≡ 0 → ⊥) → check_of segs S H starts entries n ≡ Refused Code.Table 0
    start_told h = sym (at_first segs S H starts entries n f.low f.tall good h)

    row_told : {w : ℕ} → FirstWrong segs S H starts entries n w → check_of segs S H starts entries n ≡ Refused Code.Table w
    row_told (wrong_row {w} h before wrong) =
        ⊎_elim (λ b. wrong_told b h before wrong) (λ b. start_told b ∙ ap (Refused Code.Table) (zero_is b)) (same_or_not (get_or starts 0 0) 0)
      where
        zero_is : (get_or starts 0 0 ≡ 0 → ⊥) → 0 ≡ w
        zero_is b = ⊎_elim (λ (l : 0 < w). absurd (b ((before 0 l).begins refl))) (λ (l : w ≤ 0). omega arith) (split 0 w)
    row_told (first_start e h) = start_told h ∙ ap (Refused Code.Table) (sym e)
    row_told (left_over b before h) = left_told b before h

    -- the last start is within the entries where every row is right
    last_in : get_or starts 0 0 ≡ 0 → (h : ℕ) → H ≡ h → ((y : ℕ) → y < H → RowRight (in_row segs) S starts entries n y) → get_or starts H 0 ≤ n
    last_in b zero e before = rw e (omega (arith, b))
    last_in b (suc h) e before = let r = before h (omega arith) in rw e r.ends

    decided : CheckAccepted segs S H starts entries n n ⊎ Refusing
    decided =
        ⊎_elim
        (λ b.
        let g = first_is (row_right (in_row segs) S starts entries n) 0 H in
        ⊎_elim
        (λ l. inr (record {
          code = Code.Table;
          place = wrong_from (row_right (in_row segs) S starts entries n) 0 H;
          refusal = row f (wrong_row l (λ y k. row_good_lem b y (g.before y (omega arith) k))
              (λ q. false_not_true _ (g.wrong (omega (arith, l))) (right_made (in_row segs) S starts entries n _ q.right)));
        }))
        (λ l.
        let all : (y : ℕ) → y < H → RowRight (in_row segs) S starts entries n y = λ y k. right_facts (in_row segs) S starts entries n y (g.before y (omega arith) (omega (arith, k, l))) in
        ⊎_elim (λ e. inl (record { fits = f; right = record { begins = b; rows = all; closes = e }; told = refl }))
        (λ e. inr (record {
          code = Code.Table;
          place = H;
          refusal = row f (left_over b (λ y k. record { begins = λ z. b; right = all y k }) (below (get_or starts H 0) n (last_in b H refl all) e));
        }))
        (same_or_not (get_or starts H 0) n))
        (split (wrong_from (row_right (in_row segs) S starts entries n) 0 H) H))
        (λ b. inr (first_wrong b H refl))
        (same_or_not (get_or starts 0 0) 0)
      where
        below : (a b : ℕ) → a ≤ b → (a ≡ b → ⊥) → a < b
        below a b h k = ⊎_elim (λ (l : a < b). l) (λ (l : b ≤ a). absurd (k (omega arith))) (split a b)

        first_wrong : (get_or starts 0 0 ≡ 0 → ⊥) → (h : ℕ) → H ≡ h → Refusing
        first_wrong b zero e = record { code = Code.Table; place = H; refusal = row f (first_start e b) }
        first_wrong b (suc h) e = record { code = Code.Table; place = 0; refusal = row f (wrong_row {w = 0} (omega arith) (λ y k. absurd (omega arith)) (λ q. b (q.begins refl))) }

  -- ---- the answers

  pub refusal_told : {c : Code} {p : ℕ} → CheckRefusal segs S H starts entries n c p → check_of segs S H starts entries n ≡ Refused c p
  refusal_told (size h) = sym (at_size segs S H starts entries n h)
  refusal_told (shape l h) = sym (at-shape segs S H starts entries n l h)
  refusal_told (counts l t o) = sym (at-counts segs S H starts entries n l t (overrun segs S entries n o))
  refusal_told (row f w) = row_told f w

  pub accepted_told : {m : ℕ} → CheckAccepted segs S H starts entries n m → check_of segs S H starts entries n ≡ Done m
  accepted_told a = done_told a.fits a.right.begins a.right.rows a.right.closes ∙ ap Done (sym a.told)

  either : CheckAccepted segs S H starts entries n n ⊎ Refusing
  either =
      ⊎_elim (λ h. inr (record { code = Code.Size; place = 0; refusal = size h }))
      (λ l.
      ⊎_elim
      (λ t. ⊎_elim (λ c. decided (record { low = l; tall = t; counts = c })) (λ o. inr (record { code = Code.Table; place = 0; refusal = counts l t o })) (fit_or_overrun segs S entries n))
      (λ t. inr (record { code = Code.Shape; place = 0; refusal = shape l t }))
      (same_or_not (length starts) (suc H)))
      (split (2 ^ 23) H)

  pub refused_exactly : (c : Code) (p : ℕ) → check_of segs S H starts entries n ≡ Refused c p ↔ CheckRefusal segs S H starts entries n c p
  refused_exactly c p = (λ e. ⊎_elim (λ a. absurd (apart (sym (accepted_told a) ∙ e))) (λ g. same g (sym (refusal_told g.refusal) ∙ e)) either, refusal_told)
    where
      is_done : CheckAnswer → Type 0
      is_done (Done m) = Unit
      is_done (Refused a b) = ⊥

      apart : Done n ≡ Refused c p → ⊥
      apart e = subst is_done e tt

      code_of : CheckAnswer → Code
      code_of (Done m) = Code.Done
      code_of (Refused a b) = a

      place_of : CheckAnswer → ℕ
      place_of (Done m) = 0
      place_of (Refused a b) = b

      same : (g : Refusing) → Refused g.code g.place ≡ Refused c p → CheckRefusal segs S H starts entries n c p
      same g e =
          subst (λ (b : ℕ). CheckRefusal segs S H starts entries n c b) (ap place_of e)
          (subst (λ (a : Code). CheckRefusal segs S H starts entries n a g.place) (ap code_of e) g.refusal)

  pub accepted_exactly : (m : ℕ) → check_of segs S H starts entries n ≡ Done m ↔ CheckAccepted segs S H starts entries n m
  accepted_exactly m = (λ e. ⊎_elim (λ a. record { fits = a.fits; right = a.right; told = ap count_of (sym e ∙ accepted_told a) }) (λ g. absurd (apart g (sym (refusal_told g.refusal) ∙ e))) either, accepted_told)
    where
      is_refused : CheckAnswer → Type 0
      is_refused (Done k) = ⊥
      is_refused (Refused a b) = Unit

      apart : (g : Refusing) → Refused g.code g.place ≡ Done m → ⊥
      apart g e = subst is_refused e tt

      count_of : CheckAnswer → ℕ
      count_of (Done k) = k
      count_of (Refused a b) = 0

-- ---- where all fits, only a row is wrong

module _ (segs : List Float) (S H : ℕ) (starts entries : List ℕ) (n : ℕ) (f : Fits segs S H starts entries n) where
  pub refused_row : {c : Code} {p : ℕ} → CheckRefusal segs S H starts entries n c p → FirstWrong segs S H starts entries n p
  refused_row (size h) = absurd (omega (arith, h, f.low))
  refused_row (shape l h) = absurd (h f.tall)
  refused_row (counts l t o) = absurd (unfit segs S entries n o f.counts)
  refused_row (row g w) = w

  pub refused_code : {c : Code} {p : ℕ} → CheckRefusal segs S H starts entries n c p → c ≡ Code.Table
  refused_code (size h) = absurd (omega (arith, h, f.low))
  refused_code (shape l h) = absurd (h f.tall)
  refused_code (counts l t o) = refl
  refused_code (row g w) = refl

-- Assumes nothing.
