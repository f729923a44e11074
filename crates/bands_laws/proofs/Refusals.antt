-- Making and refreshing refuse exactly when their tables of codes say, and are done exactly otherwise: what they answer, tell and leave.
use mathlib.Core.Path.{◌≡◌, refl, sym, ap, subst, ◌∙◌}
use mathlib.Core.Bool.{Bool, true}
use mathlib.Core.Logic.{◌⊎◌, inl, inr, ⊎_elim, ◌↔◌}
use mathlib.Core.List.{List}
use Prim.Native.Nat.{ℕ, ◌*◌, ◌^◌}
use native.Mathlib.Omega.{arith}
use lib.ListN.{length, replicate}
use borrow.Author.Tests.{lt-ltb, le-ltb, le-leb, lt-leb}
use Rattle.codes.specs.declared.Code.{Code}
use Rattle.codes.proofs.Refusals.{same_refusal}
use Rattle.shade.proofs.Edits.{lt_or_ge}
use Rattle.desks.specs.Desks.{Sight}
use Rattle.checks.specs.Tables.{Table}
use Rattle.checks.specs.Refusals.{Lent}
use Rattle.checks.specs.Checks.{or_fault}
use Rattle.checks.specs.Verdict.{Verdict, Fine, Fault}
use Rattle.checks.proofs.Refusals.{counts_fit_for, counts_overrun_for, fit_or_overrun_for}
use Rattle.bands.specs.BandsAnswer.{BandsAnswer, Done, Refused}
use Rattle.bands.specs.Bands.{bands_in, row_of_band, rows_in, rows_good_from, band_good, band_numbers, put_band}
use Rattle.bands.specs.Calls.{before_rows, judge_bands, judge_band, BandsOutcome, leaves, by_verdict, fresh_cells, bands_of, band_of}
use Rattle.bands.specs.Refusals.{RowsBadFor, EarlyRefusal, SummaryFits, BandsRefusal, BandRefusal}
use Rattle.bands.specs.Refusals as codes
use Rattle.bands_laws.specs.Done.{BandsDone, BandDone}
use Rattle.bands_laws.proofs.Rows.{rows_bad, good_or_bad}

-- a code and a place that a table of refusals gives
record Refusing (Refusal : Code → ℕ → Type 0) : Type 0 where
  code : Code
  place : ℕ
  refusal : Refusal code place

-- an answer that is told apart by a code and a place
module _ {Refusal : Code → ℕ → Type 0} (answer : BandsAnswer) (told : (c : Code) (p : ℕ) → Refusal c p → answer ≡ Refused c p) where
  given_is : (c : Code) (p : ℕ) → Refusing Refusal → answer ≡ Refused c p → Refusal c p
  given_is c p g e =
      let q : Refused g.code g.place ≡ Refused c p = sym (told g.code g.place g.refusal) ∙ e in
      let same = same_refusal q in
      subst (λ (b : ℕ). Refusal c b) same.1 (subst (λ (a : Code). Refusal a g.place) same.0 g.refusal)

done_refused : {n p : ℕ} {c : Code} → Done n ≡ Refused c p → ⊥
done_refused e = subst is_done e tt
  where
    is_done : BandsAnswer → Type 0
    is_done (Done m) = Unit
    is_done (Refused a b) = ⊥

abbrev count_of : BandsAnswer → ℕ
count_of (Done n) = n
count_of (Refused a b) = 0

-- ---- before a row

module _ (t : Table) (s : Sight) (W room : ℕ) where
  early_judged : {c : Code} {p : ℕ} → EarlyRefusal t s W room c p → (after : Verdict) → before_rows t s W room after ≡ Fault c
  unfolding before_rows
  early_judged (codes.EarlyRefusal.size w) after = rw (lt-leb W (2 ^ 23) w)
  early_judged (codes.EarlyRefusal.counts w o) after = rw (le-leb W (2 ^ 23) w, counts_overrun_for t s o)
  early_judged (codes.EarlyRefusal.desk w f d) after = rw (le-leb W (2 ^ 23) w, counts_fit_for t s f, le-ltb s.desk 2 d)
  early_judged (codes.EarlyRefusal.trace w f d b) after = rw (le-leb W (2 ^ 23) w, counts_fit_for t s f, lt-ltb s.desk 2 d, lt-leb s.splines (length s.bits) b)
  early_judged (codes.EarlyRefusal.room w l h) after =
      rw (
        le-leb W (2 ^ 23) w,
        counts_fit_for t s l.counts,
        lt-ltb s.desk 2 l.desk,
        le-leb s.splines (length s.bits) l.bytes,
        lt-leb (5 * bands_in t.height) room h,
      )

  early_passed : SummaryFits t s W room → (after : Verdict) → before_rows t s W room after ≡ after
  unfolding before_rows
  early_passed f after =
      rw (
        le-leb W (2 ^ 23) f.narrow,
        counts_fit_for t s f.lent.counts,
        lt-ltb s.desk 2 f.lent.desk,
        le-leb s.splines (length s.bits) f.lent.bytes,
        le-leb (5 * bands_in t.height) room f.roomy,
      )

  early_place : {c : Code} {p : ℕ} → EarlyRefusal t s W room c p → p ≡ 0
  early_place (codes.EarlyRefusal.size w) = refl
  early_place (codes.EarlyRefusal.counts w o) = refl
  early_place (codes.EarlyRefusal.desk w f d) = refl
  early_place (codes.EarlyRefusal.trace w f d b) = refl
  early_place (codes.EarlyRefusal.room w l h) = refl

  fits_or_early : SummaryFits t s W room ⊎ Refusing (EarlyRefusal t s W room)
  fits_or_early =
      ⊎_elim (λ w. inr (record { code = Code.Size; place = 0; refusal = codes.EarlyRefusal.size w })) (λ w.
      ⊎_elim (λ f.
      ⊎_elim (λ d.
      ⊎_elim (λ b. inr (record { code = Code.Trace; place = 0; refusal = codes.EarlyRefusal.trace w f d b })) (λ b.
      let l : Lent t s = record { desk = d; counts = f; bytes = b } in
      ⊎_elim (λ h. inr (record { code = Code.Room; place = 0; refusal = codes.EarlyRefusal.room w l h })) (λ h. inl (record { narrow = w; lent = l; roomy = h }))
      (lt_or_ge room (5 * bands_in t.height)))
      (lt_or_ge (length s.bits) s.splines))
      (λ d. inr (record { code = Code.Desk; place = 0; refusal = codes.EarlyRefusal.desk w f d }))
      (lt_or_ge s.desk 2))
      (λ o. inr (record { code = Code.Table; place = 0; refusal = codes.EarlyRefusal.counts w o }))
      (fit_or_overrun_for t s))
      (lt_or_ge (2 ^ 23) W)

-- ---- making

module _ (t : Table) (s : Sight) (W room : ℕ) where
  bands_fault : {c : Code} → judge_bands t s W room ≡ Fault c → bands_of t s W room ≡ leaves (Refused c 0) (replicate room 0)
  unfolding bands_of
  bands_fault e = ap (λ (v : Verdict). by_verdict v (bands_in t.height) (fresh_cells t s W room) (replicate room 0)) e

  bands_fine : judge_bands t s W room ≡ Fine → bands_of t s W room ≡ leaves (Done (bands_in t.height)) (fresh_cells t s W room)
  unfolding bands_of
  bands_fine e = ap (λ (v : Verdict). by_verdict v (bands_in t.height) (fresh_cells t s W room) (replicate room 0)) e

  bands_judged : {c : Code} {p : ℕ} → BandsRefusal t s W room c p → judge_bands t s W room ≡ Fault c
  unfolding judge_bands
  bands_judged (codes.BandsRefusal.early l) = early_judged t s W room l _
  bands_judged (codes.BandsRefusal.rows f o) = early_passed t s W room f _ ∙ rw (rows_bad t s o)

  pub bands_place : {c : Code} {p : ℕ} → BandsRefusal t s W room c p → p ≡ 0
  bands_place (codes.BandsRefusal.early l) = early_place t s W room l
  bands_place (codes.BandsRefusal.rows f o) = refl

  -- a refused making leaves zeros
  pub bands_refused : {c : Code} {p : ℕ} → BandsRefusal t s W room c p → bands_of t s W room ≡ leaves (Refused c p) (replicate room 0)
  bands_refused {c} {p} l = bands_fault (bands_judged l) ∙ ap (λ (q : ℕ). leaves (Refused c q) (replicate room 0)) (sym (bands_place l))

  pub bands_done : {n : ℕ} → BandsDone t s W room n → bands_of t s W room ≡ leaves (Done n) (fresh_cells t s W room)
  unfolding judge_bands
  bands_done {n} d =
      bands_fine (early_passed t s W room d.fits _ ∙ ⊎_elim (λ e. rw e) (λ o. absurd (d.rows o)) (good_or_bad t s 0 t.height))
      ∙ ap (λ (m : ℕ). leaves (Done m) (fresh_cells t s W room)) (sym d.told)

  bands_either : BandsDone t s W room (bands_in t.height) ⊎ Refusing (BandsRefusal t s W room)
  bands_either =
      ⊎_elim (λ f.
      ⊎_elim (λ e. inl (record { fits = f; rows = λ o. good_not_bad e o; told = refl }))
      (λ o. inr (record { code = Code.Table; place = 0; refusal = codes.BandsRefusal.rows f o }))
      (good_or_bad t s 0 t.height))
      (λ g. inr (record { code = g.code; place = g.place; refusal = codes.BandsRefusal.early g.refusal }))
      (fits_or_early t s W room)
    where
      good_not_bad : rows_good_from t s 0 t.height ≡ true → RowsBadFor t s 0 t.height → ⊥
      good_not_bad e o = let q = sym e ∙ rows_bad t s o in let z : ◌≡◌ {A = ℕ} 0 1 = cc in omega (arith, z)

  pub bands_refused_exactly : (c : Code) (p : ℕ) → ((bands_of t s W room).answer ≡ Refused c p) ↔ BandsRefusal t s W room c p
  bands_refused_exactly c p = (
    λ e.
        ⊎_elim (λ d. absurd (done_refused (sym (ap (λ (o : BandsOutcome). o.answer) (bands_done d)) ∙ e)))
        (λ g. given_is (bands_of t s W room).answer (λ k q l. ap (λ (o : BandsOutcome). o.answer) (bands_refused l)) c p g e)
        bands_either,
    λ l. ap (λ (o : BandsOutcome). o.answer) (bands_refused l),
  )

  pub bands_done_exactly : (n : ℕ) → ((bands_of t s W room).answer ≡ Done n) ↔ BandsDone t s W room n
  bands_done_exactly n = (
    λ e.
        ⊎_elim (λ d. record { fits = d.fits; rows = d.rows; told = ap count_of (sym e ∙ ap (λ (o : BandsOutcome). o.answer) (bands_done d)) })
        (λ g. absurd (done_refused (sym e ∙ ap (λ (o : BandsOutcome). o.answer) (bands_refused g.refusal))))
        bands_either,
    λ d. ap (λ (o : BandsOutcome). o.answer) (bands_done d),
  )

  -- where the table gives nothing it is done
  pub bands_else_done : ((c : Code) (p : ℕ) → BandsRefusal t s W room c p → ⊥) → BandsDone t s W room (bands_in t.height)
  bands_else_done f = ⊎_elim (λ d. d) (λ g. absurd (f g.code g.place g.refusal)) bands_either

-- ---- refreshing

module _ (t : Table) (s : Sight) (W b : ℕ) (cells : List ℕ) where
  band_fault : {c : Code} → judge_band t s W (length cells) b ≡ Fault c → band_of t s W b cells ≡ leaves (Refused c 0) cells
  unfolding band_of
  band_fault e = ap (λ (v : Verdict). by_verdict v (bands_in t.height) (put_band cells b (band_numbers t s W b)) cells) e

  band_fine : judge_band t s W (length cells) b ≡ Fine → band_of t s W b cells ≡ leaves (Done (bands_in t.height)) (put_band cells b (band_numbers t s W b))
  unfolding band_of
  band_fine e = ap (λ (v : Verdict). by_verdict v (bands_in t.height) (put_band cells b (band_numbers t s W b)) cells) e

  band_judged : {c : Code} {p : ℕ} → BandRefusal t s W (length cells) b c p → judge_band t s W (length cells) b ≡ Fault c
  unfolding judge_band
  band_judged (codes.BandRefusal.early l) = early_judged t s W (length cells) l _
  band_judged (codes.BandRefusal.band f h) = early_passed t s W (length cells) f _ ∙ rw (le-ltb b (bands_in t.height) h)
  band_judged (codes.BandRefusal.rows f h o) = early_passed t s W (length cells) f _ ∙ rw (lt-ltb b (bands_in t.height) h, rows_bad t s o)

  pub band_place : {c : Code} {p : ℕ} → BandRefusal t s W (length cells) b c p → p ≡ 0
  band_place (codes.BandRefusal.early l) = early_place t s W (length cells) l
  band_place (codes.BandRefusal.band f h) = refl
  band_place (codes.BandRefusal.rows f h o) = refl

  -- a refused refresh changes nothing
  pub band_refused : {c : Code} {p : ℕ} → BandRefusal t s W (length cells) b c p → band_of t s W b cells ≡ leaves (Refused c p) cells
  band_refused {c} {p} l = band_fault (band_judged l) ∙ ap (λ (q : ℕ). leaves (Refused c q) cells) (sym (band_place l))

  pub band_done : {n : ℕ} → BandDone t s W (length cells) b n → band_of t s W b cells ≡ leaves (Done n) (put_band cells b (band_numbers t s W b))
  unfolding judge_band
  band_done {n} d =
      band_fine (early_passed t s W (length cells) d.fits _ ∙ ⊎_elim (λ (e : band_good t s b ≡ true). rw (lt-ltb b (bands_in t.height) d.in_image) (ap (λ (g : Bool). or_fault g Code.Table Fine) e)) (λ o. absurd (d.rows o)) (good_or_bad t s (row_of_band b) (rows_in t.height b)))
      ∙ ap (λ (m : ℕ). leaves (Done m) (put_band cells b (band_numbers t s W b))) (sym d.told)

  band_either : BandDone t s W (length cells) b (bands_in t.height) ⊎ Refusing (BandRefusal t s W (length cells) b)
  band_either =
      ⊎_elim (λ f.
      ⊎_elim (λ h.
      ⊎_elim (λ e. inl (record { fits = f; in_image = h; rows = λ o. good_not_bad e o; told = refl }))
      (λ o. inr (record { code = Code.Table; place = 0; refusal = codes.BandRefusal.rows f h o }))
      (good_or_bad t s (row_of_band b) (rows_in t.height b)))
      (λ h. inr (record { code = Code.Band; place = 0; refusal = codes.BandRefusal.band f h }))
      (lt_or_ge b (bands_in t.height)))
      (λ g. inr (record { code = g.code; place = g.place; refusal = codes.BandRefusal.early g.refusal }))
      (fits_or_early t s W (length cells))
    where
      good_not_bad : band_good t s b ≡ true → RowsBadFor t s (row_of_band b) (rows_in t.height b) → ⊥
      good_not_bad e o = let q = sym e ∙ rows_bad t s o in let z : ◌≡◌ {A = ℕ} 0 1 = cc in omega (arith, z)

  pub band_refused_exactly : (c : Code) (p : ℕ) → ((band_of t s W b cells).answer ≡ Refused c p) ↔ BandRefusal t s W (length cells) b c p
  band_refused_exactly c p = (
    λ e.
        ⊎_elim (λ d. absurd (done_refused (sym (ap (λ (o : BandsOutcome). o.answer) (band_done d)) ∙ e)))
        (λ g. given_is (band_of t s W b cells).answer (λ k q l. ap (λ (o : BandsOutcome). o.answer) (band_refused l)) c p g e)
        band_either,
    λ l. ap (λ (o : BandsOutcome). o.answer) (band_refused l),
  )

  pub band_done_exactly : (n : ℕ) → ((band_of t s W b cells).answer ≡ Done n) ↔ BandDone t s W (length cells) b n
  band_done_exactly n = (
    λ e.
        ⊎_elim (λ d. record { fits = d.fits; in_image = d.in_image; rows = d.rows; told = ap count_of (sym e ∙ ap (λ (o : BandsOutcome). o.answer) (band_done d)) })
        (λ g. absurd (done_refused (sym e ∙ ap (λ (o : BandsOutcome). o.answer) (band_refused g.refusal))))
        band_either,
    λ d. ap (λ (o : BandsOutcome). o.answer) (band_done d),
  )

  pub band_else_done : ((c : Code) (p : ℕ) → BandRefusal t s W (length cells) b c p → ⊥) → BandDone t s W (length cells) b (bands_in t.height)
  band_else_done f = ⊎_elim (λ d. d) (λ g. absurd (f g.code g.place g.refusal)) band_either

-- Assumes nothing.
