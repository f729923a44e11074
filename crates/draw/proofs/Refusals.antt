-- Drawing refuses exactly when its table of codes says: a line of the table gives its code, and where no line holds every check passes.
use mathlib.Core.Path.{◌≡◌, refl, sym, ap, ◌∙◌}
use mathlib.Core.Bool.{true}
use mathlib.Core.Logic.{⊎_elim, ◌↔◌}
use Prim.Native.Nat.{ℕ, ◌<◌}
use native.Mathlib.Omega.{arith}
use lib.ListN.{length}
use borrow.Author.Tests.{lt-ltb, le-ltb, le-leb, lt-leb}
use Rattle.codes.specs.declared.Code.{Code}
use Rattle.codes.specs.Refusal as answer
use Rattle.shade.proofs.Edits.{lt_or_ge}
use Rattle.desks.specs.Desks.{Sight}
use Rattle.checks.specs.Tables.{Table}
use Rattle.checks.specs.Refusals.{Lent}
use Rattle.checks.specs.Checks.{span_good, row_good_for, judge_draw}
use Rattle.checks.proofs.Refusals.{counts_fit_for, counts_overrun_for, fit_or_overrun_for, span_fits, span_out, fits_or_out, row_bad_for, fine_or_bad_for}
use Rattle.draw.specs.Draw.{Channels, DrawOutcome, leaves, draw_of}
use Rattle.draw.specs.Refusals.{DrawRefusal}
use Rattle.draw.specs.Refusals as codes
use Rattle.draw.specs.DrawAnswer as Drawing
use Rattle.draw.proofs.Checks.{answer_fault}

module _ (t : Table) (s : Sight) (y x0 n : ℕ) (a : Channels) where
  abbrev Refusal : Code → ℕ → Type 0
  Refusal = DrawRefusal t s y x0 n (length a.r0) (length a.r1) (length a.r2)

  -- a line of the table gives its code, and leaves the channels as they were
  pub draw_refused : {c : Code} {p : ℕ} → Refusal c p → leaves (Drawing.Refused c p) a ≡ draw_of t s y x0 n a
  unfolding judge_draw
  draw_refused (codes.desk d) = answer_fault t s y x0 n a (rw (le-ltb s.desk 2 d))
  draw_refused (codes.counts d o) = answer_fault t s y x0 n a (rw (lt-ltb s.desk 2 d, counts_overrun_for t s o))
  draw_refused (codes.trace d f b) = answer_fault t s y x0 n a (rw (lt-ltb s.desk 2 d, counts_fit_for t s f, lt-leb s.splines (length s.bits) b))
  draw_refused (codes.row f h) =
      answer_fault t s y x0 n a (rw (lt-ltb s.desk 2 f.desk, counts_fit_for t s f.counts, le-leb s.splines (length s.bits) f.bytes, le-ltb y t.height h))
  draw_refused (codes.span f h o) =
      answer_fault t s y x0 n a (rw (lt-ltb s.desk 2 f.desk, counts_fit_for t s f.counts, le-leb s.splines (length s.bits) f.bytes, lt-ltb y t.height h, span_out x0 n (length a.r0) (length a.r1) (length a.r2) o))
  draw_refused (codes.entries f h w o) =
      answer_fault t s y x0 n a (rw (lt-ltb s.desk 2 f.desk, counts_fit_for t s f.counts, le-leb s.splines (length s.bits) f.bytes, lt-ltb y t.height h, span_fits x0 n (length a.r0) (length a.r1) (length a.r2) w, row_bad_for t s y o))

  pub draw_place : {c : Code} {p : ℕ} → Refusal c p → p ≡ 0
  draw_place (codes.desk d) = refl
  draw_place (codes.counts d o) = refl
  draw_place (codes.trace d f b) = refl
  draw_place (codes.row f h) = refl
  draw_place (codes.span f h o) = refl
  draw_place (codes.entries f h w o) = refl

  module _ {c : Code} {p : ℕ} (e : (draw_of t s y x0 n a).answer ≡ Drawing.Refused c p) where
    -- the line that holds is the line of the code
    draw_which : {k : Code} {q : ℕ} → Refusal k q → Refusal c p
    draw_which {k} {q} l =
        let g : Drawing.Refused k q ≡ Drawing.Refused c p = ap (λ (o : DrawOutcome). o.answer) (draw_refused l) ∙ e in
        let same : ◌≡◌ {A = answer.Refusal} (k, q) (c, p) = cc in
        let u : k ≡ c = ap (λ (r : answer.Refusal). r.0) same in
        let v : q ≡ p = ap (λ (r : answer.Refusal). r.1) same in
        rw (← u, ← v) l

    draw_passed : Lent t s → y < t.height → span_good x0 n (length a.r0) (length a.r1) (length a.r2) ≡ true → row_good_for t s y ≡ true → ⊥
    unfolding draw_of judge_draw
    draw_passed l h w r =
        let f = rw (lt-ltb s.desk 2 l.desk, counts_fit_for t s l.counts, le-leb s.splines (length s.bits) l.bytes, lt-ltb y t.height h, w, r) at e in
        let z : ◌≡◌ {A = ℕ} 0 1 = cc in
        omega arith

    -- a sight that is lent as it should be
    draw_lent : Lent t s → Refusal c p
    draw_lent f =
        ⊎_elim (λ h.
        ⊎_elim (λ w.
        ⊎_elim
        (λ r. absurd (draw_passed f h (span_fits x0 n (length a.r0) (length a.r1) (length a.r2) w) r))
        (λ o. draw_which (codes.entries f h w o))
        (fine_or_bad_for t s y))
        (λ o. draw_which (codes.span f h o))
        (fits_or_out x0 n (length a.r0) (length a.r1) (length a.r2)))
        (λ h. draw_which (codes.row f h))
        (lt_or_ge y t.height)

    draw_line : Refusal c p
    draw_line =
        ⊎_elim (λ d.
        ⊎_elim (λ f.
        ⊎_elim (λ b. draw_which (codes.trace d f b)) (λ b. draw_lent (record { desk = d; counts = f; bytes = b }))
        (lt_or_ge (length s.bits) s.splines))
        (λ o. draw_which (codes.counts d o))
        (fit_or_overrun_for t s))
        (λ d. draw_which (codes.desk d))
        (lt_or_ge s.desk 2)

  -- a code is given exactly when its line of the table says
  pub draw_refused_exactly : (c : Code) (p : ℕ) → ((draw_of t s y x0 n a).answer ≡ Drawing.Refused c p) ↔ Refusal c p
  draw_refused_exactly c p = (λ e. draw_line e, λ l. sym (ap (λ (o : DrawOutcome). o.answer) (draw_refused l)))

-- Assumes nothing.
