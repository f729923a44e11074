-- Reach refuses exactly when its table of codes says: a line of the table gives its code, and where no line holds every check passes.
use mathlib.Core.Path.{◌≡◌, refl, sym, ap, ◌∙◌}
use mathlib.Core.Bool.{true}
use mathlib.Core.Logic.{⊎_elim, ◌↔◌}
use Prim.Native.Nat.{ℕ, ◌^◌, ◌<◌, ◌≤◌}
use native.Mathlib.Omega.{arith}
use lib.ListN.{length}
use borrow.Author.Tests.{lt-ltb, le-ltb, le-leb, lt-leb}
use Rattle.codes.specs.declared.Code.{Code}
use Rattle.codes.proofs.Refusals.{same_refusal}
use Rattle.shade.proofs.Edits.{lt_or_ge}
use Rattle.desks.specs.Desks.{Sight}
use Rattle.checks.specs.Tables.{Table}
use Rattle.checks.specs.Checks.{row_good_for}
use Rattle.checks.specs.Refusals.{Lent}
use Rattle.checks.proofs.Refusals.{counts_fit_for, counts_overrun_for, fit_or_overrun_for, row_bad_for, fine_or_bad_for}
use Rattle.hull.specs.Reach.{judge_reach_of, ReachOutcome, tells, reach_of}
use Rattle.hull.specs.Refusals.{ReachRefusal}
use Rattle.hull.specs.Refusals as codes
use Rattle.hull.specs.ReachAnswer.{ReachAnswer}
use Rattle.hull.specs.ReachAnswer as Reaching
use Rattle.hull.proofs.Reaches.{reach_fault}

module _ (t : Table) (s : Sight) (y W : ℕ) where
  pub reach_refused : {c : Code} {p : ℕ} → ReachRefusal t s y W c p → tells (Reaching.Refused c p) ≡ reach_of t s y W
  unfolding judge_reach_of
  reach_refused (codes.desk d) = reach_fault t s y W (rw (le-ltb s.desk 2 d))
  reach_refused (codes.size d w) = reach_fault t s y W (rw (lt-ltb s.desk 2 d, lt-leb W (2 ^ 23) w))
  reach_refused (codes.counts d w o) = reach_fault t s y W (rw (lt-ltb s.desk 2 d, le-leb W (2 ^ 23) w, counts_overrun_for t s o))
  reach_refused (codes.trace d w f b) = reach_fault t s y W (rw (lt-ltb s.desk 2 d, le-leb W (2 ^ 23) w, counts_fit_for t s f, lt-leb s.splines (length s.bits) b))
  reach_refused (codes.row w f h) = reach_fault t s y W (rw (lt-ltb s.desk 2 f.desk, le-leb W (2 ^ 23) w, counts_fit_for t s f.counts, le-leb s.splines (length s.bits) f.bytes, le-ltb y t.height h))
  reach_refused (codes.entries w f h o) = reach_fault t s y W (rw (lt-ltb s.desk 2 f.desk, le-leb W (2 ^ 23) w, counts_fit_for t s f.counts, le-leb s.splines (length s.bits) f.bytes, lt-ltb y t.height h, row_bad_for t s y o))

  pub reach_place : {c : Code} {p : ℕ} → ReachRefusal t s y W c p → p ≡ 0
  reach_place (codes.desk d) = refl
  reach_place (codes.size d w) = refl
  reach_place (codes.counts d w o) = refl
  reach_place (codes.trace d w f b) = refl
  reach_place (codes.row w f h) = refl
  reach_place (codes.entries w f h o) = refl

  module _ {c : Code} {p : ℕ} (e : (reach_of t s y W).answer ≡ Reaching.Refused c p) where
    reach_which : {k : Code} {q : ℕ} → ReachRefusal t s y W k q → ReachRefusal t s y W c p
    reach_which {k} {q} l =
        let g : ◌≡◌ {A = ReachAnswer} (Reaching.Refused k q) (Reaching.Refused c p) = ap (λ (o : ReachOutcome). o.answer) (reach_refused l) ∙ e in
        let u : k ≡ c = (same_refusal g).0 in
        let v : q ≡ p = (same_refusal g).1 in
        rw (← u, ← v) l

    reach_passed : W ≤ 2 ^ 23 → Lent t s → y < t.height → row_good_for t s y ≡ true → ⊥
    unfolding reach_of judge_reach_of
    reach_passed w f h r =
        let g = rw (lt-ltb s.desk 2 f.desk, le-leb W (2 ^ 23) w, counts_fit_for t s f.counts, le-leb s.splines (length s.bits) f.bytes, lt-ltb y t.height h, r) at e in
        let z : ◌≡◌ {A = ℕ} 0 1 = cc in
        omega arith

    -- a sight that is lent as it should be
    reach_lent : W ≤ 2 ^ 23 → Lent t s → ReachRefusal t s y W c p
    reach_lent w f =
        ⊎_elim (λ h.
        ⊎_elim (λ r. absurd (reach_passed w f h r)) (λ o. reach_which (codes.entries w f h o)) (fine_or_bad_for t s y))
        (λ h. reach_which (codes.row w f h))
        (lt_or_ge y t.height)

    reach_line : ReachRefusal t s y W c p
    reach_line =
        ⊎_elim (λ d.
        ⊎_elim (λ w. reach_which (codes.size d w)) (λ w.
        ⊎_elim (λ f.
        ⊎_elim (λ b. reach_which (codes.trace d w f b)) (λ b. reach_lent w (record { desk = d; counts = f; bytes = b }))
        (lt_or_ge (length s.bits) s.splines))
        (λ o. reach_which (codes.counts d w o))
        (fit_or_overrun_for t s))
        (lt_or_ge (2 ^ 23) W))
        (λ d. reach_which (codes.desk d))
        (lt_or_ge s.desk 2)

  pub reach_refused_exactly : (c : Code) (p : ℕ) → ((reach_of t s y W).answer ≡ Reaching.Refused c p) ↔ ReachRefusal t s y W c p
  reach_refused_exactly c p = (λ e. reach_line e, λ l. sym (ap (λ (o : ReachOutcome). o.answer) (reach_refused l)))

-- Assumes nothing.
