-- A run over the splines: k of them are judged, at numbers of the double deltas are used, total is the sum, and what is left gives what the whole gives.
use Rattle.std.proofs.Common.{◌≡◌, Result, ℕ, zero, suc, ◌+◌, ◌-◌, ◌*◌, ◌<◌, ◌≤◌, List, [], ◌∷◌, length, get_or, take, drop, sym, refl, ◌∙◌, add-one, arith}
use lib.Ieee.{nan}
use Rattle.codes.specs.declared.Code.{Code}
use Rattle.shape.specs.Shape.{points_of}
use Rattle.dequantize.specs.Dequantize.{dequantize_of}
use Rattle.dequantize.specs.Judge.{Description, Shaped, start_x, start_y, deltas_at, deltas_of, coefficients_of, answer_of, settle_of, judge_from, judge_of}
use Rattle.dequantize.specs.declared.Given.{Given}
use Rattle.dequantize.specs.declared.Spline.{Spline}
use Rattle.dequantize.specs.Answers.{Settled, Total, Stop, Judged, Fine, Refused}
use mathlib.Core.Path.{ap}
use mathlib.Core.Bool.{true}
use Rattle.std.specs.Prelude.{Ok, Err, is_ok, MatchResult}
use Rattle.codes.specs.Refusal.{Refusal}

-- ---- sums of counts

sum_more : (ns : List ℕ) (k : ℕ) → k < length ns → points_of (take (suc k) ns) ≡ points_of (take k ns) + get_or ns k 0
sum_more [] k h = absurd (omega arith)
sum_more (n ∷ ns) zero h = omega arith
sum_more (n ∷ ns) (suc k) h = omega (arith, sum_more ns k (omega arith))

sum_part : (ns : List ℕ) (k : ℕ) → points_of (take k ns) ≤ points_of ns
sum_part ns zero = omega arith
sum_part [] (suc k) = omega arith
sum_part (n ∷ ns) (suc k) = omega (arith, sum_part ns k)

module _ (d : Description) (k : ℕ) (h : k < length d.counts) where
  pub deltas_more : deltas_at d (k + 1) ≡ deltas_at d k + 2 * get_or d.counts k 0
  unfolding deltas_at
  deltas_more = rw (add-one k) (omega (arith, sum_more d.counts k h))

  -- the double deltas of the spline k are all there
  pub deltas_fit : Shaped d → deltas_at d k + 2 * get_or d.counts k 0 ≤ length d.deltas
  unfolding deltas_at
  deltas_fit s = omega (arith, sum_more d.counts k h, sum_part d.counts (suc k), s.deltas)

-- ---- the run

pub record Under (d : Description) (g : Given) (k at total : ℕ) : Type 0 where
  pub used : at ≡ deltas_at d k
  pub left : judge_of d g ≡ judge_from d g (length d.counts - k) k total

pub under_none : (d : Description) (g : Given) → Under d g 0 0 0
unfolding judge_of deltas_at
under_none d g = let e : length d.counts - 0 ≡ length d.counts = omega arith in record { used = refl; left = rw e }

module _ (d : Description) (g : Given) (k at total : ℕ) (u : Under d g k at total) where
  pub under_all : length d.counts ≤ k → Fine total ≡ judge_of d g
  unfolding judge_from
  under_all h = let e : length d.counts - k ≡ 0 = omega arith in sym (u.left ∙ rw e)

  module _ (h : k < length d.counts) {n : ℕ} (w : n ≡ get_or d.counts k 0) where
    pub under_fits : Shaped d → at + 2 * n ≤ length d.deltas
    under_fits s = omega (arith, deltas_fit d k h s, u.used)

    one_left : length d.counts - k ≡ suc (length d.counts - suc k)
    one_left = omega arith

    -- the spline that the code judged
    module _ {s : Result Spline Code} (e : s ≡ dequantize_of (get_or d.starts (2 * k) nan) (get_or d.starts (2 * k + 1) nan) (take (at + 2 * n - at) (drop at d.deltas)) (take 128 (drop (128 * k) d.coefficients)) g) where
      answer_is : s ≡ answer_of d g k
      unfolding start_x start_y deltas_of coefficients_of
      answer_is = let r : at + 2 * n - at ≡ 2 * n = omega arith in rw (r, w, u.used) at e

      module _ {t : Settled} (q : t ≡ settle_of total s g.limit) where
        pub under_stop : {code : Code} → t ≡ Stop code → Refused code k ≡ judge_of d g
        unfolding judge_from
        under_stop z = sym (u.left ∙ rw (one_left, ← answer_is, ← q, z))

        pub under_more : {more : ℕ} → t ≡ Total more → Under d g (k + 1) (at + 2 * n) more
        unfolding judge_from
        under_more z = record {
          used = rw (w, u.used) (sym (deltas_more d k h));
          left = u.left ∙ rw (one_left, ← answer_is, ← q, z, add-one k);
        }

        -- a refusal gets its spline's number, and a sum is kept
        pub under_err : (e : Refusal) → MatchResult t (λ y. ◌≡◌ {A = Judged} (Err e) (Ok y)) (λ code. e ≡ (code, k)) → ◌≡◌ {A = Judged} (Err e) (judge_of d g)
        under_err e = go t refl
          where
            go : (v : Settled) → t ≡ v → MatchResult v (λ y. ◌≡◌ {A = Judged} (Err e) (Ok y)) (λ code. e ≡ (code, k)) → ◌≡◌ {A = Judged} (Err e) (judge_of d g)
            go (Total n) z h = cc h
            go (Stop code) z h = ap Err h ∙ under_stop z

        pub under_ok : {more : ℕ} (P : Code → Type 0) → MatchResult t (λ y. ◌≡◌ {A = Judged} (Ok more) (Ok y)) P → true ≡ is_ok t → Under d g (k + 1) (at + 2 * n) more
        under_ok {more} P m v = under_more (kept t m v)
          where
            kept : (r : Settled) → MatchResult r (λ y. ◌≡◌ {A = Judged} (Ok more) (Ok y)) P → true ≡ is_ok r → r ≡ Total more
            kept (Total n) m v = cc
            kept (Stop code) m v = cc

-- Assumes nothing.
