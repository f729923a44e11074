-- What the checks of a spline, of the splines, and of a description say.
use mathlib.Core.Path.{◌≡◌, refl, sym, ap, ◌∙◌}
use mathlib.Core.Bool.{Bool, true, false, true≢false}
use mathlib.Core.List.{List}
use mathlib.Core.Logic.{◌⊎◌, inl, inr}
use Prim.Native.Nat.{ℕ, zero, suc, ◌+◌, ◌*◌, ◌≤◌, ◌<◌}
use native.Mathlib.Nat.{zero-add}
use native.Mathlib.Omega.{arith}
use lib.Dec.{leb}
use lib.IntN.{ℤ, pos}
use lib.ListN.{length, get_or, drop, drop_of_length-le}
use lib.Seq.{drop-cons}
use borrow.Author.Tests.{leb-true, leb-false}
use Rattle.dequantize.specs.Judge.{Description}
use Rattle.editions.specs.declared.Limits.{Limits}
use Rattle.profile_rules.specs.declared.Rule.{Rule}
use Rattle.profile_rules.specs.Checked.{Checked}
use Rattle.profile_rules.specs.Checked as found
use Rattle.profile.specs.Profile.{kept, first_broken, counted, within, zero_from, check_deltas, check_sigma, check_colour, check_spline, check_splines, check_rules}
use Rattle.profile_laws.specs.Rules.{Rule1, Rule3, SplineMeets, MeetsRules, SplineBreaks, second, fourth, fifth, sixth, FirstBroken, first, third, spline}
use Rattle.profile_laws.proofs.Tests.{failed, fails, rule1, rule2, rule3, rule4, rule5, colours_hold, x_zero, b_zero}

same_or_later : (k j : ℕ) → k ≤ j → (j ≡ k) ⊎ (suc k ≤ j)
same_or_later k j h = go (leb (suc k) j) refl
  where
    go : (t : Bool) → leb (suc k) j ≡ t → (j ≡ k) ⊎ (suc k ≤ j)
    go true e = inr (leb-true (suc k) j e)
    go false e = let m : j < suc k = leb-false (suc k) j e in inl (omega arith)

module _ (l : Limits) (d : Description) (a : ℤ) where
  abbrev count : ℕ
  count = length d.counts

  abbrev cs : List ℤ
  cs = d.coefficients

  -- ---- a spline

  abbrev at : ℕ → Checked
  at k = check_spline l (get_or d.counts k 0) d.coefficients k

  data SplineFinds (k : ℕ) : Checked → Type 0 where
    keeps : SplineMeets l d a k → SplineFinds k found.Kept
    breaks : {rule : Rule} → SplineBreaks l d a k rule → SplineFinds k (found.Broken rule k)

  spline_finds : (k : ℕ) → SplineFinds k (at k)
  unfolding check_spline check_deltas check_sigma check_colour
  spline_finds k =
      go (counted l.deltas (get_or d.counts k 0)) refl (zero_from cs (128 * k + 97) 31) refl (within (pos 1) l.sigma (get_or cs (128 * k + 96) (pos 0))) refl
      (zero_from cs (128 * k) 32) refl (zero_from cs (128 * k + 64) 32) refl
    where
      go : (t : Bool) → counted l.deltas (get_or d.counts k 0) ≡ t → (u : Bool) → zero_from cs (128 * k + 97) 31 ≡ u
          → (v : Bool) → within (pos 1) l.sigma (get_or cs (128 * k + 96) (pos 0)) ≡ v
          → (x : Bool) → zero_from cs (128 * k) 32 ≡ x → (b : Bool) → zero_from cs (128 * k + 64) 32 ≡ b
          → SplineFinds k (first_broken (kept t Rule.Deltas k) (first_broken (first_broken (kept u Rule.SigmaTail k) (kept v Rule.FirstSigma k)) (first_broken (kept x Rule.Colour k) (kept b Rule.Colour k))))
      go false p u q v r x s b w = breaks (second (failed (rule2 l d a k) p))
      go true p false q v r x s b w = breaks (fourth ((rule2 l d a k).passed p) (failed (rule4 l d a k) q))
      go true p true q false r x s b w = breaks (fifth ((rule2 l d a k).passed p) ((rule4 l d a k).passed q) (failed (rule5 l d a k) r))
      go true p true q true r false s b w =
          breaks (sixth ((rule2 l d a k).passed p) ((rule4 l d a k).passed q) ((rule5 l d a k).passed r) (λ f. true≢false (sym (x_zero l d a k f) ∙ s)))
      go true p true q true r true s false w =
          breaks (sixth ((rule2 l d a k).passed p) ((rule4 l d a k).passed q) ((rule5 l d a k).passed r) (λ f. true≢false (sym (b_zero l d a k f) ∙ w)))
      go true p true q true r true s true w = keeps (record {
        deltas = (rule2 l d a k).passed p;
        later = (rule4 l d a k).passed q;
        first = (rule5 l d a k).passed r;
        colours = colours_hold l d a k s w;
      })

  spline_kept : (k : ℕ) → SplineMeets l d a k → at k ≡ found.Kept
  unfolding check_spline check_deltas check_sigma check_colour
  spline_kept k m =
      rw ((rule2 l d a k).passes m.deltas, (rule4 l d a k).passes m.later, (rule5 l d a k).passes m.first, x_zero l d a k m.colours, b_zero l d a k m.colours)

  spline_broken : (k : ℕ) (rule : Rule) → SplineBreaks l d a k rule → at k ≡ found.Broken rule k
  unfolding check_spline check_deltas check_sigma check_colour
  spline_broken k _ (second n) = rw (fails (rule2 l d a k) n)
  spline_broken k _ (fourth p n) = rw ((rule2 l d a k).passes p, fails (rule4 l d a k) n)
  spline_broken k _ (fifth p q n) = rw ((rule2 l d a k).passes p, (rule4 l d a k).passes q, fails (rule5 l d a k) n)
  spline_broken k _ (sixth p q r n) =
      rw ((rule2 l d a k).passes p, (rule4 l d a k).passes q, (rule5 l d a k).passes r)
      (go (zero_from d.coefficients (128 * k) 32) refl (zero_from d.coefficients (128 * k + 64) 32) refl)
    where
      go : (x : Bool) → zero_from d.coefficients (128 * k) 32 ≡ x → (b : Bool) → zero_from d.coefficients (128 * k + 64) 32 ≡ b
          → first_broken (kept x Rule.Colour k) (kept b Rule.Colour k) ≡ found.Broken Rule.Colour k
      go false s b w = refl
      go true s false w = refl
      go true s true w = absurd (n (colours_hold l d a k s w))

  -- ---- the splines from k on

  abbrev from : ℕ → Checked
  from k = check_splines l (drop k d.counts) d.coefficients k

  data FindsFrom (k : ℕ) : Checked → Type 0 where
    keep : ((j : ℕ) → k ≤ j → j < count → SplineMeets l d a j) → FindsFrom k found.Kept
    break : {rule : Rule} {j : ℕ} → k ≤ j → j < count → ((m : ℕ) → k ≤ m → m < j → SplineMeets l d a m) → SplineBreaks l d a j rule → FindsFrom k (found.Broken rule j)

  from_turn : (k : ℕ) → k < count → from k ≡ first_broken (at k) (from (suc k))
  unfolding check_splines
  from_turn k h = rw (drop-cons d.counts k 0 h)

  from_end : (k : ℕ) → count ≤ k → from k ≡ found.Kept
  unfolding check_splines
  from_end k h = rw (drop_of_length-le d.counts h)

  -- the spline k, then those after it
  begins : (k : ℕ) → SplineMeets l d a k → (j : ℕ) → k ≤ j → (suc k ≤ j → SplineMeets l d a j) → SplineMeets l d a j
  begins k m j p f = go (same_or_later k j p)
    where
      go : (j ≡ k) ⊎ (suc k ≤ j) → SplineMeets l d a j
      go (inl e) = rw e m
      go (inr q) = f q

  join : (k : ℕ) → k < count → {x y : Checked} → SplineFinds k x → FindsFrom (suc k) y → FindsFrom k (first_broken x y)
  join k h (keeps m) (keep f) = keep (λ j p q. begins k m j p (λ s. f j s q))
  join k h (keeps m) (break {rule = rule} {j = j} p q f b) = break {j = j} (omega arith) q (λ n s t. begins k m n s (λ u. f n u t)) b
  join k h (breaks b) y = break {j = k} (omega arith) h (λ m p q. absurd (omega arith)) b

  finds_from : (n k : ℕ) → k + n ≡ count → FindsFrom k (from k)
  finds_from zero k e = rw (from_end k (omega arith)) (keep (λ j p q. absurd (omega arith)))
  finds_from (suc n) k e = rw (from_turn k (omega arith)) (join k (omega arith) (spline_finds k) (finds_from n (suc k) (omega arith)))

  -- splines that meet their rules are passed by
  skips : (n k : ℕ) → k + n ≤ count → ((j : ℕ) → k ≤ j → j < k + n → SplineMeets l d a j) → from k ≡ from (k + n)
  skips zero k h f = let e : k + 0 ≡ k = omega arith in rw e
  skips (suc n) k h f =
      let e : k + suc n ≡ suc k + n = omega arith in
      rw e
      (from_turn k (omega arith) ∙ ap (λ (x : Checked). first_broken x (from (suc k))) (spline_kept k (f k (omega arith) (omega arith)))
      ∙ skips n (suc k) (omega arith) (λ j p q. f j (omega arith) (omega arith)))

  -- ---- a description

  pub data RulesFind : Checked → Type 0 where
    all_kept : MeetsRules l d a → RulesFind found.Kept
    one_broken : {rule : Rule} {k : ℕ} → FirstBroken l d a rule k → RulesFind (found.Broken rule k)

  pub rules_find : RulesFind (check_rules l d.counts d.coefficients a)
  unfolding check_rules
  rules_find = go (counted 4096 count) refl (within l.least l.greatest a) refl (finds_from count 0 (omega arith))
    where
      go : (t : Bool) → counted 4096 count ≡ t → (u : Bool) → within l.least l.greatest a ≡ u → {x : Checked} → FindsFrom 0 x → RulesFind (first_broken (kept t Rule.Splines 0) (first_broken (kept u Rule.Adjustment 0) x))
      go false p u q x = one_broken (first (failed (rule1 l d a) p))
      go true p false q x = one_broken (third ((rule1 l d a).passed p) (failed (rule3 l d a) q))
      go true p true q (keep f) = all_kept (record { splines = (rule1 l d a).passed p; adjusted = (rule3 l d a).passed q; each = λ k h. f k (omega arith) h })
      go true p true q (break z h f b) = one_broken (spline ((rule1 l d a).passed p) ((rule3 l d a).passed q) h (λ j w. f j (omega arith) w) b)

  -- both rules of the whole description are kept
  pub whole_kept : Rule1 l d a → Rule3 l d a → check_rules l d.counts d.coefficients a ≡ from 0
  unfolding check_rules
  whole_kept p q = rw ((rule1 l d a).passes p, (rule3 l d a).passes q)

  pub meets_checked : MeetsRules l d a → check_rules l d.counts d.coefficients a ≡ found.Kept
  meets_checked m =
      whole_kept m.splines m.adjusted ∙ skips count 0 (omega arith) (λ j p q. m.each j (omega arith)) ∙ from_end (0 + count) (omega arith)

  pub breaks_checked : (rule : Rule) (k : ℕ) → FirstBroken l d a rule k → check_rules l d.counts d.coefficients a ≡ found.Broken rule k
  unfolding check_rules
  breaks_checked _ _ (first n) = rw (fails (rule1 l d a) n)
  breaks_checked _ _ (third p n) = rw ((rule1 l d a).passes p, fails (rule3 l d a) n)
  breaks_checked rule k (spline p q h f b) =
      whole_kept p q ∙ skips k 0 (omega arith) (λ j y z. f j (omega arith)) ∙ ap (λ (m : ℕ). from m) (zero-add k) ∙ from_turn k h
      ∙ ap (λ (x : Checked). first_broken x (from (suc k))) (spline_broken k rule b)

-- Assumes nothing.
