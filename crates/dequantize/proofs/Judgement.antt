-- Judging all splines: AREA and COINCIDE exactly when, the first refusal exactly where, and what an accepted description has for every spline.
use Rattle.std.proofs.Common.{◌≡◌, Result, Ok, Err, ℕ, zero, suc, ◌+◌, ◌-◌, ◌<◌, ◌≤◌, Bool, true, false, cond, leb, ◌⊎◌, ◌↔◌, length, sym, refl, ap, ◌∙◌, subst, inl, inr, eq-or-lt_of_le, arith, le-leb, leb-false, leb-true}
use borrow.Author.Tests.{lt-leb}
use Rattle.codes.specs.declared.Code.{Code}
use Rattle.codes.specs.declared.Code.TheVariants.{Area, Coincide}
use Rattle.numbers.specs.Saturating.{sat_add}
use Rattle.estimate.specs.Estimate.{sat_sum}
use Rattle.dequantize.specs.Judge.{Description, start_x, start_y, deltas_of, coefficients_of, answer_of, spline_of, total_of, settle_of, onward, judge_from, judge_of}
use Rattle.dequantize.specs.declared.Given.{Given}
use Rattle.dequantize.specs.declared.Spline.{Spline}
use Rattle.dequantize.specs.Answers.{Settled, Total, Stop, Judged, Fine, Refused}
use Rattle.dequantize.specs.Dequantize.{spline_in}
use Rattle.dequantize.specs.Asked.{SplineAccepted}
use Rattle.dequantize.proofs.Accepted.{accepted_exactly}

-- ---- one spline that was dequantized

module _ (total : ℕ) (s : Spline) (limit : ℕ) where
  -- the sum with its estimate
  abbrev more : ℕ
  more = sat_add total s.estimate

  settled_by : (a b : Bool) (n : ℕ) (t : Settled) → cond a (cond b (Stop Coincide) (Total n)) (Stop Area) ≡ t
      → (t ≡ Stop Area → a ≡ false) × (t ≡ Stop Coincide → (a ≡ true) × (b ≡ true)) × ((m : ℕ) → t ≡ Total m → (a ≡ true) × (b ≡ false) × (n ≡ m))
  settled_by false b n t e = (λ h. refl, λ h. absurd (let z : ◌≡◌ {A = ℕ} 0 1 = cc in omega arith), λ m h. absurd (let z : ◌≡◌ {A = ℕ} 0 1 = cc in omega arith))
  settled_by true true n t e = (λ h. absurd (let z : ◌≡◌ {A = ℕ} 0 1 = cc in omega arith), λ h. (refl, refl), λ m h. absurd (let z : ◌≡◌ {A = ℕ} 0 1 = cc in omega arith))
  settled_by true false n t e = (λ h. absurd (let z : ◌≡◌ {A = ℕ} 0 1 = cc in omega arith), λ h. absurd (let z : ◌≡◌ {A = ℕ} 0 1 = cc in omega arith), λ m h. (refl, refl, cc))

  pub area_exactly : (settle_of total (Ok s) limit ≡ Stop Area) ↔ (limit < sat_add total s.estimate)
  unfolding settle_of
  area_exactly = (λ h. leb-false more limit ((settled_by (leb more limit) s.coincide more _ refl).0 h), λ h. rw (lt-leb more limit h))

  pub coincide_exactly : (settle_of total (Ok s) limit ≡ Stop Coincide) ↔ ((sat_add total s.estimate ≤ limit) × (s.coincide ≡ true))
  unfolding settle_of
  coincide_exactly = (
    λ h. let k = (settled_by (leb more limit) s.coincide more _ refl).1 h in (leb-true more limit k.0, k.1),
    λ k. rw (le-leb more limit k.0, k.1),
  )

  pub total_exactly : (n : ℕ) → (settle_of total (Ok s) limit ≡ Total n) ↔ ((sat_add total s.estimate ≤ limit) × (s.coincide ≡ false) × (sat_add total s.estimate ≡ n))
  unfolding settle_of
  total_exactly n = (
    λ h. let k = (settled_by (leb more limit) s.coincide more _ refl).2 n h in (leb-true more limit k.0, k.1, k.2),
    λ k. rw (le-leb more limit k.0, k.1, k.2),
  )

-- a spline that goes on was not refused
pub settled_done : (total : ℕ) (r : Result Spline Code) (limit n : ℕ) → settle_of total r limit ≡ Total n → r ≡ Ok (spline_in r)
unfolding settle_of
settled_done total (Ok s) limit n h = refl
settled_done total (Err code) limit n h = absurd (let z : ◌≡◌ {A = ℕ} 0 1 = cc in omega arith)

-- ---- all splines

-- the spline k is neither refused nor over the limit nor coinciding
abbrev pub Passes : Description → Given → ℕ → Type 0
Passes d g k = settle_of (total_of d g k) (answer_of d g k) g.limit ≡ Total (total_of d g (suc k))

-- the splines before k pass, and the spline k stops with the code
pub record Refusal (d : Description) (g : Given) (code : Code) (k : ℕ) : Type 0 where
  pub inside : k < length d.counts
  pub before : (i : ℕ) → i < k → Passes d g i
  pub stops : settle_of (total_of d g k) (answer_of d g k) g.limit ≡ Stop code

module _ (d : Description) (g : Given) where
  -- all from k up to but not including e pass
  abbrev Pass : ℕ → ℕ → Type 0
  Pass k e = (i : ℕ) → k ≤ i → i < e → Passes d g i

  total_none : total_of d g 0 ≡ 0
  unfolding total_of sat_sum
  total_none = refl

  pub total_more : (k : ℕ) → total_of d g (suc k) ≡ sat_add (total_of d g k) (spline_of d g k).estimate
  unfolding total_of sat_sum
  total_more k = refl

  passes : (k n : ℕ) → settle_of (total_of d g k) (answer_of d g k) g.limit ≡ Total n → n ≡ total_of d g (suc k)
  unfolding spline_of
  passes k n h =
      let e = (total_exactly (total_of d g k) (spline_in (answer_of d g k)) g.limit n).0 (rw (settled_done (total_of d g k) (answer_of d g k) g.limit n h) at h) in
      sym e.2 ∙ sym (total_more k)

  one_more : (k e : ℕ) → Passes d g k → Pass (suc k) e → Pass k e
  one_more k e p rest i a b = go (eq-or-lt_of_le a)
    where
      go : (k ≡ i) ⊎ (k < i) → Passes d g i
      go (inl q) = subst (λ (j : ℕ). Passes d g j) q p
      go (inr l) = rest i (omega arith) b

  -- where the first n splines from k on pass, the others decide
  skip : (n m k : ℕ) → Pass k (k + n) → judge_from d g (n + m) k (total_of d g k) ≡ judge_from d g m (k + n) (total_of d g (k + n))
  unfolding judge_from
  skip zero m k p = let e : k + 0 ≡ k = omega arith in let z : 0 + m ≡ m = omega arith in rw (e, z)
  skip (suc n) m k p =
      let e : suc n + m ≡ suc (n + m) = omega arith in
      let q : k + suc n ≡ suc k + n = omega arith in
      rw (e, p k (omega arith) (omega arith), q) (skip n m (suc k) (λ i a b. p i (omega arith) (omega arith)))

  -- ---- Fine

  fine_at : (n k t : ℕ) → (judge_from d g n (suc k) (total_of d g (suc k)) ≡ Fine t → Pass (suc k) (suc k + n) × (total_of d g (suc k + n) ≡ t))
      → (q : Settled) → settle_of (total_of d g k) (answer_of d g k) g.limit ≡ q → onward q k (λ u. judge_from d g n (suc k) u) ≡ Fine t
      → Pass k (k + suc n) × (total_of d g (k + suc n) ≡ t)
  fine_at n k t rest (Stop code) e h = absurd (let z : ◌≡◌ {A = ℕ} 0 1 = cc in omega arith)
  fine_at n k t rest (Total u) e h =
      let w : u ≡ total_of d g (suc k) = passes k u e in
      let r = rest (rw w at h) in
      let q : k + suc n ≡ suc k + n = omega arith in
      rw q (one_more k (suc k + n) (e ∙ ap Total w) r.0, r.1)

  fine_from : (n k t : ℕ) → judge_from d g n k (total_of d g k) ≡ Fine t → Pass k (k + n) × (total_of d g (k + n) ≡ t)
  unfolding judge_from
  fine_from zero k t h =
      let e : k + 0 ≡ k = omega arith in
      let w : total_of d g k ≡ t = cc in
      (λ i a b. absurd (omega arith), rw e w)
  fine_from (suc n) k t h = fine_at n k t (fine_from n (suc k) t) (settle_of (total_of d g k) (answer_of d g k) g.limit) refl h

  -- all pass, and the answer is the sum of all estimates
  pub fine_exactly : (t : ℕ) → (judge_of d g ≡ Fine t) ↔ (((i : ℕ) → i < length d.counts → Passes d g i) × (total_of d g (length d.counts) ≡ t))
  unfolding judge_of judge_from
  fine_exactly t = (
    λ h. let r = fine_from (length d.counts) 0 t (rw total_none h) in (λ i b. r.0 i (omega arith) (omega arith), rw (zero_left (length d.counts)) at r.1),
    λ k. back k.0 k.1,
  )
    where
      zero_left : (n : ℕ) → 0 + n ≡ n
      zero_left n = omega arith

      back : ((i : ℕ) → i < length d.counts → Passes d g i) → total_of d g (length d.counts) ≡ t → judge_from d g (length d.counts) 0 0 ≡ Fine t
      back p e =
          let n = length d.counts in
          let z : n + 0 ≡ n = omega arith in
          let s = skip n 0 0 (λ i a b. p i (omega arith)) in
          rw (z, total_none, zero_left n, e) at s

  -- ---- Refused

  -- of the n splines from k on the spline j is the first that stops
  abbrev Stops : ℕ → ℕ → Code → ℕ → Type 0
  Stops n k code j = (k ≤ j) × (j < k + n) × Pass k j × (settle_of (total_of d g j) (answer_of d g j) g.limit ≡ Stop code)

  refused_at : (n k : ℕ) (code : Code) (j : ℕ) → (judge_from d g n (suc k) (total_of d g (suc k)) ≡ Refused code j → Stops n (suc k) code j)
      → (q : Settled) → settle_of (total_of d g k) (answer_of d g k) g.limit ≡ q → onward q k (λ u. judge_from d g n (suc k) u) ≡ Refused code j → Stops (suc n) k code j
  refused_at n k code j rest (Stop other) e h =
      let p : ◌≡◌ {A = Code × ℕ} (other, k) (code, j) = cc in
      let w : k ≡ j = ap (λ (r : Code × ℕ). r.1) p in
      let v : other ≡ code = ap (λ (r : Code × ℕ). r.0) p in
      (omega arith, omega arith, λ i a b. absurd (omega arith), subst (λ (i : ℕ). settle_of (total_of d g i) (answer_of d g i) g.limit ≡ Stop code) w (e ∙ ap Stop v))
  refused_at n k code j rest (Total u) e h =
      let w : u ≡ total_of d g (suc k) = passes k u e in
      let r = rest (rw w at h) in
      (omega (arith, r.0), omega (arith, r.1), one_more k j (e ∙ ap Total w) r.2, r.3)

  refused_from : (n k : ℕ) (code : Code) (j : ℕ) → judge_from d g n k (total_of d g k) ≡ Refused code j → Stops n k code j
  unfolding judge_from
  refused_from zero k code j h = absurd (let z : ◌≡◌ {A = ℕ} 0 1 = cc in omega arith)
  refused_from (suc n) k code j h = refused_at n k code j (refused_from n (suc k) code j) (settle_of (total_of d g k) (answer_of d g k) g.limit) refl h

  pub refused_exactly : (code : Code) (k : ℕ) → (judge_of d g ≡ Refused code k) ↔ Refusal d g code k
  unfolding judge_of judge_from
  refused_exactly code k = (
    λ h. let r = refused_from (length d.counts) 0 code k (rw total_none h) in
        record { inside = omega (arith, r.1); before = λ i b. r.2 i (omega arith) b; stops = r.3 },
    λ r. back r.inside r.before r.stops,
  )
    where
      back : k < length d.counts → ((i : ℕ) → i < k → Passes d g i) → settle_of (total_of d g k) (answer_of d g k) g.limit ≡ Stop code → judge_from d g (length d.counts) 0 0 ≡ Refused code k
      back h p e =
          let m = length d.counts - suc k in
          let n : k + suc m ≡ length d.counts = omega arith in
          let z : 0 + k ≡ k = omega arith in
          let s = skip k (suc m) 0 (λ i a b. p i (omega arith)) in
          rw (n, total_none, z) at s ∙ rw e

  -- ---- what the build may rest on

  -- every spline of an accepted description was accepted
  pub fine_accepted : (t : ℕ) → judge_of d g ≡ Fine t → (k : ℕ) → k < length d.counts → SplineAccepted (start_x d k) (start_y d k) (deltas_of d k) (coefficients_of d k) g
  fine_accepted t h k b =
      let p = ((fine_exactly t).0 h).0 k b in
      (accepted_exactly (start_x d k) (start_y d k) (deltas_of d k) (coefficients_of d k) g).0 (settled_done (total_of d g k) (answer_of d g k) g.limit (total_of d g (suc k)) p)

  -- any two outcomes of the contract are equal
  pub judge_one_outcome : (r s : Judged) → r ≡ judge_of d g → s ≡ judge_of d g → r ≡ s
  judge_one_outcome r s p q = p ∙ sym q

-- Assumes nothing.
