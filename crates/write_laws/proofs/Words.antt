-- `write` refuses with a code at a place exactly when the table of codes gives it, and writes exactly when nothing is given: each test of the checks stands for its words, both ways.
use mathlib.Core.Path.{◌≡◌, refl, sym, ap, subst, ◌∙◌}
use mathlib.Core.Bool.{Bool, true, false, ◌||◌, ◌&&◌, not}
use mathlib.Core.List.{List, [], ◌∷◌, ◌++◌}
use mathlib.Core.Logic.{◌↔◌, ◌⊎◌, inl, inr}
use Prim.Native.Nat.{ℕ, zero, suc, ◌+◌, ◌*◌, ◌%◌, ◌^◌, ◌≤◌, ◌<◌}
use native.Mathlib.Nat.{mul-pos}
use native.Mathlib.Omega.{arith}
use lib.Dec.{T, eqb, ltb, leb, eqb-suc-zero}
use lib.ListN.{length, take, get_or}
use lib.Seq.{take_all}
use lib.IntN.{ℤ, pos, nat_abs}
use lib.Ieee.{Float, nan, inf, fin, binary32, of_bits, lt, up, down}
use lib.Ieee.Fits.{up_pos}
use borrow.Author.Tests.{lt-ltb, le-leb, leb-true, ltb-true, eqb-true, eqb-false, ne_eqb}
use Rattle.codes.specs.declared.Code.{Code}
use Rattle.codes.specs.declared.Code.TheVariants.{Room}
use Rattle.shape.specs.Shape.{points_of, Shaped}
use Rattle.list.specs.List.{delta_limit, beyond, limit_of, Tame}
use Rattle.writer.specs.Write.{check, first_fault, content_checks, misshapen, miscounted, unfit, unfit_as, values_of, WriteOutcome, outcome, write_of}
use Rattle.write_judge.specs.Verdict.{Verdict}
use Rattle.write_judge.specs.Verdict.{Fine, Fault}
use Rattle.write_judge.proofs.Checks.{agree, agreed, none_counted, many_counted, well_counted, counted}
use Rattle.write_judge.proofs.Starts.{unfit_any}
use Rattle.write_steps.proofs.Stores.{list_length}
use Rattle.write_laws.specs.Refusals.{Unfit, no_number, infinite, far, not_whole, minus_zero, negative_first, UnfitPair, WildPair, NoneOf, points_before, count_place, list_size, Started, WriteRefusal, WriteAccepted, WriteRefused}
use Rattle.write_laws.specs.Refusals as words
use Rattle.write_laws.proofs.Table.{unfit_pair, FitPairs, wild_pair, SplineRefusal, Refusing, Passed}
use Rattle.write_laws.proofs.Table as tests
use Rattle.write_laws.proofs.When.{refused_by_tests, done_by_tests}
use Rattle.codes.proofs.Refusals.{same_refusal}
use Rattle.writer.specs.WriteAnswer.{Done, Refused}

-- ---- a test and the words that it stands for

clash : {X : Type 0} {b : Bool} → b ≡ true → b ≡ false → X
clash p q = absurd (subst T (sym p ∙ q) tt)

holds : {P : Type 0} (b : Bool) → (b ≡ false → P) → (P → ⊥) → b ≡ true
holds true f n = refl
holds false f n = absurd (n (f refl))

fails : {P : Type 0} (b : Bool) → (b ≡ true → P) → (P → ⊥) → b ≡ false
fails true f n = absurd (n (f refl))
fails false f n = refl

-- one of two tests
either : (a b : Bool) → (a || b) ≡ true → (a ≡ true) ⊎ (b ≡ true)
either true b e = inl refl
either false b e = inr e

or_first : {a : Bool} (b : Bool) → a ≡ true → (a || b) ≡ true
or_first b e = rw e

or_last : (a : Bool) {b : Bool} → b ≡ true → (a || b) ≡ true
or_last true e = refl
or_last false e = e

-- ---- lengths and counts

module _ {ns : List ℕ} {ss : List Float} {ds cs : List ℤ} where
  shaped_to : misshapen ns ss ds cs ≡ false → Shaped ns ss ds cs
  shaped_to e = let h = agreed ns ss ds cs e in record { starts = h.0; deltas = h.1; coefficients = h.2 }

  shaped_from : Shaped ns ss ds cs → misshapen ns ss ds cs ≡ false
  shaped_from s = sym (agree ns ss ds cs s.starts s.deltas s.coefficients)

miscounted_to : (limit s : ℕ) → miscounted limit s ≡ true → (s ≡ 0) ⊎ (limit < s)
unfolding miscounted
miscounted_to limit s e = go (either (eqb s 0) (ltb limit s) e)
  where
    go : (eqb s 0 ≡ true) ⊎ (ltb limit s ≡ true) → (s ≡ 0) ⊎ (limit < s)
    go (inl p) = inl (eqb-true s 0 p)
    go (inr p) = inr (ltb-true limit s p)

miscounted_from : (limit s : ℕ) → (s ≡ 0) ⊎ (limit < s) → miscounted limit s ≡ true
miscounted_from limit s (inl p) = none_counted limit s p
miscounted_from limit s (inr p) = many_counted limit s (λ z. omega arith) p

-- ---- starts

minus_to : (first s : Bool) (m : ℕ) (e : ℤ) → (s && eqb m 0) ≡ true → Unfit first (fin s m e)
minus_to first true zero e w = minus_zero
minus_to first true (suc m) e w = clash w (eqb-suc-zero m)
minus_to first false m e w = absurd (subst T (sym w) tt)

unfit_to : (first : Bool) (x : Float) → unfit x ≡ true → Unfit first x
unfolding unfit
unfit_to first nan u = no_number
unfit_to first (inf s) u = infinite
unfit_to first (fin s m e) u = go (leb (2 ^ 23 * down e) (m * up e)) refl (eqb (m * up e % down e) 0) refl u
  where
    go : (a : Bool) → leb (2 ^ 23 * down e) (m * up e) ≡ a → (b : Bool) → eqb (m * up e % down e) 0 ≡ b → (a || (not b || (s && eqb m 0))) ≡ true → Unfit first (fin s m e)
    go true p b q w = far (leb-true (2 ^ 23 * down e) (m * up e) p)
    go false p false q w = not_whole (eqb-false (m * up e % down e) 0 q)
    go false p true q w = minus_to first s m e w

below_to : (x : Float) → lt x (of_bits binary32 0) ≡ true → Unfit true x
unfolding lt of_bits
below_to nan w = no_number
below_to (inf s) w = infinite
below_to (fin false m e) w = absurd (omega (arith, ltb-true (m * up e * 1) (0 * down e) w))
below_to (fin true zero e) w = minus_zero
below_to (fin true (suc m) e) w = negative_first {m = suc m} refl (omega arith)

unfit_as_to : (first : Bool) (x : Float) → unfit_as first x ≡ true → Unfit first x
unfolding unfit_as
unfit_as_to false x u = unfit_to false x u
unfit_as_to true x u = go (either (unfit x) (lt x (of_bits binary32 0)) u)
  where
    go : (unfit x ≡ true) ⊎ (lt x (of_bits binary32 0) ≡ true) → Unfit true x
    go (inl p) = unfit_to true x p
    go (inr p) = below_to x p

below_from : (m : ℕ) (e : ℤ) → 0 < m → lt (fin true m e) (of_bits binary32 0) ≡ true
unfolding lt of_bits
below_from m e h = let k : 0 < m * up e = mul-pos h (up_pos e) in lt-ltb 0 (m * up e * 1 + 0 * down e) (omega arith)

unfit_as_from : (first : Bool) (x : Float) → Unfit first x → unfit_as first x ≡ true
unfolding unfit_as unfit
unfit_as_from first x no_number = sym (unfit_any first nan refl)
unfit_as_from first x (infinite {s}) = sym (unfit_any first (inf s) refl)
unfit_as_from first x (far {s} {m} {e} h) = sym (unfit_any first (fin s m e) (or_first _ (le-leb (2 ^ 23 * down e) (m * up e) h)))
unfit_as_from first x (not_whole {s} {m} {e} h) =
    sym (unfit_any first (fin s m e) (or_last (leb (2 ^ 23 * down e) (m * up e)) (or_first (s && eqb m 0) (ap not (ne_eqb (m * up e % down e) 0 h)))))
unfit_as_from first x (minus_zero {e}) =
    sym (unfit_any first (fin true 0 e) (or_last (leb (2 ^ 23 * down e) (0 * up e)) (or_last (not (eqb (0 * up e % down e) 0)) refl)))
unfit_as_from true x (negative_first {m} {e} f h) = or_last (unfit (fin true m e)) (below_from m e h)
unfit_as_from false x (negative_first {m} {e} f h) = clash f refl

-- ---- pairs

two_more : (k : ℕ) → 2 * suc k ≡ suc (suc (2 * k))
two_more k = omega arith

two_more_1 : (k : ℕ) → 2 * suc k + 1 ≡ suc (suc (2 * k + 1))
two_more_1 k = omega arith

-- whether pair k is the first
abbrev flag : Bool → ℕ → Bool
flag first zero = first
flag first (suc k) = false

flag_false : (k : ℕ) → flag false k ≡ false
flag_false zero = refl
flag_false (suc k) = refl

flag_true : (k : ℕ) → flag true k ≡ eqb k 0
flag_true zero = refl
flag_true (suc k) = sym (eqb-suc-zero k)

unfit_pair_lem : (first : Bool) (ss : List Float) (k : ℕ) → 2 * k + 1 < length ss
    → unfit_pair first ss k ≡ (unfit_as (flag first k) (get_or ss (2 * k) nan) || unfit_as (flag first k) (get_or ss (2 * k + 1) nan))
unfit_pair_lem first [] k h = absurd (omega arith)
unfit_pair_lem first (x ∷ []) k h = absurd (omega arith)
unfit_pair_lem first (x ∷ y ∷ ss) zero h = refl
unfit_pair_lem first (x ∷ y ∷ ss) (suc k) h = rw (two_more_1 k, two_more k) (unfit_pair_lem false ss k (omega arith) ∙ rw (flag_false k))

module _ (ss : List Float) (k : ℕ) (h : 2 * k + 1 < length ss) where
  unfit_pair_to : unfit_pair true ss k ≡ true → UnfitPair ss k
  unfit_pair_to u = go (either _ _ (sym (unfit_pair_lem true ss k h) ∙ u))
    where
      go : (unfit_as (flag true k) (get_or ss (2 * k) nan) ≡ true) ⊎ (unfit_as (flag true k) (get_or ss (2 * k + 1) nan) ≡ true) → UnfitPair ss k
      go (inl p) = inl (unfit_as_to (eqb k 0) (get_or ss (2 * k) nan) (rw (flag_true k) at p))
      go (inr p) = inr (unfit_as_to (eqb k 0) (get_or ss (2 * k + 1) nan) (rw (flag_true k) at p))

  unfit_pair_from : UnfitPair ss k → unfit_pair true ss k ≡ true
  unfit_pair_from (inl p) = unfit_pair_lem true ss k h ∙ rw (flag_true k) (or_first _ (unfit_as_from (eqb k 0) (get_or ss (2 * k) nan) p))
  unfit_pair_from (inr p) = unfit_pair_lem true ss k h ∙ rw (flag_true k) (or_last (unfit_as (eqb k 0) (get_or ss (2 * k) nan)) (unfit_as_from (eqb k 0) (get_or ss (2 * k + 1) nan) p))

wild_pair_lem : (ds : List ℤ) (k : ℕ) → 2 * k + 1 < length ds → wild_pair ds k ≡ beyond delta_limit (get_or ds (2 * k) (pos 0)) (get_or ds (2 * k + 1) (pos 0))
wild_pair_lem [] k h = absurd (omega arith)
wild_pair_lem (x ∷ []) k h = absurd (omega arith)
wild_pair_lem (x ∷ y ∷ ds) zero h = refl
wild_pair_lem (x ∷ y ∷ ds) (suc k) h = rw (two_more_1 k, two_more k) (wild_pair_lem ds k (omega arith))

module _ (ds : List ℤ) (k : ℕ) (h : 2 * k + 1 < length ds) where
  wild_pair_to : wild_pair ds k ≡ true → WildPair ds k
  wild_pair_to u = go (either _ _ (sym (wild_pair_lem ds k h) ∙ u))
    where
      go : (leb delta_limit (nat_abs (get_or ds (2 * k) (pos 0))) ≡ true) ⊎ (leb delta_limit (nat_abs (get_or ds (2 * k + 1) (pos 0))) ≡ true) → WildPair ds k
      go (inl p) = inl (leb-true delta_limit (nat_abs (get_or ds (2 * k) (pos 0))) p)
      go (inr p) = inr (leb-true delta_limit (nat_abs (get_or ds (2 * k + 1) (pos 0))) p)

  wild_pair_from : WildPair ds k → wild_pair ds k ≡ true
  wild_pair_from (inl p) = wild_pair_lem ds k h ∙ or_first _ (le-leb delta_limit (nat_abs (get_or ds (2 * k) (pos 0))) p)
  wild_pair_from (inr p) = wild_pair_lem ds k h ∙ or_last (leb delta_limit (nat_abs (get_or ds (2 * k) (pos 0)))) (le-leb delta_limit (nat_abs (get_or ds (2 * k + 1) (pos 0))) p)

-- an unfit pair is there
unfit_inside : (first : Bool) (ss : List Float) (k : ℕ) → unfit_pair first ss k ≡ true → 2 * k + 1 < length ss
unfit_inside first [] k u = absurd (subst T (sym u) tt)
unfit_inside first (x ∷ []) k u = absurd (subst T (sym u) tt)
unfit_inside first (x ∷ y ∷ ss) zero u = omega arith
unfit_inside first (x ∷ y ∷ ss) (suc k) u = omega (arith, unfit_inside false ss k u)

-- ---- the pairs before one

fit_each : (k : ℕ) (first : Bool) (ss : List Float) → FitPairs first k ss → (j : ℕ) → j < k → unfit_pair first ss j ≡ false
fit_each zero first ss f j l = absurd (omega arith)
fit_each (suc k) first [] f j l = refl
fit_each (suc k) first (x ∷ []) f j l = refl
fit_each (suc k) first (x ∷ y ∷ ss) f zero l = f.0
fit_each (suc k) first (x ∷ y ∷ ss) f (suc j) l = fit_each k false ss f.1 j (omega arith)

each_fit : (k : ℕ) (first : Bool) (ss : List Float) → ((j : ℕ) → j < k → unfit_pair first ss j ≡ false) → FitPairs first k ss
each_fit zero first ss f = tt
each_fit (suc k) first [] f = tt
each_fit (suc k) first (x ∷ []) f = tt
each_fit (suc k) first (x ∷ y ∷ ss) f = (f 0 (omega arith), each_fit k false ss (λ j l. f (suc j) (omega arith)))

tame_each : (k : ℕ) (ds : List ℤ) → Tame (take (2 * k) ds) → (j : ℕ) → j < k → wild_pair ds j ≡ false
tame_each zero ds t j l = absurd (omega arith)
tame_each (suc k) [] t j l = refl
tame_each (suc k) (x ∷ []) t j l = refl
tame_each (suc k) (x ∷ y ∷ ds) t zero l = (rw (two_more k) at t).0
tame_each (suc k) (x ∷ y ∷ ds) t (suc j) l = tame_each k ds (rw (two_more k) at t).1 j (omega arith)

each_tame : (k : ℕ) (ds : List ℤ) → ((j : ℕ) → j < k → wild_pair ds j ≡ false) → Tame (take (2 * k) ds)
each_tame zero ds f = tt
each_tame (suc k) [] f = rw (two_more k) tt
each_tame (suc k) (x ∷ []) f = rw (two_more k) tt
each_tame (suc k) (x ∷ y ∷ ds) f = rw (two_more k) (f 0 (omega arith), each_tame k ds (λ j l. f (suc j) (omega arith)))

fit_to : (k : ℕ) (ss : List Float) → 2 * k ≤ length ss → FitPairs true k ss → NoneOf k (UnfitPair ss)
fit_to k ss h f j l u = clash (unfit_pair_from ss j (omega arith) u) (fit_each k true ss f j l)

fit_from : (k : ℕ) (ss : List Float) → 2 * k ≤ length ss → NoneOf k (UnfitPair ss) → FitPairs true k ss
fit_from k ss h n = each_fit k true ss (λ j l. fails (unfit_pair true ss j) (unfit_pair_to ss j (omega arith)) (n j l))

tame_to : (k : ℕ) (ds : List ℤ) → 2 * k ≤ length ds → Tame (take (2 * k) ds) → NoneOf k (WildPair ds)
tame_to k ds h t j l u = clash (wild_pair_from ds j (omega arith) u) (tame_each k ds t j l)

tame_from : (k : ℕ) (ds : List ℤ) → 2 * k ≤ length ds → NoneOf k (WildPair ds) → Tame (take (2 * k) ds)
tame_from k ds h n = each_tame k ds (λ j l. fails (wild_pair ds j) (wild_pair_to ds j (omega arith)) (n j l))

-- ---- points

points_most : (k : ℕ) (ns : List ℕ) → points_before k ns ≤ points_of ns
points_most zero ns = omega arith
points_most (suc k) [] = omega arith
points_most (suc k) (n ∷ ns) = omega (arith, points_most k ns)

points_next : (k : ℕ) (ns : List ℕ) → k < length ns → points_before (suc k) ns ≡ points_before k ns + get_or ns k 0
points_next k [] h = absurd (omega arith)
points_next zero (n ∷ ns) h = omega arith
points_next (suc k) (n ∷ ns) h = omega (arith, points_next k ns (omega arith))

-- ---- the two tables

module _ (ns : List ℕ) (ss : List Float) (ds cs : List ℤ) (limit size room : ℕ) where
  module _ (m : misshapen ns ss ds cs ≡ false) (n : miscounted limit (length ns) ≡ false) (f : FitPairs true (length ns) ss) where
    started_to : Started ns ss ds cs limit
    started_to =
        let s = agreed ns ss ds cs m in
        let c = counted limit (length ns) n in
        record { shaped = shaped_to m; some = c.0; few = c.1; fit = fit_to (length ns) ss (omega (arith, s.0)) f }

    -- the splines
    spline_to : (c : Code) (p : ℕ) → SplineRefusal limit 0 (2 * length ns + 2) ns ds c p → WriteRefusal ns ss ds cs limit room c p
    spline_to c p (tests.points k inside before after tame) =
        let s = agreed ns ss ds cs m in
        let at : count_place k ns ≡ p = omega arith in
        let none = tame_to (points_before k ns) ds (omega (arith, s.1, points_most k ns)) tame in
        subst (λ (q : ℕ). WriteRefusal ns ss ds cs limit room c q) at
        (words.points started_to k inside (omega arith) (omega arith) none)
    spline_to c p (tests.delta k j inside low before tame wild) =
        let s = agreed ns ss ds cs m in
        let at : count_place k ns + 1 + 2 * j ≡ p = omega arith in
        let next = points_next k ns inside in
        let most = points_most (suc k) ns in
        let none = tame_to (points_before k ns + j) ds (omega (arith, s.1, next, most)) tame in
        subst (λ (q : ℕ). WriteRefusal ns ss ds cs limit room c q) at
        (words.delta started_to k j inside low (omega arith) none (wild_pair_to ds (points_before k ns + j) (omega (arith, s.1, next, most)) wild))

  few_from : Started ns ss ds cs limit → miscounted limit (length ns) ≡ false
  few_from s = well_counted limit (length ns) (λ z. omega (arith, s.some, z)) s.few

  fits_from : Started ns ss ds cs limit → FitPairs true (length ns) ss
  fits_from s = fit_from (length ns) ss (omega (arith, s.shaped.starts)) s.fit

  module _ (is : misshapen ns ss ds cs ≡ false → size ≡ list_size (length ns) (points_of ns)) where
    words_to : (c : Code) (p : ℕ) → Refusing ns ss ds cs limit size room c p → WriteRefusal ns ss ds cs limit room c p
    words_to c p (tests.shape m) = words.shape (λ s. clash m (shaped_from s))
    words_to c p (tests.splines m n) = words.splines (shaped_to m) (miscounted_to limit (length ns) n)
    words_to c p (tests.coord m n k f u) =
        let s = agreed ns ss ds cs m in
        let t = counted limit (length ns) n in
        let inside = unfit_inside true ss k u in
        words.coord (shaped_to m) t.0 t.1 k (omega (arith, s.0, inside)) (fit_to k ss (omega (arith, inside)) f) (unfit_pair_to ss k inside u)
    words_to c p (tests.spline m n f g) = spline_to m n f c p g
    words_to c p (tests.room m n f w t h) =
        let s = agreed ns ss ds cs m in
        let all : take (2 * points_of ns) ds ≡ ds = take_all (2 * points_of ns) ds (omega (arith, s.1)) in
        words.room (started_to m n f) w (tame_to (points_of ns) ds (omega (arith, s.1)) (rw all t)) (omega (arith, is m, h))

    words_from : (c : Code) (p : ℕ) → WriteRefusal ns ss ds cs limit room c p → Refusing ns ss ds cs limit size room c p
    words_from c p (words.shape n) = tests.shape (holds (misshapen ns ss ds cs) shaped_to n)
    words_from c p (words.splines s n) = tests.splines (shaped_from s) (miscounted_from limit (length ns) n)
    words_from c p (words.coord s some few k inside none u) =
        tests.coord (shaped_from s) (well_counted limit (length ns) (λ z. omega arith) few) k (fit_from k ss (omega (arith, s.starts)) none)
        (unfit_pair_from ss k (omega (arith, s.starts)) u)
    words_from c p (words.points s k inside before after none) =
        let at : 2 * length ns + 2 + (2 * points_before k ns + 129 * k) ≡ p = omega arith in
        let tame = tame_from (points_before k ns) ds (omega (arith, s.shaped.deltas, points_most k ns)) none in
        subst (λ (q : ℕ). Refusing ns ss ds cs limit size room c q) at
        (tests.spline (shaped_from s.shaped) (few_from s) (fits_from s) (tests.points k inside (omega arith) (omega arith) tame))
    words_from c p (words.delta s k j inside low before none wild) =
        let at : 2 * length ns + 2 + (2 * points_before k ns + 129 * k) + (1 + 2 * j) ≡ p = omega arith in
        let next = points_next k ns inside in
        let most = points_most (suc k) ns in
        let tame = tame_from (points_before k ns + j) ds (omega (arith, s.shaped.deltas, next, most)) none in
        let w = wild_pair_from ds (points_before k ns + j) (omega (arith, s.shaped.deltas, next, most)) wild in
        subst (λ (q : ℕ). Refusing ns ss ds cs limit size room c q) at
        (tests.spline (shaped_from s.shaped) (few_from s) (fits_from s) (tests.delta k j inside low (omega arith) tame w))
    words_from c p (words.room s w none h) =
        let all : take (2 * points_of ns) ds ≡ ds = take_all (2 * points_of ns) ds (omega (arith, s.shaped.deltas)) in
        let tame = tame_from (points_of ns) ds (omega (arith, s.shaped.deltas)) none in
        tests.room (shaped_from s.shaped) (few_from s) (fits_from s) w (rw all at tame) (omega (arith, is (shaped_from s.shaped), h))

    accepted_to : (values : ℕ) → Passed ns ss ds cs limit size room values → WriteAccepted ns ss ds cs limit room values
    accepted_to values g =
        let s = agreed ns ss ds cs g.shaped in
        let all : take (2 * points_of ns) ds ≡ ds = take_all (2 * points_of ns) ds (omega (arith, s.1)) in
        record {
          started = started_to g.shaped g.counted g.fit;
          within = g.within;
          tame = tame_to (points_of ns) ds (omega (arith, s.1)) (rw all g.tame);
          held = omega (arith, is g.shaped, g.held);
          all = g.all ∙ is g.shaped;
        }

    accepted_from : (values : ℕ) → WriteAccepted ns ss ds cs limit room values → Passed ns ss ds cs limit size room values
    accepted_from values g =
        let s = g.started in
        let m = shaped_from s.shaped in
        let all : take (2 * points_of ns) ds ≡ ds = take_all (2 * points_of ns) ds (omega (arith, s.shaped.deltas)) in
        let tame = tame_from (points_of ns) ds (omega (arith, s.shaped.deltas)) g.tame in
        record {
          shaped = m;
          counted = few_from s;
          fit = fits_from s;
          within = g.within;
          tame = rw all at tame;
          held = omega (arith, is m, g.held);
          all = g.all ∙ sym (is m);
        }

-- ---- what `write` says

module _ (ns : List ℕ) (ss : List Float) (ds cs : List ℤ) (a : ℤ) (configured pixels room : ℕ) where
  size_is : misshapen ns ss ds cs ≡ false → length (values_of ns ss ds cs a) ≡ list_size (length ns) (points_of ns)
  size_is m = let s = agreed ns ss ds cs m in omega (arith, list_length ns ss ds cs a s.0 s.1 s.2, s.1)

  -- a refusal, exactly when the table has it
  pub refused_exactly_when : (c : Code) (p : ℕ) → (write_of ns ss ds cs a configured pixels room).answer ≡ Refused c p ↔ WriteRefusal ns ss ds cs (limit_of configured pixels) room c p
  refused_exactly_when c p =
      let t = refused_by_tests ns ss ds cs a configured pixels room c p in (
        λ e. words_to ns ss ds cs (limit_of configured pixels) _ room size_is c p (t.0 e),
        λ g. t.1 (words_from ns ss ds cs (limit_of configured pixels) _ room size_is c p g),
      )

  -- and then the outcome is its number, its place and zeros
  pub refused_outcome : (c : Code) (p : ℕ) (o : WriteOutcome) → o ≡ write_of ns ss ds cs a configured pixels room → o.answer ≡ Refused c p → WriteRefused room c p o
  unfolding write_of
  refused_outcome c p o w e =
      go (first_fault (content_checks ns ss ds cs (limit_of configured pixels) ++ check (ltb room (length (values_of ns ss ds cs a))) Room room ∷ [])) w
    where
      go : (v : Verdict) → o ≡ outcome room (values_of ns ss ds cs a) v → WriteRefused room c p o
      go Fine f =
          let g = sym (ap (λ (u : WriteOutcome). u.answer) f) ∙ e in
          let z : ◌≡◌ {A = ℕ} 0 1 = cc in
          absurd (omega arith)
      go (Fault d q) f =
          let g = sym (ap (λ (u : WriteOutcome). u.answer) f) ∙ e in
          let same = same_refusal g in
          rw (f, same.0, same.1) (record { answer = refl; told = refl; list = refl })

  -- and a list of so many values, exactly when it has none
  pub done_exactly_when : (n : ℕ) → (write_of ns ss ds cs a configured pixels room).answer ≡ Done n ↔ WriteAccepted ns ss ds cs (limit_of configured pixels) room n
  done_exactly_when n =
      let t = done_by_tests ns ss ds cs a configured pixels room n in (
        λ e. accepted_to ns ss ds cs (limit_of configured pixels) _ room size_is n (t.0 e),
        λ g. t.1 (accepted_from ns ss ds cs (limit_of configured pixels) _ room size_is n g),
      )

-- Assumes nothing.
