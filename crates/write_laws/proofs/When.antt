-- `write` refuses with a code at a place exactly when the table of tests (Table.antt) gives that code at that place, and writes exactly when it gives none.
-- Each list of checks is taken apart by recursion, both ways.
use mathlib.Core.Path.{◌≡◌, refl, sym, ap, subst, ◌∙◌}
use mathlib.Core.Bool.{Bool, true, false, ◌||◌}
use mathlib.Core.List.{List, [], ◌∷◌, ◌++◌}
use mathlib.Core.Logic.{◌↔◌}
use Prim.Native.Nat.{ℕ, zero, suc, ◌+◌, ◌*◌, ◌≤◌, ◌<◌}
use native.Mathlib.Omega.{arith}
use lib.Dec.{T, ltb}
use lib.ListN.{length, take, drop, length-drop}
use lib.Seq.{take-take, length-take-le}
use lib.IntN.{ℤ}
use lib.Ieee.{Float}
use borrow.Author.Tests.{lt-ltb, le-ltb, ltb-true, ltb-false}
use Rattle.codes.specs.declared.Code.{Code}
use Rattle.codes.specs.declared.Code.TheVariants.{Splines, Coord, Points, Delta, Room, Shape}
use Rattle.shape.specs.Shape.{points_of}
use Rattle.list.specs.List.{delta_limit, beyond, limit_of, Tame}
use Rattle.writer.specs.Write.{Check, check, first_fault, misshapen, miscounted, unfit_as, start_checks, delta_checks, spline_checks, content_checks, values_of, outcome, write_of}
use Rattle.write_judge.specs.Verdict.{Verdict}
use Rattle.write_judge.specs.Verdict.{Fine, Fault}
use Rattle.write_judge.proofs.Checks.{fails, passes, passed, faults_before, fine_before, both_fine, agreed, content_shape, content_count, content_start, content_rest, content_fine}
use Rattle.write_laws.specs.Refusals.{points_before}
use Rattle.write_laws.proofs.Table.{unfit_pair, FitPairs, wild_pair, values_before, SplineRefusal, points, delta, Refusing, shape, splines, coord, spline, room, Passed}
use Rattle.write_laws.proofs.Accepts.{fine_tame, tame_fine, fine_splines, splines_fine}
use Rattle.codes.proofs.Refusals.{same_refusal, refused_alike}
use Rattle.writer.specs.WriteAnswer.{Done, Refused}

none : first_fault [] ≡ Fine
unfolding first_fault
none = refl

-- ---- starts

-- the pair at which starts are refused
pub record StartAt (first : Bool) (p : ℕ) (ss : List Float) (c : Code) (q : ℕ) : Type 0 where
  pub k : ℕ
  pub code : c ≡ Coord
  pub place : q ≡ p + 2 * k
  pub fit : FitPairs first k ss
  pub unfit : unfit_pair first ss k ≡ true

starts_to : (first : Bool) (p : ℕ) (ss : List Float) (c : Code) (q : ℕ) → first_fault (start_checks first p ss) ≡ Fault c q → StartAt first p ss c q
unfolding start_checks first_fault
starts_to first p [] c q e = let z : ◌≡◌ {A = ℕ} 0 1 = cc in absurd (omega arith)
starts_to first p (x ∷ []) c q e = let z : ◌≡◌ {A = ℕ} 0 1 = cc in absurd (omega arith)
starts_to first p (x ∷ y ∷ ss) c q e = go (λ d. starts_to false (p + 2) ss c q d) (unfit_as first x || unfit_as first y) refl e
  where
    go : (first_fault (start_checks false (p + 2) ss) ≡ Fault c q → StartAt false (p + 2) ss c q)
        → (b : Bool) → (unfit_as first x || unfit_as first y) ≡ b → first_fault (check b Coord p ∷ start_checks false (p + 2) ss) ≡ Fault c q → StartAt first p (x ∷ y ∷ ss) c q
    go ih true u e =
        let same = same_refusal e in
        record { k = 0; code = sym same.0; place = sym same.1 ∙ omega arith; fit = tt; unfit = u }
    go ih false u e =
        let t = ih e in
        record { k = suc t.k; code = t.code; place = t.place ∙ omega arith; fit = (u, t.fit); unfit = t.unfit }

starts_from : (k : ℕ) (first : Bool) (p : ℕ) (ss : List Float) → FitPairs first k ss → unfit_pair first ss k ≡ true → first_fault (start_checks first p ss) ≡ Fault Coord (p + 2 * k)
unfolding start_checks
starts_from k first p [] f u = absurd (subst T (sym u) tt)
starts_from k first p (x ∷ []) f u = absurd (subst T (sym u) tt)
starts_from zero first p (x ∷ y ∷ ss) f u = fails _ Coord p _ u ∙ ap (Fault Coord) (omega arith)
starts_from (suc k) first p (x ∷ y ∷ ss) f u =
    let at : p + 2 + 2 * k ≡ p + 2 * suc k = omega arith in
    passes _ Coord p _ f.0 ∙ starts_from k false (p + 2) ss f.1 u ∙ ap (Fault Coord) at

starts_fit : (k : ℕ) (first : Bool) (p : ℕ) (ss : List Float) → first_fault (start_checks first p ss) ≡ Fine → FitPairs first k ss
unfolding start_checks
starts_fit zero first p ss e = tt
starts_fit (suc k) first p [] e = tt
starts_fit (suc k) first p (x ∷ []) e = tt
starts_fit (suc k) first p (x ∷ y ∷ ss) e =
    let t = passed (unfit_as first x || unfit_as first y) Coord p (start_checks false (p + 2) ss) e in
    (t.0, starts_fit k false (p + 2) ss t.1)

fit_starts : (k : ℕ) (first : Bool) (p : ℕ) (ss : List Float) → length ss ≡ 2 * k → FitPairs first k ss → first_fault (start_checks first p ss) ≡ Fine
unfolding start_checks first_fault
fit_starts k first p [] h f = refl
fit_starts zero first p (x ∷ ss) h f = absurd (omega arith)
fit_starts (suc k) first p (x ∷ []) h f = refl
fit_starts (suc k) first p (x ∷ y ∷ ss) h f = rw f.0 (fit_starts k false (p + 2) ss (omega arith) f.1)

-- ---- double deltas

pub record DeltaAt (p : ℕ) (ds : List ℤ) (c : Code) (q : ℕ) : Type 0 where
  pub j : ℕ
  pub code : c ≡ Delta
  pub place : q ≡ p + 2 * j
  pub within : 2 * j + 1 < length ds
  pub tame : Tame (take (2 * j) ds)
  pub wild : wild_pair ds j ≡ true

two_more : (j : ℕ) → 2 * suc j ≡ suc (suc (2 * j))
two_more j = omega arith

deltas_to : (p : ℕ) (ds : List ℤ) (c : Code) (q : ℕ) → first_fault (delta_checks p ds) ≡ Fault c q → DeltaAt p ds c q
unfolding delta_checks first_fault
deltas_to p [] c q e = let z : ◌≡◌ {A = ℕ} 0 1 = cc in absurd (omega arith)
deltas_to p (x ∷ []) c q e = let z : ◌≡◌ {A = ℕ} 0 1 = cc in absurd (omega arith)
deltas_to p (x ∷ y ∷ ds) c q e = go (λ d. deltas_to (p + 2) ds c q d) (beyond delta_limit x y) refl e
  where
    go : (first_fault (delta_checks (p + 2) ds) ≡ Fault c q → DeltaAt (p + 2) ds c q) → (b : Bool) → beyond delta_limit x y ≡ b → first_fault (check b Delta p ∷ delta_checks (p + 2) ds) ≡ Fault c q → DeltaAt p (x ∷ y ∷ ds) c q
    go ih true u e =
        let same = same_refusal e in
        record { j = 0; code = sym same.0; place = sym same.1 ∙ omega arith; within = omega arith; tame = tt; wild = u }
    go ih false u e =
        let t = ih e in
        record {
          j = suc t.j;
          code = t.code;
          place = t.place ∙ omega arith;
          within = omega (arith, t.within);
          tame = subst (λ (m : ℕ). Tame (take m (x ∷ y ∷ ds))) (sym (two_more t.j)) (u, t.tame);
          wild = t.wild;
        }

deltas_from : (j p : ℕ) (ds : List ℤ) → 2 * j + 1 < length ds → Tame (take (2 * j) ds) → wild_pair ds j ≡ true → first_fault (delta_checks p ds) ≡ Fault Delta (p + 2 * j)
unfolding delta_checks
deltas_from j p [] h t w = absurd (omega arith)
deltas_from j p (x ∷ []) h t w = absurd (omega arith)
deltas_from zero p (x ∷ y ∷ ds) h t w = fails _ Delta p _ w ∙ ap (Fault Delta) (omega arith)
deltas_from (suc j) p (x ∷ y ∷ ds) h t w =
    let at : p + 2 + 2 * j ≡ p + 2 * suc j = omega arith in
    let u = subst (λ (m : ℕ). Tame (take m (x ∷ y ∷ ds))) (two_more j) t in
    passes _ Delta p _ u.0 ∙ deltas_from j (p + 2) ds (omega arith) u.1 w ∙ ap (Fault Delta) at

-- ---- splines

-- a pair behind n pairs
wild_drop : (n j : ℕ) (ds : List ℤ) → wild_pair ds (n + j) ≡ wild_pair (drop (2 * n) ds) j
wild_drop zero j ds = ap (wild_pair ds) (omega arith)
wild_drop (suc n) j [] = rw (two_more n)
wild_drop (suc n) j (x ∷ []) = rw (two_more n)
wild_drop (suc n) j (x ∷ y ∷ ds) =
    let s : suc n + j ≡ suc (n + j) = omega arith in
    rw (two_more n, s) (wild_drop n j ds)

-- pairs before and after n pairs
tame_front : (n m : ℕ) (ds : List ℤ) → 2 * n ≤ length ds → Tame (take (2 * n) ds) → Tame (take (2 * m) (drop (2 * n) ds)) → Tame (take (2 * (n + m)) ds)
tame_front zero m ds h v w =
    let s : 0 + m ≡ m = omega arith in
    rw s w
tame_front (suc n) m [] h v w = absurd (omega arith)
tame_front (suc n) m (x ∷ []) h v w = absurd (omega arith)
tame_front (suc n) m (x ∷ y ∷ ds) h v w =
    let s : 2 * (suc n + m) ≡ suc (suc (2 * (n + m))) = omega arith in
    let v' = rw (two_more n) at v in
    let w' = rw (two_more n) at w in
    rw s (v'.0, tame_front n m ds (omega arith) v'.1 w')

front_tame : (n m : ℕ) (ds : List ℤ) → 2 * n ≤ length ds → Tame (take (2 * (n + m)) ds) → Tame (take (2 * n) ds) × Tame (take (2 * m) (drop (2 * n) ds))
front_tame zero m ds h w =
    let s : 0 + m ≡ m = omega arith in
    (tt, rw s at w)
front_tame (suc n) m [] h w = absurd (omega arith)
front_tame (suc n) m (x ∷ []) h w = absurd (omega arith)
front_tame (suc n) m (x ∷ y ∷ ds) h w =
    let s : 2 * (suc n + m) ≡ suc (suc (2 * (n + m))) = omega arith in
    let w' = rw s at w in
    let t = front_tame n m ds (omega arith) w'.1 in
    rw (two_more n) ((w'.0, t.0), t.1)

-- pair j of the first n pairs
wild_take : (n j : ℕ) (ds : List ℤ) → 2 * n ≤ length ds → j < n → wild_pair (take (2 * n) ds) j ≡ wild_pair ds j
wild_take zero j ds h l = absurd (omega arith)
wild_take (suc n) j [] h l = absurd (omega arith)
wild_take (suc n) j (x ∷ []) h l = absurd (omega arith)
wild_take (suc n) zero (x ∷ y ∷ ds) h l = rw (two_more n)
wild_take (suc n) (suc j) (x ∷ y ∷ ds) h l = rw (two_more n) (wild_take n j ds (omega arith) (omega arith))

take_front : (n j : ℕ) (ds : List ℤ) → j ≤ n → take (2 * j) (take (2 * n) ds) ≡ take (2 * j) ds
take_front n j ds h = take-take (2 * j) (2 * n) ds (omega arith)

module _ (limit : ℕ) where
  -- the first spline at fault is the first
  spline_here : (total place n : ℕ) (ns : List ℕ) (ds : List ℤ) → total ≤ limit → 2 * n ≤ length ds → (c : Code) (q : ℕ) → total + n ≤ limit
      → DeltaAt (place + 1) (take (2 * n) ds) c q → SplineRefusal limit total place (n ∷ ns) ds c q
  spline_here total place n ns ds u h c q under t =
      let long = length-take-le (2 * n) ds h in
      let inside : t.j < n = omega (arith, t.within) in
      let at : place + values_before 0 (n ∷ ns) + (1 + 2 * t.j) ≡ q = sym (t.place ∙ omega arith) in
      let j-is : 0 + t.j ≡ t.j = omega arith in
      let tame : Tame (take (2 * (0 + t.j)) ds) = rw (j-is, ← take_front n t.j ds (omega arith)) t.tame in
      let wild : wild_pair ds (0 + t.j) ≡ true = rw (j-is, ← wild_take n t.j ds h inside) t.wild in
      subst (λ (k : ℕ). SplineRefusal limit total place (n ∷ ns) ds c k) at
      (rw t.code (delta 0 t.j (omega arith) inside (omega arith) tame wild))

  -- or one behind it
  spline_behind : (total place n : ℕ) (ns : List ℕ) (ds : List ℤ) → 2 * n ≤ length ds → Tame (take (2 * n) ds) → (c : Code) (q : ℕ)
      → SplineRefusal limit (total + n) (place + (2 * n + 129)) ns (drop (2 * n) ds) c q → SplineRefusal limit total place (n ∷ ns) ds c q
  spline_behind total place n ns ds h v c q (points k inside before after tame) =
      let at : place + values_before (suc k) (n ∷ ns) ≡ place + (2 * n + 129) + values_before k ns = omega arith in
      subst (λ (m : ℕ). SplineRefusal limit total place (n ∷ ns) ds Points m) at
      (points (suc k) (omega arith) (omega arith) (omega arith) (tame_front n (points_before k ns) ds h v tame))
  spline_behind total place n ns ds h v c q (delta k j inside low before tame wild) =
      let at : place + values_before (suc k) (n ∷ ns) + (1 + 2 * j) ≡ place + (2 * n + 129) + values_before k ns + (1 + 2 * j) = omega arith in
      let s : n + points_before k ns + j ≡ n + (points_before k ns + j) = omega arith in
      subst (λ (m : ℕ). SplineRefusal limit total place (n ∷ ns) ds Delta m) at
      (delta (suc k) j (omega arith) low (omega arith)
      (rw s (tame_front n (points_before k ns + j) ds h v tame)) (rw s (wild_drop n (points_before k ns + j) ds ∙ wild)))

  splines_to : (total place : ℕ) (ns : List ℕ) (ds : List ℤ) → total ≤ limit → length ds ≡ 2 * points_of ns → (c : Code) (q : ℕ)
      → first_fault (spline_checks limit total place ns ds) ≡ Fault c q → SplineRefusal limit total place ns ds c q
  unfolding spline_checks first_fault
  splines_to total place [] ds u h c q e = let z : ◌≡◌ {A = ℕ} 0 1 = cc in absurd (omega arith)
  splines_to total place (n ∷ ns) ds u h c q e =
      go (λ under d. splines_to (total + n) (place + (2 * n + 129)) ns (drop (2 * n) ds) under (length-drop (2 * n) ds ∙ omega arith) c q d)
      (ltb limit (total + n)) refl e
    where
      mine : List Check
      mine = delta_checks (place + 1) (take (2 * n) ds)

      others : List Check
      others = spline_checks limit (total + n) (place + (2 * n + 129)) ns (drop (2 * n) ds)

      after : (total + n ≤ limit) → (first_fault others ≡ Fault c q → SplineRefusal limit (total + n) (place + (2 * n + 129)) ns (drop (2 * n) ds) c q)
          → (v : Verdict) → first_fault mine ≡ v → first_fault (mine ++ others) ≡ Fault c q → SplineRefusal limit total place (n ∷ ns) ds c q
      after under ih Fine f e = spline_behind total place n ns ds (omega arith) (fine_tame (place + 1) (take (2 * n) ds) f) c q (ih (sym (fine_before mine others f) ∙ e))
      after under ih (Fault d r) f e =
          let same = sym (faults_before mine others d r f) ∙ e in
          spline_here total place n ns ds u (omega arith) c q under (deltas_to (place + 1) (take (2 * n) ds) c q (f ∙ same))

      go : (total + n ≤ limit → first_fault others ≡ Fault c q → SplineRefusal limit (total + n) (place + (2 * n + 129)) ns (drop (2 * n) ds) c q)
          → (b : Bool) → ltb limit (total + n) ≡ b → first_fault (check b Points place ∷ (mine ++ others)) ≡ Fault c q → SplineRefusal limit total place (n ∷ ns) ds c q
      go ih true b e =
          let c-is : Points ≡ c = (same_refusal e).0 in
          let q-is : place ≡ q = (same_refusal e).1 in
          let at : place + values_before 0 (n ∷ ns) ≡ q = omega (arith, q-is) in
          subst (λ (m : ℕ). SplineRefusal limit total place (n ∷ ns) ds c m) at
          (rw (← c-is) (points 0 (omega arith) (omega arith) (omega (arith, ltb-true limit (total + n) b)) tt))
      go ih false b e = after (ltb-false limit (total + n) b) (ih (ltb-false limit (total + n) b)) (first_fault mine) refl e

  splines_from : (total place : ℕ) (ns : List ℕ) (ds : List ℤ) → length ds ≡ 2 * points_of ns → (c : Code) (q : ℕ)
      → SplineRefusal limit total place ns ds c q → first_fault (spline_checks limit total place ns ds) ≡ Fault c q
  unfolding spline_checks
  splines_from total place [] ds h c q (points k inside before after tame) = absurd (omega arith)
  splines_from total place [] ds h c q (delta k j inside low before tame wild) = absurd (omega arith)
  splines_from total place (n ∷ ns) ds h c q (points zero inside before after tame) =
      let at : place ≡ place + values_before 0 (n ∷ ns) = omega arith in
      fails _ Points place _ (lt-ltb limit (total + n) (omega arith)) ∙ ap (Fault Points) at
  splines_from total place (n ∷ ns) ds h c q (points (suc k) inside before after tame) =
      let v = front_tame n (points_before k ns) ds (omega arith) tame in
      let at : place + (2 * n + 129) + values_before k ns ≡ place + values_before (suc k) (n ∷ ns) = omega arith in
      passes _ Points place _ (le-ltb limit (total + n) (omega arith))
      ∙ fine_before _ _ (tame_fine (place + 1) (take (2 * n) ds) v.0)
      ∙ splines_from (total + n) (place + (2 * n + 129)) ns (drop (2 * n) ds) (length-drop (2 * n) ds ∙ omega arith) Points _
      (points k (omega arith) (omega arith) (omega arith) v.1)
      ∙ ap (Fault Points) at
  splines_from total place (n ∷ ns) ds h c q (delta zero j inside low before tame wild) =
      let j-is : 0 + j ≡ j = omega arith in
      let at : place + 1 + 2 * j ≡ place + values_before 0 (n ∷ ns) + (1 + 2 * j) = omega arith in
      let long = length-take-le (2 * n) ds (omega arith) in
      let t : Tame (take (2 * j) (take (2 * n) ds)) = rw (take_front n j ds (omega arith)) (rw j-is at tame) in
      passes _ Points place _ (le-ltb limit (total + n) (omega arith))
      ∙ faults_before _ _ Delta (place + 1 + 2 * j) (deltas_from j (place + 1) (take (2 * n) ds) (omega arith) t (wild_take n j ds (omega arith) low ∙ rw j-is at wild))
      ∙ ap (Fault Delta) at
  splines_from total place (n ∷ ns) ds h c q (delta (suc k) j inside low before tame wild) =
      let s : n + points_before k ns + j ≡ n + (points_before k ns + j) = omega arith in
      let v = front_tame n (points_before k ns + j) ds (omega arith) (rw s at tame) in
      let at : place + (2 * n + 129) + values_before k ns + (1 + 2 * j) ≡ place + values_before (suc k) (n ∷ ns) + (1 + 2 * j) = omega arith in
      passes _ Points place _ (le-ltb limit (total + n) (omega arith))
      ∙ fine_before _ _ (tame_fine (place + 1) (take (2 * n) ds) v.0)
      ∙ splines_from (total + n) (place + (2 * n + 129)) ns (drop (2 * n) ds) (length-drop (2 * n) ds ∙ omega arith) Delta _
      (delta k j (omega arith) low (omega arith) v.1 (sym (wild_drop n (points_before k ns + j) ds) ∙ rw s at wild))
      ∙ ap (Fault Delta) at

-- ---- the whole

module _ (ns : List ℕ) (ss : List Float) (ds cs : List ℤ) (limit size rooms : ℕ) where
  abbrev Here : Code → ℕ → Type 0
  Here c p = Refusing ns ss ds cs limit size rooms c p

  abbrev content : List Check
  content = content_checks ns ss ds cs limit

  abbrev last : List Check
  last = check (ltb rooms size) Room rooms ∷ []

  moved : {c d : Code} {p q : ℕ} → Fault c p ≡ Fault d q → Here c p → Here d q
  moved {c} {d} {p} {q} e g =
      let same = same_refusal e in
      subst (λ (k : ℕ). Here d k) same.1 (subst (λ (k : Code). Here k p) same.0 g)

  module _ (shaped : misshapen ns ss ds cs ≡ false) (few : miscounted limit (length ns) ≡ false) where
    after_count : (c : Code) (p : ℕ) → first_fault (content ++ last) ≡ Fault c p
        → (v : Verdict) → first_fault (start_checks true 1 ss) ≡ v → (w : Verdict) → first_fault (spline_checks limit 0 (2 * length ns + 2) ns ds) ≡ w → Here c p
    after_count c p e (Fault d q) f w g =
        let t = starts_to true 1 ss d q f in
        let is : Fault Coord (1 + 2 * t.k) ≡ Fault c p
        = sym (faults_before content last d q (content_start ns ss ds cs limit shaped few d q f) ∙ ap (λ (k : Code). Fault k q) t.code ∙ ap (Fault Coord) t.place) ∙ e in
        moved is (coord shaped few t.k t.fit t.unfit)
    after_count c p e Fine f (Fault d q) g =
        let h = agreed ns ss ds cs shaped in
        let is : Fault d q ≡ Fault c p = sym (faults_before content last d q (content_rest ns ss ds cs limit shaped few f ∙ g)) ∙ e in
        moved is (spline shaped few (starts_fit (length ns) true 1 ss f) (splines_to limit 0 (2 * length ns + 2) ns ds (omega arith) h.1 d q g))
    after_count c p e Fine f Fine g =
        let h = agreed ns ss ds cs shaped in
        let t = fine_splines limit 0 (2 * length ns + 2) ns ds (omega arith) h.1 g in
        at_room (ltb rooms size) refl (sym (fine_before content last (content_rest ns ss ds cs limit shaped few f ∙ g)) ∙ e) (starts_fit (length ns) true 1 ss f) t.0 t.1
      where
        at_room : (b : Bool) → ltb rooms size ≡ b → first_fault (check b Room rooms ∷ []) ≡ Fault c p → FitPairs true (length ns) ss → 0 + points_of ns ≤ limit → Tame ds → Here c p
        at_room true b e f u w = moved (sym (fails true Room rooms [] refl) ∙ e) (room shaped few f (omega arith) w (ltb-true rooms size b))
        at_room false b e f u w = let z : ◌≡◌ {A = ℕ} 0 1 = cc (passes false Room rooms [] refl, none) in absurd (omega arith)

  given_to : (c : Code) (p : ℕ) → first_fault (content ++ last) ≡ Fault c p → Here c p
  given_to c p e = go (misshapen ns ss ds cs) refl (miscounted limit (length ns)) refl
    where
      go : (b : Bool) → misshapen ns ss ds cs ≡ b → (d : Bool) → miscounted limit (length ns) ≡ d → Here c p
      go true u d v = moved (sym (faults_before content last Shape 0 (content_shape ns ss ds cs limit u)) ∙ e) (shape u)
      go false u true v = moved (sym (faults_before content last Splines 0 (content_count ns ss ds cs limit u v)) ∙ e) (splines u v)
      go false u false v = after_count u v c p e (first_fault (start_checks true 1 ss)) refl (first_fault (spline_checks limit 0 (2 * length ns + 2) ns ds)) refl

  given_from : (c : Code) (p : ℕ) → Here c p → first_fault (content ++ last) ≡ Fault c p
  given_from c p (shape u) = faults_before content last Shape 0 (content_shape ns ss ds cs limit u)
  given_from c p (splines u v) = faults_before content last Splines 0 (content_count ns ss ds cs limit u v)
  given_from c p (coord u v k f w) = faults_before content last Coord (1 + 2 * k) (content_start ns ss ds cs limit u v Coord (1 + 2 * k) (starts_from k true 1 ss f w))
  given_from c p (spline u v f t) =
      let h = agreed ns ss ds cs u in
      faults_before content last c p (content_rest ns ss ds cs limit u v (fit_starts (length ns) true 1 ss h.0 f) ∙ splines_from limit 0 (2 * length ns + 2) ns ds h.1 c p t)
  given_from c p (room u v f s w h) =
      let g = agreed ns ss ds cs u in
      fine_before content last (content_rest ns ss ds cs limit u v (fit_starts (length ns) true 1 ss g.0 f) ∙ splines_fine limit 0 (2 * length ns + 2) ns ds (omega arith) w)
      ∙ fails _ Room rooms [] (lt-ltb rooms size h)

  -- nothing fails
  fine_to : first_fault (content ++ last) ≡ Fine → Passed ns ss ds cs limit size rooms size
  fine_to e =
      let b = both_fine content last e in
      let f = content_fine ns ss ds cs limit b.0 in
      let t = fine_splines limit 0 (2 * length ns + 2) ns ds (omega arith) (agreed ns ss ds cs f.0).1 f.3 in
      record {
        shaped = f.0;
        counted = f.1;
        fit = starts_fit (length ns) true 1 ss f.2;
        within = omega (arith, t.0);
        tame = t.1;
        held = ltb-false rooms size (passed (ltb rooms size) Room rooms [] b.1).0;
        all = refl;
      }

  fine_from : (values : ℕ) → Passed ns ss ds cs limit size rooms values → first_fault (content ++ last) ≡ Fine
  fine_from values g =
      let h = agreed ns ss ds cs g.shaped in
      fine_before content last
      (content_rest ns ss ds cs limit g.shaped g.counted (fit_starts (length ns) true 1 ss h.0 g.fit)
      ∙ splines_fine limit 0 (2 * length ns + 2) ns ds (omega (arith, g.within)) g.tame)
      ∙ passes _ Room rooms [] (le-ltb rooms size g.held) ∙ none

-- `write` refuses with a code at a place exactly when the table gives it
module _ (ns : List ℕ) (ss : List Float) (ds cs : List ℤ) (a : ℤ) (configured pixels rooms : ℕ) where
  abbrev size : ℕ
  size = length (values_of ns ss ds cs a)

  abbrev verdict : Verdict
  verdict = first_fault (content_checks ns ss ds cs (limit_of configured pixels) ++ check (ltb rooms size) Room rooms ∷ [])

  pub refused_by_tests : (c : Code) (p : ℕ)
      → (write_of ns ss ds cs a configured pixels rooms).answer ≡ Refused c p ↔ Refusing ns ss ds cs (limit_of configured pixels) size rooms c p
  unfolding write_of
  refused_by_tests c p = (
    λ e. given_to ns ss ds cs (limit_of configured pixels) size rooms c p (told verdict e),
    λ g. ap (λ (v : Verdict). (outcome rooms (values_of ns ss ds cs a) v).answer) (given_from ns ss ds cs (limit_of configured pixels) size rooms c p g),
  )
    where
      told : (v : Verdict) → (outcome rooms (values_of ns ss ds cs a) v).answer ≡ Refused c p → v ≡ Fault c p
      told Fine e = cc
      told (Fault d q) e = refused_alike e

  -- and it writes so many values exactly when nothing is given
  pub done_by_tests : (n : ℕ) → (write_of ns ss ds cs a configured pixels rooms).answer ≡ Done n ↔ Passed ns ss ds cs (limit_of configured pixels) size rooms n
  unfolding write_of
  done_by_tests n = (
    λ e. told verdict refl e,
    λ g. ap (λ (v : Verdict). (outcome rooms (values_of ns ss ds cs a) v).answer) (fine_from ns ss ds cs (limit_of configured pixels) size rooms n g)
        ∙ ap Done (sym g.all),
  )
    where
      told : (v : Verdict) → verdict ≡ v → (outcome rooms (values_of ns ss ds cs a) v).answer ≡ Done n → Passed ns ss ds cs (limit_of configured pixels) size rooms n
      told (Fault d q) f e = let z : ◌≡◌ {A = ℕ} 0 1 = cc in absurd (omega arith)
      told Fine f e =
          let k : size ≡ n = cc in
          subst (λ (m : ℕ). Passed ns ss ds cs (limit_of configured pixels) size rooms m) k (fine_to ns ss ds cs (limit_of configured pixels) size rooms f)

-- Assumes nothing.
