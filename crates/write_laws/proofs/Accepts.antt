-- What `write` accepts is just what has a list: the checks find nothing exactly when the description is valid.
use mathlib.Core.Path.{◌≡◌, refl, sym, subst, ◌∙◌}
use mathlib.Core.Bool.{Bool, true, false, ◌||◌}
use mathlib.Core.List.{List, [], ◌∷◌, ◌++◌, map}
use Prim.Native.Nat.{ℕ, zero, suc, ◌+◌, ◌*◌, ◌^◌, ◌≤◌, ◌<◌}
use native.Mathlib.Omega.{arith}
use lib.Dec.{T, ltb, leb, le→leb, lt→ltb}
use lib.ListN.{length, take, drop, length-map, length-drop}
use lib.IntN.{ℤ, pos, negsuc, nat_abs}
use lib.Ieee.{Float, nan, inf, fin, binary32, of_int, of_bits, lt, in_float, fits, up, down, round}
use lib.Ieee.Exact.{HasValue}
use lib.Ieee.Back.{round_whole, positive_back, negative_back}
use borrow.Author.Tests.{le-ltb, lt-leb, ltb-false, leb-false}
use Rattle.codes.specs.declared.Code.TheVariants.{Coord, Points, Delta}
use Rattle.shape.specs.Shape.{points_of}
use Rattle.list.specs.List.{pos_limit, delta_limit, beyond, Near, Tame, Valid}
use Rattle.list.specs.Steps.{f32_of}
use Rattle.writer.specs.Write.{first_fault, unfit, unfit_as, start_checks, delta_checks, spline_checks, content_checks, whole_of}
use Rattle.write_judge.specs.Verdict.{Fine}
use Rattle.write_judge.proofs.Checks.{neither, passed, fine_before, both_fine, agree, agreed, well_counted, counted, content_rest, content_fine}
use Rattle.write_judge.proofs.Starts.{fit_any, whole_fit}
use Rattle.write_steps.proofs.Values.{fit_small, fit_back, first_signed}
use Rattle.write_laws.specs.Floats.{Floats}

-- ---- starts

near_pair : (x y : Float) → unfit x ≡ false → unfit y ≡ false → beyond pos_limit (whole_of x) (whole_of y) ≡ false
near_pair x y u v = rw (lt-leb pos_limit (nat_abs (whole_of x)) (fit_small x u), lt-leb pos_limit (nat_abs (whole_of y)) (fit_small y v))

fine_near : (first : Bool) (p : ℕ) (ss : List Float) → first_fault (start_checks first p ss) ≡ Fine → Near first (map whole_of ss)
unfolding start_checks
fine_near true p [] e = tt
fine_near false p [] e = tt
fine_near true p (x ∷ []) e = tt
fine_near false p (x ∷ []) e = tt
fine_near true p (x ∷ y ∷ ss) e =
    let t = passed (unfit_as true x || unfit_as true y) Coord p (start_checks false (p + 2) ss) e in
    let n = neither (unfit_as true x) (unfit_as true y) t.0 in
    (near_pair x y (fit_any true x n.0) (fit_any true y n.1), (first_signed x n.0).2, (first_signed y n.1).2, fine_near false (p + 2) ss t.1)
fine_near false p (x ∷ y ∷ ss) e =
    let t = passed (unfit_as false x || unfit_as false y) Coord p (start_checks false (p + 2) ss) e in
    let n = neither (unfit_as false x) (unfit_as false y) t.0 in
    (near_pair x y (fit_any false x n.0) (fit_any false y n.1), fine_near false (p + 2) ss t.1)

-- a whole number from 0 on is not below 0
not_below : (x : Float) (n : ℕ) → HasValue x false n 1 → lt x (of_bits binary32 0) ≡ false
unfolding lt of_bits
not_below nan n v = absurd v
not_below (inf s) n v = absurd v
not_below (fin true m e) n v = absurd (subst T v.0 tt)
not_below (fin false m e) n v = le-ltb (m * up e * 1) (0 * down e) (omega arith)

whole_not_below : (n : ℕ) → n < 2 ^ 23 → lt (f32_of (pos n)) (of_bits binary32 0) ≡ false
unfolding f32_of of_int
whole_not_below n h = not_below (round binary32 false n 1) n (round_whole binary32 false n (omega arith))

whole_is_fit : (z : ℤ) → nat_abs z < 2 ^ 23 → unfit (f32_of z) ≡ false
unfolding f32_of
whole_is_fit z h = whole_fit z h

whole_first : (z : ℤ) → nat_abs z < 2 ^ 23 → pos (nat_abs z) ≡ z → unfit_as true (f32_of z) ≡ false
unfolding unfit_as
whole_first z h g = rw (whole_is_fit z h, ← g, whole_not_below (nat_abs z) h)

whole_later : (z : ℤ) → nat_abs z < 2 ^ 23 → unfit_as false (f32_of z) ≡ false
unfolding unfit_as
whole_later z h = whole_is_fit z h

small_pair : (x y : ℤ) → beyond pos_limit x y ≡ false → (nat_abs x < 2 ^ 23) × (nat_abs y < 2 ^ 23)
small_pair x y e =
    let n = neither (leb pos_limit (nat_abs x)) (leb pos_limit (nat_abs y)) e in
    (leb-false pos_limit (nat_abs x) n.0, leb-false pos_limit (nat_abs y) n.1)

near_fine : (first : Bool) (p : ℕ) (zs : List ℤ) → Near first zs → first_fault (start_checks first p (map f32_of zs)) ≡ Fine
unfolding start_checks first_fault
near_fine first p [] w = refl
near_fine first p (x ∷ []) w = refl
near_fine true p (x ∷ y ∷ zs) w =
    let s = small_pair x y w.0 in
    rw (whole_first x s.0 w.1, whole_first y s.1 w.2) (near_fine false (p + 2) zs w.3)
near_fine false p (x ∷ y ∷ zs) w =
    let s = small_pair x y w.0 in
    rw (whole_later x s.0, whole_later y s.1) (near_fine false (p + 2) zs w.1)

-- the whole number of a whole number's f32
whole_back : (z : ℤ) → nat_abs z < 2 ^ 23 → whole_of (f32_of z) ≡ z
unfolding f32_of in_float
whole_back (pos n) h = (positive_back binary32 31 n (le→leb n (2 ^ 24) (omega arith)) (omega arith)).1
whole_back (negsuc n) h = (negative_back binary32 31 n (lt→ltb n (2 ^ 24) (omega arith)) (omega arith)).1

pub wholes_back : (k : ℕ) (first : Bool) (zs : List ℤ) → length zs ≡ 2 * k → Near first zs → map whole_of (map f32_of zs) ≡ zs
wholes_back k first [] h w = refl
wholes_back zero first (x ∷ zs) h w = absurd (omega arith)
wholes_back (suc k) first (x ∷ []) h w = absurd (omega arith)
wholes_back (suc k) true (x ∷ y ∷ zs) h w =
    let s = small_pair x y w.0 in
    rw (whole_back x s.0, whole_back y s.1, wholes_back k false zs (omega arith) w.3)
wholes_back (suc k) false (x ∷ y ∷ zs) h w =
    let s = small_pair x y w.0 in
    rw (whole_back x s.0, whole_back y s.1, wholes_back k false zs (omega arith) w.1)

-- the f32 of a fit number's whole number
float_back : (x : Float) → T (fits binary32 x) → unfit x ≡ false → f32_of (whole_of x) ≡ x
unfolding f32_of
float_back x f u = fit_back x f u

pub floats_back : (k : ℕ) (first : Bool) (p : ℕ) (ss : List Float) → length ss ≡ 2 * k → Floats ss → first_fault (start_checks first p ss) ≡ Fine → map f32_of (map whole_of ss) ≡ ss
unfolding start_checks
floats_back k first p [] h f e = refl
floats_back zero first p (x ∷ ss) h f e = absurd (omega arith)
floats_back (suc k) first p (x ∷ []) h f e = absurd (omega arith)
floats_back (suc k) first p (x ∷ y ∷ ss) h f e =
    let t = passed (unfit_as first x || unfit_as first y) Coord p (start_checks false (p + 2) ss) e in
    let n = neither (unfit_as first x) (unfit_as first y) t.0 in
    rw (float_back x f.0 (fit_any first x n.0), float_back y f.1.0 (fit_any first y n.1), floats_back k false (p + 2) ss (omega arith) f.1.1 t.1)

-- ---- double deltas

pub fine_tame : (p : ℕ) (ds : List ℤ) → first_fault (delta_checks p ds) ≡ Fine → Tame ds
unfolding delta_checks
fine_tame p [] e = tt
fine_tame p (x ∷ []) e = tt
fine_tame p (x ∷ y ∷ ds) e =
    let t = passed (beyond delta_limit x y) Delta p (delta_checks (p + 2) ds) e in
    (t.0, fine_tame (p + 2) ds t.1)

pub tame_fine : (p : ℕ) (ds : List ℤ) → Tame ds → first_fault (delta_checks p ds) ≡ Fine
unfolding delta_checks first_fault
tame_fine p [] w = refl
tame_fine p (x ∷ []) w = refl
tame_fine p (x ∷ y ∷ ds) w = rw w.0 (tame_fine (p + 2) ds w.1)

-- double deltas in two parts, the first of whole pairs
tame_join : (n : ℕ) (ds : List ℤ) → 2 * n ≤ length ds → Tame (take (2 * n) ds) → Tame (drop (2 * n) ds) → Tame ds
tame_join zero ds h v w = w
tame_join (suc n) [] h v w = tt
tame_join (suc n) (x ∷ []) h v w = tt
tame_join (suc n) (x ∷ y ∷ ds) h v w =
    let m : 2 * suc n ≡ suc (suc (2 * n)) = omega arith in
    let v' = rw m at v in
    let w' = rw m at w in
    (v'.0, tame_join n ds (omega arith) v'.1 w')

tame_split : (n : ℕ) (ds : List ℤ) → Tame ds → Tame (take (2 * n) ds) × Tame (drop (2 * n) ds)
tame_split zero ds w = (tt, w)
tame_split (suc n) [] w = let m : 2 * suc n ≡ suc (suc (2 * n)) = omega arith in rw m (tt, tt)
tame_split (suc n) (x ∷ []) w = let m : 2 * suc n ≡ suc (suc (2 * n)) = omega arith in rw m (tt, tt)
tame_split (suc n) (x ∷ y ∷ ds) w =
    let m : 2 * suc n ≡ suc (suc (2 * n)) = omega arith in
    let h = tame_split n ds w.1 in
    rw m ((w.0, h.0), h.1)

-- ---- splines

pub fine_splines : (limit total p : ℕ) (ns : List ℕ) (ds : List ℤ) → total ≤ limit → length ds ≡ 2 * points_of ns
    → first_fault (spline_checks limit total p ns ds) ≡ Fine → (total + points_of ns ≤ limit) × Tame ds
unfolding spline_checks
fine_splines limit total p [] [] u h e = (omega arith, tt)
fine_splines limit total p [] (x ∷ ds) u h e = absurd (omega arith)
fine_splines limit total p (n ∷ ns) ds u h e =
    let t = passed (ltb limit (total + n)) Points p (delta_checks (p + 1) (take (2 * n) ds) ++ spline_checks limit (total + n) (p + (2 * n + 129)) ns (drop (2 * n) ds)) e in
    let b = both_fine (delta_checks (p + 1) (take (2 * n) ds)) (spline_checks limit (total + n) (p + (2 * n + 129)) ns (drop (2 * n) ds)) t.1 in
    let under = ltb-false limit (total + n) t.0 in
    let ih = fine_splines limit (total + n) (p + (2 * n + 129)) ns (drop (2 * n) ds) under (length-drop (2 * n) ds ∙ omega arith) b.1 in
    (omega (arith, ih.0), tame_join n ds (omega arith) (fine_tame (p + 1) (take (2 * n) ds) b.0) ih.1)

pub splines_fine : (limit total p : ℕ) (ns : List ℕ) (ds : List ℤ) → total + points_of ns ≤ limit → Tame ds → first_fault (spline_checks limit total p ns ds) ≡ Fine
unfolding spline_checks first_fault
splines_fine limit total p [] ds u w = refl
splines_fine limit total p (n ∷ ns) ds u w =
    let v = tame_split n ds w in
    rw (le-ltb limit (total + n) (omega arith))
    (fine_before (delta_checks (p + 1) (take (2 * n) ds)) (spline_checks limit (total + n) (p + (2 * n + 129)) ns (drop (2 * n) ds)) (tame_fine (p + 1) (take (2 * n) ds) v.0)
    ∙ splines_fine limit (total + n) (p + (2 * n + 129)) ns (drop (2 * n) ds) (omega arith) v.1)

-- ---- descriptions

-- what is accepted has a list
pub fine_valid : (limit : ℕ) (ns : List ℕ) (ss : List Float) (ds cs : List ℤ) → first_fault (content_checks ns ss ds cs limit) ≡ Fine → Valid limit (map whole_of ss) ns ds cs
fine_valid limit ns ss ds cs e =
    let f = content_fine ns ss ds cs limit e in
    let s = agreed ns ss ds cs f.0 in
    let n = counted limit (length ns) f.1 in
    let t = fine_splines limit 0 (2 * length ns + 2) ns ds (omega arith) s.1 f.3 in
    record {
      some = n.0;
      count = n.1;
      total = omega (arith, t.0);
      starts = length-map ss whole_of ∙ s.0;
      deltas = s.1;
      coefficients = s.2;
      near = fine_near true 1 ss f.2;
      tame = t.1;
    }

-- and what has a list is accepted
pub valid_fine : (limit : ℕ) (zs : List ℤ) (ns : List ℕ) (ds cs : List ℤ) → Valid limit zs ns ds cs → first_fault (content_checks ns (map f32_of zs) ds cs limit) ≡ Fine
valid_fine limit zs ns ds cs v =
    let shaped = sym (agree ns (map f32_of zs) ds cs (length-map zs f32_of ∙ v.starts) v.deltas v.coefficients) in
    let few = well_counted limit (length ns) (λ z. omega (arith, v.some, z)) v.count in
    content_rest ns (map f32_of zs) ds cs limit shaped few (near_fine true 1 zs v.near)
    ∙ splines_fine limit 0 (2 * length ns + 2) ns ds (omega (arith, v.total)) v.tame

-- Assumes nothing.
