-- Each code is given exactly when the table says so, and a list is read exactly when reading reaches its end.
-- `from` is what becomes of reading from a point on: it is the same at every point that is reached, which proves one direction;
-- the other follows reading step by step to the point where it stops.
use mathlib.Core.Path.{◌≡◌, refl, sym, ap, subst, ◌∙◌}
use mathlib.Core.Bool.{Bool, true, false, cond}
use mathlib.Core.List.{List, [], ◌∷◌}
use Prim.Native.Nat.{ℕ, zero, suc, ◌+◌, ◌-◌, ◌*◌, ◌≤◌, ◌<◌}
use native.Mathlib.Nat.{not-suc-le-zero, sub-zero}
use native.Mathlib.Omega.{arith}
use lib.Dec.{ltb}
use lib.ListN.{length}
use lib.IntN.{ℤ, pos, nat_abs}
use borrow.Author.Tests.{lt-ltb, le-ltb, ltb-true, ltb-false}
use Rattle.codes.specs.declared.Code.{Code}
use Rattle.codes.proofs.Decides.{Decides, at_most, less_than, either_decides}
use Rattle.list.specs.List.{unpack_signed, pos_limit, delta_limit, beyond, ListRooms, Got, got, stop, Spline, spline, Splines, splines, Described, and_then, onto, coordinate, starts_in, deltas_in, coefficients_in, spline_in, onto_splines, splines_of, describe, ended, after_starts, lacking, read_of}
use Rattle.list.specs.List as L
use Rattle.reader.specs.Refusals.{Due, count, starts, adjustment, points, deltas, coefficients, nothing, wants, Reached, begin, counted, started, all_started, adjusted, pointed, moved, all_moved, weighed, all_weighed, all_pointed, DueRefusal, short, many_splines, far_start, many_points, far_delta, left_over, no_room, no_deltas, place_of, ReadRefusal, Far, Close, FewCells, EnoughCells}

-- ---- the tests of the code, and what the table says of numbers

decides_far : (limit : ℕ) (x y : ℤ) → Decides (beyond limit x y) (Far limit x y) (Close limit x y)
decides_far limit x y = either_decides (at_most limit (nat_abs x)) (at_most limit (nat_abs y))

decides_cells : (rooms : ListRooms) (s : ℕ) → Decides (lacking rooms s) (FewCells rooms s) (EnoughCells rooms s)
decides_cells rooms s =
    either_decides (less_than rooms.counts s) (either_decides (less_than rooms.starts (2 * s)) (less_than rooms.coefficients (128 * s)))

-- ---- one direction

-- what becomes of reading
data Fate : Type 0 where
  done : Fate
  at : Code → ℕ → Fate

abbrev fate : {A : Type 0} → Got A → Fate
fate (got a l) = done
fate (stop c p) = at c p

-- first one part, and then what becomes of the rest
abbrev follow : {A : Type 0} → Got A → (List ℕ → Fate) → Fate
follow (got a l) k = k l
follow (stop c p) k = at c p

fate_stop : {A : Type 0} (g : Got A) (c : Code) (p : ℕ) → fate g ≡ at c p → g ≡ stop c p
fate_stop (got a l) c p e = cc
fate_stop (stop d q) c p e =
    let x : d ≡ c = cc in
    let y : q ≡ p = cc in
    rw (x, y)

follow_onto : {A : Type 0} (vs : List A) (g : Got (List A)) (k : List ℕ → Fate) → follow (onto vs g) k ≡ follow g k
follow_onto vs (got ws l) k = refl
follow_onto vs (stop c p) k = refl

follow_splines : (x : Spline) (g : Got Splines) (k : List ℕ → Fate) → follow (onto_splines x g) k ≡ follow g k
follow_splines (spline n es bs) (got (splines ns ds cs) l) k = refl
follow_splines (spline n es bs) (stop c p) k = refl

fate_then : {A B : Type 0} (g : Got A) (f : A → List ℕ → Got B) (h : List ℕ → Fate) → ((a : A) (l : List ℕ) → fate (f a l) ≡ h l) → fate (and_then g f) ≡ follow g h
fate_then (got a l) f h e = e a l
fate_then (stop c p) f h e = refl

module _ (limit : ℕ) (rooms : ListRooms) (t : ℕ) where
  abbrev end : List ℕ → Fate
  end [] = done
  end (a ∷ r) = at Code.Trail (t - length (a ∷ r))

  abbrev splines_from : ℕ → ℕ → List ℕ → Fate
  splines_from s used r = follow (splines_of t (limit - used) (rooms.deltas - 2 * used) s r) end

  abbrev coefficients_from : ℕ → ℕ → ℕ → List ℕ → Fate
  coefficients_from s used n r = follow (coefficients_in t n r) (splines_from s used)

  abbrev deltas_from : ℕ → ℕ → ℕ → List ℕ → Fate
  deltas_from s used n r = follow (deltas_in t n r) (coefficients_from s used 128)

  abbrev adjustment_from : ℕ → List ℕ → Fate
  adjustment_from s [] = at Code.Short t
  adjustment_from s (u ∷ r) = splines_from s 0 r

  abbrev starts_from : ℕ → ℕ → Bool → ℤ → ℤ → List ℕ → Fate
  starts_from s n first x y r = follow (starts_in t first x y n r) (adjustment_from s)

  abbrev count_from : List ℕ → Fate
  count_from [] = at Code.Short t
  count_from (v ∷ r) =
      cond (ltb limit (v + 1)) (at Code.Splines (t - length (v ∷ r)))
      (cond (lacking rooms (v + 1)) (at Code.Room (t - length (v ∷ r))) (starts_from (v + 1) (v + 1) true (pos 0) (pos 0) r))

  abbrev from : Due → List ℕ → Fate
  from count r = count_from r
  from (starts s n first x y) r = starts_from s n first x y r
  from (adjustment s) r = adjustment_from s r
  from (points s used) r = splines_from s used r
  from (deltas s used n) r = deltas_from s used n r
  from (coefficients s used n) r = coefficients_from s used n r
  from nothing r = end r

  -- ---- one step

  starts_step : (s n : ℕ) (first : Bool) (x y : ℤ) (a b : ℕ) (r : List ℕ) → beyond pos_limit (coordinate first x a) (coordinate first y b) ≡ false
      → starts_from s (suc n) first x y (a ∷ b ∷ r) ≡ starts_from s n false (coordinate first x a) (coordinate first y b) r
  unfolding starts_in
  starts_step s n first x y a b r e =
      rw e (follow_onto (coordinate first x a ∷ coordinate first y b ∷ []) (starts_in t false (coordinate first x a) (coordinate first y b) n r) (adjustment_from s))

  deltas_step : (s used n a b : ℕ) (r : List ℕ) → beyond delta_limit (unpack_signed a) (unpack_signed b) ≡ false
      → deltas_from s used (suc n) (a ∷ b ∷ r) ≡ deltas_from s used n r
  unfolding deltas_in
  deltas_step s used n a b r e = rw e (follow_onto (unpack_signed a ∷ unpack_signed b ∷ []) (deltas_in t n r) (coefficients_from s used 128))

  coefficients_step : (s used n u : ℕ) (r : List ℕ) → coefficients_from s used (suc n) (u ∷ r) ≡ coefficients_from s used n r
  unfolding coefficients_in
  coefficients_step s used n u r = follow_onto (unpack_signed u ∷ []) (coefficients_in t n r) (splines_from s used)

  -- a point count
  abbrev points_from : ℕ → ℕ → ℕ → List ℕ → Fate
  points_from s used n r =
      cond (ltb (limit - used) n) (at Code.Points (t - length (n ∷ r)))
      (cond (ltb (rooms.deltas - 2 * used) (2 * n)) (at Code.Room (t - length (n ∷ r))) (deltas_from s (used + n) n r))

  points_step : (s used n : ℕ) (r : List ℕ) → splines_from (suc s) used (n ∷ r) ≡ points_from s used n r
  unfolding splines_of spline_in
  points_step s used n r = test (ltb (limit - used) n) (ltb (rooms.deltas - 2 * used) (2 * n))
    where
      others : Spline → List ℕ → Got Splines
      others x l1 = onto_splines x (splines_of t (limit - used - L.points x) (rooms.deltas - 2 * used - 2 * L.points x) s l1)

      last : (ds : List ℤ) (g : Got (List ℤ)) → follow (and_then (and_then g (λ cs l2. got (spline n ds cs) l2)) others) end ≡ follow g (splines_from s (used + n))
      last ds (stop c p) = refl
      last ds (got cs l2) =
          let x : limit - used - n ≡ limit - (used + n) = omega arith in
          let y : rooms.deltas - 2 * used - 2 * n ≡ rooms.deltas - 2 * (used + n) = omega arith in
          rw (x, y) (follow_splines (spline n ds cs) (splines_of t (limit - (used + n)) (rooms.deltas - 2 * (used + n)) s l2) end)

      first : (g : Got (List ℤ)) → follow (and_then (and_then g (λ ds l1. and_then (coefficients_in t 128 l1) (λ cs l2. got (spline n ds cs) l2))) others) end
          ≡ follow g (coefficients_from s (used + n) 128)
      first (stop c p) = refl
      first (got ds l1) = last ds (coefficients_in t 128 l1)

      test : (p q : Bool)
          → follow (and_then (cond p (stop Code.Points (t - length (n ∷ r))) (cond q (stop Code.Room (t - length (n ∷ r)))
          (and_then (deltas_in t n r) (λ ds l1. and_then (coefficients_in t 128 l1) (λ cs l2. got (spline n ds cs) l2))))) others) end
          ≡ cond p (at Code.Points (t - length (n ∷ r))) (cond q (at Code.Room (t - length (n ∷ r))) (deltas_from s (used + n) n r))
      test true q = refl
      test false true = refl
      test false false = first (deltas_in t n r)

  points_on : (s used n : ℕ) (r : List ℕ) → used + n ≤ limit → 2 * (used + n) ≤ rooms.deltas → splines_from (suc s) used (n ∷ r) ≡ deltas_from s (used + n) n r
  points_on s used n r h w = points_step s used n r ∙ rw (le-ltb (limit - used) n (omega arith), le-ltb (rooms.deltas - 2 * used) (2 * n) (omega arith))

  splines_end : (used : ℕ) (r : List ℕ) → splines_from zero used r ≡ end r
  unfolding splines_of
  splines_end used r = refl

  deltas_end : (s used : ℕ) (r : List ℕ) → deltas_from s used zero r ≡ coefficients_from s used 128 r
  unfolding deltas_in
  deltas_end s used r = refl

  coefficients_end : (s used : ℕ) (r : List ℕ) → coefficients_from s used zero r ≡ splines_from s used r
  unfolding coefficients_in
  coefficients_end s used r = refl

  starts_end : (s : ℕ) (first : Bool) (x y : ℤ) (r : List ℕ) → starts_from s zero first x y r ≡ adjustment_from s r
  unfolding starts_in
  starts_end s first x y r = refl

  -- ---- what the table says is what becomes of reading there

  ends : (d : Due) (r : List ℕ) → length r < wants d → from d r ≡ at Code.Short t
  unfolding starts_in deltas_in coefficients_in splines_of spline_in
  ends count [] h = refl
  ends count (a ∷ r) h = absurd (omega arith)
  ends (starts s zero first x y) r h = absurd (not-suc-le-zero h)
  ends (starts s (suc n) first x y) [] h = refl
  ends (starts s (suc n) first x y) (a ∷ []) h = refl
  ends (starts s (suc n) first x y) (a ∷ b ∷ r) h = absurd (omega arith)
  ends (adjustment s) [] h = refl
  ends (adjustment s) (a ∷ r) h = absurd (omega arith)
  ends (points zero used) r h = absurd (not-suc-le-zero h)
  ends (points (suc s) used) [] h = refl
  ends (points (suc s) used) (a ∷ r) h = absurd (omega arith)
  ends (deltas s used zero) r h = absurd (not-suc-le-zero h)
  ends (deltas s used (suc n)) [] h = refl
  ends (deltas s used (suc n)) (a ∷ []) h = refl
  ends (deltas s used (suc n)) (a ∷ b ∷ r) h = absurd (omega arith)
  ends (coefficients s used zero) r h = absurd (not-suc-le-zero h)
  ends (coefficients s used (suc n)) [] h = refl
  ends (coefficients s used (suc n)) (a ∷ r) h = absurd (omega arith)
  ends nothing r h = absurd (not-suc-le-zero h)

  -- the points so far are within the limit, and their double deltas within the room
  abbrev Under : Due → Type 0
  Under count = Unit {0}
  Under (starts s n first x y) = Unit {0}
  Under (adjustment s) = Unit {0}
  Under (points s used) = (used ≤ limit) × (2 * used ≤ rooms.deltas)
  Under (deltas s used n) = (used ≤ limit) × (2 * used ≤ rooms.deltas)
  Under (coefficients s used n) = (used ≤ limit) × (2 * used ≤ rooms.deltas)
  Under nothing = Unit {0}

  under : {l : List ℕ} {d : Due} {r : List ℕ} → Reached limit rooms l d r → Under d
  under begin = tt
  under (counted q h w) = tt
  under (started q h) = tt
  under (all_started q) = tt
  under (adjusted q) = (omega arith, omega arith)
  under (pointed q h w) = (h, w)
  under (moved q h) = under q
  under (all_moved q) = under q
  under (weighed q) = under q
  under (all_weighed q) = under q
  under (all_pointed q) = tt

  given_at : {c : Code} {d : Due} {r : List ℕ} → Under d → DueRefusal limit rooms c d r → from d r ≡ at c (place_of c t r)
  unfolding starts_in deltas_in coefficients_in
  given_at u (short {d} {r} h) = ends d r h
  given_at u (many_splines {v} {r} h) = rw (lt-ltb limit (v + 1) h)
  given_at u (far_start {first = first} {x = x} {y = y} {a = a} {b = b} h) = rw ((decides_far pos_limit (coordinate first x a) (coordinate first y b)).passes h)
  given_at u (many_points {s} {used} {n} {r} h) = points_step s used n r ∙ rw (lt-ltb (limit - used) n (omega (arith, u.0)))
  given_at u (far_delta {a = a} {b = b} h) = rw ((decides_far delta_limit (unpack_signed a) (unpack_signed b)).passes h)
  given_at u left_over = refl
  given_at u (no_room {v} {r} h w) = rw (le-ltb limit (v + 1) h, (decides_cells rooms (v + 1)).passes w)
  given_at u (no_deltas {s} {used} {n} {r} h w) =
      points_step s used n r ∙ rw (le-ltb (limit - used) n (omega arith), lt-ltb (rooms.deltas - 2 * used) (2 * n) (omega (arith, u.1)))

  -- ---- and the same at every point that is reached

  reached_from : {l : List ℕ} {d : Due} {r : List ℕ} → Reached limit rooms l d r → count_from l ≡ from d r
  reached_from begin = refl
  reached_from (counted {v} {r} q h w) = reached_from q ∙ rw (le-ltb limit (v + 1) h, (decides_cells rooms (v + 1)).fails w)
  reached_from (started {s} {n} {first} {x} {y} {a} {b} {r} q h) = reached_from q ∙ starts_step s n first x y a b r ((decides_far pos_limit (coordinate first x a) (coordinate first y b)).fails h)
  reached_from (all_started {s} {first} {x} {y} {r} q) = reached_from q ∙ starts_end s first x y r
  reached_from (adjusted q) = reached_from q
  reached_from (pointed {s} {used} {n} {r} q h w) = reached_from q ∙ points_on s used n r h w
  reached_from (moved {s} {used} {n} {a} {b} {r} q h) = reached_from q ∙ deltas_step s used n a b r ((decides_far delta_limit (unpack_signed a) (unpack_signed b)).fails h)
  reached_from (all_moved {s} {used} {r} q) = reached_from q ∙ deltas_end s used r
  reached_from (weighed {s} {used} {n} {u} {r} q) = reached_from q ∙ coefficients_step s used n u r
  reached_from (all_weighed {s} {used} {r} q) = reached_from q ∙ coefficients_end s used r
  reached_from (all_pointed {used} {r} q) = reached_from q ∙ splines_end used r

  -- ---- the definition

  ended_fate : (x : Described) (l : List ℕ) → fate (ended t x l) ≡ end l
  ended_fate x [] = refl
  ended_fate x (a ∷ l) = refl

  after_fate : (s : ℕ) (zs : List ℤ) (l : List ℕ) → fate (after_starts t limit rooms.deltas s zs l) ≡ adjustment_from s l
  unfolding after_starts
  after_fate s zs [] = refl
  after_fate s zs (u ∷ l) =
      rw (sub-zero limit, sub-zero rooms.deltas)
      (fate_then (splines_of t limit rooms.deltas s l) (λ x l1. ended t (describe (unpack_signed u) zs x) l1) end (λ x l1. ended_fate (describe (unpack_signed u) zs x) l1))

read_fate : (limit : ℕ) (rooms : ListRooms) (l : List ℕ) → fate (read_of limit rooms l) ≡ count_from limit rooms (length l) l
unfolding read_of
read_fate limit rooms [] = refl
read_fate limit rooms (v ∷ l) =
    let t = length (v ∷ l) in
    let none : t - t ≡ 0 = omega arith in
    rw none (test (ltb limit (v + 1)) (lacking rooms (v + 1)))
  where
    test : (p q : Bool)
        → fate (cond p (stop Code.Splines 0) (cond q (stop Code.Room 0) (and_then (starts_in (length (v ∷ l)) true (pos 0) (pos 0) (v + 1) l)
        (λ zs l1. after_starts (length (v ∷ l)) limit rooms.deltas (v + 1) zs l1))))
        ≡ cond p (at Code.Splines 0) (cond q (at Code.Room 0) (starts_from limit rooms (length (v ∷ l)) (v + 1) (v + 1) true (pos 0) (pos 0) l))
    test true q = refl
    test false true = refl
    test false false =
        fate_then (starts_in (length (v ∷ l)) true (pos 0) (pos 0) (v + 1) l) (λ zs l1. after_starts (length (v ∷ l)) limit rooms.deltas (v + 1) zs l1)
        (adjustment_from limit rooms (length (v ∷ l)) (v + 1)) (λ zs l1. after_fate limit rooms (length (v ∷ l)) (v + 1) zs l1)

-- what the table says is given
pub given_exactly : (limit : ℕ) (rooms : ListRooms) (l : List ℕ) (c : Code) (d : Due) (r : List ℕ) → Reached limit rooms l d r → DueRefusal limit rooms c d r
    → read_of limit rooms l ≡ stop c (place_of c (length l) r)
given_exactly limit rooms l c d r q g =
    fate_stop (read_of limit rooms l) c (place_of c (length l) r) (read_fate limit rooms l ∙ reached_from limit rooms (length l) q ∙ given_at limit rooms (length l) (under limit rooms (length l) q) g)

-- ---- what is given is in the table

-- what is met at the end of reading: its end, or a refusal of the table
abbrev Met : ℕ → ListRooms → List ℕ → Fate → Type 0
Met limit rooms l done = Reached limit rooms l nothing []
Met limit rooms l (at c p) = ReadRefusal limit rooms l c p

module _ (limit : ℕ) (rooms : ListRooms) (l : List ℕ) (f : Fate) where
  abbrev t : ℕ
  t = length l

  stopped : {c : Code} (d : Due) (r : List ℕ) → Reached limit rooms l d r → DueRefusal limit rooms c d r → from limit rooms t d r ≡ f → Met limit rooms l f
  stopped d r q g e =
      subst (Met limit rooms l) (sym (given_at limit rooms t (under limit rooms t q) g) ∙ e)
      (record { due = d; rest = r; reached = q; given = g; place = refl })

  find_end : (r : List ℕ) → Reached limit rooms l nothing r → end limit rooms t r ≡ f → Met limit rooms l f
  find_end [] q e = subst (Met limit rooms l) e q
  find_end (a ∷ r) q e = stopped nothing (a ∷ r) q left_over e

  module _ (s used : ℕ) (on : (r : List ℕ) → Reached limit rooms l (points s used) r → splines_from limit rooms t s used r ≡ f → Met limit rooms l f) where
    find_coefficients : (n : ℕ) (r : List ℕ) → Reached limit rooms l (coefficients s used n) r → coefficients_from limit rooms t s used n r ≡ f → Met limit rooms l f
    find_coefficients zero r q e = on r (all_weighed q) (sym (coefficients_end limit rooms t s used r) ∙ e)
    find_coefficients (suc n) [] q e = stopped (coefficients s used (suc n)) [] q (short (omega arith)) e
    find_coefficients (suc n) (u ∷ r) q e = find_coefficients n r (weighed q) (sym (coefficients_step limit rooms t s used n u r) ∙ e)

    find_deltas : (n : ℕ) (r : List ℕ) → Reached limit rooms l (deltas s used n) r → deltas_from limit rooms t s used n r ≡ f → Met limit rooms l f
    find_deltas zero r q e = find_coefficients 128 r (all_moved q) (sym (deltas_end limit rooms t s used r) ∙ e)
    find_deltas (suc n) [] q e = stopped (deltas s used (suc n)) [] q (short (omega arith)) e
    find_deltas (suc n) (a ∷ []) q e = stopped (deltas s used (suc n)) (a ∷ []) q (short (omega arith)) e
    find_deltas (suc n) (a ∷ b ∷ r) q e = test (beyond delta_limit (unpack_signed a) (unpack_signed b)) refl (λ q' e'. find_deltas n r q' e')
      where
        test : (w : Bool) → beyond delta_limit (unpack_signed a) (unpack_signed b) ≡ w
            → (Reached limit rooms l (deltas s used n) r → deltas_from limit rooms t s used n r ≡ f → Met limit rooms l f) → Met limit rooms l f
        test true w next = stopped (deltas s used (suc n)) (a ∷ b ∷ r) q (far_delta ((decides_far delta_limit (unpack_signed a) (unpack_signed b)).passed w)) e
        test false w next = next (moved q ((decides_far delta_limit (unpack_signed a) (unpack_signed b)).failed w)) (sym (deltas_step limit rooms t s used n a b r w) ∙ e)

  find_splines : (s used : ℕ) (r : List ℕ) → Reached limit rooms l (points s used) r → splines_from limit rooms t s used r ≡ f → Met limit rooms l f
  find_splines zero used r q e = find_end r (all_pointed q) (sym (splines_end limit rooms t used r) ∙ e)
  find_splines (suc s) used [] q e = stopped (points (suc s) used) [] q (short (omega arith)) e
  find_splines (suc s) used (n ∷ r) q e =
      test (ltb limit (used + n)) (ltb rooms.deltas (2 * (used + n))) refl refl (λ r' q' e'. find_splines s (used + n) r' q' e')
    where
      test : (x y : Bool) → ltb limit (used + n) ≡ x → ltb rooms.deltas (2 * (used + n)) ≡ y
          → ((r' : List ℕ) → Reached limit rooms l (points s (used + n)) r' → splines_from limit rooms t s (used + n) r' ≡ f → Met limit rooms l f)
          → Met limit rooms l f
      test true y h w next = stopped (points (suc s) used) (n ∷ r) q (many_points (ltb-true limit (used + n) h)) e
      test false true h w next =
          stopped (points (suc s) used) (n ∷ r) q (no_deltas (ltb-false limit (used + n) h) (ltb-true rooms.deltas (2 * (used + n)) w)) e
      test false false h w next =
          let within = ltb-false limit (used + n) h in
          let fits = ltb-false rooms.deltas (2 * (used + n)) w in
          find_deltas s (used + n) next n r (pointed q within fits) (sym (points_on limit rooms t s used n r within fits) ∙ e)

  find_adjustment : (s : ℕ) (r : List ℕ) → Reached limit rooms l (adjustment s) r → adjustment_from limit rooms t s r ≡ f → Met limit rooms l f
  find_adjustment s [] q e = stopped (adjustment s) [] q (short (omega arith)) e
  find_adjustment s (u ∷ r) q e = find_splines s 0 r (adjusted q) e

  find_starts : (s n : ℕ) (first : Bool) (x y : ℤ) (r : List ℕ) → Reached limit rooms l (starts s n first x y) r → starts_from limit rooms t s n first x y r ≡ f → Met limit rooms l f
  find_starts s zero first x y r q e = find_adjustment s r (all_started q) (sym (starts_end limit rooms t s first x y r) ∙ e)
  find_starts s (suc n) first x y [] q e = stopped (starts s (suc n) first x y) [] q (short (omega arith)) e
  find_starts s (suc n) first x y (a ∷ []) q e = stopped (starts s (suc n) first x y) (a ∷ []) q (short (omega arith)) e
  find_starts s (suc n) first x y (a ∷ b ∷ r) q e =
      test (beyond pos_limit (coordinate first x a) (coordinate first y b)) refl
      (λ q' e'. find_starts s n false (coordinate first x a) (coordinate first y b) r q' e')
    where
      test : (w : Bool) → beyond pos_limit (coordinate first x a) (coordinate first y b) ≡ w
          → (Reached limit rooms l (starts s n false (coordinate first x a) (coordinate first y b)) r
          → starts_from limit rooms t s n false (coordinate first x a) (coordinate first y b) r ≡ f → Met limit rooms l f)
          → Met limit rooms l f
      test true w next = stopped (starts s (suc n) first x y) (a ∷ b ∷ r) q (far_start ((decides_far pos_limit (coordinate first x a) (coordinate first y b)).passed w)) e
      test false w next = next (started q ((decides_far pos_limit (coordinate first x a) (coordinate first y b)).failed w)) (sym (starts_step limit rooms t s n first x y a b r w) ∙ e)

  find_count : (r : List ℕ) → Reached limit rooms l count r → count_from limit rooms t r ≡ f → Met limit rooms l f
  find_count [] q e = stopped count [] q (short (omega arith)) e
  find_count (v ∷ r) q e = test (ltb limit (v + 1)) (lacking rooms (v + 1)) refl refl
    where
      test : (x y : Bool) → ltb limit (v + 1) ≡ x → lacking rooms (v + 1) ≡ y → Met limit rooms l f
      test true y h w = stopped count (v ∷ r) q (many_splines (ltb-true limit (v + 1) h)) e
      test false true h w = stopped count (v ∷ r) q (no_room (ltb-false limit (v + 1) h) ((decides_cells rooms (v + 1)).passed w)) e
      test false false h w =
          find_starts (v + 1) (v + 1) true (pos 0) (pos 0) r (counted q (ltb-false limit (v + 1) h) ((decides_cells rooms (v + 1)).failed w))
          (rw (h, w) at e)

-- what is given is said by the table
pub refused_exactly : (limit : ℕ) (rooms : ListRooms) (l : List ℕ) (c : Code) (p : ℕ) → read_of limit rooms l ≡ stop c p → ReadRefusal limit rooms l c p
refused_exactly limit rooms l c p e = find_count limit rooms l (at c p) l begin (sym (read_fate limit rooms l) ∙ ap fate e)

-- a list is read exactly when reading reaches its end
pub read_reached : (limit : ℕ) (rooms : ListRooms) (l : List ℕ) (x : Described) (r : List ℕ) → read_of limit rooms l ≡ got x r → Reached limit rooms l nothing []
read_reached limit rooms l x r e = find_count limit rooms l done l begin (sym (read_fate limit rooms l) ∙ ap fate e)

pub reached_read : (limit : ℕ) (rooms : ListRooms) (l : List ℕ) → Reached limit rooms l nothing [] → (x : Described) × (r : List ℕ) × (read_of limit rooms l ≡ got x r)
reached_read limit rooms l q = go (read_of limit rooms l) (read_fate limit rooms l ∙ reached_from limit rooms (length l) q)
  where
    go : (g : Got Described) → fate g ≡ done → (x : Described) × (r : List ℕ) × (g ≡ got x r)
    go (got x r) e = (x, r, refl)
    go (stop c p) e = let z : ◌≡◌ {A = ℕ} 0 1 = cc in absurd (omega arith)

-- Assumes nothing.
