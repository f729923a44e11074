-- What each step of reading accepts: the list begins with what the values that it gave are written as, and these are valid.
-- Each law takes its step's definition apart: no stop was met, and what came before and after is joined.
use mathlib.Core.Path.{◌≡◌, refl, sym, ap, subst, ◌∙◌}
use mathlib.Core.Bool.{Bool, true, false, cond}
use mathlib.Core.List.{List, [], ◌∷◌, ◌++◌, map, append_assoc, append-nil}
use Prim.Native.Nat.{ℕ, zero, suc, ◌+◌, ◌-◌, ◌*◌, ◌≤◌}
use native.Mathlib.Omega.{arith}
use lib.Dec.{ltb}
use lib.ListN.{length, length-append}
use lib.Seq.{take_at, drop_at}
use lib.IntN.{ℤ, pos, ◌+ℤ◌, ◌-ℤ◌, +ℤ_comm, +ℤ-neg_ℤ_cancel}
use borrow.Author.Tests.{ltb-false}
use Rattle.codes.specs.declared.Code.{Code}
use Rattle.shape.specs.Shape.{points_of}
use Rattle.list.specs.List.{unpack_signed, pack_signed, pos_limit, delta_limit, beyond, ListRooms, Got, got, stop, Spline, spline, Splines, splines, Described, described, and_then, onto, coordinate, starts_in, deltas_in, coefficients_in, spline_in, points, onto_splines, splines_of, describe, ended, after_starts, lacking, read_of, starts_list, splines_list, list_of, Near, Tame, Valid}
use Rattle.list.proofs.Signed.{pack_unpack}

-- ---- a step that gave something

module _ {A : Type 0} where
  -- was not stopped by its test
  pub cond_got : (b : Bool) (c : Code) (p : ℕ) (g : Got A) (x : A) (r : List ℕ) → cond b (stop c p) g ≡ got x r → (b ≡ false) × (g ≡ got x r)
  cond_got true c p g x r e = let z : ◌≡◌ {A = ℕ} 0 1 = cc in absurd (omega arith)
  cond_got false c p g x r e = (refl, e)

  -- had a first part and a second
  pub then_got : {B : Type 0} (g : Got A) (f : A → List ℕ → Got B) (y : B) (r : List ℕ) → and_then g f ≡ got y r
      → (a : A) × (l : List ℕ) × (g ≡ got a l) × (f a l ≡ got y r)
  then_got (got a l) f y r e = (a, l, refl, e)
  then_got (stop c p) f y r e = let z : ◌≡◌ {A = ℕ} 0 1 = cc in absurd (omega arith)

  -- gave more after its first values
  pub onto_got : (us : List A) (g : Got (List A)) (vs : List A) (r : List ℕ) → onto us g ≡ got vs r
      → (ws : List A) × (g ≡ got ws r) × (vs ≡ us ++ ws)
  onto_got us (got ws l) vs r e = let p : l ≡ r = cc in (ws, rw p, cc)
  onto_got us (stop c p) vs r e = let z : ◌≡◌ {A = ℕ} 0 1 = cc in absurd (omega arith)

-- ---- coefficients

pub coefficients_read : (t n : ℕ) (l : List ℕ) (vs : List ℤ) (r : List ℕ) → coefficients_in t n l ≡ got vs r
    → (l ≡ map pack_signed vs ++ r) × (length vs ≡ n)
unfolding coefficients_in
coefficients_read t zero l vs r e =
    let p : vs ≡ [] = cc in
    let q : l ≡ r = cc in
    rw (p, q) (refl, refl)
coefficients_read t (suc n) [] vs r e = let z : ◌≡◌ {A = ℕ} 0 1 = cc in absurd (omega arith)
coefficients_read t (suc n) (a ∷ l) vs r e =
    let o = onto_got (unpack_signed a ∷ []) (coefficients_in t n l) vs r e in
    let h = coefficients_read t n l o.0 r o.1 in
    rw (o.2, pack_unpack a) (ap (λ (k : List ℕ). a ∷ k) h.0, ap suc h.1)

-- ---- double deltas

pub deltas_read : (t n : ℕ) (l : List ℕ) (vs : List ℤ) (r : List ℕ) → deltas_in t n l ≡ got vs r
    → (l ≡ map pack_signed vs ++ r) × (length vs ≡ 2 * n) × Tame vs
unfolding deltas_in
deltas_read t zero l vs r e =
    let p : vs ≡ [] = cc in
    let q : l ≡ r = cc in
    rw (p, q) (refl, refl, tt)
deltas_read t (suc n) [] vs r e = let z : ◌≡◌ {A = ℕ} 0 1 = cc in absurd (omega arith)
deltas_read t (suc n) (a ∷ []) vs r e = let z : ◌≡◌ {A = ℕ} 0 1 = cc in absurd (omega arith)
deltas_read t (suc n) (a ∷ b ∷ l) vs r e =
    let us = unpack_signed a ∷ unpack_signed b ∷ [] in
    let c = cond_got (beyond delta_limit (unpack_signed a) (unpack_signed b)) Code.Delta (t - length (a ∷ b ∷ l)) (onto us (deltas_in t n l)) vs r e in
    let o = onto_got us (deltas_in t n l) vs r c.1 in
    let h = deltas_read t n l o.0 r o.1 in
    rw o.2 (rw (pack_unpack a, pack_unpack b) (ap (λ (k : List ℕ). a ∷ b ∷ k) h.0), omega (arith, h.1), (c.0, h.2))

-- ---- starts

back : (x : ℤ) (u : ℕ) → pack_signed ((x +ℤ unpack_signed u) -ℤ x) ≡ u
back x u = rw (+ℤ_comm x (unpack_signed u), +ℤ-neg_ℤ_cancel (unpack_signed u) x) (pack_unpack u)

one_start : (first : Bool) (x y : ℤ) (a b : ℕ) (zs : List ℤ)
    → starts_list first x y (coordinate first x a ∷ coordinate first y b ∷ zs) ≡ a ∷ b ∷ starts_list false (coordinate first x a) (coordinate first y b) zs
one_start true x y a b zs = refl
one_start false x y a b zs = rw (back x a, back y b)

near_start : (first : Bool) (x y : ℤ) (a b : ℕ) (zs : List ℤ) → beyond pos_limit (coordinate first x a) (coordinate first y b) ≡ false → Near false zs
    → Near first (coordinate first x a ∷ coordinate first y b ∷ zs)
near_start true x y a b zs h w = (h, refl, refl, w)
near_start false x y a b zs h w = (h, w)

none_near : (first : Bool) → Near first []
none_near true = tt
none_near false = tt

pub starts_read : (t : ℕ) (first : Bool) (x y : ℤ) (n : ℕ) (l : List ℕ) (zs : List ℤ) (r : List ℕ) → starts_in t first x y n l ≡ got zs r
    → (l ≡ starts_list first x y zs ++ r) × (length zs ≡ 2 * n) × Near first zs
unfolding starts_in
starts_read t first x y zero l zs r e =
    let p : zs ≡ [] = cc in
    let q : l ≡ r = cc in
    rw (p, q) (refl, refl, none_near first)
starts_read t first x y (suc n) [] zs r e = let z : ◌≡◌ {A = ℕ} 0 1 = cc in absurd (omega arith)
starts_read t first x y (suc n) (a ∷ []) zs r e = let z : ◌≡◌ {A = ℕ} 0 1 = cc in absurd (omega arith)
starts_read t first x y (suc n) (a ∷ b ∷ l) zs r e =
    let cx = coordinate first x a in
    let cy = coordinate first y b in
    let c = cond_got (beyond pos_limit cx cy) Code.Coord (t - length (a ∷ b ∷ l)) (onto (cx ∷ cy ∷ []) (starts_in t false cx cy n l)) zs r e in
    let o = onto_got (cx ∷ cy ∷ []) (starts_in t false cx cy n l) zs r c.1 in
    let h = starts_read t false cx cy n l o.0 r o.1 in
    rw o.2
    (rw (one_start first x y a b o.0) (ap (λ (k : List ℕ). a ∷ b ∷ k) h.0), omega (arith, h.1), near_start first x y a b o.0 c.0 h.2)

-- ---- a spline

pub record SplineRead (t left room : ℕ) (l : List ℕ) (n : ℕ) (ds cs : List ℤ) (r : List ℕ) : Type 0 where
  pub is : l ≡ n ∷ (map pack_signed ds ++ (map pack_signed cs ++ r))
  pub under : n ≤ left
  pub fits : 2 * n ≤ room
  pub deltas : length ds ≡ 2 * n
  pub coefficients : length cs ≡ 128
  pub tame : Tame ds

made : (t left room a : ℕ) (l l1 : List ℕ) (es bs : List ℤ) (l2 : List ℕ) → a ≤ left → 2 * a ≤ room
    → (l ≡ map pack_signed es ++ l1) × (length es ≡ 2 * a) × Tame es → (l1 ≡ map pack_signed bs ++ l2) × (length bs ≡ 128)
    → (n : ℕ) (ds cs : List ℤ) (r : List ℕ) → got (spline a es bs) l2 ≡ got (spline n ds cs) r → SplineRead t left room (a ∷ l) n ds cs r
made t left room a l l1 es bs l2 h g d k n ds cs r e =
    let same-n : a ≡ n = cc in
    let same-ds : es ≡ ds = cc in
    let same-cs : bs ≡ cs = cc in
    let same-r : l2 ≡ r = cc in
    rw (← same-n, ← same-ds, ← same-cs, ← same-r)
    (record {
      is = ap (λ (m : List ℕ). a ∷ m) (d.0 ∙ rw k.0);
      under = h;
      fits = g;
      deltas = d.1;
      coefficients = k.1;
      tame = d.2;
    })

pub spline_read : (t left room : ℕ) (l : List ℕ) (n : ℕ) (ds cs : List ℤ) (r : List ℕ) → spline_in t left room l ≡ got (spline n ds cs) r
    → SplineRead t left room l n ds cs r
unfolding spline_in
spline_read t left room [] n ds cs r e = let z : ◌≡◌ {A = ℕ} 0 1 = cc in absurd (omega arith)
spline_read t left room (a ∷ l) n ds cs r e =
    let p = t - length (a ∷ l) in
    let last : List ℤ → List ℕ → Got Spline = λ es l1. and_then (coefficients_in t 128 l1) (λ bs l2. got (spline a es bs) l2) in
    let c1 = cond_got (ltb left a) Code.Points p (cond (ltb room (2 * a)) (stop Code.Room p) (and_then (deltas_in t a l) last)) (spline n ds cs) r e in
    let c2 = cond_got (ltb room (2 * a)) Code.Room p (and_then (deltas_in t a l) last) (spline n ds cs) r c1.1 in
    let b1 = then_got (deltas_in t a l) last (spline n ds cs) r c2.1 in
    let b2 = then_got (coefficients_in t 128 b1.1) (λ bs l2. got (spline a b1.0 bs) l2) (spline n ds cs) r b1.3 in
    made t left room a l b1.1 b1.0 b2.0 b2.1 (ltb-false left a c1.0) (ltb-false room (2 * a) c2.0)
    (deltas_read t a l b1.0 b1.1 b1.2) (coefficients_read t 128 b1.1 b2.0 b2.1 b2.2) n ds cs r b2.3

-- ---- the splines

tame_append : (n : ℕ) (es ds : List ℤ) → length es ≡ 2 * n → Tame es → Tame ds → Tame (es ++ ds)
tame_append zero [] ds h v w = w
tame_append zero (x ∷ es) ds h v w = absurd (omega arith)
tame_append (suc n) [] ds h v w = absurd (omega arith)
tame_append (suc n) (x ∷ []) ds h v w = absurd (omega arith)
tame_append (suc n) (x ∷ y ∷ es) ds h v w = (v.0, tame_append n es ds (omega arith) v.1 w)

-- the list of one spline before others
pub splines_list_one : (n : ℕ) (ns : List ℕ) (es ds bs cs : List ℤ) (r : List ℕ) → length es ≡ 2 * n → length bs ≡ 128
    → splines_list (n ∷ ns) (es ++ ds) (bs ++ cs) ++ r ≡ n ∷ (map pack_signed es ++ (map pack_signed bs ++ (splines_list ns ds cs ++ r)))
splines_list_one n ns es ds bs cs r a b =
    rw (
      take_at es ds (2 * n) a,
      take_at bs cs 128 b,
      drop_at es ds (2 * n) a,
      drop_at bs cs 128 b,
      append_assoc (map pack_signed es ++ map pack_signed bs) (splines_list ns ds cs) r,
      append_assoc (map pack_signed es) (map pack_signed bs) (splines_list ns ds cs ++ r),
    )

pub record SplinesRead (left s : ℕ) (l : List ℕ) (ns : List ℕ) (ds cs : List ℤ) (r : List ℕ) : Type 0 where
  pub is : l ≡ splines_list ns ds cs ++ r
  pub count : length ns ≡ s
  pub under : points_of ns ≤ left
  pub deltas : length ds ≡ 2 * points_of ns
  pub coefficients : length cs ≡ 128 * length ns
  pub tame : Tame ds

more : (n s left : ℕ) (l l1 : List ℕ) (ns : List ℕ) (es ds bs cs : List ℤ) (r : List ℕ) → l ≡ n ∷ (map pack_signed es ++ (map pack_signed bs ++ l1))
    → n ≤ left → length es ≡ 2 * n → length bs ≡ 128 → Tame es → SplinesRead (left - n) s l1 ns ds cs r
    → SplinesRead left (suc s) l (n ∷ ns) (es ++ ds) (bs ++ cs) r
more n s left l l1 ns es ds bs cs r e h a b w v = record {
  is = e ∙ rw v.is (sym (splines_list_one n ns es ds bs cs r a b));
  count = ap suc v.count;
  under = omega (arith, v.under);
  deltas = length-append es ds ∙ omega (arith, v.deltas);
  coefficients = length-append bs cs ∙ omega (arith, v.coefficients);
  tame = tame_append n es ds a w v.tame;
}

pub splines_read : (t left room s : ℕ) (l : List ℕ) (ns : List ℕ) (ds cs : List ℤ) (r : List ℕ) → splines_of t left room s l ≡ got (splines ns ds cs) r
    → SplinesRead left s l ns ds cs r
unfolding splines_of
splines_read t left room zero l ns ds cs r e =
    let p : ns ≡ [] = cc in
    let q : ds ≡ [] = cc in
    let k : cs ≡ [] = cc in
    let same : l ≡ r = cc in
    rw (p, q, k, same) (record { is = refl; count = refl; under = omega arith; deltas = refl; coefficients = refl; tame = tt })
splines_read t left room (suc s) l ns ds cs r e =
    let b = then_got (spline_in t left room l) (λ x l1. onto_splines x (splines_of t (left - points x) (room - 2 * points x) s l1)) (splines ns ds cs) r e in
    first b.0 b.1 b.2 b.3 (λ left' room' l' ns' ds' cs' r'. splines_read t left' room' s l' ns' ds' cs' r')
  where
    rest : (n : ℕ) (es bs : List ℤ) (l1 : List ℕ) (g : Got Splines)
        → ((ns' : List ℕ) (ds' cs' : List ℤ) (r' : List ℕ) → g ≡ got (splines ns' ds' cs') r' → SplinesRead (left - n) s l1 ns' ds' cs' r')
        → onto_splines (spline n es bs) g ≡ got (splines ns ds cs) r → SplineRead t left room l n es bs l1 → SplinesRead left (suc s) l ns ds cs r
    rest n es bs l1 (stop c p) ih e v = let z : ◌≡◌ {A = ℕ} 0 1 = cc in absurd (omega arith)
    rest n es bs l1 (got (splines ms ds' cs') r') ih e v =
        let same-ns : n ∷ ms ≡ ns = cc in
        let same-ds : es ++ ds' ≡ ds = cc in
        let same-cs : bs ++ cs' ≡ cs = cc in
        let same-r : r' ≡ r = cc in
        rw (← same-ns, ← same-ds, ← same-cs, ← same-r)
        (more n s left l l1 ms es ds' bs cs' r' v.is v.under v.deltas v.coefficients v.tame (ih ms ds' cs' r' refl))

    first : (x : Spline) (l1 : List ℕ) → spline_in t left room l ≡ got x l1
        → onto_splines x (splines_of t (left - points x) (room - 2 * points x) s l1) ≡ got (splines ns ds cs) r
        → ((left' room' : ℕ) (l' ns' : List ℕ) (ds' cs' : List ℤ) (r' : List ℕ) → splines_of t left' room' s l' ≡ got (splines ns' ds' cs') r' → SplinesRead left' s l' ns' ds' cs' r')
        → SplinesRead left (suc s) l ns ds cs r
    first (spline n es bs) l1 i e ih =
        rest n es bs l1 (splines_of t (left - n) (room - 2 * n) s l1) (ih (left - n) (room - 2 * n) l1) e (spline_read t left room l n es bs l1 i)

-- ---- after the starts

pub record AfterRead (limit s : ℕ) (zs : List ℤ) (l : List ℕ) (a : ℤ) (ys : List ℤ) (ns : List ℕ) (ds cs : List ℤ) (r : List ℕ) : Type 0 where
  pub starts : ys ≡ zs
  pub none : r ≡ []
  pub is : l ≡ pack_signed a ∷ splines_list ns ds cs
  pub rest : SplinesRead limit s (splines_list ns ds cs) ns ds cs []

pub after_read : (t limit room s : ℕ) (zs : List ℤ) (l : List ℕ) (a : ℤ) (ys : List ℤ) (ns : List ℕ) (ds cs : List ℤ) (r : List ℕ)
    → after_starts t limit room s zs l ≡ got (described a ys ns ds cs) r → AfterRead limit s zs l a ys ns ds cs r
unfolding after_starts
after_read t limit room s zs [] a ys ns ds cs r e = let z : ◌≡◌ {A = ℕ} 0 1 = cc in absurd (omega arith)
after_read t limit room s zs (u ∷ l) a ys ns ds cs r e =
    let b = then_got (splines_of t limit room s l) (λ x l1. ended t (describe (unpack_signed u) zs x) l1) (described a ys ns ds cs) r e in
    go b.0 b.1 b.2 b.3
  where
    ends : (x y : Described) (k : List ℕ) → ended t x k ≡ got y r → (x ≡ y) × (k ≡ []) × (r ≡ [])
    ends x y [] e = (cc, refl, cc)
    ends x y (k ∷ ks) e = let z : ◌≡◌ {A = ℕ} 0 1 = cc in absurd (omega arith)

    go : (x : Splines) (k : List ℕ) → splines_of t limit room s l ≡ got x k → ended t (describe (unpack_signed u) zs x) k ≡ got (described a ys ns ds cs) r
        → AfterRead limit s zs (u ∷ l) a ys ns ds cs r
    go (splines ms es bs) k i e =
        let w = ends (described (unpack_signed u) zs ms es bs) (described a ys ns ds cs) k e in
        let same-a : unpack_signed u ≡ a = cc w.0 in
        let same-ns : ms ≡ ns = cc w.0 in
        let same-ds : es ≡ ds = cc w.0 in
        let same-cs : bs ≡ cs = cc w.0 in
        let same-ys : ys ≡ zs = cc w.0 in
        let v = splines_read t limit room s l ms es bs k i in
        let whole : l ≡ splines_list ms es bs = v.is ∙ rw w.1 (append-nil (splines_list ms es bs)) in
        record {
          starts = same-ys;
          none = w.2;
          is = rw (← same-a, ← same-ns, ← same-ds, ← same-cs, pack_unpack u) (ap (λ (m : List ℕ). u ∷ m) whole);
          rest = rw (← same-ns, ← same-ds, ← same-cs) (rw (whole, w.1) at v);
        }

-- ---- the whole list

pub record ListRead (limit : ℕ) (rooms : ListRooms) (l : List ℕ) (a : ℤ) (zs : List ℤ) (ns : List ℕ) (ds cs : List ℤ) (r : List ℕ) : Type 0 where
  pub none : r ≡ []
  pub is : l ≡ list_of (described a zs ns ds cs)
  pub valid : Valid limit zs ns ds cs

whole_list : (limit : ℕ) (rooms : ListRooms) (v : ℕ) (l l1 : List ℕ) (a : ℤ) (ys zs : List ℤ) (ns : List ℕ) (ds cs : List ℤ) (r : List ℕ) → v + 1 ≤ limit
    → (l ≡ starts_list true (pos 0) (pos 0) ys ++ l1) × (length ys ≡ 2 * (v + 1)) × Near true ys → AfterRead limit (v + 1) ys l1 a zs ns ds cs r
    → ListRead limit rooms (v ∷ l) a zs ns ds cs r
whole_list limit rooms v l l1 a ys zs ns ds cs r h g w =
    let count = w.rest.count in
    let one : length ns - 1 ≡ v = omega (arith, count) in
    record {
      none = w.none;
      is = rw (one, w.starts) (ap (λ (m : List ℕ). v ∷ m) (g.0 ∙ rw w.is));
      valid = record {
        some = omega (arith, count);
        count = omega (arith, count, h);
        total = w.rest.under;
        starts = ap length w.starts ∙ omega (arith, g.1, count);
        deltas = w.rest.deltas;
        coefficients = w.rest.coefficients;
        near = subst (Near true) (sym w.starts) g.2;
        tame = w.rest.tame;
      };
    }

pub list_read : (limit : ℕ) (rooms : ListRooms) (l : List ℕ) (a : ℤ) (zs : List ℤ) (ns : List ℕ) (ds cs : List ℤ) (r : List ℕ)
    → read_of limit rooms l ≡ got (described a zs ns ds cs) r → ListRead limit rooms l a zs ns ds cs r
unfolding read_of
list_read limit rooms [] a zs ns ds cs r e = let z : ◌≡◌ {A = ℕ} 0 1 = cc in absurd (omega arith)
list_read limit rooms (v ∷ l) a zs ns ds cs r e =
    let t = length (v ∷ l) in
    let x = described a zs ns ds cs in
    let starts = starts_in t true (pos 0) (pos 0) (v + 1) l in
    let after : List ℤ → List ℕ → Got Described = λ ys l1. after_starts t limit rooms.deltas (v + 1) ys l1 in
    let c1 = cond_got (ltb limit (v + 1)) Code.Splines 0 (cond (lacking rooms (v + 1)) (stop Code.Room 0) (and_then starts after)) x r e in
    let c2 = cond_got (lacking rooms (v + 1)) Code.Room 0 (and_then starts after) x r c1.1 in
    let b = then_got starts after x r c2.1 in
    let w = after_read t limit rooms.deltas (v + 1) b.0 b.1 a zs ns ds cs r b.3 in
    let g = starts_read t true (pos 0) (pos 0) (v + 1) l b.0 b.1 b.2 in
    whole_list limit rooms v l b.1 a b.0 zs ns ds cs r (ltb-false limit (v + 1) c1.0) g w

-- Assumes nothing.
