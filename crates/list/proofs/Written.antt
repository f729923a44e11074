-- What is written is read back, step by step: the list of valid values, with anything behind it, gives these values and what stood behind.
use mathlib.Core.Path.{◌≡◌, refl, subst, ◌∙◌}
use mathlib.Core.Bool.{Bool, true, false}
use mathlib.Core.List.{List, [], ◌∷◌, ◌++◌, map, append_assoc}
use Prim.Native.Nat.{ℕ, zero, suc, ◌-◌, ◌*◌, ◌≤◌}
use native.Mathlib.Omega.{arith}
use lib.ListN.{length, take, drop, length-drop, take-append-drop}
use lib.Seq.{length-take-le}
use lib.IntN.{ℤ, ◌+ℤ◌, ◌-ℤ◌, +ℤ_comm, -ℤ-+ℤ_cancel}
use borrow.Author.Tests.{le-ltb}
use Rattle.shape.specs.Shape.{points_of}
use Rattle.list.specs.List.{unpack_signed, pack_signed, got, spline, splines, starts_in, deltas_in, coefficients_in, spline_in, splines_of, starts_list, splines_list, Near, Tame}
use Rattle.list.proofs.Signed.{unpack_pack}

pub coefficients_written : (t : ℕ) (vs : List ℤ) (r : List ℕ) → coefficients_in t (length vs) (map pack_signed vs ++ r) ≡ got vs r
unfolding coefficients_in
coefficients_written t [] r = refl
coefficients_written t (v ∷ vs) r = rw (coefficients_written t vs r, unpack_pack v)

pub deltas_written : (t n : ℕ) (ds : List ℤ) (r : List ℕ) → length ds ≡ 2 * n → Tame ds → deltas_in t n (map pack_signed ds ++ r) ≡ got ds r
unfolding deltas_in
deltas_written t zero [] r h w = refl
deltas_written t zero (x ∷ ds) r h w = absurd (omega arith)
deltas_written t (suc n) [] r h w = absurd (omega arith)
deltas_written t (suc n) (x ∷ []) r h w = absurd (omega arith)
deltas_written t (suc n) (x ∷ y ∷ ds) r h w = rw (unpack_pack x, unpack_pack y, w.0, deltas_written t n ds r (omega arith) w.1)

again : (x a : ℤ) → x +ℤ unpack_signed (pack_signed (a -ℤ x)) ≡ a
again x a = rw (unpack_pack (a -ℤ x), +ℤ_comm x (a -ℤ x), -ℤ-+ℤ_cancel a x)

pub starts_written : (t : ℕ) (first : Bool) (x y : ℤ) (n : ℕ) (zs : List ℤ) (r : List ℕ) → length zs ≡ 2 * n → Near first zs
    → starts_in t first x y n (starts_list first x y zs ++ r) ≡ got zs r
unfolding starts_in
starts_written t first x y zero [] r h w = refl
starts_written t first x y zero (a ∷ zs) r h w = absurd (omega arith)
starts_written t first x y (suc n) [] r h w = absurd (omega arith)
starts_written t first x y (suc n) (a ∷ []) r h w = absurd (omega arith)
starts_written t true x y (suc n) (a ∷ b ∷ zs) r h w = rw (w.1, w.2, w.0, starts_written t false a b n zs r (omega arith) w.3)
starts_written t false x y (suc n) (a ∷ b ∷ zs) r h w = rw (again x a, again y b, w.0, starts_written t false a b n zs r (omega arith) w.1)

-- ---- the splines

tame_parts : (n : ℕ) (ds : List ℤ) → Tame ds → Tame (take (2 * n) ds) × Tame (drop (2 * n) ds)
tame_parts zero ds w = (tt, w)
tame_parts (suc n) [] w = let m : 2 * suc n ≡ suc (suc (2 * n)) = omega arith in rw m (tt, tt)
tame_parts (suc n) (x ∷ []) w = let m : 2 * suc n ≡ suc (suc (2 * n)) = omega arith in rw m (tt, tt)
tame_parts (suc n) (x ∷ y ∷ ds) w =
    let m : 2 * suc n ≡ suc (suc (2 * n)) = omega arith in
    let h = tame_parts n ds w.1 in
    rw m ((w.0, h.0), h.1)

pub spline_written : (t left room n : ℕ) (ds cs : List ℤ) (r : List ℕ) → n ≤ left → 2 * n ≤ room → length ds ≡ 2 * n → length cs ≡ 128 → Tame ds
    → spline_in t left room (n ∷ (map pack_signed ds ++ (map pack_signed cs ++ r))) ≡ got (spline n ds cs) r
unfolding spline_in
spline_written t left room n ds cs r a b c d w =
    let e : coefficients_in t 128 (map pack_signed cs ++ r) ≡ got cs r
    = subst (λ (k : ℕ). coefficients_in t k (map pack_signed cs ++ r) ≡ got cs r) d (coefficients_written t cs r) in
    rw (le-ltb left n a, le-ltb room (2 * n) b, deltas_written t n ds (map pack_signed cs ++ r) c w, e)

pub splines_written : (t left room : ℕ) (ns : List ℕ) (ds cs : List ℤ) (r : List ℕ) → points_of ns ≤ left → 2 * points_of ns ≤ room → length ds ≡ 2 * points_of ns
    → length cs ≡ 128 * length ns → Tame ds → splines_of t left room (length ns) (splines_list ns ds cs ++ r) ≡ got (splines ns ds cs) r
unfolding splines_of
splines_written t left room [] [] [] r a b c d w = refl
splines_written t left room [] (x ∷ ds) cs r a b c d w = absurd (omega arith)
splines_written t left room [] [] (x ∷ cs) r a b c d w = absurd (omega arith)
splines_written t left room (n ∷ ns) ds cs r a b c d w =
    let v = tame_parts n ds w in
    let es = take (2 * n) ds in
    let bs = take 128 cs in
    let others = splines_list ns (drop (2 * n) ds) (drop 128 cs) in
    let ih = splines_written t (left - n) (room - 2 * n) ns (drop (2 * n) ds) (drop 128 cs) r (omega arith) (omega arith)
    (length-drop (2 * n) ds ∙ omega arith) (length-drop 128 cs ∙ omega arith) v.1 in
    rw (
      append_assoc (map pack_signed es ++ map pack_signed bs) others r,
      append_assoc (map pack_signed es) (map pack_signed bs) (others ++ r),
      spline_written t left room n es bs (others ++ r) (omega arith) (omega arith) (length-take-le (2 * n) ds (omega arith))
          (length-take-le 128 cs (omega arith)) v.0,
      ih,
      take-append-drop (2 * n) ds,
      take-append-drop 128 cs,
    )

-- Assumes nothing.
