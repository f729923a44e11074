-- What is shown of a row, followed by a drawing, adds to each pixel the segments that have it and are not hidden: the list and the segments are gone through together, one more segment at a time.
use mathlib.Core.Path.{◌≡◌, refl, sym, ap, ◌∙◌}
use mathlib.Core.Bool.{Bool, true, false, not, ◌&&◌}
use mathlib.Core.List.{List, [], ◌∷◌, ◌++◌, foldl-append}
use Prim.Native.Nat.{ℕ, zero, suc, ◌+◌, ◌≤◌, ◌<◌, min}
use native.Mathlib.Omega.{arith}
use lib.ListN.{length, get_or, take, length-take}
use lib.Seq.{take-suc, take-length}
use lib.Ieee.{Float}
use Rattle.segments.specs.declared.Segment.{Segment}
use Rattle.segments.specs.Segment.{segment_at}
use Rattle.segments.specs.Ranges.{has_row, has_column}
use Rattle.rows.specs.Rows.{listed}
use Rattle.rows.proofs.Counts.{listed_in, listed_out}
use Rattle.desks.specs.Desks.{Sight}
use Rattle.draw.specs.Draw.{shaded_in_column, pixel, count, updates}
use Rattle.picture.specs.Picture.{has_pixel, shaded_in_pixel, pixel_of, row_pairs}
use Rattle.picture.specs.Sights.{hides, not_hidden}
use Rattle.picture.proofs.Shown.{not_hidden_append}

-- ---- counts

-- in a row that a segment has, its columns count, and in another none do
count_in : (s : Segment) (y x n : ℕ) → has_row s y ≡ true → count (has_pixel s y) x n ≡ count (has_column s) x n
count_in s y x zero e = refl
count_in s y x (suc n) e = rw (e, count_in s y x n e)

count_out : (s : Segment) (y x n : ℕ) → has_row s y ≡ false → count (has_pixel s y) x n ≡ 0
count_out s y x zero e = refl
count_out s y x (suc n) e = rw (e, count_out s y x n e)

updates_append : (segments : List Float) (x n : ℕ) (is js : List ℕ) → updates segments x n (is ++ js) ≡ updates segments x n is + updates segments x n js
updates_append segments x n [] js = omega arith
updates_append segments x n (i ∷ is) js = omega (arith, updates_append segments x n is js)

pairs_append : (ss rs : List Segment) (W y : ℕ) → row_pairs (ss ++ rs) W y ≡ row_pairs ss W y + row_pairs rs W y
pairs_append [] rs W y = omega arith
pairs_append (s ∷ ss) rs W y = omega (arith, pairs_append ss rs W y)

-- ---- a row

-- flat is a buffer in which the segments are found by number, and `has` tells which of them has which row and is not hidden for the desk
module _ (flat : List Float) (segs : List Segment) (d : Segment) (at : (i : ℕ) → i < length segs → segment_at flat i ≡ get_or segs i d)
    (s : Sight) (owners : List ℕ) (owned : length owners ≡ length segs)
    (has : ℕ → ℕ → Bool) (rows : (i y : ℕ) → i < length segs → has i y ≡ (has_row (get_or segs i d) y && not (hides s (get_or owners i 0)))) where
  -- the first n segments that are not hidden
  front : ℕ → List Segment
  front n = not_hidden s (take n owners) (take n segs)

  -- one more of them
  one_more : ℕ → List Segment
  one_more n = not_hidden s (get_or owners n 0 ∷ []) (get_or segs n d ∷ [])

  longer : (n : ℕ) → n < length segs → front (suc n) ≡ front n ++ one_more n
  unfolding front one_more
  longer n h =
      rw (take-suc segs n d h, take-suc owners n 0 (omega arith))
      (not_hidden_append s (take n owners) (get_or owners n 0 ∷ []) (take n segs) (get_or segs n d ∷ []) (length-take n owners ∙ ap (min n) owned ∙ sym (length-take n segs)))

  all_shown : front (length segs) ≡ not_hidden s owners segs
  unfolding front
  all_shown = ap (λ (l : List Segment). not_hidden s (take (length segs) owners) l) (take-length segs) ∙ ap (λ (l : List ℕ). not_hidden s l segs) (ap (λ (n : ℕ). take n owners) (sym owned) ∙ take-length owners)

  pixel_to : (c y x : ℕ) (v : Float) (n : ℕ) → n ≤ length segs → pixel c flat y x (listed has y n) v ≡ pixel_of c (front n) y x v
  unfolding listed front one_more
  pixel_to c y x v zero h = refl
  pixel_to c y x v (suc n) h =
      go (has_row (get_or segs n d) y) (hides s (get_or owners n 0)) refl refl (pixel_to c y x v n (omega arith))
      ∙ sym (ap (λ (l : List Segment). pixel_of c l y x v) (longer n h) ∙ foldl-append (shaded_in_pixel c y x) v (front n) (one_more n))
    where
      m : Segment
      m = get_or segs n d

      go : (a b : Bool) → has_row m y ≡ a → hides s (get_or owners n 0) ≡ b → pixel c flat y x (listed has y n) v ≡ pixel_of c (front n) y x v
          → pixel c flat y x (listed has y (suc n)) v ≡ pixel_of c (one_more n) y x (pixel_of c (front n) y x v)
      go true false e q ih =
          ap (λ (l : List ℕ). pixel c flat y x l v) (listed_in has y n (rows n y h ∙ rw (e, q)))
          ∙ foldl-append (shaded_in_column c flat y x) v (listed has y n) (n ∷ [])
          ∙ rw (ih, at n h, q, e)
      go true true e q ih = ap (λ (l : List ℕ). pixel c flat y x l v) (listed_out has y n (rows n y h ∙ rw (e, q))) ∙ rw (ih, q)
      go false true e q ih = ap (λ (l : List ℕ). pixel c flat y x l v) (listed_out has y n (rows n y h ∙ rw e)) ∙ rw (ih, q)
      go false false e q ih = ap (λ (l : List ℕ). pixel c flat y x l v) (listed_out has y n (rows n y h ∙ rw e)) ∙ rw (ih, q, e)

  pairs_to : (W y n : ℕ) → n ≤ length segs → updates flat 0 W (listed has y n) ≡ row_pairs (front n) W y
  unfolding listed front one_more
  pairs_to W y zero h = refl
  pairs_to W y (suc n) h =
      go (has_row (get_or segs n d) y) (hides s (get_or owners n 0)) refl refl (pairs_to W y n (omega arith))
      ∙ sym (ap (λ (l : List Segment). row_pairs l W y) (longer n h) ∙ pairs_append (front n) (one_more n) W y)
    where
      m : Segment
      m = get_or segs n d

      go : (a b : Bool) → has_row m y ≡ a → hides s (get_or owners n 0) ≡ b → updates flat 0 W (listed has y n) ≡ row_pairs (front n) W y
          → updates flat 0 W (listed has y (suc n)) ≡ row_pairs (front n) W y + row_pairs (one_more n) W y
      go true false e q ih =
          ap (updates flat 0 W) (listed_in has y n (rows n y h ∙ rw (e, q)))
          ∙ updates_append flat 0 W (listed has y n) (n ∷ [])
          ∙ rw (ih, at n h, q, count_in m y 0 W e)
      go true true e q ih = ap (updates flat 0 W) (listed_out has y n (rows n y h ∙ rw (e, q))) ∙ rw (ih, q) (omega arith)
      go false true e q ih = ap (updates flat 0 W) (listed_out has y n (rows n y h ∙ rw e)) ∙ rw (ih, q) (omega arith)
      go false false e q ih = ap (updates flat 0 W) (listed_out has y n (rows n y h ∙ rw e)) ∙ rw (ih, q, count_out m y 0 W e) (omega arith)

  -- a pixel drawn by what is shown of its row
  pub pixel_is : (c y x : ℕ) (v : Float) → pixel c flat y x (listed has y (length segs)) v ≡ pixel_of c (not_hidden s owners segs) y x v
  pixel_is c y x v = pixel_to c y x v (length segs) (omega arith) ∙ ap (λ (l : List Segment). pixel_of c l y x v) all_shown

  -- the updates of a row of W pixels
  pub pairs_are : (W y : ℕ) → updates flat 0 W (listed has y (length segs)) ≡ row_pairs (not_hidden s owners segs) W y
  pairs_are W y = pairs_to W y (length segs) (omega arith) ∙ ap (λ (l : List Segment). row_pairs l W y) all_shown

-- Assumes nothing.
