-- An image drawn in parts, in any order, is the image drawn whole: each pixel lies in one part of one row, so it is changed once, and the updates are summed row by row.
use mathlib.Core.Path.{◌≡◌, refl, sym, ap, ◌∙◌}
use mathlib.Core.Bool.{Bool, true, false, cond, ◌&&◌}
use mathlib.Core.Logic.{◌⊎◌, inl, inr, ⊎_elim}
use mathlib.Core.List.{List, [], ◌∷◌, ◌++◌, map, Permᴰ}
use Prim.Native.Nat.{ℕ, zero, suc, ◌+◌, ◌*◌, ◌^◌, ◌<◌, ◌≤◌}
use native.Mathlib.Nat.{zero-add, add-suc, suc-add, mul_comm, add-le-add}
use native.Mathlib.Omega.{arith}
use lib.ListN.{length}
use lib.Dec.{ltb, eqb}
use lib.Ieee.{Float}
use borrow.Author.Tests.{lt-ltb, le-ltb, le-leb, lt-leb, eq-eqb, ne_eqb, eqb-true}
use Rattle.shade.specs.Edit.{edit, inside}
use Rattle.shade.proofs.Edits.{lt_or_ge, length_edit, is_edit, edit_cong, edit_edit}
use Rattle.draw.specs.Draw.{pixel, updates, Table, Sight, shown_of, desk_good, bytes_good, counts_good_for, row_good_for, Channels}
use Rattle.draw.specs.Parts.{Part, cuts, total, Wide}
use Rattle.draw.specs.Image.{Job, job, jobs, Each, Image, with_row, DrawnAll, none, more, pairs, most_pairs, WholeImage}
use Rattle.entries.proofs.Entries.{updates_le}
use Rattle.draw.proofs.Parts.{sum_by, sum_perm, through, through_one, has_in, held_cuts, updates_cuts, partly, came}

module _ {A : Type 0} where
  sum_append : (g : A → ℕ) (ps qs : List A) → sum_by g (ps ++ qs) ≡ sum_by g ps + sum_by g qs
  unfolding sum_by
  sum_append g [] qs = omega arith
  sum_append g (p ∷ ps) qs = omega (arith, sum_append g ps qs)

  sum_zero : (ps : List A) → sum_by (λ p. 0) ps ≡ 0
  unfolding sum_by
  sum_zero [] = refl
  sum_zero (p ∷ ps) = omega (arith, sum_zero ps)

sum_map : {A B : Type 0} (g : B → ℕ) (f : A → B) (ps : List A) → sum_by g (map f ps) ≡ sum_by (λ p. g (f p)) ps
unfolding sum_by
sum_map g f [] = refl
sum_map g f (p ∷ ps) = omega (arith, sum_map g f ps)

-- whether a job has pixel (k, y)
abbrev has : ℕ → Job → ℕ → Bool
has y j k = eqb y j.row && has_in j.part k

abbrev high : ℕ → Job → ℕ
high H j = cond (ltb j.row H) 0 1

abbrev work : Table → Sight → Job → ℕ
work t s j = updates t.segments j.part.at j.part.wide (shown_of t s j.row)

-- ---- every pixel is in one job

has_jobs : (W y k : ℕ) → k < W → (y₀ : ℕ) (wss : List (List ℕ)) → Each W wss → sum_by (λ j. cond (has y j k) 1 0) (jobs y₀ wss) ≡ cond (inside y₀ (length wss) y) 1 0
unfolding sum_by
has_jobs W y k h y₀ [] e = ⊎_elim (λ l. rw (lt-leb y₀ y l)) (λ l. rw (le-leb y₀ y l, le-ltb y (y₀ + 0) (omega arith))) (lt_or_ge y y₀)
has_jobs W y k h y₀ (ws ∷ wss) e =
    sum_append (λ j. cond (has y j k) 1 0) (map (job y₀) (cuts 0 ws)) (jobs (suc y₀) wss)
    ∙ ap (λ (n : ℕ). n + sum_by (λ j. cond (has y j k) 1 0) (jobs (suc y₀) wss)) (sum_map (λ j. cond (has y j k) 1 0) (job y₀) (cuts 0 ws))
    ∙ ap (λ (n : ℕ). sum_by (λ p. cond (eqb y y₀ && has_in p k) 1 0) (cuts 0 ws) + n) (has_jobs W y k h (suc y₀) wss e.1)
    ∙ ⊎_elim
    (λ l. other (ne_eqb y y₀ (λ p. omega arith)) ∙ rw (lt-leb (suc y₀) y (omega arith), lt-leb y₀ y l))
    (λ l. ⊎_elim
    (λ m. other (ne_eqb y y₀ (λ p. omega arith)) ∙ rw (le-leb (suc y₀) y m, le-leb y₀ y l, suc-add y₀ (length wss), add-suc y₀ (length wss), zero-add))
    (λ m. here (eq-eqb y y₀ (omega arith)) ∙ rw (lt-leb (suc y₀) y (omega arith), le-leb y₀ y l, lt-ltb y (y₀ + suc (length wss)) (omega arith)))
    (le_or_eq y₀ y l))
    (lt_or_ge y y₀)
  where
    rest : ℕ
    rest = cond (inside (suc y₀) (length wss) y) 1 0

    other : eqb y y₀ ≡ false → sum_by (λ p. cond (eqb y y₀ && has_in p k) 1 0) (cuts 0 ws) + rest ≡ 0 + rest
    other q = rw q (ap (λ (n : ℕ). n + rest) (sum_zero (cuts 0 ws)))

    here : eqb y y₀ ≡ true → sum_by (λ p. cond (eqb y y₀ && has_in p k) 1 0) (cuts 0 ws) + rest ≡ 1 + rest
    here q = rw q (ap (λ (n : ℕ). n + rest) (held_cuts 0 ws k ∙ rw (le-leb 0 k (omega arith), lt-ltb k (0 + total ws) (omega (arith, e.0)))))

    le_or_eq : (a b : ℕ) → a ≤ b → (suc a ≤ b) ⊎ (b ≤ a)
    le_or_eq a b l = lt_or_ge a b

high_jobs : (H y₀ : ℕ) (wss : List (List ℕ)) → y₀ + length wss ≤ H → sum_by (high H) (jobs y₀ wss) ≡ 0
unfolding sum_by
high_jobs H y₀ [] h = refl
high_jobs H y₀ (ws ∷ wss) h =
    sum_append (high H) (map (job y₀) (cuts 0 ws)) (jobs (suc y₀) wss)
    ∙ omega (arith, sum_map (high H) (job y₀) (cuts 0 ws), low, high_jobs H (suc y₀) wss (omega arith))
  where
    low : sum_by (λ p. high H (job y₀ p)) (cuts 0 ws) ≡ 0
    low = rw (lt-ltb y₀ H (omega arith)) (sum_zero (cuts 0 ws))

work_jobs : (t : Table) (s : Sight) (W y₀ : ℕ) (wss : List (List ℕ)) → Each W wss → sum_by (work t s) (jobs y₀ wss) ≡ pairs t s W y₀ (length wss)
unfolding sum_by
work_jobs t s W y₀ [] e = refl
work_jobs t s W y₀ (ws ∷ wss) e =
    sum_append (work t s) (map (job y₀) (cuts 0 ws)) (jobs (suc y₀) wss)
    ∙ omega (arith, sum_map (work t s) (job y₀) (cuts 0 ws), updates_cuts t.segments (shown_of t s y₀) 0 ws, ap (λ (n : ℕ). updates t.segments 0 n (shown_of t s y₀)) e.0, work_jobs t s W (suc y₀) wss e.1)

-- ---- at most W updates of each entry

pub updates_most : (segs : List Float) (x n : ℕ) (es : List ℕ) → updates segs x n es ≤ n * length es
updates_most segs x n es = rw (mul_comm n (length es)) (updates_le segs x n es)

pub pairs_most : (t : Table) (s : Sight) (W y n : ℕ) → pairs t s W y n ≤ most_pairs t s W y n
pairs_most t s W y zero = omega arith
pairs_most t s W y (suc n) = add-le-add (updates_most t.segments 0 W (shown_of t s y)) (pairs_most t s W (suc y) n)

-- ---- one call

either : (b : Bool) → (b ≡ true) ⊎ (b ≡ false)
either true = inl refl
either false = inr refl

-- a row's channel after a job: the job's own row is drawn, and every other is as it was
at_row : (c : ℕ) (get : Channels → List Float) (t : Table) (s : Sight) (a : Image) (y : ℕ) (p : Part) (b : Channels) → get b ≡ partly c t s y p (get (a y)) → (i : ℕ) → get (with_row a y b i) ≡ edit (λ k v. cond (has i (job y p) k) (pixel c t.segments i k (shown_of t s i) v) v) (get (a i))
at_row c get t s a y p b h i =
    ⊎_elim
    (λ q. rw (eqb-true i y q, eq-eqb y y refl) h)
    (λ q. rw q (is_edit (λ k v. v) (get (a i)) (get (a i)) refl (λ j l. refl)))
    (either (eqb i y))

chan_more : (i : ℕ) (f : ℕ → Float → Float) (j : Job) (js : List Job) (xs ys ws : List Float) → ys ≡ edit (λ k v. cond (has i j k) (f k v) v) xs → ws ≡ edit (through (has i) f js) ys → ws ≡ edit (through (has i) f (j ∷ js)) xs
unfolding through
chan_more i f j js xs ys ws q e = e ∙ ap (edit (through (has i) f js)) q ∙ edit_edit (λ k v. cond (has i j k) (f k v) v) (through (has i) f js) xs

chan_none : (i : ℕ) (f : ℕ → Float → Float) (xs : List Float) → xs ≡ edit (through (has i) f []) xs
unfolding through
chan_none i f xs = is_edit (λ k v. v) xs xs refl (λ j k. refl)

not_high : (H y : ℕ) (p : Part) (js : List Job) → sum_by (high H) (job y p ∷ js) ≡ 0 → (y < H) × (sum_by (high H) js ≡ 0)
unfolding sum_by
not_high H y p js h = ⊎_elim (λ l. (l, omega (arith, rw (lt-ltb y H l) at h))) (λ l. absurd (omega (arith, rw (le-ltb y H l) at h))) (lt_or_ge y H)

record Onward (t : Table) (s : Sight) (js : List Job) (a : Image) (sum : ℕ) (w : Image) : Type 0 where
  o0 : (i : ℕ) → (w i).r0 ≡ edit (through (has i) (λ k v. pixel 0 t.segments i k (shown_of t s i) v) js) (a i).r0
  o1 : (i : ℕ) → (w i).r1 ≡ edit (through (has i) (λ k v. pixel 1 t.segments i k (shown_of t s i) v) js) (a i).r1
  o2 : (i : ℕ) → (w i).r2 ≡ edit (through (has i) (λ k v. pixel 2 t.segments i k (shown_of t s i) v) js) (a i).r2
  os : sum ≡ sum_by (work t s) js

module _ (t : Table) (s : Sight) (W H : ℕ) (d : desk_good s ≡ true) (g : counts_good_for t s ≡ true) (b : bytes_good s ≡ true) (hH : H ≤ t.height) (r : (y : ℕ) → y < H → row_good_for t s y ≡ true) (hW : W ≤ 2 ^ 23) where
  onward : {js : List Job} {a w : Image} {sum : ℕ} → ((i : ℕ) → Wide W (a i)) → sum_by (high H) js ≡ 0 → DrawnAll t s js a sum w → Onward t s js a sum w
  unfolding sum_by
  onward e h none = record { o0 = λ i. chan_none i _ _; o1 = λ i. chan_none i _ _; o2 = λ i. chan_none i _ _; os = refl }
  onward e h (more {y = y} {p = p} {js = js} {a = a} {w = w} {b = z} {count = count} {rest = rest} q n) =
      let m = not_high H y p js h in
      let low : y < t.height = omega (arith, m.0) in
      let k = came t s y W d g b low (r y m.0) hW (e y) q in
      let k0 = at_row 0 (λ v. v.r0) t s a y p z k.b0 in
      let k1 = at_row 1 (λ v. v.r1) t s a y p z k.b1 in
      let k2 = at_row 2 (λ v. v.r2) t s a y p z k.b2 in
      let o = onward (λ i. record { w0 = ap length (k0 i) ∙ length_edit _ _ ∙ (e i).w0; w1 = ap length (k1 i) ∙ length_edit _ _ ∙ (e i).w1; w2 = ap length (k2 i) ∙ length_edit _ _ ∙ (e i).w2 }) m.1 n in
      record {
        o0 = λ i. chan_more i _ (job y p) js (a i).r0 _ (w i).r0 (k0 i) (o.o0 i);
        o1 = λ i. chan_more i _ (job y p) js (a i).r1 _ (w i).r1 (k1 i) (o.o1 i);
        o2 = λ i. chan_more i _ (job y p) js (a i).r2 _ (w i).r2 (k2 i) (o.o2 i);
        os = omega (arith, k.work, o.os);
      }

  -- all parts of all rows, in any order
  pub image_in_parts : (wss : List (List ℕ)) (js : List Job) (a w : Image) (sum : ℕ) → length wss ≡ H → Each W wss → Permᴰ (jobs 0 wss) js → ((i : ℕ) → Wide W (a i)) → DrawnAll t s js a sum w → WholeImage t s W H a sum w
  image_in_parts wss js a w sum e each perm wide drawn =
      record {
        each_row = λ y h. record { channel0 = o.o0 y ∙ once y h _ (a y).r0 (wide y).w0; channel1 = o.o1 y ∙ once y h _ (a y).r1 (wide y).w1; channel2 = o.o2 y ∙ once y h _ (a y).r2 (wide y).w2; pairs = refl };
        all_pairs = o.os ∙ sym (sum_perm (work t s) perm) ∙ work_jobs t s W 0 wss each ∙ rw e;
      }
    where
      o : Onward t s js a sum w
      o = onward wide (sym (sum_perm (high H) perm) ∙ high_jobs H 0 wss (omega arith)) drawn

      one : (y k : ℕ) → y < H → k < W → sum_by (λ j. cond (has y j k) 1 0) js ≡ 1
      one y k h l = sym (sum_perm (λ j. cond (has y j k) 1 0) perm) ∙ has_jobs W y k l 0 wss each ∙ rw (le-leb 0 y (omega arith), lt-ltb y (0 + length wss) (omega arith))

      once : (y : ℕ) → y < H → (f : ℕ → Float → Float) (xs : List Float) → length xs ≡ W → edit (through (has y) f js) xs ≡ edit f xs
      once y h f xs l = edit_cong (through (has y) f js) f xs (λ k v q. through_one (has y) f js k v (one y k h (omega arith)))

-- Assumes nothing.
