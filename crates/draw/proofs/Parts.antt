-- A row drawn in parts, in any order, is the row drawn whole: each column lies in one part, so each pixel is changed once, and a sum over the parts does not mind their order.
use mathlib.Core.Path.{◌≡◌, refl, sym, ap, ◌∙◌}
use mathlib.Core.Bool.{Bool, true, false, cond}
use mathlib.Core.Logic.{⊎_elim}
use mathlib.Core.List.{List, [], ◌∷◌, Permᴰ}
use Prim.Native.Nat.{ℕ, zero, suc, ◌+◌, ◌^◌, ◌<◌, ◌≤◌, min}
use native.Mathlib.Nat.{add_assoc, add-zero, zero-add, add-suc}
use native.Mathlib.Omega.{arith}
use lib.ListN.{length, take, drop, length-take, length-drop}
use lib.Seq.{get_or-take}
use lib.Ieee.{Float, nan}
use borrow.Author.Tests.{lt-ltb, le-ltb, le-leb, lt-leb}
use Rattle.segments.specs.Segment.{segment_at}
use Rattle.segments.specs.Ranges.{has_column}
use Rattle.shade.specs.Edit.{edit, first_cells, inside}
use Rattle.shade.proofs.Edits.{lt_or_ge, length_edit, get_d_edit, is_edit, edit_cong, edit_edit, edit_part}
use Rattle.checks.specs.Verdict.{Verdict, Fine}
use Rattle.draw.specs.Draw.{pixel, count, updates, Table, Sight, shown_of, desk_good, bytes_good, counts_good_for, span_good, row_good_for, judge_draw, Channels, DrawOutcome, leaves, drawn_channel, outcome, draw_of}
use Rattle.draw.specs.Parts.{Part, cuts, total, cells, placed, cells_of, Wide, Draws, Drawn, none, more, Whole}
use Rattle.draw.specs.DrawAnswer.{DrawAnswer}

-- ---- a sum over a list does not mind the order

module _ {A : Type 0} where
  unfoldable pub sum_by : (A → ℕ) → List A → ℕ
  sum_by g [] = 0
  sum_by g (p ∷ ps) = g p + sum_by g ps

  pub sum_perm : (g : A → ℕ) {ps qs : List A} → Permᴰ ps qs → sum_by g ps ≡ sum_by g qs
  unfolding sum_by
  sum_perm g Permᴰ.nil = refl
  sum_perm g (Permᴰ.cons e d) = omega (arith, ap g e, sum_perm g d)
  sum_perm g (Permᴰ.swap e f) = omega (arith, ap g e, ap g f)
  sum_perm g (Permᴰ.trans c d) = sum_perm g c ∙ sum_perm g d

-- ---- a pixel in parts

module _ {A : Type 0} (has : A → ℕ → Bool) (f : ℕ → Float → Float) where
  -- what the parts do to the pixel at column k: f once for each part that has it
  unfoldable pub through : List A → ℕ → Float → Float
  through [] k v = v
  through (p ∷ ps) k v = through ps k (cond (has p k) (f k v) v)

  pub through_none : (ps : List A) (k : ℕ) (v : Float) → sum_by (λ p. cond (has p k) 1 0) ps ≡ 0 → through ps k v ≡ v
  unfolding through sum_by
  through_none [] k v h = refl
  through_none (p ∷ ps) k v h = go (has p k) (λ e. through_none ps k v e) h
    where
      go : (b : Bool) → (sum_by (λ q. cond (has q k) 1 0) ps ≡ 0 → through ps k v ≡ v) → cond b 1 0 + sum_by (λ q. cond (has q k) 1 0) ps ≡ 0 → through ps k (cond b (f k v) v) ≡ v
      go true ih e = absurd (omega arith)
      go false ih e = ih (omega arith)

  pub through_one : (ps : List A) (k : ℕ) (v : Float) → sum_by (λ p. cond (has p k) 1 0) ps ≡ 1 → through ps k v ≡ f k v
  unfolding through sum_by
  through_one [] k v h = absurd (omega arith)
  through_one (p ∷ ps) k v h = go (has p k) (λ e. through_one ps k v e) h
    where
      go : (b : Bool) → (sum_by (λ q. cond (has q k) 1 0) ps ≡ 1 → through ps k v ≡ f k v) → cond b 1 0 + sum_by (λ q. cond (has q k) 1 0) ps ≡ 1 → through ps k (cond b (f k v) v) ≡ f k v
      go true ih e = through_none ps k (f k v) (omega arith)
      go false ih e = ih (omega arith)

-- whether a part has column k
abbrev pub has_in : Part → ℕ → Bool
has_in p k = inside p.at p.wide k

abbrev pub held : ℕ → Part → ℕ
held k p = cond (has_in p k) 1 0

-- ---- adjacent parts

pub held_cuts : (x : ℕ) (ws : List ℕ) (k : ℕ) → sum_by (held k) (cuts x ws) ≡ cond (inside x (total ws) k) 1 0
unfolding sum_by
held_cuts x [] k = ⊎_elim (λ l. rw (lt-leb x k l)) (λ l. rw (le-leb x k l, le-ltb k (x + 0) (omega arith))) (lt_or_ge k x)
held_cuts x (w ∷ ws) k =
    ap (λ (n : ℕ). cond (inside x w k) 1 0 + n) (held_cuts (x + w) ws k)
    ∙ ⊎_elim
    (λ l. rw (lt-leb x k l, lt-leb (x + w) k (omega arith)))
    (λ l. rw (le-leb x k l) (⊎_elim
    (λ m. rw (lt-ltb k (x + w) m, lt-leb (x + w) k m, lt-ltb k (x + (w + total ws)) (omega arith)))
    (λ m. rw (le-ltb k (x + w) m, le-leb (x + w) k m, add_assoc x w (total ws), zero-add))
    (lt_or_ge k (x + w))))
    (lt_or_ge k x)

-- ---- the updates

count_add : (p : ℕ → Bool) (x n m : ℕ) → count p x (n + m) ≡ count p x n + count p (x + n) m
count_add p x n zero = rw (add-zero n) (omega arith)
count_add p x n (suc m) = rw (add-suc n m) (ap (λ (q : ℕ). cond (p q) 1 0 + count p x (n + m)) (sym (add_assoc x n m)) ∙ omega (arith, count_add p x n m))

updates_add : (segs : List Float) (x n m : ℕ) (es : List ℕ) → updates segs x (n + m) es ≡ updates segs x n es + updates segs (x + n) m es
updates_add segs x n m [] = refl
updates_add segs x n m (i ∷ es) = omega (arith, count_add (has_column (segment_at segs i)) x n m, updates_add segs x n m es)

updates_zero : (segs : List Float) (x : ℕ) (es : List ℕ) → updates segs x 0 es ≡ 0
updates_zero segs x [] = refl
updates_zero segs x (i ∷ es) = omega (arith, updates_zero segs x es)

pub updates_cuts : (segs : List Float) (es : List ℕ) (x : ℕ) (ws : List ℕ) → sum_by (λ p. updates segs p.at p.wide es) (cuts x ws) ≡ updates segs x (total ws) es
unfolding sum_by
updates_cuts segs es x [] = sym (updates_zero segs x es)
updates_cuts segs es x (w ∷ ws) = omega (arith, updates_cuts segs es (x + w) ws, updates_add segs x w (total ws) es)

-- ---- one call

-- the first cells of a list that is edited there
take_edit : (f : ℕ → Float → Float) (n : ℕ) (xs : List Float) → take n (edit (first_cells n f) xs) ≡ edit f (take n xs)
take_edit f n xs =
    is_edit f (take n xs) (take n (edit (first_cells n f) xs)) (length-take n (edit (first_cells n f) xs) ∙ ap (min n) (length_edit (first_cells n f) xs) ∙ sym (length-take n xs))
    (λ i k.
    let l : i < n = omega (arith, k, length-take n xs) in
    let m : i < length xs = omega (arith, k, length-take n xs) in
    get_or-take n (edit (first_cells n f) xs) i nan l ∙ get_d_edit (first_cells n f) xs i m ∙ rw (lt-ltb i n l) (ap (f i) (sym (get_or-take n xs i nan l))))

-- a part that came back drawn, by colour: its own columns are drawn, and all others as they were
abbrev pub partly : ℕ → Table → Sight → ℕ → Part → List Float → List Float
partly c t s y p xs = edit (λ k v. cond (has_in p k) (pixel c t.segments y k (shown_of t s y) v) v) xs

pub record Came (t : Table) (s : Sight) (y : ℕ) (p : Part) (a : Channels) (count : ℕ) (b : Channels) : Type 0 where
  pub b0 : b.r0 ≡ partly 0 t s y p a.r0
  pub b1 : b.r1 ≡ partly 1 t s y p a.r1
  pub b2 : b.r2 ≡ partly 2 t s y p a.r2
  pub work : count ≡ updates t.segments p.at p.wide (shown_of t s y)

module _ (t : Table) (s : Sight) (y W : ℕ) (d : desk_good s ≡ true) (g : counts_good_for t s ≡ true) (b : bytes_good s ≡ true) (hy : y < t.height) (r : row_good_for t s y ≡ true) (hW : W ≤ 2 ^ 23) where
  -- a part inside the image is drawn, for each slice is as long as the part
  judged : (p : Part) (a l : Channels) → p.at + p.wide ≤ W → Wide W a → cells_of 0 p.wide l ≡ cells_of p.at p.wide a → judge_draw t s y p.at p.wide (length l.r0) (length l.r1) (length l.r2) ≡ Fine
  unfolding judge_draw span_good
  judged p a l h e q =
      rw (
        d,
        g,
        b,
        lt-ltb y t.height hy,
        le-leb (p.at + p.wide) (2 ^ 23) (omega arith),
        le-leb p.wide (length l.r0) (long l.r0 a.r0 e.w0 (ap (λ (c : Channels). c.r0) q)),
        le-leb p.wide (length l.r1) (long l.r1 a.r1 e.w1 (ap (λ (c : Channels). c.r1) q)),
        le-leb p.wide (length l.r2) (long l.r2 a.r2 e.w2 (ap (λ (c : Channels). c.r2) q)),
        r,
      )
    where
      long : (ls xs : List Float) → length xs ≡ W → cells 0 p.wide ls ≡ cells p.at p.wide xs → p.wide ≤ length ls
      long ls xs w q =
          let m : length (cells 0 p.wide ls) ≡ length (cells p.at p.wide xs) = ap length q in
          omega (arith, m, length-take p.wide ls, length-take p.wide (drop p.at xs), length-drop p.at xs, w, h)

  pub came : {p : Part} {a z : Channels} {count : ℕ} → Wide W a → Draws t s y p a count z → Came t s y p a count z
  unfolding draw_of
  came {p} {a} {z} {count} e w =
      let h : p.at + p.wide ≤ W = omega (arith, w.in_row_lem, e.w0) in
      let o : leaves w.answer w.left ≡ outcome Fine t s y p.at p.wide w.lent = w.outcome ∙ ap (λ (v : Verdict). outcome v t s y p.at p.wide w.lent) (judged p a w.lent h e w.begins) in
      record {
        b0 = ap (λ (c : Channels). c.r0) w.comes_back ∙ step 0 a.r0 w.lent.r0 w.left.r0 e.w0 (ap (λ (c : Channels). c.r0) w.begins) (ap (λ (q : DrawOutcome). q.channels.r0) o);
        b1 = ap (λ (c : Channels). c.r1) w.comes_back ∙ step 1 a.r1 w.lent.r1 w.left.r1 e.w1 (ap (λ (c : Channels). c.r1) w.begins) (ap (λ (q : DrawOutcome). q.channels.r1) o);
        b2 = ap (λ (c : Channels). c.r2) w.comes_back ∙ step 2 a.r2 w.lent.r2 w.left.r2 e.w2 (ap (λ (c : Channels). c.r2) w.begins) (ap (λ (q : DrawOutcome). q.channels.r2) o);
        work = w.counted ∙ ap (λ (q : DrawOutcome). q.told.updates) o;
      }
    where
      step : (c : ℕ) (xs ls zs : List Float) → length xs ≡ W → cells 0 p.wide ls ≡ cells p.at p.wide xs → zs ≡ drawn_channel c t s y p.at p.wide ls
          → placed p.at p.wide xs (cells 0 p.wide zs) ≡ partly c t s y p xs
      step c xs ls zs l q v =
          let f : ℕ → Float → Float = λ k v. pixel c t.segments y k (shown_of t s y) v in
          ap (placed p.at p.wide xs) (ap (cells 0 p.wide) v ∙ take_edit (λ k v. f (p.at + k) v) p.wide ls ∙ ap (edit (λ k v. f (p.at + k) v)) q)
          ∙ edit_part f xs p.at p.wide (omega (arith, w.in_row_lem, e.w0, l))

pub still_wide : {W : ℕ} {t : Table} {s : Sight} {y : ℕ} {p : Part} {a b : Channels} {count : ℕ} → Wide W a → Came t s y p a count b → Wide W b
still_wide e k = record { w0 = ap length k.b0 ∙ length_edit _ _ ∙ e.w0; w1 = ap length k.b1 ∙ length_edit _ _ ∙ e.w1; w2 = ap length k.b2 ∙ length_edit _ _ ∙ e.w2 }

-- ---- all the parts

-- one channel, through one part and the others
chan_more : (f : ℕ → Float → Float) (p : Part) (ps : List Part) (xs ys ws : List Float) → ys ≡ edit (λ k v. cond (has_in p k) (f k v) v) xs → ws ≡ edit (through has_in f ps) ys → ws ≡ edit (through has_in f (p ∷ ps)) xs
unfolding through
chan_more f p ps xs ys ws q e = e ∙ ap (edit (through has_in f ps)) q ∙ edit_edit (λ k v. cond (has_in p k) (f k v) v) (through has_in f ps) xs

chan_none : (f : ℕ → Float → Float) (xs : List Float) → xs ≡ edit (through has_in f []) xs
unfolding through
chan_none f xs = is_edit (λ k v. v) xs xs refl (λ i k. refl)

-- what the parts of ps do to the three channels, and the sum of the updates
record Onward (t : Table) (s : Sight) (y : ℕ) (ps : List Part) (a : Channels) (sum : ℕ) (w : Channels) : Type 0 where
  o0 : w.r0 ≡ edit (through has_in (λ k v. pixel 0 t.segments y k (shown_of t s y) v) ps) a.r0
  o1 : w.r1 ≡ edit (through has_in (λ k v. pixel 1 t.segments y k (shown_of t s y) v) ps) a.r1
  o2 : w.r2 ≡ edit (through has_in (λ k v. pixel 2 t.segments y k (shown_of t s y) v) ps) a.r2
  os : sum ≡ sum_by (λ p. updates t.segments p.at p.wide (shown_of t s y)) ps

module _ (t : Table) (s : Sight) (y W : ℕ) (d : desk_good s ≡ true) (g : counts_good_for t s ≡ true) (b : bytes_good s ≡ true) (hy : y < t.height) (r : row_good_for t s y ≡ true) (hW : W ≤ 2 ^ 23) where
  onward : {ps : List Part} {a w : Channels} {sum : ℕ} → Wide W a → Drawn t s y ps a sum w → Onward t s y ps a sum w
  unfolding sum_by
  onward e none = record { o0 = chan_none _ _; o1 = chan_none _ _; o2 = chan_none _ _; os = refl }
  onward e (more {p = p} {ps = ps} {a = a} {b = z} {w = w} {count = count} {rest = rest} w1 n) =
      let k = came t s y W d g b hy r hW e w1 in
      let o = onward (still_wide e k) n in
      record {
        o0 = chan_more _ p ps a.r0 z.r0 w.r0 k.b0 o.o0;
        o1 = chan_more _ p ps a.r1 z.r1 w.r1 k.b1 o.o1;
        o2 = chan_more _ p ps a.r2 z.r2 w.r2 k.b2 o.o2;
        os = omega (arith, k.work, o.os);
      }

  -- all parts of a row, in any order
  pub row_in_parts : (ws : List ℕ) (ps : List Part) (a w : Channels) (sum : ℕ) → total ws ≡ W → Permᴰ (cuts 0 ws) ps → Wide W a → Drawn t s y ps a sum w → Whole t s y W a sum w
  row_in_parts ws ps a w sum e perm wide drawn =
      record {
        channel0 = o.o0 ∙ once _ a.r0 wide.w0;
        channel1 = o.o1 ∙ once _ a.r1 wide.w1;
        channel2 = o.o2 ∙ once _ a.r2 wide.w2;
        pairs = o.os ∙ sym (sum_perm (λ p. updates t.segments p.at p.wide (shown_of t s y)) perm) ∙ updates_cuts t.segments (shown_of t s y) 0 ws ∙ rw e;
      }
    where
      o : Onward t s y ps a sum w
      o = onward wide drawn

      one : (k : ℕ) → k < W → sum_by (held k) ps ≡ 1
      one k h = sym (sum_perm (held k) perm) ∙ held_cuts 0 ws k ∙ rw (le-leb 0 k (omega arith), lt-ltb k (0 + total ws) (omega arith))

      once : (f : ℕ → Float → Float) (xs : List Float) → length xs ≡ W → edit (through has_in f ps) xs ≡ edit f xs
      once f xs l = edit_cong (through has_in f ps) f xs (λ k v h. through_one has_in f ps k v (one k (omega arith)))

-- ---- any two outcomes are equal

pub one_outcome : (t : Table) (s : Sight) (y x0 n : ℕ) (a : Channels) {r r' : DrawAnswer} {z z' : Channels} → leaves r z ≡ draw_of t s y x0 n a → leaves r' z' ≡ draw_of t s y x0 n a → leaves r z ≡ leaves r' z'
one_outcome t s y x0 n a p q = p ∙ sym q

-- Assumes nothing.
